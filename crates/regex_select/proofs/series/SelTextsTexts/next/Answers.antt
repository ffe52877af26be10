use Rattle.std.proofs.Common.{◌+◌, ◌∷◌, sym, ap, ◌∙◌, arith}
use Rattle.selection_set.proofs.HeldLemmas.{zero_sel, nth-inside}
use Rattle.regex_select.specs.Rows.{bytes_left}
use Rattle.regex_select.proofs.TextLemmas.{left-first, left-none}
use Rattle.regex_select.proofs.series.SelTextsTexts.next.Goals as goal

pub write-requires : goal.write-requires
write-requires c =
    nth-inside c.args.self.now.lines.now c.args.self.now.sels.now.list c.args.self.now.next c.at.result c.args.self.now.inside (omega (arith, c.if-self-len.false, c.len.ensures.value)) c.at.ensures

pub returns-then-self-len : goal.returns-then-self-len
returns-then-self-len c =
    left-none c.args.self.now.lines.now c.args.self.now.sels.now.list c.args.self.now.next (omega (arith, c.if-self-len.true, c.len.ensures.value))

pub returns : goal.returns
returns c =
    let text = c.args.self.now.lines.now in
    let list = c.args.self.now.sels.now.list in
    let n = c.args.self.now.next in
    left-first text list n zero_sel c.at.result (omega (arith, c.if-self-len.false, c.len.ensures.value)) (c.at.ensures zero_sel)
    ∙ ap (λ b. b ∷ bytes_left text list (n + 1)) (sym c.in_ok-write.ensures)
