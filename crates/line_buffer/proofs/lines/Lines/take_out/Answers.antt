use Rattle.std.proofs.Common.{◌≡◌, ◌≤◌, ℕ, OnOk, subst, length, take, drop, ◌++◌, ap, sym, ◌∙◌, arith}
use Rattle.text_model.specs.Texts.{offset, end_coord}
use Rattle.text_model.proofs.PlaceLemmas.{offset-end}
use Rattle.line_buffer.proofs.FlatLemmas.{line-le-count, ordered_lines}
use Rattle.line_buffer.proofs.InsertLemmas.{place_by_line, end_by_line}
use Rattle.line_buffer.proofs.lines.Lines.take_out.Goals as goal

pub cut_off-requires-clause-gone : goal.cut_off-requires-clause-gone
cut_off-requires-clause-gone c =
    let bottom : c.args.to ≡ end_coord c.args.self.now = end_by_line c.args.self.now c.args.to c.requires.to (omega (arith, c.if-to-line_count.true, c.line_count.ensures.value)) in
    let at : offset c.args.self.now c.args.to ≡ length c.args.self.now = ap (offset c.args.self.now) bottom ∙ offset-end c.args.self.now in
    c.requires.gone ∙ at

pub returns-then-to-line_count-clause-ok : goal.returns-then-to-line_count-clause-ok
returns-then-to-line_count-clause-ok c =
    let bottom : c.args.to ≡ end_coord c.args.self.now = end_by_line c.args.self.now c.args.to c.requires.to (omega (arith, c.if-to-line_count.true, c.line_count.ensures.value)) in
    let at : offset c.args.self.now c.args.to ≡ length c.args.self.now = ap (offset c.args.self.now) bottom ∙ offset-end c.args.self.now in
    let P : ℕ → Type 0 = λ q. OnOk c.cut_off.result (c.cut_off.new.self ≡ take (offset c.args.self.now c.args.from) c.args.self.now ++ drop q c.args.self.now) in
    subst P (sym at) c.cut_off.ensures.ok

pub join_lines-requires-clause-ordered : goal.join_lines-requires-clause-ordered
join_lines-requires-clause-ordered c =
    let order : c.args.from.line ≤ c.args.to.line = ordered_lines c.args.self.now c.args.from c.args.to c.requires.from c.requires.to (omega (arith, c.requires.gone)) in
    omega (arith, c.if-from-to.false)

pub join_lines-requires-clause-from : goal.join_lines-requires-clause-from
join_lines-requires-clause-from c =
    place_by_line c.args.self.now c.args.from c.requires.from (omega (arith, join_lines-requires-clause-ordered c, line-le-count c.args.self.now c.args.to c.requires.to))
