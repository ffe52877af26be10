use Rattle.std.proofs.Common.{◌≡◌, ◌+◌, ◌-◌, ◌∷◌, ◌++◌, length, slice_range, string_bytes, encode_utf8_all, sym, ap, ap₂, ◌∙◌, arith}
use Rattle.compact_chars.specs.Rows.{chars_of}
use Rattle.text_model.specs.Texts.{nth_line}
use Rattle.highlight_paint.specs.Overs.{line_bytes}
use Rattle.highlight_paint.specs.Texts.{bytes_between}
use Rattle.highlight_paint.proofs.PaintLemmas.{bytes-more, bytes-none}
use Rattle.highlight_paint.proofs.line_texts.LineTextsTexts.next.Goals as goal

pub returns-then-self : goal.returns-then-self
returns-then-self c = bytes-none c.args.self.now.lines.now c.args.self.now.next c.args.self.now.below (omega (arith, c.if-self.true))

pub returns : goal.returns
returns c =
    let text = c.args.self.now.lines.now in
    let n = c.args.self.now.next in
    let line = chars_of c.line-line.result in
    let own : chars_of c.between.result ≡ slice_range (nth_line c.args.self.now.lines.now c.args.self.now.next) 0 (length (nth_line c.args.self.now.lines.now c.args.self.now.next) - 1) =
    c.between.ensures ∙ ap (λ k. slice_range line 0 (k - 1)) c.len.ensures ∙ ap (λ cs. slice_range cs 0 (length cs - 1)) c.line-line.ensures.value in
    let written : string_bytes c.push_utf8.new.text ≡ line_bytes (nth_line c.args.self.now.lines.now c.args.self.now.next) =
    c.in_ok-push_utf8.ensures ∙ ap₂ (λ a cs. a ++ encode_utf8_all cs) c.clear.ensures.bytes own in
    bytes-more text n c.args.self.now.below (omega (arith, c.if-self.false))
    ∙ ap (λ b. b ∷ bytes_between text (n + 1) c.args.self.now.below) (sym written)
