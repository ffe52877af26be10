use Rattle.std.proofs.Common.{◌≡◌, ◌+◌, ◌<◌, length, refl, sym, ap, ◌∙◌, arith}
use Rattle.text_model.specs.Texts.{line_count, nth_line}
use Rattle.text_objects.proofs.SentenceLemmas.{some-not, none-so, behind-on_line, behind-line_below, behind-not_end, ends-last, ends-above_empty}
use Rattle.text_objects.proofs.sentence_marks.behind_in_paragraph.Goals as goal

pub returns-then-at-len-clause-none : goal.returns-then-at-len-clause-none
returns-then-at-len-clause-none c = some-not _ (behind-not_end c.args.lines.now c.args.at (record { line = c.args.at.line; column = c.args.at.column + 1 }) c.requires.place (behind-on_line c.args.lines.now c.args.at (record { line = c.args.at.line; column = c.args.at.column + 1 }) c.requires.place c.requires.full refl refl (omega (arith, c.if-at-len.true, ap length c.line.ensures.value, c.len.ensures))))

pub returns-then-at-len-clause-behind : goal.returns-then-at-len-clause-behind
returns-then-at-len-clause-behind c = behind-on_line c.args.lines.now c.args.at (record { line = c.args.at.line; column = c.args.at.column + 1 }) c.requires.place c.requires.full refl refl (omega (arith, c.if-at-len.true, ap length c.line.ensures.value, c.len.ensures))

pub returns-then-n-line_count-clause-none : goal.returns-then-n-line_count-clause-none
returns-then-n-line_count-clause-none c = none-so _ (ends-last c.args.lines.now c.args.at c.requires.place (omega (arith, c.if-at-len.false, ap length c.line.ensures.value, c.len.ensures, c.requires.place.in_line)) (c.if-n-line_count.true ∙ c.line_count.ensures.value))

pub returns-then-not-is_full-clause-none : goal.returns-then-not-is_full-clause-none
returns-then-not-is_full-clause-none c =
    let below : c.args.at.line + 1 < line_count c.args.lines.now = omega (arith, c.if-n-line_count.false, c.line_count.ensures.value, c.requires.place.on_line) in
    none-so _ (ends-above_empty c.args.lines.now c.args.at c.requires.place (omega (arith, c.if-at-len.false, ap length c.line.ensures.value, c.len.ensures, c.requires.place.in_line)) below (sym c.is_full.ensures ∙ c.if-not-is_full.true))

pub returns-clause-none : goal.returns-clause-none
returns-clause-none c =
    let below : c.args.at.line + 1 < line_count c.args.lines.now = omega (arith, c.if-n-line_count.false, c.line_count.ensures.value, c.requires.place.on_line) in
    let last : c.args.at.column + 1 ≡ length (nth_line c.args.lines.now c.args.at.line) = omega (arith, c.if-at-len.false, ap length c.line.ensures.value, c.len.ensures, c.requires.place.in_line) in
    some-not _ (behind-not_end c.args.lines.now c.args.at (record { line = c.args.at.line + 1; column = 0 }) c.requires.place (behind-line_below c.args.lines.now c.args.at (record { line = c.args.at.line + 1; column = 0 }) c.requires.place last refl refl below (sym c.is_full.ensures ∙ c.if-not-is_full.false)))

pub returns-clause-behind : goal.returns-clause-behind
returns-clause-behind c =
    let below : c.args.at.line + 1 < line_count c.args.lines.now = omega (arith, c.if-n-line_count.false, c.line_count.ensures.value, c.requires.place.on_line) in
    let last : c.args.at.column + 1 ≡ length (nth_line c.args.lines.now c.args.at.line) = omega (arith, c.if-at-len.false, ap length c.line.ensures.value, c.len.ensures, c.requires.place.in_line) in
    behind-line_below c.args.lines.now c.args.at (record { line = c.args.at.line + 1; column = 0 }) c.requires.place last refl refl below (sym c.is_full.ensures ∙ c.if-not-is_full.false)
