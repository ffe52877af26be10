use Rattle.std.proofs.Common.{◌-◌, refl, sym, ◌∙◌, arith}
use Rattle.text_objects.proofs.SentenceLemmas.{some-not, none-so, before-on_line, before-line_above, before-not_begin, begins-below_empty}
use Rattle.text_objects.proofs.sentence_marks.before_in_paragraph.Goals as goal

pub returns-then-at-gt0-clause-none : goal.returns-then-at-gt0-clause-none
returns-then-at-gt0-clause-none c = some-not _ (before-not_begin c.args.lines.now c.args.at (record { line = c.args.at.line; column = c.args.at.column - 1 }) c.requires.place (before-on_line c.args.lines.now c.args.at (record { line = c.args.at.line; column = c.args.at.column - 1 }) c.requires.place c.requires.full refl (omega arith)))

pub returns-then-at-gt0-clause-before : goal.returns-then-at-gt0-clause-before
returns-then-at-gt0-clause-before c = before-on_line c.args.lines.now c.args.at (record { line = c.args.at.line; column = c.args.at.column - 1 }) c.requires.place c.requires.full refl (omega arith)

pub returns-then-not-is_full-clause-none : goal.returns-then-not-is_full-clause-none
returns-then-not-is_full-clause-none c = none-so _ (begins-below_empty c.args.lines.now c.args.at (c.args.at.line - 1) c.requires.place (omega arith) (omega arith) (sym c.is_full.ensures ∙ c.if-not-is_full.true))

pub returns-clause-none : goal.returns-clause-none
returns-clause-none c = some-not _ (before-not_begin c.args.lines.now c.args.at c.line_end.result c.requires.place (before-line_above c.args.lines.now c.args.at c.line_end.result (c.args.at.line - 1) c.requires.place (omega arith) (omega arith) c.line_end.ensures.line c.line_end.ensures.place c.line_end.ensures.last (sym c.is_full.ensures ∙ c.if-not-is_full.false)))

pub returns-clause-before : goal.returns-clause-before
returns-clause-before c = before-line_above c.args.lines.now c.args.at c.line_end.result (c.args.at.line - 1) c.requires.place (omega arith) (omega arith) c.line_end.ensures.line c.line_end.ensures.place c.line_end.ensures.last (sym c.is_full.ensures ∙ c.if-not-is_full.false)
