use Rattle.std.proofs.Common.{◌^◌, sym, ap, ◌∙◌, length}
use Rattle.std.proofs.lemmas.List.{take_all}
use Rattle.draw_model.specs.Drawings.{prompt_column}
use Rattle.draw_model.proofs.PromptLemmas.{name-cells, prompt-more, prompt-least}
use Rattle.draw_model.proofs.drawing.prompt_cursor.Goals as goal

pub loop-c-init : goal.loop-c-init
loop-c-init c = ap length c.prompt_name.ensures ∙ sym (name-cells c.args.tabstop.columns c.args.purpose)

pub loop-c-preserved : goal.loop-c-preserved
loop-c-preserved c = prompt-more c.args.tabstop.columns c.args.purpose c.args.before.now c.loop-c.c-index c.loop-c.column c.c-item.result c.cells-column.result c.loop-c-test.true c.c-item.is c.loop-c.invariant c.cells-column.ensures.value

pub returns-then-column-ge-MAX_PROMPT_CELLS-clause-wide : goal.returns-then-column-ge-MAX_PROMPT_CELLS-clause-wide
returns-then-column-ge-MAX_PROMPT_CELLS-clause-wide c =
    prompt-least c.args.tabstop.columns c.args.purpose c.args.before.now c.loop-c.c-index c.loop-c.column (2 ^ 31) c.loop-c.invariant c.if-column-ge-MAX_PROMPT_CELLS.true

pub returns-clause-value : goal.returns-clause-value
returns-clause-value c = c.loop-c.invariant ∙ ap (prompt_column c.args.tabstop.columns c.args.purpose) (take_all c.loop-c.c-index c.args.before.now c.loop-c-test.false)
