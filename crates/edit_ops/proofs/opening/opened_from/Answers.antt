use Rattle.std.proofs.Common.{ℕ, List, ap, ◌∙◌, sym}
use Rattle.text_model.specs.Texts.{offset}
use Rattle.selection_set.specs.Inside.{range_of}
use Rattle.edit_ops.specs.Opening.{opened_from}
use Rattle.edit_ops.proofs.PuttingLemmas.{line_begin-at, line_behind-at}
use Rattle.edit_ops.proofs.opening.opened_from.Goals as goal

pub returns-in-Forward-clause-value : goal.returns-in-Forward-clause-value
returns-in-Forward-clause-value c =
    let text : List ℕ = c.args.lines.now in
    ap (offset text) c.next_line.ensures.value ∙ sym (line_behind-at text c.args.sel.high c.requires.high) ∙ ap (λ direction. opened_from text direction (range_of text c.args.sel)) (sym c.in-Forward.is)

pub returns-in-Backward-clause-value : goal.returns-in-Backward-clause-value
returns-in-Backward-clause-value c =
    let text : List ℕ = c.args.lines.now in
    ap (offset text) c.line_start.ensures.value ∙ sym (line_begin-at text c.args.sel.low c.requires.low) ∙ ap (λ direction. opened_from text direction (range_of text c.args.sel)) (sym c.in-Backward.is)
