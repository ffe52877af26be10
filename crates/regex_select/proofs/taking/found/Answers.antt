use Rattle.std.proofs.Common.{◌∷◌, [], sym, ap, ◌∙◌}
use Rattle.selection_set.specs.declared.sel.Sel.{Sel}
use Rattle.selection_set.specs.Inside.{range_of}
use Rattle.regex_select.proofs.MatchedLemmas.{walk-inside, walk-over, empty-range, nothing-range}
use Rattle.regex_select.proofs.taking.found.Goals as goal

pub returns-then-is_at_most-clause-range : goal.returns-then-is_at_most-clause-range
returns-then-is_at_most-clause-range c =
    ap (λ (s : Sel). range_of c.args.lines.now s ∷ []) c.only.ensures
    ∙ empty-range c.args.lines.now c.args.sel c.args.first c.args.end c.requires.first c.if-first-end.false (walk-inside c.args.lines.now c.args.sel c.args.first c.requires.inside c.requires.first (sym c.is_at_most.ensures ∙ c.if-is_at_most.true))

pub returns-clause-range : goal.returns-clause-range
returns-clause-range c = nothing-range c.args.lines.now c.args.sel c.args.first c.args.end c.if-first-end.false (walk-over c.args.lines.now c.args.sel c.args.first c.requires.inside c.requires.first (sym c.is_at_most.ensures ∙ c.if-is_at_most.false))
