use Rattle.std.proofs.Common.{sym, ap, ◌∙◌}
use Rattle.list_keys.proofs.CutLemmas.{choice, cut-inside, cut-is}
use Rattle.list_keys.proofs.cuts.cut_to.Goals as goal

pub returns-then-not-is_at_most-clause-cuts : goal.returns-then-not-is_at_most-clause-cuts
returns-then-not-is_at_most-clause-cuts c = λ text l h.
    sym (ap (choice text c.args.sel c.args.low c.args.high) (sym c.is_at_most.ensures ∙ c.if-not-is_at_most.true)) ∙ cut-is text c.args.sel c.args.low c.args.high l h

pub returns-clause-inside : goal.returns-clause-inside
returns-clause-inside c = λ text l h. cut-inside text c.args.low c.args.high c.args.sel.turned l h (sym c.is_at_most.ensures ∙ c.if-not-is_at_most.false)

pub returns-clause-cuts : goal.returns-clause-cuts
returns-clause-cuts c = λ text l h.
    sym (ap (choice text c.args.sel c.args.low c.args.high) (sym c.is_at_most.ensures ∙ c.if-not-is_at_most.false)) ∙ cut-is text c.args.sel c.args.low c.args.high l h
