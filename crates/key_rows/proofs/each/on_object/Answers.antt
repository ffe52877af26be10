use Rattle.std.proofs.Common.{◌≡◌, ap, sym, subst, ◌∙◌}
use Rattle.selection_set.specs.Inside.{range_of, IsInside}
use Rattle.key_rows.proofs.ObjectLemmas.{object-inside, object-range}
use Rattle.key_rows.proofs.each.on_object.Goals as goal

pub returns-in-Some-clause-inside : goal.returns-in-Some-clause-inside
returns-in-Some-clause-inside c = subst (IsInside c.args.lines.now) (sym c.of_pair.ensures) (object-inside c.args.lines.now c.in-Some.pair _ c.in-Some.ensures)

pub returns-in-Some-clause-selects : goal.returns-in-Some-clause-selects
returns-in-Some-clause-selects c = ap (range_of c.args.lines.now) c.of_pair.ensures ∙ object-range c.args.lines.now c.in-Some.pair _ _ c.in-Some.ensures
