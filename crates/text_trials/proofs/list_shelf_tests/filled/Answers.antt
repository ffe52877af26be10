use Rattle.std.proofs.Common.{sym, subst}
use Rattle.std.specs.List.{AllByRecursion}
use Rattle.selection_set.specs.Held.{IsHeld}
use Rattle.list_shelf.specs.declared.holder.Holder.TheVariants.{Of}
use Rattle.list_shelf.specs.Shelves.{Stands}
use Rattle.text_trials.proofs.ShelfTrialLemmas.{all-push, listed-stands}
use Rattle.text_trials.proofs.list_shelf_tests.filled.Goals as goal

pub loop-who-init : goal.loop-who-init
loop-who-init c = record { stands = subst (Stands c.args.lines.now) (sym c.with_limit-shelf.ensures) tt; held = subst (AllByRecursion (IsHeld c.args.lines.now)) (sym c.new-eager.ensures.items) tt }

pub loop-who-preserved : goal.loop-who-preserved
loop-who-preserved c = record {
  stands = subst (Stands c.args.lines.now) (sym c.in_ok-add_list.ensures.ok) (listed-stands c.args.lines.now (Of c.loop-who.who) c.in_ok-copy.copy c.first-corner.result c.loop-who.shelf c.drawn_list.ensures.valid (subst (IsHeld c.args.lines.now) (sym c.in_ok-copy.ensures.ok) c.in_ok-list.ensures.held) c.loop-who.invariant.stands);
  held = subst (AllByRecursion (IsHeld c.args.lines.now)) (sym c.in_ok-push.ensures.items) (all-push (IsHeld c.args.lines.now) c.loop-who.eager.items c.in_ok-list.list c.loop-who.invariant.held c.in_ok-list.ensures.held);
}
