use Rattle.std.proofs.Common.{sym, subst}
use Rattle.selection_set.specs.Held.{IsHeld}
use Rattle.list_shelf.specs.declared.holder.Holder.TheVariants.{Of}
use Rattle.list_shelf.specs.Shelves.{Stands}
use Rattle.text_trials.proofs.ShelfTrialLemmas.{all-set, replaced-stands}
use Rattle.text_trials.proofs.list_shelf_tests.Twice.replace.Goals as goal

pub returns : goal.returns
returns g c = record {
  stands = subst (Stands c.args.self.now.lines) (sym c.set_sels.ensures) (replaced-stands c.args.self.now.lines (Of c.args.who) c.in_ok-copy.copy c.args.self.now.shelf c.drawn_list.ensures.valid (subst (IsHeld c.args.self.now.lines) (sym c.in_ok-copy.ensures.ok) c.in_ok-list.ensures.held) c.requires.stands);
  held = all-set (IsHeld c.args.self.now.lines) c.args.who c.args.self.now.eager.items c.in_ok-list.list c.requires.held c.in_ok-list.ensures.held;
}
