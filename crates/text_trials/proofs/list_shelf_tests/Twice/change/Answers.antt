use Rattle.std.proofs.Common.{List, sym, subst, ap, ◌∙◌}
use Rattle.text_model.specs.declared.coords.Shift.{Shift}
use Rattle.list_shelf.specs.declared.holder.Holder.TheVariants.{Of}
use Rattle.list_shelf.specs.Shelves.{Stands, CanFollow, entered, all_noted}
use Rattle.text_trials.proofs.ShelfTrialLemmas.{one-follows, one-stands}
use Rattle.text_trials.proofs.list_shelf_tests.Twice.change.Goals as goal

pub note_for-requires : goal.note_for-requires
note_for-requires c = subst (CanFollow c.args.self.now.shelf) (sym c.as_slice.ensures) (one-follows c.args.self.now.lines c.change.new.lines c.in_ok-shift.shift c.args.self.now.shelf c.in_ok-shift.ensures c.requires.stands)

pub returns : goal.returns
returns c = record {
  stands =
      subst (Stands c.change.new.lines) (sym (c.in_ok-note_for.ensures.ok ∙ ap (λ (l : List Shift). entered (Of c.args.who) (all_noted l c.args.self.now.shelf)) c.as_slice.ensures))
      (one-stands c.args.self.now.lines c.change.new.lines c.in_ok-shift.shift (Of c.args.who) c.args.self.now.shelf c.in_ok-shift.ensures c.requires.stands);
  held = c.move_each.ensures c.args.self.now.lines c.change.new.lines c.in_ok-shift.ensures c.requires.held;
}
