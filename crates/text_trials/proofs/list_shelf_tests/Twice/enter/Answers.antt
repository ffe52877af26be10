use Rattle.std.proofs.Common.{◌≡◌, true, sym, subst, ◌∙◌}
use Rattle.list_shelf.specs.declared.holder.Holder.TheVariants.{Of}
use Rattle.list_shelf.specs.Shelves.{Stands, IsUp, has_row}
use Rattle.list_shelf.proofs.UpLemmas.{up-entered}
use Rattle.text_trials.proofs.ShelfTrialLemmas.{entered-together}
use Rattle.text_trials.proofs.list_shelf_tests.Twice.enter.Goals as goal

pub sels-list-requires-clause-up : goal.sels-list-requires-clause-up
sels-list-requires-clause-up g c =
    let some : has_row (Of c.args.who) c.enter.new.self ≡ true = sym c.has_list.ensures ∙ c.if-not-has_list.false in
    subst (IsUp (Of c.args.who)) (sym c.enter.ensures) (up-entered c.args.self.now.lines (Of c.args.who) c.args.self.now.shelf c.requires.stands).1 some

pub returns : goal.returns
returns g c = record { stands = subst (Stands c.args.self.now.lines) (sym c.enter.ensures) (entered-together c.args.self.now.lines (Of c.args.who) c.args.self.now.shelf c.requires.stands); held = c.requires.held }
