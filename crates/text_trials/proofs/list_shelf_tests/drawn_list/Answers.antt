use Rattle.std.proofs.Common.{sym, subst}
use Rattle.std.specs.List.{AllByRecursion}
use Rattle.selection_set.specs.Listing.{IsPairInside}
use Rattle.selection_set.proofs.HeldLemmas.{settled-held}
use Rattle.text_trials.proofs.list_shelf_tests.drawn_list.Goals as goal

pub returns-clause-held : goal.returns-clause-held
returns-clause-held c =
    let inside : AllByRecursion (IsPairInside c.args.lines.now) c.as_slice.result.now =
    subst (AllByRecursion (IsPairInside c.args.lines.now)) (sym c.as_slice.ensures) (
      record { anchor = c.drawn_place-first.ensures.place; cursor = c.drawn_place-second.ensures.place },
      (
        record { anchor = c.drawn_place-second.ensures.place; cursor = c.drawn_place-second.ensures.place },
        (record { anchor = c.drawn_place-third.ensures.place; cursor = c.drawn_place-third.ensures.place }, tt),
      ),
    ) in
    settled-held _ _ _ _ (c.in_ok-list.ensures.settles c.args.lines.now inside)
