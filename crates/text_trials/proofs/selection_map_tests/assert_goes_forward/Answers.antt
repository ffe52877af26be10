use Rattle.std.proofs.Common.{[], ◌∷◌, codes, refl}
use Rattle.text_model.specs.Changes.{Insertion}
use Rattle.text_trials.specs.Trials.{IsTrialOfList}
use Rattle.text_trials.proofs.TrialLemmas.{trial-one}
use Rattle.text_trials.proofs.selection_map_tests.assert_goes_forward.Goals as goal

pub go_in_four_turns-requires-clause-can : goal.go_in_four_turns-requires-clause-can
go_in_four_turns-requires-clause-can g c = rw (c.as_slice.ensures, c.one-list.ensures) (trial-one _ _ (record {
  text = codes "abcdef\n";
  changes = Insertion 1 (codes "X") ∷ Insertion 4 (codes "X") ∷ [];
  kept = refl;
  lie_in = refl;
  shifts_are = refl;
  inside = refl;
}))

pub go_in_four_turns-requires-clause-rise : goal.go_in_four_turns-requires-clause-rise
go_in_four_turns-requires-clause-rise g c = rw c.as_slice.ensures (refl, tt)
