use Rattle.std.proofs.Common.{[], ◌∷◌, codes, refl}
use Rattle.text_model.specs.Changes.{Insertion, Erasure}
use Rattle.text_trials.proofs.selection_map_tests.shifts_that_go_to_and_fro_are_cut_into_runs.Goals as goal

pub assert_caught_up-requires-clause-trial : goal.assert_caught_up-requires-clause-trial
assert_caught_up-requires-clause-trial g c = rw (c.as_slice.ensures, c.as_slice-2.ensures) (record {
  text = codes "abcd\nefgh\n";
  changes = Insertion 1 (codes "X") ∷ Insertion 4 (codes "X") ∷ Erasure 4 5 ∷ Erasure 1 2 ∷ Insertion 8 (codes "X") ∷ Erasure 4 5 ∷ [];
  kept = refl;
  lie_in = refl;
  shifts_are = refl;
  inside = refl;
})
