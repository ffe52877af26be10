use Rattle.std.proofs.Common.{[], ◌∷◌, codes, refl}
use Rattle.text_model.specs.Changes.{Erasure}
use Rattle.text_trials.proofs.selection_map_tests.what_is_taken_out_joins_selections.Goals as goal

pub assert_caught_up-requires-clause-trial : goal.assert_caught_up-requires-clause-trial
assert_caught_up-requires-clause-trial g c = rw (c.as_slice.ensures, c.as_slice-2.ensures) (record {
  text = codes "abcdefgh\nij\n";
  changes = Erasure 1 3 ∷ Erasure 2 5 ∷ Erasure 3 4 ∷ [];
  kept = refl;
  lie_in = refl;
  shifts_are = refl;
  inside = refl;
})
