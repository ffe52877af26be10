use Rattle.std.proofs.Common.{[], ◌∷◌, codes, refl}
use Rattle.text_model.specs.Changes.{Erasure}
use Rattle.text_trials.proofs.selection_map_tests.typing_is_taken_back_from_the_last_to_the_first.Goals as goal

pub assert_caught_up-requires-clause-trial : goal.assert_caught_up-requires-clause-trial
assert_caught_up-requires-clause-trial g c = rw (c.as_slice.ensures, c.as_slice-2.ensures) (record {
  text = codes "aXbcXdefX\nghXij\n";
  changes = Erasure 12 13 ∷ Erasure 8 9 ∷ Erasure 4 5 ∷ Erasure 1 2 ∷ [];
  kept = refl;
  lie_in = refl;
  shifts_are = refl;
  inside = refl;
})
