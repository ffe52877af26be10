use Rattle.std.proofs.Common.{[], ◌∷◌, codes, refl}
use Rattle.text_model.specs.Changes.{Erasure}
use Rattle.text_trials.proofs.move_marks_tests.typing_taken_back.Goals as goal

pub assert_left-requires-clause-trial : goal.assert_left-requires-clause-trial
assert_left-requires-clause-trial g c = rw (c.as_slice.ensures, c.as_slice-2.ensures) (record {
  text = codes "xab\nxcd\nxef\n";
  changes = Erasure 8 9 ∷ Erasure 4 5 ∷ Erasure 0 1 ∷ [];
  kept = refl;
  lie_in = refl;
  all_some = refl;
  shifts_are = refl;
  marks_are = refl;
})
