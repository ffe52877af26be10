use Rattle.std.proofs.Common.{[], ◌∷◌, codes, refl}
use Rattle.text_model.specs.Changes.{Insertion, Erasure}
use Rattle.text_trials.proofs.move_marks_tests.lines_taken_back_leave_fewer.Goals as goal

pub assert_left-requires-clause-trial : goal.assert_left-requires-clause-trial
assert_left-requires-clause-trial g c = rw (c.as_slice.ensures, c.as_slice-2.ensures) (record {
  text = codes "ab\ncd\nef\n";
  changes = Erasure 6 9 ∷ Insertion 3 (codes "x\ny") ∷ Erasure 1 3 ∷ [];
  kept = refl;
  lie_in = refl;
  all_some = refl;
  shifts_are = refl;
  marks_are = refl;
})
