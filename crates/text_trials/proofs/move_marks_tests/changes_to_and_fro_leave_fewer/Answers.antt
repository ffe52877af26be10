use Rattle.std.proofs.Common.{[], ◌∷◌, codes, refl}
use Rattle.text_model.specs.Changes.{Insertion, Erasure}
use Rattle.text_trials.proofs.move_marks_tests.changes_to_and_fro_leave_fewer.Goals as goal

pub assert_left-requires-clause-trial : goal.assert_left-requires-clause-trial
assert_left-requires-clause-trial g c = rw (c.as_slice.ensures, c.as_slice-2.ensures) (record {
  text = codes "abc\ndef\n";
  changes = Insertion 1 (codes "xyz") ∷ Erasure 5 8 ∷ Insertion 2 (codes "u") ∷ Erasure 0 4 ∷ Insertion 4 (codes "\n") ∷ [];
  kept = refl;
  lie_in = refl;
  all_some = refl;
  shifts_are = refl;
  marks_are = refl;
})
