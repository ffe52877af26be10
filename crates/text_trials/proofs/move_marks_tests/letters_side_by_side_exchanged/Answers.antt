use Rattle.std.proofs.Common.{[], ◌∷◌, codes, refl}
use Rattle.text_model.specs.Changes.{Insertion, Erasure}
use Rattle.text_trials.proofs.move_marks_tests.letters_side_by_side_exchanged.Goals as goal

pub assert_left-requires-clause-trial : goal.assert_left-requires-clause-trial
assert_left-requires-clause-trial g c = rw (c.as_slice.ensures, c.as_slice-2.ensures) (record {
  text = codes "abcd\n";
  changes = Erasure 0 1 ∷ Insertion 0 (codes "x") ∷ Erasure 1 2 ∷ Insertion 1 (codes "y") ∷ Erasure 2 3 ∷ Insertion 2 (codes "z") ∷ [];
  kept = refl;
  lie_in = refl;
  all_some = refl;
  shifts_are = refl;
  marks_are = refl;
})
