use Rattle.std.proofs.Common.{[], ◌∷◌, codes, refl}
use Rattle.text_model.specs.Changes.{Insertion, Erasure}
use Rattle.text_trials.proofs.move_marks_tests.each_word_exchanged.Goals as goal

pub assert_left-requires-clause-trial : goal.assert_left-requires-clause-trial
assert_left-requires-clause-trial g c = rw (c.as_slice.ensures, c.as_slice-2.ensures) (record {
  text = codes "one two six\n";
  changes = Erasure 0 3 ∷ Insertion 0 (codes "a") ∷ Erasure 2 5 ∷ Insertion 2 (codes "bc") ∷ Erasure 5 8 ∷ Insertion 5 (codes "d") ∷ [];
  kept = refl;
  lie_in = refl;
  all_some = refl;
  shifts_are = refl;
  marks_are = refl;
})
