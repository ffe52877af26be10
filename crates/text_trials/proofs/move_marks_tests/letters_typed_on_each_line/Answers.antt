use Rattle.std.proofs.Common.{[], ◌∷◌, codes, refl}
use Rattle.text_model.specs.Changes.{Insertion}
use Rattle.text_trials.proofs.move_marks_tests.letters_typed_on_each_line.Goals as goal

pub assert_left-requires-clause-trial : goal.assert_left-requires-clause-trial
assert_left-requires-clause-trial g c = rw (c.as_slice.ensures, c.as_slice-2.ensures) (record {
  text = codes "ab\ncd\nef\n";
  changes = Insertion 0 (codes "x") ∷ Insertion 4 (codes "x") ∷ Insertion 8 (codes "x") ∷ [];
  kept = refl;
  lie_in = refl;
  all_some = refl;
  shifts_are = refl;
  marks_are = refl;
})
