use Rattle.std.proofs.Common.{[], ◌∷◌, codes, refl}
use Rattle.text_model.specs.Changes.{Insertion, Erasure}
use Rattle.text_trials.proofs.move_marks_tests.exchange_taken_back.Goals as goal

pub assert_left-requires-clause-trial : goal.assert_left-requires-clause-trial
assert_left-requires-clause-trial g c = rw (c.as_slice.ensures, c.as_slice-2.ensures) (record {
  text = codes "a bc d\n";
  changes = Erasure 5 6 ∷ Insertion 5 (codes "six") ∷ Erasure 2 4 ∷ Insertion 2 (codes "two") ∷ Erasure 0 1 ∷ Insertion 0 (codes "one") ∷ [];
  kept = refl;
  lie_in = refl;
  all_some = refl;
  shifts_are = refl;
  marks_are = refl;
})
