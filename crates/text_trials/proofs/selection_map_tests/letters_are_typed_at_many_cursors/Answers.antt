use Rattle.std.proofs.Common.{[], ◌∷◌, codes, refl}
use Rattle.text_model.specs.Changes.{Insertion}
use Rattle.text_trials.proofs.selection_map_tests.letters_are_typed_at_many_cursors.Goals as goal

pub assert_caught_up-requires-clause-trial : goal.assert_caught_up-requires-clause-trial
assert_caught_up-requires-clause-trial g c = rw (c.as_slice.ensures, c.as_slice-2.ensures) (record {
  text = codes "abcdef\nghij\n";
  changes = Insertion 1 (codes "X") ∷ Insertion 4 (codes "X") ∷ Insertion 8 (codes "X") ∷ Insertion 12 (codes "X") ∷ [];
  kept = refl;
  lie_in = refl;
  shifts_are = refl;
  inside = refl;
})
