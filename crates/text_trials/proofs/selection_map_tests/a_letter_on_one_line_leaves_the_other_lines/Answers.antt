use Rattle.std.proofs.Common.{[], ◌∷◌, codes, refl}
use Rattle.text_model.specs.Changes.{Insertion}
use Rattle.text_trials.proofs.selection_map_tests.a_letter_on_one_line_leaves_the_other_lines.Goals as goal

pub assert_caught_up-requires-clause-trial : goal.assert_caught_up-requires-clause-trial
assert_caught_up-requires-clause-trial g c = rw (c.as_slice.ensures, c.as_slice-2.ensures) (record {
  text = codes "ab\ncdefg\nhij\nkl\n";
  changes = Insertion 5 (codes "X") ∷ Insertion 6 (codes "X") ∷ [];
  kept = refl;
  lie_in = refl;
  shifts_are = refl;
  inside = refl;
})
