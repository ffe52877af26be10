use Rattle.text_trials.proofs.selection_map_tests.one_selection_and_two_insertions_take_four_turns.Given as goal

abbrev pub ghosts-assert_goes_forward : goal.ghosts-assert_goes_forward
ghosts-assert_goes_forward g a = record { name = a.blank.name; parts = a.blank.parts }
