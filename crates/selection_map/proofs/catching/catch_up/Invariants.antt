use Rattle.selection_map.proofs.catching.catch_up.Given as goal

abbrev pub ghosts-catch_all : goal.ghosts-catch_all
ghosts-catch_all a = record { name = a.blank.name; parts = a.blank.parts }
