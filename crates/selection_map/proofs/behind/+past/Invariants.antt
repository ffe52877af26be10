use Rattle.selection_map.proofs.behind.+past.Given as goal

abbrev pub decreases-past : goal.decreases-past
decreases-past l = l.most
