use Rattle.selection_set.proofs.HeldLemmas.{zero_sel}
use Rattle.selection_map.proofs.StayLemmas.{search-to}
use Rattle.selection_map.proofs.walking.count_before.Goals as goal

pub returns-clause-stay : goal.returns-clause-stay
returns-clause-stay c = search-to c.args.way c.args.shifts.now c.args.sels.now.list c.nth-first.result zero_sel c.first_from.result c.requires.can c.requires.some c.nth-first.ensures c.first_from.ensures.within c.first_from.ensures.before
