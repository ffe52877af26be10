use Rattle.selection_set.proofs.HeldLemmas.{zero_sel}
use Rattle.selection_map.proofs.StayLemmas.{all-between, gap-between}
use Rattle.selection_map.proofs.walking.next_to_move.Goals as goal

pub returns-then-walk-shifts-clause-stay : goal.returns-then-walk-shifts-clause-stay
returns-then-walk-shifts-clause-stay c = all-between c.args.way c.args.shifts.now c.args.walk c.args.sels.now.list c.args.from c.len.result c.at-sel.result c.requires.over c.requires.within c.at-sel.ensures c.len.ensures.value c.if-walk-shifts.true c.if-walk.false c.if-sel-walk.false

pub returns-clause-stay : goal.returns-clause-stay
returns-clause-stay c =
    gap-between c.args.way c.args.shifts.now c.args.walk c.args.sels.now.list c.args.from c.first_from.result c.nth-next.result c.at-sel.result zero_sel c.requires.over c.requires.within c.at-sel.ensures c.if-walk-shifts.false c.nth-next.ensures c.if-walk.false c.if-sel-walk.false
    c.first_from.ensures.behind c.first_from.ensures.within c.first_from.ensures.before
