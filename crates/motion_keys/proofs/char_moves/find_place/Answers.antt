use Rattle.text_model.proofs.PlaceLemmas.{offset-below}
use Rattle.motion_keys.proofs.SearchLemmas.{before-found, behind-found}
use Rattle.motion_keys.proofs.char_moves.find_place.Goals as goal

pub returns-in-Before : goal.returns-in-Before
returns-in-Before c = record { gives = rw (c.in-Forward.is, c.in-Before.is) (before-found _ c.args.c _ c.in_ok-next-in-Forward.next c.prev.result c.in_ok-next-in-Forward.ensures.gives.1 c.prev.ensures.none c.prev.ensures.prev) }

pub returns-in-Before-until : goal.returns-in-Before-until
returns-in-Before-until c = record { gives = rw (c.in-Backward.is, c.in-Before-until.is) (behind-found _ c.args.c _ c.in_ok-last-in-Backward.last c.next.result (offset-below _ _ c.requires) c.in_ok-last-in-Backward.ensures.gives.1 c.next.ensures.none c.next.ensures.next) }
