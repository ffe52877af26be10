use Rattle.text_model.proofs.PlaceLemmas.{offset-below}
use Rattle.motion_keys.proofs.StepLemmas.{next-offsets}
use Rattle.motion_keys.proofs.searching.beside_place.Goals as goal

pub returns-in-Forward : goal.returns-in-Forward
returns-in-Forward c = record { gives = rw c.in-Forward.is (next-offsets c.args.lines.now _ c.next.result (offset-below _ _ c.requires) c.next.ensures.none c.next.ensures.next) }
