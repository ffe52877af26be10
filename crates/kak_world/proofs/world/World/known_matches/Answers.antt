use Rattle.std.proofs.Common.{ap, subst}
use Rattle.kak_world.specs.Flat.{Buffer, text_of}
use Rattle.regex_select.specs.Known.{AreMatchesIn}
use Rattle.kak_world.proofs.world.World.known_matches.Goals as goal

pub returns : goal.returns
unfolding text_of
returns g c = subst (λ t. AreMatchesIn t c.known_matches.result.now) (ap (λ (b : Buffer). b.story.text) c.shown.ensures.seen) c.known_matches.ensures
