use Rattle.list_shelf.proofs.FollowLemmas.{all-noted-follows, all-moved-follows}
use Rattle.list_shelf.proofs.laws.lists_follow.Goals as goal

pub returns : goal.returns
returns c = record { noted = all-noted-follows; not_noted = all-moved-follows }
