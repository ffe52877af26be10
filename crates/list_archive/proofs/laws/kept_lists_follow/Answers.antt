use Rattle.list_archive.proofs.FollowLemmas.{all-noted-keeps, moved-follows, fills}
use Rattle.list_archive.proofs.laws.kept_lists_follow.Goals as goal

pub returns : goal.returns
returns c = record { noted = all-noted-keeps; not_noted = moved-follows; below_the_limit = fills }
