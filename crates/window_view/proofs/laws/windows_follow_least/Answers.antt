use Rattle.window_view.proofs.FollowLemmas.{windows_follow_least}
use Rattle.window_view.proofs.laws.windows_follow_least.Goals as goal

pub returns : goal.returns
returns c = windows_follow_least
