use Rattle.window_view.proofs.SizeLemmas.{windows_have_two_parts}
use Rattle.window_view.proofs.laws.windows_have_two_parts.Goals as goal

pub returns : goal.returns
returns c = windows_have_two_parts
