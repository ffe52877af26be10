use Rattle.motion_keys.proofs.ExtremeLemmas.{least-is, greatest-is, only-least, only-greatest}
use Rattle.motion_keys.proofs.jump_laws.extremes_are_found.Goals as goal

pub returns : goal.returns
returns c = record { least = least-is; greatest = greatest-is; only_least = only-least; only_greatest = only-greatest }
