-- A state is multiplied and added to, and cut to 64 bits once or twice: it is the same.
use Rattle.std.proofs.Common.{◌≡◌, ℕ, ◌+◌, ◌*◌, ◌%◌, ◌^◌}
use native.Mathlib.Nat.{mod-add-mod}
use Rattle.session_draws.specs.Draws.{state_after}

pub cut-once : (state : ℕ) → (state * 6364136223846793005 % 2 ^ 64 + 1442695040888963407) % 2 ^ 64 ≡ state_after state
cut-once state = mod-add-mod (state * 6364136223846793005) (2 ^ 64) 1442695040888963407
