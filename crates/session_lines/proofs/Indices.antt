-- Places of lists.
use Rattle.std.proofs.Common.{◌≡◌, ℕ, suc, ◌+◌, ◌<◌, arith}

pub none-below : (i : ℕ) → i < 0 → ⊥
none-below i lt = omega (arith, lt)

pub next : (i : ℕ) → suc i ≡ i + 1
next i = omega arith
