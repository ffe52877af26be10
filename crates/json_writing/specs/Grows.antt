-- What a buffer keeps while bytes are added to it.
use Rattle.std.specs.Prelude.{◌≡◌, ℕ, List, ◌++◌}

-- bytes were added at the end, if any
pub record Grows (old new : List ℕ) : Type 0 where
  pub added : List ℕ
  pub is : new ≡ old ++ added
