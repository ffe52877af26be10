-- What a step adds to a list.
use Rattle.std.specs.Prelude.{◌≡◌, ◌++◌, List, Result, Ok}

-- the step's outcome is some elements, and these were added at the end
pub record AddsElements {A E : Type 0} (old new : List A) (outcome : Result (List A) E) : Type 0 where
  pub added : List A
  pub gives : outcome ≡ Ok added
  pub after : new ≡ old ++ added
