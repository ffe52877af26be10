-- The number in a new client's name is the least that no other client has.
use Rattle.std.specs.Prelude.{◌≡◌, ℕ, ◌<◌, ◌==◌, Bool, true, false, List}
use Rattle.std.specs.List.{list_any}
use Rattle.kak_world.specs.Flat.{least_free}

-- whether a number is among others
abbrev pub is_taken : ℕ → List ℕ → Bool
is_taken n numbers = list_any (λ m. m == n) numbers

-- a number isn't among others, and each one below it is
pub record IsLeastFree (numbers : List ℕ) (n : ℕ) : Type 0 where
  pub free : is_taken n numbers ≡ false
  pub taken_below : (k : ℕ) → k < n → is_taken k numbers ≡ true

-- so it is with the number of a new client's name, whatever numbers the others have
abbrev pub NamesAreLeast : Type 0
NamesAreLeast = (numbers : List ℕ) → IsLeastFree numbers (least_free numbers)
