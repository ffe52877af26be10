-- What words stand for.
use Rattle.std.specs.Prelude.{ℕ, List, [], ◌∷◌, if◌then◌else◌, Option, Some, None}
use Rattle.std.specs.Str.{bytes_eq}

-- a word with what it stands for
pub record Row (A : Type 0) : Type 0 where
  pub word : List ℕ
  pub means : A

abbrev pub row : {A : Type 0} → List ℕ → A → Row A
row word means = record { word = word; means = means }

-- what a word stands for in the first of some rows that has it
abbrev pub looked_up : {A : Type 0} → List ℕ → List (Row A) → Option A
looked_up word [] = None
looked_up word (r ∷ rows) = if bytes_eq word r.word then Some r.means else looked_up word rows
