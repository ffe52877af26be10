-- A line of characters with a cursor in it.
use Rattle.std.specs.Prelude.{ℕ, List, [], ◌++◌}

-- what stands before the cursor, and what stands from it on
pub record Halves : Type 0 where
  pub before : List ℕ
  pub behind : List ℕ

-- the whole line
abbrev pub whole : Halves → List ℕ
whole line = line.before ++ line.behind

-- a line of no characters
abbrev pub empty : Halves
empty = record { before = []; behind = [] }
