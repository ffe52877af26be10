-- The definitions at given tables.
use Rattle.std.specs.Prelude.{◌≡◌, ◌==◌, ◌++◌, ℕ, Bool, List, [], ◌∷◌}
use Rattle.tables.specs.Tables.{first_where, put_where, changed_where, with_row}

-- rows of two numbers, found by the first
abbrev pub is_row : ℕ → List ℕ → Bool
is_row n [] = n == 0
is_row n (x ∷ xs) = x == n

-- the table of examples
pub record WorkedExamples : Type 0 where
  -- the first of several that pass
  pub first : first_where (is_row 7) [] ((3 ∷ []) ∷ (7 ∷ 1 ∷ []) ∷ (7 ∷ 2 ∷ []) ∷ []) ≡ 7 ∷ 1 ∷ []
  -- none passes
  pub none : first_where (is_row 8) (9 ∷ []) ((3 ∷ []) ∷ []) ≡ 9 ∷ []
  -- in place of the first that passes, and no other
  pub replaced : put_where (is_row 7) (5 ∷ []) ((3 ∷ []) ∷ (7 ∷ 1 ∷ []) ∷ (7 ∷ 2 ∷ []) ∷ []) ≡ (3 ∷ []) ∷ (5 ∷ []) ∷ (7 ∷ 2 ∷ []) ∷ []
  -- at the end
  pub added : put_where (is_row 7) (7 ∷ []) ((3 ∷ []) ∷ []) ≡ (3 ∷ []) ∷ (7 ∷ []) ∷ []
  -- the first of several that pass is changed, and no other
  pub changed : changed_where (is_row 7) (λ row. row ++ 5 ∷ []) ((3 ∷ []) ∷ (7 ∷ 1 ∷ []) ∷ (7 ∷ 2 ∷ []) ∷ []) ≡ (3 ∷ []) ∷ (7 ∷ 1 ∷ 5 ∷ []) ∷ (7 ∷ 2 ∷ []) ∷ []
  -- a row is added only where none passes
  pub there : with_row (is_row 7) (7 ∷ []) ((3 ∷ []) ∷ (7 ∷ 1 ∷ []) ∷ []) ≡ (3 ∷ []) ∷ (7 ∷ 1 ∷ []) ∷ []
  pub lacking : with_row (is_row 7) (7 ∷ []) ((3 ∷ []) ∷ []) ≡ (3 ∷ []) ∷ (7 ∷ []) ∷ []
