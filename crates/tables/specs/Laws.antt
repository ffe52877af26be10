-- What is found after a row was put.
use Rattle.std.specs.Prelude.{◌≡◌, ℕ, List, Bool, true, false}
use Rattle.tables.specs.Tables.{first_where, put_where, changed_where}
use Rattle.std.specs.List.{list_any}

-- the laws of putting, said of rows of any numbers
pub record PuttingLaws : Type 0 where
  -- a row that passes its own test is found
  pub same : (p : List ℕ → Bool) (row other : List ℕ) (rows : List (List ℕ)) → p row ≡ true → first_where p other (put_where p row rows) ≡ row
  -- a test that passes neither the row nor any that it may replace finds what it found
  pub others : (p q : List ℕ → Bool) (row other : List ℕ) (rows : List (List ℕ)) → ((x : List ℕ) → p x ≡ true → q x ≡ false) → q row ≡ false → first_where q other (put_where p row rows) ≡ first_where q other rows

-- the laws of changing a row where it stands
pub record ChangingLaws : Type 0 where
  -- the row that is found is the changed one, where the change leaves its test alone
  pub same : (p : List ℕ → Bool) (f : List ℕ → List ℕ) (other : List ℕ) (rows : List (List ℕ)) → ((x : List ℕ) → p (f x) ≡ p x) → list_any p rows ≡ true → first_where p other (changed_where p f rows) ≡ f (first_where p other rows)
  -- a test that passes none that the change may reach finds what it found
  pub others : (p q : List ℕ → Bool) (f : List ℕ → List ℕ) (other : List ℕ) (rows : List (List ℕ)) → ((x : List ℕ) → q (f x) ≡ q x) → ((x : List ℕ) → p x ≡ true → q x ≡ false) → first_where q other (changed_where p f rows) ≡ first_where q other rows
