-- What registers hold after one was set.
use Rattle.std.specs.Prelude.{◌≡◌, ◌≢◌, ℕ, List, []}
use Rattle.kak_registers.specs.declared.row.Register.{Register}
use Rattle.kak_registers.specs.Contents.{strings_of, set_in}

-- the laws of setting
pub record RegisterLaws : Type 0 where
  -- a register other than `_` holds what it was set to
  pub same : (name : ℕ) (strings : List (List ℕ)) (rows : List Register) → name ≢ 95 → strings_of name (set_in name strings rows) ≡ strings
  -- other registers stay
  pub others : (name other : ℕ) (strings : List (List ℕ)) (rows : List Register) → name ≢ other → strings_of other (set_in name strings rows) ≡ strings_of other rows
  -- `_` is always empty
  pub nothing : (rows : List Register) → strings_of 95 rows ≡ []
