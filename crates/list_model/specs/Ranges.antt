-- Selections of a text by offsets, and lists of them.
use Rattle.std.specs.Prelude.{ℕ, ◌≤◌, Bool, false, if◌then◌else◌, List}
use Rattle.std.specs.declared.option.Option.{Option}
use Rattle.std.specs.Prelude.{None}

-- a selection: from its first to its last character, turned where the cursor is at the first one, with the display
-- column that vertical moves aim at, if it has one
pub record Range : Type 0 where
  pub low : ℕ
  pub high : ℕ
  pub turned : Bool
  pub target : Option ℕ

-- a list of selections, of which one is the main one
pub record Selected : Type 0 where
  pub list : List Range
  pub main : ℕ

-- the first character isn't after the last
abbrev pub IsRange : Range → Type 0
IsRange r = r.low ≤ r.high

-- the end that moves
abbrev pub cursor : Range → ℕ
cursor r = if r.turned then r.low else r.high

-- the end that stays
abbrev pub anchor : Range → ℕ
anchor r = if r.turned then r.high else r.low

-- the selection of one character
abbrev pub only : ℕ → Range
only o = record { low = o; high = o; turned = false; target = None }
