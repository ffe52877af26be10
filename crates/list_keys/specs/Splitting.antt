-- What splitting a selection at line ends makes, without saying how.
use Rattle.std.specs.Prelude.{◌≡◌, ℕ, ◌+◌, ◌<◌, ◌≤◌, ◌⊎◌, Bool, true, false, List, [], ◌∷◌, None}
use Rattle.std.specs.List.{AllByRecursion}
use Rattle.list_model.specs.Ranges.{Range}
use Rattle.list_keys.specs.Cuts.{ends_line, parts_of}

-- ranges lie one right behind the other: the first begins at an offset, and the last ends at another
abbrev pub LieFromTo : ℕ → ℕ → List Range → Type 0
LieFromTo from high [] = from ≡ high + 1
LieFromTo from high (r ∷ rs) = (r.low ≡ from) × (r.low ≤ r.high) × LieFromTo (r.high + 1) high rs

-- a range ends at a newline or at an offset, has no newline before its end, and is turned as it should be
pub record IsLinePart (text : List ℕ) (turned : Bool) (high : ℕ) (r : Range) : Type 0 where
  pub ends : (ends_line text r.high ≡ true) ⊎ (r.high ≡ high)
  pub on_one_line : (o : ℕ) → r.low ≤ o → o < r.high → ends_line text o ≡ false
  pub turned_alike : r.turned ≡ turned
  pub aimless : r.target ≡ None

-- the parts of a selection are the selection, one behind the other, and each is on one line
pub record AreLineParts (text : List ℕ) (r : Range) (parts : List Range) : Type 0 where
  pub whole : LieFromTo r.low r.high parts
  pub each : AllByRecursion (IsLinePart text r.turned r.high) parts

-- splitting makes them of each selection
pub record SplittingMakesParts : Type 0 where
  pub made : (text : List ℕ) (r : Range) → r.low ≤ r.high → AreLineParts text r (parts_of text r)
