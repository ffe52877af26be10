-- Blank characters at the start of lines.
use Rattle.std.specs.Prelude.{◌≡◌, ℕ, suc, ◌+◌, ◌≤◌, Bool, true, nat_le, ◌&&◌, if◌then◌else◌, List, [], ◌∷◌, length, take}
use Rattle.std.specs.List.{AllByRecursion, prefix_len}
use Rattle.kak_text.specs.declared.classes.Class.TheVariants.{Blank}
use Rattle.kak_text.specs.Classes.{class_of, is_same}
use Rattle.kak_text.specs.Cells.{cells_of, column_behind}

-- whether a character is a tab or a space of any kind
abbrev pub is_blank : ℕ → Bool
is_blank c = is_same (class_of c) Blank

-- how many blanks a line begins with
abbrev pub blanks : List ℕ → ℕ
blanks line = prefix_len is_blank line

-- how many of the blanks that stand from a display column on end at the column `most` or before
abbrev pub blanks_within : ℕ → ℕ → ℕ → List ℕ → ℕ
blanks_within tabstop most column [] = 0
blanks_within tabstop most column (c ∷ cs) =
    if is_blank c && nat_le (column + cells_of c column tabstop) most then suc (blanks_within tabstop most (column + cells_of c column tabstop) cs) else 0

-- the first characters from a display column on are blanks, and end at the column `most` or before
pub record AreBlanksWithin (tabstop most column : ℕ) (line : List ℕ) (n : ℕ) : Type 0 where
  pub inside : n ≤ length line
  pub blank : AllByRecursion (λ c. is_blank c ≡ true) (take n line)
  pub fit : column_behind tabstop column (take n line) ≤ most

-- so many are such, and no more
pub record BlanksWithinAreAll : Type 0 where
  pub such : (tabstop most column : ℕ) (line : List ℕ) → column ≤ most → AreBlanksWithin tabstop most column line (blanks_within tabstop most column line)
  pub no_more : (tabstop most column : ℕ) (line : List ℕ) (n : ℕ) → AreBlanksWithin tabstop most column line n → n ≤ blanks_within tabstop most column line
