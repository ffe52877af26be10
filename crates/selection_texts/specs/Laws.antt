-- The law of descriptions.
use Rattle.std.specs.Prelude.{◌≡◌, ℕ, ◌<◌, ◌≤◌, List, length, map, Some}
use Rattle.std.specs.List.{AllByRecursion}
use Rattle.text_model.specs.Texts.{IsStored}
use Rattle.list_model.specs.Ranges.{Range, cursor, anchor}
use Rattle.list_model.specs.Settling.{settled}
use Rattle.selection_set.specs.Listing.{range_between}
use Rattle.command_forms.specs.declared.places.Columns.{Columns}
use Rattle.command_forms.specs.declared.places.Columns.TheVariants.{Bytes}
use Rattle.command_forms.specs.Places.{described_of}
use Rattle.selection_texts.specs.Telling.{told, told_text}
use Rattle.selection_texts.specs.Meaning.{meant, list_meant}

-- a selection lies inside of a text
abbrev pub LiesIn : List ℕ → Range → Type 0
LiesIn text r = (r.low ≤ r.high) × (r.high < length text)

-- a selection from its anchor to its cursor: without a target, and straight where it is one character
abbrev pub plain_range : Range → Range
plain_range r = range_between (anchor r) (cursor r)

-- a selection that is told is meant, from its anchor to its cursor; a list that is told is meant, with the first as
-- its main one; and the text of a selection is read as its description
pub record DescriptionsAreReadBack : Type 0 where
  pub meant_is_told : (columns : Columns) (text : List ℕ) (r : Range) → IsStored text → r.low ≤ r.high → r.high < length text → meant columns text (told columns text r) ≡ plain_range r
  pub list_is_meant : (columns : Columns) (text : List ℕ) (rs : List Range) → IsStored text → AllByRecursion (LiesIn text) rs → list_meant columns text (map (told columns text) rs) ≡ settled (record { list = map plain_range rs; main = 0 })
  pub text_is_read : (text : List ℕ) (r : Range) → IsStored text → r.low ≤ r.high → r.high < length text → described_of (told_text text r) ≡ Some (told Bytes text r)
