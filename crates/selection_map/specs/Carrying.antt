-- Where the places and selections of a text go when the text is changed once, by coordinates.
use Rattle.std.specs.Prelude.{◌≡◌, ℕ, ◌≤◌, List}
use Rattle.text_model.specs.declared.TheConstants.{MAX_CHARS}
use Rattle.text_model.specs.declared.coords.Coord.{Coord}
use Rattle.text_model.specs.declared.coords.Shift.{Shift}
use Rattle.text_model.specs.Texts.{IsText, offset, IsPlace}
use Rattle.text_model.specs.Changes.{Move, IsShift}
use Rattle.list_model.specs.Settling.{carried}
use Rattle.selection_set.specs.declared.sel.Sel.{Sel}
use Rattle.selection_set.specs.Inside.{range_of, IsInside}
use Rattle.text_model.specs.Mapping.{shifted}
use Rattle.std.specs.List.{AllByRecursion}

-- a coordinate within what a text may have
pub record IsSmall (at : Coord) : Type 0 where
  pub lines : at.line ≤ MAX_CHARS
  pub columns : at.column ≤ MAX_CHARS

-- a change of a text, from the old one to the new one
pub record IsShiftStep (old new : List ℕ) (shift : Shift) (m : Move) : Type 0 where
  pub old_text : IsText old
  pub new_text : IsText new
  pub shift_is : IsShift old new shift m

-- a place of the old text has become that place of the new one
pub record Carries (old new : List ℕ) (m : Move) (at to : Coord) : Type 0 where
  pub is_place : IsPlace new to
  pub goes : offset new to ≡ shifted m (offset old at)

-- the coordinates of a selection and of a shift, within what a text may have
pub record AreSmall (sel : Sel) (shift : Shift) : Type 0 where
  pub low : IsSmall sel.low
  pub high : IsSmall sel.high
  pub begin : IsSmall shift.begin
  pub «end» : IsSmall shift.end

-- a selection of the old text has become that one of the new one: both ends went, flag and target stayed
pub record CarriesBoth (old new : List ℕ) (m : Move) (sel to : Sel) : Type 0 where
  pub inside : IsInside new to
  pub goes : range_of new to ≡ carried (shifted m) (range_of old sel)

-- the coordinates of all selections of a list and of a shift, within what a text may have
abbrev pub AllSmall : List Sel → Shift → Type 0
AllSmall list shift = AllByRecursion (λ s. AreSmall s shift) list
