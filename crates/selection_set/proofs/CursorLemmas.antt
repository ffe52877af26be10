-- The cursor of a selection, by coordinates and by offsets.
use Rattle.std.proofs.Common.{◌≡◌, ℕ, Bool, true, false, List, refl}
use Rattle.std.specs.Prelude.{if◌then◌else◌}
use Rattle.text_model.specs.declared.coords.Coord.{Coord}
use Rattle.text_model.specs.Texts.{offset, IsPlace, coord_at}
use Rattle.text_model.proofs.PlaceLemmas.{coord_at-offset}
use Rattle.list_model.specs.Ranges.{cursor}
use Rattle.selection_set.specs.declared.sel.Sel.{Sel}
use Rattle.selection_set.specs.Inside.{range_of, IsInside, cursor_at}

offset_of_choice : (text : List ℕ) (t : Bool) (a b : Coord) → (if t then offset text a else offset text b) ≡ offset text (if t then a else b)
offset_of_choice text true a b = refl
offset_of_choice text false a b = refl

place_of_choice : (text : List ℕ) (t : Bool) (a b : Coord) → IsPlace text a → IsPlace text b → IsPlace text (if t then a else b)
place_of_choice text true a b p q = p
place_of_choice text false a b p q = q

-- the cursor of the range is the offset of the cursor
pub cursor-range_of : (text : List ℕ) (sel : Sel) → cursor (range_of text sel) ≡ offset text (cursor_at sel)
cursor-range_of text sel = offset_of_choice text sel.turned sel.low sel.high

-- the cursor is a place
pub cursor-place : (text : List ℕ) (sel : Sel) → IsInside text sel → IsPlace text (cursor_at sel)
cursor-place text sel h = place_of_choice text sel.turned sel.low sel.high h.low h.high

-- the coordinate of the range's cursor is the cursor
pub coord_at-cursor : (text : List ℕ) (sel : Sel) → IsInside text sel → coord_at text (cursor (range_of text sel)) ≡ cursor_at sel
coord_at-cursor text sel h = rw (cursor-range_of text sel) (coord_at-offset text (cursor_at sel) (cursor-place text sel h))
