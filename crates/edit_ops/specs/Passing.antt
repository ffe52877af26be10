-- How the list that an edit leaves is found from its replacements and the shifts of its changes, by coordinates.
use Rattle.std.specs.Prelude.{ℕ, ◌+◌, ◌-◌, ◌<◌, Bool, false, not, ◌==◌, nat_lt, ◌&&◌, ◌||◌, if◌then◌else◌, None, List, [], ◌∷◌, ◌++◌, length, drop, slice_index_or}
use Rattle.text_model.specs.declared.coords.Coord.{Coord}
use Rattle.text_model.specs.declared.coords.Shift.{Shift}
use Rattle.text_model.specs.Coords.{origin, is_at_most, reached}
use Rattle.text_model.specs.Texts.{ends_in_newline}
use Rattle.text_model.specs.Changes.{front}
use Rattle.selection_set.specs.declared.sel.Sel.{Sel}
use Rattle.selection_map.specs.Carrying.{IsSmall}
use Rattle.selection_map.specs.Rebasing.{rebased, earlier, mapped}
use Rattle.buffer_store.specs.declared.edits.Splice.{Splice}
use Rattle.edit_ops.specs.declared.passing.PassedShifts.{PassedShifts}

-- whether two coordinates are the same
abbrev pub is_same : Coord → Coord → Bool
is_same a b = a.line == b.line && (a.column == b.column)

-- where a coordinate ends through shifts of changes that rise, none of which begins before it: only where it is their begin is it
-- taken along
abbrev pub ended : List Shift → Coord → Coord
ended [] at = at
ended (s ∷ ss) at = if is_same s.begin at then ended ss (mapped s s.begin) else at

-- where the begin of each shift ends, that of the last one first
abbrev pub homes : List Shift → List Coord
homes [] = []
homes (s ∷ ss) = homes ss ++ ended ss (mapped s s.begin) ∷ []

-- 1 for what is so
abbrev pub one_if : Bool → ℕ
one_if b = if b then 1 else 0

-- where a replacement begins in the text of the moment
abbrev pub place : PassedShifts → Splice → Coord
place w s = rebased s.from w.old w.now

-- whether a replacement takes something out, where it begins at a coordinate of the moment: the last newline alone stays, but on
-- a line of its own
abbrev pub takes_out : Coord → Coord → Splice → Bool
takes_out last at s =
    not (is_same s.from s.to) && (not (is_same s.from last) || ((nat_lt 0 at.line && (at.column == 0)) && not (ends_in_newline s.text)))

-- whether the last newline stays in the place of another
abbrev pub keeps_newline : Coord → Splice → Bool
keeps_newline last s = not (is_same s.from s.to) && (not (is_at_most s.to last) && ends_in_newline s.text)

-- whether a replacement puts something in
abbrev pub puts_in : Coord → Splice → Bool
puts_in last s = nat_lt (one_if (keeps_newline last s)) (length s.text)

-- a shift of nothing
abbrev pub no_shift : Shift
no_shift = record { insert = false; begin = origin; «end» = origin; last = origin }

-- the last of the first n shifts
abbrev pub last_shift_of : List Shift → ℕ → Shift
last_shift_of shifts n = slice_index_or shifts (n - 1) no_shift

-- how many shifts were passed behind a replacement
abbrev pub count_then : Coord → PassedShifts → Splice → Coord → ℕ
count_then last w s at = w.next + (one_if (takes_out last at s) + one_if (puts_in last s))

-- the last place behind it
abbrev pub last_then : List Shift → PassedShifts → ℕ → Coord
last_then shifts w n = if n == w.next then w.last else (last_shift_of shifts n).last

-- where it ended in the text of the moment
abbrev pub now_then : Coord → List Shift → Splice → Coord → ℕ → Coord → Coord
now_then last shifts s at n end =
    if is_at_most s.to last then (if puts_in last s then (last_shift_of shifts n).end else at) else record { line = end.line + 1; column = 0 }

-- what was passed behind a replacement that begins at a coordinate of the moment
abbrev pub passed_at : Coord → List Shift → PassedShifts → Splice → Coord → PassedShifts
passed_at last shifts w s at = record {
  old = s.to;
  now = now_then last shifts s at (count_then last w s at) (last_then shifts w (count_then last w s at));
  last = last_then shifts w (count_then last w s at);
  next = count_then last w s at;
}

abbrev pub passed : Coord → List Shift → PassedShifts → Splice → PassedShifts
passed last shifts w s = passed_at last shifts w s (place w s)

-- the last character of what was put in at a coordinate, where its insertion ended behind another coordinate: one that doesn't end in
-- a newline got one where the coordinate behind it is the begin of a line
abbrev pub last_put : Coord → List ℕ → Coord → Coord
last_put at s end = if not (ends_in_newline s) && (end.column == 0) then reached at s else reached at (front s)

-- what a replacement leaves in the end, where it begins at a coordinate of the moment
abbrev pub mark_at : List Shift → PassedShifts → Splice → Coord → Sel
mark_at shifts w s at =
    if length s.text == 0
    then record { low = ended (drop w.next shifts) (earlier at w.last); high = ended (drop w.next shifts) (earlier at w.last); turned = false; target = None }
    else record { low = at; high = last_put at s.text (last_shift_of shifts w.next).end; turned = false; target = None }

-- what replacements leave
abbrev pub passed_marks : Coord → List Shift → PassedShifts → List Splice → List Sel
passed_marks last shifts w [] = []
passed_marks last shifts w (s ∷ ss) = mark_at shifts (passed last shifts w s) s (place w s) ∷ passed_marks last shifts (passed last shifts w s) ss

-- nothing was passed yet in a text with this last place
abbrev pub none_passed : Coord → PassedShifts
none_passed last = record { old = origin; now = origin; last = last; next = 0 }

-- the coordinates of a shift, within what a text may have
pub record IsSmallShift (s : Shift) : Type 0 where
  pub begin : IsSmall s.begin
  pub «end» : IsSmall s.end
  pub last : IsSmall s.last

-- those of all shifts
abbrev pub AreSmallShifts : List Shift → Type 0
AreSmallShifts shifts = (n : ℕ) → n < length shifts → IsSmallShift (slice_index_or shifts n no_shift)
