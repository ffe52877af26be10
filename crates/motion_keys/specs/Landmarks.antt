-- The places that have a name: of the text, of the cursor's line, and of the window.
use Rattle.std.specs.Prelude.{ℕ, ◌+◌, ◌-◌, ◌/◌, min, Bool, not, List, length, slice_index, Some}
use Rattle.std.specs.declared.option.Option.{Option}
use Rattle.text_model.specs.Texts.{offset, coord_at, nth_line, line_count, last_place}
use Rattle.list_model.specs.Ranges.{Range, cursor}
use Rattle.selection_set.specs.Listing.{range_between}
use Rattle.kak_text.specs.declared.classes.Class.TheVariants.{Blank}
use Rattle.kak_text.specs.Classes.{class_of, is_same}
use Rattle.window_view.specs.View.{View}
use Rattle.motion_keys.specs.declared.landmarks.Place.{Place}
use Rattle.motion_keys.specs.declared.landmarks.Place.TheVariants.{First, LastLine, Last, LineStart, LineEnd, NonBlank, WindowTop, WindowMiddle, WindowBottom, Line}
use Rattle.motion_keys.specs.declared.landmarks.LinePart.{LinePart}
use Rattle.motion_keys.specs.declared.landmarks.LinePart.TheVariants.{ToStart, ToEnd}
use Rattle.motion_keys.specs.Extremes.{least_between}

-- the offset at which a line begins, by its number; behind the last line, the offset behind the text
abbrev pub line_begin : List ℕ → ℕ → ℕ
line_begin text n = offset text (record { line = n; column = 0 })

-- the first offset of a line, by its number; for a number beyond the last line, the last line's
abbrev pub line_start : List ℕ → ℕ → ℕ
line_start text n = line_begin text (min n (line_count text - 1))

-- the number of the line that an offset is on
abbrev pub line_of : List ℕ → ℕ → ℕ
line_of text o = (coord_at text o).line

-- the last offset of a line before its newline, or that of the newline where the line has no other character
abbrev pub line_last : List ℕ → ℕ → ℕ
line_last text n = offset text (record { line = n; column = length (nth_line text n) - 2 })

-- whether the character at an offset is no blank
abbrev pub is_no_blank : List ℕ → ℕ → Bool
is_no_blank text o = not (is_same (class_of (slice_index text o)) Blank)

-- the least offset of a line whose character is no blank
abbrev pub first_no_blank : List ℕ → ℕ → Option ℕ
first_no_blank text n = least_between (is_no_blank text) (line_begin text n) (line_begin text (n + 1))

-- the offset of a place with a name, for a cursor and a window
abbrev pub landmark : List ℕ → ℕ → View → Place → Option ℕ
landmark text o view First = Some 0
landmark text o view LastLine = Some (line_start text (line_count text - 1))
landmark text o view Last = Some (last_place text)
landmark text o view LineStart = Some (line_start text (line_of text o))
landmark text o view LineEnd = Some (line_last text (line_of text o))
landmark text o view NonBlank = first_no_blank text (line_of text o)
landmark text o view WindowTop = Some (line_start text view.top)
landmark text o view WindowMiddle = Some (line_start text (view.top + view.rows / 2))
landmark text o view WindowBottom = Some (line_start text (view.top + view.rows - 1))
landmark text o view (Line n) = Some (line_start text n)

-- from the cursor to its line's first character; or to the last one before the newline, where the line has one
abbrev pub line_part : List ℕ → Range → LinePart → Range
line_part text r ToStart = range_between (cursor r) (line_start text (line_of text (cursor r)))
line_part text r ToEnd = range_between (cursor r) (line_last text (line_of text (cursor r)))
