-- What descriptions of selections mean in a text.
use Rattle.std.specs.Prelude.{ℕ, suc, ◌-◌, min, nat_lt, if◌then◌else◌, List, [], ◌∷◌, length, map}
use Rattle.std.specs.Char.{len_utf8}
use Rattle.text_model.specs.Texts.{line_count, nth_line, offset}
use Rattle.list_model.specs.Ranges.{Range, Selected}
use Rattle.list_model.specs.Settling.{settled}
use Rattle.selection_set.specs.Listing.{range_between}
use Rattle.command_forms.specs.declared.places.Columns.{Columns}
use Rattle.command_forms.specs.declared.places.Columns.TheVariants.{Bytes, Characters}
use Rattle.command_forms.specs.declared.places.ArgumentPlace.{ArgumentPlace}
use Rattle.command_forms.specs.declared.places.Described.{Described}

-- the place in a line of the character that holds a byte, from 0; of the last character where none does
abbrev pub char_holding : List ℕ → ℕ → ℕ
char_holding [] byte = 0
char_holding (c ∷ []) byte = 0
char_holding (c ∷ d ∷ cs) byte = if nat_lt byte (len_utf8 c) then 0 else suc (char_holding (d ∷ cs) (byte - len_utf8 c))

-- the column by characters of what a column, from 0, means in a line
abbrev pub column_meant : Columns → List ℕ → ℕ → ℕ
column_meant Bytes line column = char_holding line column
column_meant Characters line column = min column (length line - 1)

-- the line, from 0, that a line from 1 means
abbrev pub line_meant : List ℕ → ℕ → ℕ
line_meant text line = min (line - 1) (line_count text - 1)

-- the offset that a place means
abbrev pub offset_meant : Columns → List ℕ → ArgumentPlace → ℕ
offset_meant columns text place =
    offset text (record { line = line_meant text place.line; column = column_meant columns (nth_line text (line_meant text place.line)) (place.column - 1) })

-- the selection that a description means
abbrev pub meant : Columns → List ℕ → Described → Range
meant columns text d = range_between (offset_meant columns text d.anchor) (offset_meant columns text d.cursor)

-- the settled list that descriptions mean, of which the first is the main one
abbrev pub list_meant : Columns → List ℕ → List Described → Selected
list_meant columns text ds = settled (record { list = map (meant columns text) ds; main = 0 })
