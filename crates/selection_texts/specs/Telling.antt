-- Selections as texts.
use Rattle.std.specs.Prelude.{ℕ, ◌+◌, List, ◌++◌, map, take, drop, codes, decimal}
use Rattle.text_model.specs.Texts.{coord_at, nth_line}
use Rattle.kak_text.specs.Bytes.{bytes_before}
use Rattle.list_model.specs.Ranges.{Range, Selected, cursor, anchor}
use Rattle.command_forms.specs.declared.places.Columns.{Columns}
use Rattle.command_forms.specs.declared.places.Columns.TheVariants.{Bytes, Characters}
use Rattle.command_forms.specs.declared.places.ArgumentPlace.{ArgumentPlace}
use Rattle.command_forms.specs.declared.places.Described.{Described}

-- the column, from 0, of the character at a column of a line, which is given by characters
abbrev pub column_told : Columns → List ℕ → ℕ → ℕ
column_told Bytes line column = bytes_before line column
column_told Characters line column = column

-- the place of an offset, from 1
abbrev pub place_told : Columns → List ℕ → ℕ → ArgumentPlace
place_told columns text o =
    record { line = (coord_at text o).line + 1; column = column_told columns (nth_line text (coord_at text o).line) (coord_at text o).column + 1 }

-- the places of a selection's anchor and cursor
abbrev pub told : Columns → List ℕ → Range → Described
told columns text r = record { anchor = place_told columns text (anchor r); cursor = place_told columns text (cursor r) }

-- a description as a text
abbrev pub description_text : Described → List ℕ
description_text d =
    decimal d.anchor.line ++ (codes "." ++ (decimal d.anchor.column ++ (codes "," ++ (decimal d.cursor.line ++ (codes "." ++ decimal d.cursor.column)))))

-- a selection as a text
abbrev pub told_text : List ℕ → Range → List ℕ
told_text text r = description_text (told Bytes text r)

-- selections from the main one on, round the end
abbrev pub from_main : Selected → List Range
from_main s = drop s.main s.list ++ take s.main s.list

-- all selections as texts, from the main one on, round the end
abbrev pub told_from_main : List ℕ → Selected → List (List ℕ)
told_from_main text s = map (told_text text) (from_main s)
