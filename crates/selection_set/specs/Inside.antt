-- Selections of the code, by coordinates, as ranges of a text.
use Rattle.std.specs.Prelude.{ℕ, ◌≤◌, if◌then◌else◌, List}
use Rattle.text_model.specs.declared.coords.Coord.{Coord}
use Rattle.text_model.specs.Texts.{offset, IsPlace}
use Rattle.list_model.specs.Ranges.{Range}
use Rattle.selection_set.specs.declared.sel.Sel.{Sel}

-- the range that a selection is in a text
abbrev pub range_of : List ℕ → Sel → Range
range_of text sel = record { low = offset text sel.low; high = offset text sel.high; turned = sel.turned; target = sel.target }

-- both ends of a selection are places of the text, in order
pub record IsInside (text : List ℕ) (sel : Sel) : Type 0 where
  pub low : IsPlace text sel.low
  pub high : IsPlace text sel.high
  pub ordered : offset text sel.low ≤ offset text sel.high

-- the coordinate of the end that moves
abbrev pub cursor_at : Sel → Coord
cursor_at sel = if sel.turned then sel.low else sel.high

-- the coordinate of the end that stays
abbrev pub anchor_at : Sel → Coord
anchor_at sel = if sel.turned then sel.high else sel.low
