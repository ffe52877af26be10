-- What is left of a selection of a text, or made of it, by its lines and its characters.
use Rattle.std.specs.Prelude.{◌≡◌, ℕ, ◌+◌, ◌-◌, Bool, not, ◌||◌, ◌==◌, nat_le, if◌then◌else◌, List, [], ◌∷◌, filter, filter_map, slice_index, option_map, None, Some}
use Rattle.std.specs.List.{range_with_len}
use Rattle.std.specs.declared.option.Option.{Option}
use Rattle.kak_text.specs.declared.classes.Class.TheVariants.{Blank, Line}
use Rattle.kak_text.specs.Classes.{class_of, is_same}
use Rattle.text_model.specs.declared.coords.Coord.{Coord}
use Rattle.text_model.specs.Texts.{offset}
use Rattle.list_model.specs.Ranges.{Range, only}
use Rattle.selection_set.specs.declared.sel.Sel.{Sel}
use Rattle.selection_set.specs.Inside.{range_of}
use Rattle.selection_set.specs.Listing.{ranges_of}
use Rattle.list_keys.specs.declared.cuts.Cut.{Cut}
use Rattle.list_keys.specs.declared.cuts.Cut.TheVariants.{WholeLines, Trimmed}
use Rattle.list_keys.specs.declared.parts.Split.{Split}
use Rattle.list_keys.specs.declared.parts.Split.TheVariants.{AtLineEnds, IntoEnds}
use Rattle.motion_keys.specs.Extremes.{least_between, greatest_below}

-- whether a line ends at an offset: its character is a newline (10)
abbrev pub ends_line : List ℕ → ℕ → Bool
ends_line text o = slice_index text o == 10

-- whether a line begins at an offset: it is the first one, or a line ends before it
abbrev pub starts_line : List ℕ → ℕ → Bool
starts_line text o = (o == 0) || ends_line text (o - 1)

-- whether the character at an offset is neither a blank nor a newline
abbrev pub is_solid : List ℕ → ℕ → Bool
is_solid text o = not (is_same (class_of (slice_index text o)) Blank || is_same (class_of (slice_index text o)) Line)

-- a selection cut to two ends, with its flag and without a target; none where an end is missing or they are out of order
abbrev pub cut_to : Range → Option ℕ → Option ℕ → Option Range
cut_to r None high = None
cut_to r (Some low) None = None
cut_to r (Some low) (Some high) =
    if nat_le low high then Some (record { low = low; high = high; turned = r.turned; target = None }) else None

-- a selection of a text is cut to two places of it
abbrev pub IsCutTo : List ℕ → Sel → Coord → Coord → Option Sel → Type 0
IsCutTo text sel low high cut = option_map (range_of text) cut ≡ cut_to (range_of text sel) (Some (offset text low)) (Some (offset text high))

-- the first offset in a selection at which a line begins
abbrev pub first_start : List ℕ → Range → Option ℕ
first_start text r = least_between (starts_line text) r.low (r.high + 1)

-- the whole lines inside a selection: from the first offset in it at which a line begins to the last at which one ends
abbrev pub whole_lines_in : List ℕ → Range → Option Range
whole_lines_in text r = cut_to r (first_start text r) (greatest_below (ends_line text) (r.high + 1))

-- a selection without the blanks and the newlines at its ends; none where it has nothing else
abbrev pub trimmed_range : List ℕ → Range → Option Range
trimmed_range text r = cut_to r (least_between (is_solid text) r.low (r.high + 1)) (greatest_below (is_solid text) (r.high + 1))

-- whether a part of a selection ends at an offset: where a line ends, and at the selection's last character
abbrev pub ends_part : List ℕ → ℕ → ℕ → Bool
ends_part text high o = ends_line text o || (o == high)

-- the parts that end at some offsets: the first begins at an offset, each other one behind the one before it
abbrev pub parts_between : Bool → ℕ → List ℕ → List Range
parts_between turned from [] = []
parts_between turned from (o ∷ os) = record { low = from; high = o; turned = turned; target = None } ∷ parts_between turned (o + 1) os

-- a selection split at line ends: parts with its flag and without a target
abbrev pub parts_of : List ℕ → Range → List Range
parts_of text r = parts_between r.turned r.low (filter (ends_part text r.high) (range_with_len r.low (r.high + 1 - r.low)))

-- the first and the last character of a selection
abbrev pub ends_of : Range → List Range
ends_of r = only r.low ∷ only r.high ∷ []

-- what is left of a selection, by what it is cut to
abbrev pub cut_by : Cut → List ℕ → Range → Option Range
cut_by WholeLines text r = whole_lines_in text r
cut_by Trimmed text r = trimmed_range text r

-- what cuts leave of some selections of a text
abbrev pub ranges_cut : Cut → List ℕ → List Sel → List Range
ranges_cut how text sels = filter_map (cut_by how text) (ranges_of text sels)

-- the parts that a selection is cut up into
abbrev pub split_by : Split → List ℕ → Range → List Range
split_by AtLineEnds text r = parts_of text r
split_by IntoEnds text r = ends_of r
