-- Cursors brought to one display column by spaces before their selections, as the replacements of an edit.
use Rattle.std.specs.Prelude.{◌≡◌, ℕ, ◌+◌, ◌-◌, max, Bool, false, ◌==◌, ◌||◌, List, [], ◌∷◌, map, replicate}
use Rattle.text_model.specs.Texts.{coord_at, nth_line}
use Rattle.list_model.specs.Ranges.{Range, cursor}
use Rattle.undo_model.specs.Edits.{Splice}
use Rattle.kak_text.specs.Cells.{display_column}
use Rattle.selection_set.specs.declared.sel.Sel.{Sel}
use Rattle.selection_set.specs.Listing.{Listed, ranges_of}
use Rattle.selection_set.specs.Held.{IsHeld}
use Rattle.buffer_store.specs.declared.edits.Splice.{Splice as CodeSplice}
use Rattle.edit_ops.specs.Each.{each_from}
use Rattle.edit_ops.specs.Putting.{put_in_at}

-- so many spaces (32)
abbrev pub spaces : ℕ → List ℕ
spaces n = replicate n 32

-- the display column of the cursor of a range, with a tab stop at each so many columns
abbrev pub cursor_column : List ℕ → ℕ → Range → ℕ
cursor_column text tabstop r = display_column (nth_line text (coord_at text (cursor r)).line) (coord_at text (cursor r)).column tabstop

-- the greatest of some numbers, and 0 where there are none
abbrev pub greatest : List ℕ → ℕ
greatest [] = 0
greatest (n ∷ ns) = max n (greatest ns)

-- spaces before the first character of each range of a list, as many as its cursor is before the one with the greatest display column
abbrev pub alignments : List ℕ → ℕ → List Range → List Splice
alignments text tabstop rs = each_from (λ n r. put_in_at r.low (spaces (greatest (map (cursor_column text tabstop) rs) - cursor_column text tabstop r))) 0 rs

-- whether a range of a list begins on a line
abbrev pub begins_on : List ℕ → ℕ → List Range → Bool
begins_on text line [] = false
begins_on text line (r ∷ rs) = (coord_at text r.low).line == line || begins_on text line rs

-- whether two ranges of a list begin on one line
abbrev pub shares_line : List ℕ → List Range → Bool
shares_line text [] = false
shares_line text (r ∷ rs) = begins_on text (coord_at text r.low).line rs || shares_line text rs

-- whether a selection begins on the line on which the next one does
abbrev pub shares_with_next : List Sel → Bool
shares_with_next [] = false
shares_with_next (a ∷ []) = false
shares_with_next (a ∷ (b ∷ sels)) = a.low.line == b.low.line || shares_with_next (b ∷ sels)

-- how many spaces bring columns to one
abbrev pub lacking : ℕ → List ℕ → ℕ
lacking last [] = 0
lacking last (c ∷ columns) = (last - c) + lacking last columns

-- spaces before the first character of each selection, by the display columns of their cursors
abbrev pub spaced : ℕ → List ℕ → List Sel → List CodeSplice
spaced last [] sels = []
spaced last (c ∷ columns) [] = []
spaced last (c ∷ columns) (s ∷ sels) = record { from = s.low; «to» = s.low; text = spaces (last - c) } ∷ spaced last columns sels

-- of a list that is held in a text, two selections begin on one line exactly where two neighbours do
abbrev pub NeighboursShareLines : Type 0
NeighboursShareLines = (text : List ℕ) (list : Listed) → IsHeld text list → shares_line text (ranges_of text list.list) ≡ shares_with_next list.list
