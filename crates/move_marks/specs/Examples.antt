-- Worked examples of the marks of changes and of the lists that they leave, which hold by computation.
use Rattle.std.specs.Prelude.{◌≡◌, ℕ, false, List, [], ◌∷◌, None, codes}
use Rattle.text_model.specs.declared.coords.Coord.{Coord}
use Rattle.text_model.specs.Changes.{Change, Insertion, Erasure}
use Rattle.list_model.specs.Ranges.{Selected, only}
use Rattle.undo_model.specs.Marks.{left_by}
use Rattle.selection_set.specs.declared.sel.Sel.{Sel}
use Rattle.selection_set.specs.Held.{selected}
use Rattle.move_marks.specs.Marking.{marks_of}

abbrev pub at : ℕ → ℕ → Coord
at line column = record { line = line; column = column }

-- a straight selection without a target
abbrev pub straight : Coord → Coord → Sel
straight low high = record { low = low; high = high; turned = false; target = None }

-- the list before, of which nothing is left
abbrev pub before : Selected
before = record { list = only 0 ∷ []; main = 0 }

abbrev pub two_lines : List ℕ
two_lines = codes "ab\ncd\n"

-- `x` before each line
abbrev pub two_typed : List Change
two_typed = Insertion 0 (codes "x") ∷ Insertion 4 (codes "x") ∷ []

-- that taken back
abbrev pub two_erased : List Change
two_erased = Erasure 4 5 ∷ Erasure 0 1 ∷ []

-- the first line taken out, and then a line put in its place
abbrev pub line_exchanged : List Change
line_exchanged = Erasure 0 3 ∷ Insertion 0 (codes "efg\n") ∷ []

-- the last line taken out, and then the last letter of what is left
abbrev pub end_erased : List Change
end_erased = Erasure 3 6 ∷ Erasure 1 2 ∷ []

-- the selections of a text, of which one is the main one
abbrev pub seen : List ℕ → List Sel → ℕ → Selected
seen text list main = selected text (record { list = list; main = main })

pub record Examples : Type 0 where
  pub none : marks_of two_lines [] ≡ []
  pub put_in : marks_of two_lines two_typed ≡ straight (at 0 0) (at 0 0) ∷ straight (at 1 0) (at 1 0) ∷ []
  pub taken_out : marks_of (codes "xab\nxcd\n") two_erased ≡ straight (at 1 0) (at 1 0) ∷ straight (at 0 0) (at 0 0) ∷ []
  -- a mark lies in the text right behind its change: the first is the begin of what is left
  pub exchanged : marks_of two_lines line_exchanged ≡ straight (at 0 0) (at 0 0) ∷ straight (at 0 0) (at 0 3) ∷ []
  -- where the end of the text went, the mark is the last character
  pub at_the_end : marks_of two_lines end_erased ≡ straight (at 0 2) (at 0 2) ∷ straight (at 0 1) (at 0 1) ∷ []
  pub left_by_typing : left_by two_lines two_typed before ≡ seen (codes "xab\nxcd\n") (straight (at 0 0) (at 0 0) ∷ straight (at 1 0) (at 1 0) ∷ []) 1
  pub left_by_undo : left_by (codes "xab\nxcd\n") two_erased before ≡ seen two_lines (straight (at 0 0) (at 0 0) ∷ straight (at 1 0) (at 1 0) ∷ []) 0
  -- what was behind the first mark went behind the new line, and it with that
  pub left_by_exchange : left_by two_lines line_exchanged before ≡ seen (codes "efg\ncd\n") (straight (at 0 0) (at 0 3) ∷ straight (at 1 0) (at 1 0) ∷ []) 0
  -- both marks come to the last character, and are one
  pub left_at_the_end : left_by two_lines end_erased before ≡ seen (codes "a\n") (straight (at 0 1) (at 0 1) ∷ []) 0
