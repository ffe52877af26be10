-- What the trials show of the lists, the marks and the shifts that they try, by computation.
use Rattle.std.specs.Prelude.{◌≡◌, ℕ, ◌+◌, Bool, true, false, ◌&&◌, nat_lt, nat_le, List, [], ◌∷◌, length, slice_index_or}
use Rattle.text_model.specs.declared.TheConstants.{MAX_CHARS}
use Rattle.text_model.specs.declared.coords.Coord.{Coord}
use Rattle.text_model.specs.declared.coords.Shift.{Shift}
use Rattle.text_model.specs.Texts.{ends_in_newline, lines_of, offset, coord_at, last_place}
use Rattle.text_model.specs.Changes.{Change, Insertion, Erasure, changed}
use Rattle.undo_model.specs.Steps.{size}
use Rattle.selection_set.specs.declared.sel.Sel.{Sel}
use Rattle.move_marks.specs.Marking.{marks_of}

-- the shift of a change of a text
abbrev pub shift_by : List ℕ → Change → Shift
shift_by text (Insertion p s) = record {
  insert = true;
  begin = coord_at (changed text (Insertion p s)) p;
  «end» = coord_at (changed text (Insertion p s)) (p + length s);
  last = coord_at (changed text (Insertion p s)) (last_place (changed text (Insertion p s)));
}
shift_by text (Erasure p q) = record {
  insert = false;
  begin = coord_at text p;
  «end» = coord_at text q;
  last = coord_at (changed text (Erasure p q)) (last_place (changed text (Erasure p q)));
}

-- the shifts of changes, one after another
abbrev pub shifts_by : List ℕ → List Change → List Shift
shifts_by text [] = []
shifts_by text (c ∷ cs) = shift_by text c ∷ shifts_by (changed text c) cs

-- whether a text can be kept
abbrev pub can_be_kept : List ℕ → Bool
can_be_kept text = nat_lt 0 (length text) && (ends_in_newline text && nat_le (length text) MAX_CHARS)

-- whether a change lies inside a text
abbrev pub lies_in : List ℕ → Change → Bool
lies_in text (Insertion p s) = nat_le p (length text)
lies_in text (Erasure p q) = nat_le p q && nat_le q (length text)

-- whether changes lie inside a text, one after another, and leave texts that can be kept
abbrev pub all_lie_in : List ℕ → List Change → Bool
all_lie_in text [] = true
all_lie_in text (c ∷ cs) = lies_in text c && (can_be_kept (changed text c) && all_lie_in (changed text c) cs)

-- whether a coordinate is a place of a text
abbrev pub is_place : List ℕ → Coord → Bool
is_place text at = nat_lt at.line (length (lines_of text)) && nat_lt at.column (length (slice_index_or (lines_of text) at.line []))

-- whether all selections lie in a text
abbrev pub all_inside : List ℕ → List Sel → Bool
all_inside text [] = true
all_inside text (x ∷ xs) = (is_place text x.low && (is_place text x.high && nat_le (offset text x.low) (offset text x.high))) && all_inside text xs

-- the selections lie in a text, and the shifts are those of changes of it
pub record IsTrialOfList (given : List Sel) (shifts : List Shift) : Type 0 where
  pub text : List ℕ
  pub changes : List Change
  pub kept : can_be_kept text ≡ true
  pub lie_in : all_lie_in text changes ≡ true
  pub shifts_are : shifts ≡ shifts_by text changes
  pub inside : all_inside text given ≡ true

-- whether each change puts in or takes out some character
abbrev pub all_have_some : List Change → Bool
all_have_some [] = true
all_have_some (c ∷ cs) = nat_lt 0 (size c) && all_have_some cs

-- marks and shifts are those of changes of a text
pub record IsTrialOfMarks (marks : List Sel) (shifts : List Shift) : Type 0 where
  pub text : List ℕ
  pub changes : List Change
  pub kept : can_be_kept text ≡ true
  pub lie_in : all_lie_in text changes ≡ true
  pub all_some : all_have_some changes ≡ true
  pub shifts_are : shifts ≡ shifts_by text changes
  pub marks_are : marks ≡ marks_of text changes
