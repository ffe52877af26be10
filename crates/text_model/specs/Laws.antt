-- Laws of the definitions, each proved as the contract of a function of `laws`.
use Rattle.std.specs.Prelude.{◌≡◌, ℕ, ◌+◌, ◌-◌, ◌<◌, ◌≤◌, Bool, true, not, nat_le, ◌⊎◌, List, ◌++◌, length, take, drop, slice_index, All}
use Rattle.text_model.specs.declared.coords.Coord.{Coord}
use Rattle.text_model.specs.Coords.{is_at_most}
use Rattle.text_model.specs.Texts.{IsText, IsLine, ends_in_newline, lines_of, joined, nth_line, line_count, offset, coord_at, end_coord, IsPlace, IsPlaceOrEnd}
use Rattle.text_model.specs.Changes.{put_in, inserted, erased, Change, changed, inverse, IsChangeInside, all_changed, insertion, erasure, replacement, Move, move_of, IsCut, IsChange}
use Rattle.text_model.specs.Mapping.{past_insertion, past_erasure, moved, shifted}

-- a text and its lines
pub record LinesAreInverse : Type 0 where
  pub joined_lines : (text : List ℕ) → joined (lines_of text) ≡ text
  pub lines_joined : (lines : List (List ℕ)) → All IsLine lines → lines_of (joined lines) ≡ lines
  pub each_is_line : (text : List ℕ) → IsText text → All IsLine (lines_of text)
  pub some_line : (text : List ℕ) → IsText text → 0 < line_count text

-- offsets and coordinates
pub record CoordinatesAreInverse : Type 0 where
  pub offset_of_coordinate : (text : List ℕ) (o : ℕ) → o ≤ length text → offset text (coord_at text o) ≡ o
  pub coordinate_of_offset : (text : List ℕ) (at : Coord) → IsText text → IsPlaceOrEnd text at → coord_at text (offset text at) ≡ at
  pub before_end : (text : List ℕ) (at : Coord) → IsPlace text at → offset text at < length text
  pub is_place : (text : List ℕ) (o : ℕ) → o < length text → IsPlace text (coord_at text o)
  pub is_end : (text : List ℕ) → IsText text → coord_at text (length text) ≡ end_coord text
  pub character : (text : List ℕ) (at : Coord) → IsPlace text at → slice_index text (offset text at) ≡ slice_index (nth_line text at.line) at.column
  pub order : (text : List ℕ) (a b : Coord) → IsPlaceOrEnd text a → IsPlaceOrEnd text b → is_at_most a b ≡ nat_le (offset text a) (offset text b)

-- changes and what takes them back
pub record ChangesAreInverse : Type 0 where
  pub taken_back : (text : List ℕ) (c : Change) → IsChangeInside text c → changed (changed text c) (inverse text c) ≡ text
  pub inverse_is_inside : (text : List ℕ) (c : Change) → IsChangeInside text c → IsChangeInside (changed text c) (inverse text c)
  pub by_offsets : (text : List ℕ) (c : Change) → IsChangeInside text c → IsChange (move_of text c).insert text (changed text c) (move_of text c).begin (move_of text c).end
  pub other_way : (insert : Bool) (old new : List ℕ) (b e : ℕ) → IsChange insert old new b e → IsChange (not insert) new old b e

-- changes of a text make texts, and their lists of single changes make the same
pub record ChangesMakeTexts : Type 0 where
  pub insertion_makes_text : (text : List ℕ) (p : ℕ) (s : List ℕ) → IsText text → p ≤ length text → IsText (inserted text p s)
  pub insertion_changes : (text : List ℕ) (p : ℕ) (s : List ℕ) → all_changed text (insertion text p s) ≡ inserted text p s
  pub insertion_length : (text : List ℕ) (p : ℕ) (s : List ℕ) → p ≤ length text → length (inserted text p s) ≡ length text + length (put_in text p s)
  pub erasure_makes_text : (text : List ℕ) (p q : ℕ) → IsText text → p ≤ q → q ≤ length text → IsText (erased text p q)
  pub erasure_changes : (text : List ℕ) (p q : ℕ) → IsText text → p ≤ q → q ≤ length text → all_changed text (erasure text p q) ≡ erased text p q
  pub replaced_inside : (text : List ℕ) (p q : ℕ) (s : List ℕ) → IsText text → p ≤ q → q < length text → all_changed text (replacement text p q s) ≡ take p text ++ (s ++ drop q text)
  pub replaced_to_end : (text : List ℕ) (p : ℕ) (s : List ℕ) → IsText text → p < length text → ends_in_newline s ≡ true → all_changed text (replacement text p (length text) s) ≡ take p text ++ s

-- where places go: in order, inside the new text, and with the characters that stay
pub record MappingLaws : Type 0 where
  pub monotone : (m : Move) (a b : ℕ) → m.begin ≤ m.end → a ≤ b → moved m a ≤ moved m b
  pub monotone_with_cut : (m : Move) (a b : ℕ) → m.begin ≤ m.end → a ≤ b → shifted m a ≤ shifted m b
  pub inside : (m : Move) (o : ℕ) → shifted m o ≤ m.last
  pub kept_by_insertion : (old new : List ℕ) (b e o : ℕ) → IsCut new old b e → o < length old → slice_index new (past_insertion b (e - b) o) ≡ slice_index old o
  pub kept_by_erasure : (old new : List ℕ) (b e o : ℕ) → IsCut old new b e → (o < b) ⊎ (e ≤ o) → slice_index new (past_erasure b e o) ≡ slice_index old o
