-- What is known of the list that an edit leaves, of its replacements and of the shifts of its changes.
use Rattle.std.specs.Prelude.{◌≡◌, ℕ, ◌+◌, ◌-◌, ◌<◌, List, length, drop, slice_index_or}
use Rattle.text_model.specs.declared.coords.Coord.{Coord}
use Rattle.text_model.specs.declared.coords.Shift.{Shift}
use Rattle.text_model.specs.Texts.{IsStored, coord_at, last_place}
use Rattle.selection_set.specs.Listing.{Listed}
use Rattle.selection_set.specs.Held.{selected, IsHeld}
use Rattle.selection_map.specs.Rebasing.{mapped}
use Rattle.undo_model.specs.Steps.{AreSteps}
use Rattle.buffer_store.specs.declared.edits.Splice.{Splice}
use Rattle.buffer_store.specs.Buffers.{flat_splices, AreSplicesOf, changes_of}
use Rattle.buffer_store.specs.Stored.{change_shifts}
use Rattle.edit_ops.specs.Leaving.{edited_text, list_left_by}
use Rattle.edit_ops.specs.Passing.{ended, no_shift}

-- the shifts are those of the edit that replacements make of a text with this last place
pub record IsOfEdit (text : List ℕ) (last : Coord) (splices : List Splice) (shifts : List Shift) : Type 0 where
  pub stored : IsStored text
  pub last_is : last ≡ coord_at text (last_place text)
  pub are_splices : AreSplicesOf text splices
  pub steps : AreSteps text (changes_of text splices)
  pub shifts_are : shifts ≡ change_shifts text (changes_of text splices)

-- there is such a text
pub record IsOfSomeEdit (last : Coord) (splices : List Splice) (shifts : List Shift) : Type 0 where
  pub text : List ℕ
  pub edit : IsOfEdit text last splices shifts

-- a list is held in the text after an edit, and is the one that the edit leaves
pub record IsLeftByEdit (text : List ℕ) (splices : List Splice) (main : ℕ) (s : Listed) : Type 0 where
  pub held : IsHeld (edited_text text (flat_splices text splices)) s
  pub left : selected (edited_text text (flat_splices text splices)) s ≡ list_left_by text (flat_splices text splices) main

-- where the begin of a shift ends is found among these
pub record HasHome (shifts : List Shift) (homes : List Coord) (next : ℕ) : Type 0 where
  pub inside : next < length shifts → length shifts - 1 - next < length homes
  pub is_home : (d : Coord) → next < length shifts
      → slice_index_or homes (length shifts - 1 - next) d ≡ ended (drop (next + 1) shifts) (mapped (slice_index_or shifts next no_shift) (slice_index_or shifts next no_shift).begin)
