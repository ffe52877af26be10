-- Characters that go in before cursors, as the replacements of an edit.
use Rattle.std.specs.Prelude.{◌≡◌, ℕ, List, map}
use Rattle.list_model.specs.Ranges.{Range, cursor}
use Rattle.undo_model.specs.Edits.{Splice}
use Rattle.buffer_store.specs.declared.edits.Splice.{Splice as CodeSplice}
use Rattle.buffer_store.specs.Buffers.{flat_splices, AreSplicesOf}
use Rattle.selection_set.specs.declared.sel.Sel.{Sel}
use Rattle.selection_set.specs.Inside.{cursor_at}
use Rattle.selection_set.specs.Listing.{Listed, ranges_of}
use Rattle.selection_set.specs.Held.{IsHeld}

-- characters that go in before the cursor of a range of a text
abbrev pub typed_before : List ℕ → Range → Splice
typed_before s r = record { from = cursor r; «to» = cursor r; put = s }

-- the same for a selection by coordinates
abbrev pub splice_before : List ℕ → Sel → CodeSplice
splice_before s sel = record { from = cursor_at sel; «to» = cursor_at sel; text = s }

-- what goes in before cursors of a list that is held in a text goes in at places of it, in order
pub record TypingHasPlaces : Type 0 where
  pub by_offsets : (text s : List ℕ) (sels : List Sel) → flat_splices text (map (splice_before s) sels) ≡ map (typed_before s) (ranges_of text sels)
  pub places : (text s : List ℕ) (list : Listed) → IsHeld text list → AreSplicesOf text (map (splice_before s) list.list)
