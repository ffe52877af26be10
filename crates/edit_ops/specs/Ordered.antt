-- The replacements for a list that is held in a text are replacements of it, in order, that don't share characters.
use Rattle.std.specs.Prelude.{ℕ, List, length}
use Rattle.selection_set.specs.Listing.{Listed, ranges_of}
use Rattle.selection_set.specs.Held.{IsHeld}
use Rattle.undo_model.specs.Edits.{AreInOrder}
use Rattle.edit_ops.specs.declared.kinds.Put.{Put}
use Rattle.edit_ops.specs.Putting.{puts}
use Rattle.edit_ops.specs.Aligning.{alignments}

pub record HeldEditsAreInOrder : Type 0 where
  pub putting : (text : List ℕ) (how : Put) (strings : List (List ℕ)) (list : Listed) → IsHeld text list → AreInOrder 0 (length text) (puts text how strings (ranges_of text list.list))
  pub aligning : (text : List ℕ) (tabstop : ℕ) (list : Listed) → IsHeld text list → AreInOrder 0 (length text) (alignments text tabstop (ranges_of text list.list))
