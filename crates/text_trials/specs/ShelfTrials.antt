-- What the trial of a shelf keeps of its text, its lists and its changes.
use Rattle.std.specs.Prelude.{◌≡◌, ℕ, List}
use Rattle.std.specs.List.{AllByRecursion}
use Rattle.text_model.specs.declared.coords.Shift.{Shift}
use Rattle.text_model.specs.Texts.{IsStored}
use Rattle.text_model.specs.Changes.{Change, changed, move_of, IsShift}
use Rattle.selection_set.specs.Listing.{Listed}
use Rattle.selection_set.specs.Held.{IsHeld}
use Rattle.list_shelf.specs.Shelves.{Shelved, Stands}

-- a shift is that of a single change between two texts that can be kept
pub record IsOneChange (old new : List ℕ) (s : Shift) : Type 0 where
  pub change : Change
  pub old_stored : IsStored old
  pub new_stored : IsStored new
  pub new_is : new ≡ changed old change
  pub shift_is : IsShift old new s (move_of old change)

-- lists are held in a text, and a shift is that of a single change of it
pub record CanAllMove (s : Shift) (lists : List Listed) : Type 0 where
  pub old : List ℕ
  pub new : List ℕ
  pub one : IsOneChange old new s
  pub held : AllByRecursion (IsHeld old) lists

-- a shelf is a text's, and other lists are held in it
pub record StandTogether (text : List ℕ) (shelf : Shelved) (lists : List Listed) : Type 0 where
  pub stands : Stands text shelf
  pub held : AllByRecursion (IsHeld text) lists
