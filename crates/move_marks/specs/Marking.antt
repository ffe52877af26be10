-- The marks of changes by coordinates, and the list that they leave behind the last change.
use Rattle.std.specs.Prelude.{◌≡◌, ℕ, false, None, List, [], ◌∷◌}
use Rattle.text_model.specs.declared.coords.Shift.{Shift}
use Rattle.text_model.specs.Texts.{IsStored, coord_at}
use Rattle.text_model.specs.Changes.{Change, changed, all_changed}
use Rattle.list_model.specs.Ranges.{Range, Selected}
use Rattle.undo_model.specs.Steps.{AreSteps}
use Rattle.undo_model.specs.Marks.{mark, left_by}
use Rattle.selection_set.specs.declared.sel.Sel.{Sel}
use Rattle.selection_set.specs.Listing.{Listed}
use Rattle.selection_set.specs.Held.{selected, IsHeld}
use Rattle.selection_map.specs.Catching.{AreShiftsOf}

-- a straight range of a text as a selection without a target
abbrev pub sel_at : List ℕ → Range → Sel
sel_at text r = record { low = coord_at text r.low; high = coord_at text r.high; turned = false; target = None }

-- the marks of changes of a text, one after another, each in the text right behind its change
abbrev pub marks_of : List ℕ → List Change → List Sel
marks_of text [] = []
marks_of text (c ∷ cs) = sel_at (changed text c) (mark (changed text c) c) ∷ marks_of (changed text c) cs

-- marks and shifts are those of changes of a text, one after another
pub record AreMarked (text : List ℕ) (cs : List Change) (marks : List Sel) (shifts : List Shift) : Type 0 where
  pub stored : IsStored text
  pub steps : AreSteps text cs
  pub shifts_are : AreShiftsOf text cs shifts
  pub marks_are : marks ≡ marks_of text cs

-- there are such a text and such changes
pub record AreOfChanges (marks : List Sel) (shifts : List Shift) : Type 0 where
  pub text : List ℕ
  pub changes : List Change
  pub marked : AreMarked text changes marks shifts

-- a list is the one that changes leave, whatever list there was before
pub record IsLeftBy (text : List ℕ) (cs : List Change) (s : Listed) : Type 0 where
  pub held : IsHeld (all_changed text cs) s
  pub left : (before : Selected) → selected (all_changed text cs) s ≡ left_by text cs before
