-- Changes of a text made one after another, with the shift and the mark of each added to lists.
use Rattle.std.specs.Prelude.{◌≡◌, ℕ, List, ◌++◌}
use Rattle.text_model.specs.declared.coords.Shift.{Shift}
use Rattle.text_model.specs.Texts.{IsStored}
use Rattle.text_model.specs.Changes.{Change, changed, all_changed}
use Rattle.selection_set.specs.declared.sel.Sel.{Sel}
use Rattle.move_marks.specs.Marking.{marks_of}
use Rattle.undo_model.specs.Steps.{IsStep}
use Rattle.buffer_store.specs.Stored.{shift_of, change_shifts}

-- a text, and the shifts and marks of changes that led to it
pub record Trace : Type 0 where
  pub text : List ℕ
  pub shifts : List Shift
  pub marks : List Sel

abbrev pub trace : List ℕ → List Shift → List Sel → Trace
trace text shifts marks = record { text = text; shifts = shifts; marks = marks }

-- a trace behind changes of its text
abbrev pub trace_after : Trace → List Change → Trace
trace_after t cs = record { text = all_changed t.text cs; shifts = t.shifts ++ change_shifts t.text cs; marks = t.marks ++ marks_of t.text cs }

-- a trace is another one behind some changes of its text, from the first on
pub record IsAfterSome (old : Trace) (cs : List Change) (new : Trace) : Type 0 where
  pub done : List Change
  pub left : List Change
  pub are : cs ≡ done ++ left
  pub is_after : new ≡ trace_after old done

-- a text is the one right behind a step, and a shift is that of the step
pub record IsRightBehind (old : List ℕ) (c : Change) (new : List ℕ) (shift : Shift) : Type 0 where
  pub stored : IsStored old
  pub step : IsStep old c
  pub text : new ≡ changed old c
  pub shift_is : shift ≡ shift_of old c

-- there are such a text and such a step
pub record IsBehindAStep (new : List ℕ) (shift : Shift) : Type 0 where
  pub old : List ℕ
  pub change : Change
  pub behind : IsRightBehind old change new shift
