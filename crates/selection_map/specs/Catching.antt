-- How a list that is held in a text catches up with the text after many changes.
use Rattle.std.specs.Prelude.{◌≡◌, ℕ, List, [], ◌∷◌}
use Rattle.text_model.specs.declared.coords.Shift.{Shift}
use Rattle.text_model.specs.Texts.{IsStored}
use Rattle.text_model.specs.Changes.{Change, changed, all_changed, Move, move_of, IsShift}
use Rattle.text_model.specs.Mapping.{shifted}
use Rattle.list_model.specs.Ranges.{Selected}
use Rattle.list_model.specs.Settling.{each_settled, carried}
use Rattle.selection_set.specs.Listing.{Listed}
use Rattle.selection_set.specs.Held.{selected, IsHeld}

-- a single change: its shift, its offsets, and the text after it
pub record Step : Type 0 where
  pub shift : Shift
  pub move : Move
  pub text : List ℕ

-- a step leads on from a text: to one that can be kept, and its shift is that of the change between the two
pub record LeadsOn (old : List ℕ) (st : Step) : Type 0 where
  pub stored : IsStored st.text
  pub shift_is : IsShift old st.text st.shift st.move

-- steps lead on from a text, one after another
abbrev pub Lead : List ℕ → List Step → Type 0
Lead old [] = Unit {0}
Lead old (st ∷ sts) = LeadsOn old st × Lead st.text sts

-- the text after steps
abbrev pub text_after : List ℕ → List Step → List ℕ
text_after old [] = old
text_after old (st ∷ sts) = text_after st.text sts

-- the shifts of steps
abbrev pub shifts_of : List Step → List Shift
shifts_of [] = []
shifts_of (st ∷ sts) = st.shift ∷ shifts_of sts

-- the offsets of steps
abbrev pub moves_of : List Step → List Move
moves_of [] = []
moves_of (st ∷ sts) = st.move ∷ moves_of sts

-- a list is held in a text, and steps with these shifts lead on from that text
pub record CanCatchUp (old : List ℕ) (steps : List Step) (shifts : List Shift) (s : Listed) : Type 0 where
  pub stored : IsStored old
  pub leads : Lead old steps
  pub shifts_are : shifts ≡ shifts_of steps
  pub held : IsHeld old s

-- there are such a text and such steps
pub record IsCatchable (shifts : List Shift) (s : Listed) : Type 0 where
  pub old : List ℕ
  pub steps : List Step
  pub can : CanCatchUp old steps shifts s

-- the eager rule: a list is carried and settled at each of some changes
abbrev pub eager : List Move → Selected → Selected
eager [] s = s
eager (m ∷ ms) s = eager ms (each_settled (carried (shifted m)) s)

-- a list has caught up: it is held in the text after the steps, where it is what the eager rule makes of it
pub record IsCaughtUp (old : List ℕ) (steps : List Step) (before now : Listed) : Type 0 where
  pub held : IsHeld (text_after old steps) now
  pub moved : selected (text_after old steps) now ≡ eager (moves_of steps) (selected old before)

-- the steps of single changes of a text with their shifts
abbrev pub steps_by : List ℕ → List Change → List Shift → List Step
steps_by text [] ss = []
steps_by text (c ∷ cs) [] = []
steps_by text (c ∷ cs) (s ∷ ss) = (record { shift = s; move = move_of text c; text = changed text c }) ∷ steps_by (changed text c) cs ss

-- shifts are those of single changes of a text, one after another, each of which leaves a text that can be kept
abbrev pub AreShiftsOf : List ℕ → List Change → List Shift → Type 0
AreShiftsOf text [] [] = Unit {0}
AreShiftsOf text [] (s ∷ ss) = ⊥
AreShiftsOf text (c ∷ cs) [] = ⊥
AreShiftsOf text (c ∷ cs) (s ∷ ss) = IsStored (changed text c) × IsShift text (changed text c) s (move_of text c) × AreShiftsOf (changed text c) cs ss

-- the eager rule for single changes of a text
abbrev pub eager_by : List ℕ → List Change → Selected → Selected
eager_by text [] s = s
eager_by text (c ∷ cs) s = eager_by (changed text c) cs (each_settled (carried (shifted (move_of text c))) s)

-- a list has caught up with single changes of a text
pub record IsCaughtUpBy (text : List ℕ) (cs : List Change) (before now : Listed) : Type 0 where
  pub held : IsHeld (all_changed text cs) now
  pub moved : selected (all_changed text cs) now ≡ eager_by text cs (selected text before)
