-- Laws of walks, each proved as the contract of a function of `laws`.
use Rattle.std.specs.Prelude.{◌≡◌, ℕ, ◌≤◌, min, List, [], ◌∷◌, ◌++◌}
use Rattle.text_model.specs.declared.coords.Shift.{Shift}
use Rattle.text_model.specs.Texts.{IsStored}
use Rattle.text_model.specs.Changes.{Change, changed, all_changed, Move, move_of, IsShift}
use Rattle.selection_map.specs.declared.walking.ShiftWay.TheVariants.{Rising, Falling}
use Rattle.list_model.specs.Ranges.{Selected}
use Rattle.selection_map.specs.Walking.{IsRun}
use Rattle.selection_set.specs.Listing.{Listed}
use Rattle.selection_set.specs.Held.{IsHeld}
use Rattle.selection_map.specs.Catching.{Step, Lead, text_after, shifts_of, moves_of, CanCatchUp, IsCatchable, eager, IsCaughtUp, steps_by, AreShiftsOf, eager_by, IsCaughtUpBy}

-- by offsets: no change begins before the one in front of it did
abbrev pub BeginsRise : List Move → Type 0
BeginsRise [] = Unit {0}
BeginsRise (m ∷ []) = Unit {0}
BeginsRise (m ∷ (n ∷ ns)) = (m.begin ≤ n.begin) × BeginsRise (n ∷ ns)

-- by offsets: no change begins behind the place where the one in front of it did, nor behind the last place of its text
abbrev pub BeginsFall : List Move → Type 0
BeginsFall [] = Unit {0}
BeginsFall (m ∷ []) = Unit {0}
BeginsFall (m ∷ (n ∷ ns)) = (n.begin ≤ min m.begin m.last) × BeginsFall (n ∷ ns)

-- changes whose begins rise, or fall, are one run, so a list walks through them once
pub record ChangesMakeOneRun : Type 0 where
  pub rising : (old : List ℕ) (steps : List Step) → IsStored old → Lead old steps → BeginsRise (moves_of steps) → IsRun Rising (shifts_of steps)
  pub falling : (old : List ℕ) (steps : List Step) → IsStored old → Lead old steps → BeginsFall (moves_of steps) → IsRun Falling (shifts_of steps)

-- single changes of a text with their shifts are steps, with the same last text and the same eager rule
pub record ChangesAreSteps : Type 0 where
  pub lead : (text : List ℕ) (cs : List Change) (ss : List Shift) → AreShiftsOf text cs ss → Lead text (steps_by text cs ss)
  pub shifts : (text : List ℕ) (cs : List Change) (ss : List Shift) → AreShiftsOf text cs ss → ss ≡ shifts_of (steps_by text cs ss)
  pub last_text : (text : List ℕ) (cs : List Change) (ss : List Shift) → AreShiftsOf text cs ss → text_after text (steps_by text cs ss) ≡ all_changed text cs
  pub rule : (text : List ℕ) (cs : List Change) (ss : List Shift) (s : Selected) → AreShiftsOf text cs ss → eager (moves_of (steps_by text cs ss)) s ≡ eager_by text cs s

-- a list catches up with single changes of a text by their shifts, also where these come one by one
pub record ListsCatchUp : Type 0 where
  pub one_more : (text : List ℕ) (cs : List Change) (ss : List Shift) (c : Change) (s : Shift) → AreShiftsOf text cs ss → IsStored (changed (all_changed text cs) c)
      → IsShift (all_changed text cs) (changed (all_changed text cs) c) s (move_of (all_changed text cs) c) → AreShiftsOf text (cs ++ c ∷ []) (ss ++ s ∷ [])
  pub in_parts : (text : List ℕ) (cs ds : List Change) (s : Selected) → eager_by text (cs ++ ds) s ≡ eager_by (all_changed text cs) ds (eager_by text cs s)
  pub catchable : (text : List ℕ) (cs : List Change) (ss : List Shift) (s : Listed) → IsStored text → AreShiftsOf text cs ss → IsHeld text s → IsCatchable ss s
  pub caught : (text : List ℕ) (cs : List Change) (ss : List Shift) (before now : Listed)
      → ((old : List ℕ) (steps : List Step) → CanCatchUp old steps ss before → IsCaughtUp old steps before now)
      → IsStored text → AreShiftsOf text cs ss → IsHeld text before → IsCaughtUpBy text cs before now
