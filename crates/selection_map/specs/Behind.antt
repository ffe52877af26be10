-- Selections that stand each behind a change of its own, through the changes behind that.
use Rattle.std.specs.Prelude.{◌≡◌, ℕ, zero, suc, ◌≤◌, min, Bool, true, not, ◌&&◌, if◌then◌else◌, List, [], ◌∷◌}
use Rattle.text_model.specs.declared.coords.Shift.{Shift}
use Rattle.text_model.specs.Coords.{is_at_most}
use Rattle.text_model.specs.Texts.{IsStored, offset}
use Rattle.selection_set.specs.declared.sel.Sel.{Sel}
use Rattle.selection_set.specs.Inside.{IsInside}
use Rattle.selection_map.specs.declared.reach.ShiftReach.{ShiftReach}
use Rattle.selection_map.specs.declared.walking.ShiftWay.TheVariants.{Rising, Falling}
use Rattle.selection_map.specs.Rebasing.{mapped_sel}
use Rattle.selection_map.specs.Reaching.{goes, through}
use Rattle.selection_map.specs.Walking.{IsRun}
use Rattle.selection_map.specs.Catching.{Step, Lead, shifts_of}

-- each of some shifts begins at or before the begin of the one in front of it, and not behind the last place that this one left
abbrev pub AreFalling : List Shift → Type 0
AreFalling shifts = IsRun Falling shifts

-- none of some shifts begins before the begin of the one in front of it
abbrev pub AreRising : List Shift → Type 0
AreRising shifts = IsRun Rising shifts

-- a selection meets at most n of some shifts, before one begins behind it
abbrev pub meets_few : ℕ → List Shift → Sel → Bool
meets_few n [] sel = true
meets_few zero (s ∷ ss) sel = not (is_at_most s.begin sel.high)
meets_few (suc n) (s ∷ ss) sel = if is_at_most s.begin sel.high then meets_few n ss (mapped_sel s sel) else true

-- each of some selections meets at most two of the shifts behind its own, before one begins behind it
abbrev pub all_meet_few : List Shift → List Sel → Bool
all_meet_few [] sels = true
all_meet_few (s ∷ ss) [] = true
all_meet_few (s ∷ ss) (x ∷ xs) = meets_few 2 ss x && all_meet_few ss xs

-- each of some selections through the shifts behind its own
abbrev pub each_through_rest : List Shift → List Sel → List Sel
each_through_rest [] sels = []
each_through_rest (s ∷ ss) [] = []
each_through_rest (s ∷ ss) (x ∷ xs) = through ss x ∷ each_through_rest ss xs

-- where both ends of a selection go
abbrev pub both_go : ShiftReach → Sel → Sel
both_go w sel = record { low = goes w sel.low; high = goes w sel.high; turned = sel.turned; target = sel.target }

-- a selection lies in the text behind a step, and not before the place where that began
pub record LiesBehind (st : Step) (sel : Sel) : Type 0 where
  pub inside : IsInside st.text sel
  pub behind : min st.move.begin st.move.last ≤ offset st.text sel.low

-- each of some selections lies so behind a step of its own
abbrev pub LieBehind : List Step → List Sel → Type 0
LieBehind [] [] = Unit {0}
LieBehind [] (x ∷ xs) = ⊥
LieBehind (st ∷ sts) [] = ⊥
LieBehind (st ∷ sts) (x ∷ xs) = LiesBehind st x × LieBehind sts xs

-- steps with these shifts lead on from a text, and each has its selection behind it
pub record StandBehind (shifts : List Shift) (sels : List Sel) : Type 0 where
  pub old : List ℕ
  pub steps : List Step
  pub stored : IsStored old
  pub leads : Lead old steps
  pub shifts_are : shifts ≡ shifts_of steps
  pub behind : LieBehind steps sels

-- a selection lies in a text from which steps with these shifts lead on, and these rise
pub record CanGoPast (shifts : List Shift) (sel : Sel) : Type 0 where
  pub text : List ℕ
  pub steps : List Step
  pub stored : IsStored text
  pub leads : Lead text steps
  pub shifts_are : shifts ≡ shifts_of steps
  pub inside : IsInside text sel
  pub rise : AreRising shifts
