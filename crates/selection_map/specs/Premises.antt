-- What a walk stands on: texts of which its coordinates are places. The functions of the walk need them for their bounds.
use Rattle.std.specs.Prelude.{◌≡◌, ℕ, ◌<◌, ◌≤◌, ◌+◌, ◌-◌, min, true, List, [], ◌∷◌, length, drop}
use Rattle.text_model.specs.declared.coords.Coord.{Coord}
use Rattle.text_model.specs.declared.coords.Shift.{Shift}
use Rattle.text_model.specs.Coords.{is_at_most}
use Rattle.text_model.specs.Texts.{IsStored, coord_at, last_place}
use Rattle.list_model.specs.Ranges.{Range}
use Rattle.selection_set.specs.declared.sel.Sel.{Sel}
use Rattle.selection_set.specs.Listing.{ranges_of, AreInside}
use Rattle.selection_map.specs.declared.reach.ShiftReach.{ShiftReach}
use Rattle.selection_map.specs.declared.walking.ShiftWay.{ShiftWay}
use Rattle.selection_map.specs.declared.walking.ShiftWay.TheVariants.{Rising, Falling}
use Rattle.selection_map.specs.declared.walking.Walk.{Walk}
use Rattle.selection_map.specs.Rebasing.{mapped}
use Rattle.selection_map.specs.Reaching.{goes, all_mapped}
use Rattle.selection_map.specs.Walking.{queue, bound, IsRun}
use Rattle.selection_map.specs.Catching.{Step, LeadsOn, Lead, shifts_of}

-- two texts that are the same behind an offset of each
pub record IsTied (old new : List ℕ) (f t : ℕ) : Type 0 where
  pub from_in : f ≤ length old
  pub onto_in : t ≤ length new
  pub same : drop f old ≡ drop t new

-- a way leads from one text to another, which are the same behind an offset of each
pub record ReachStands (old new : List ℕ) (w : ShiftReach) (f t : ℕ) : Type 0 where
  pub tied : IsTied old new f t
  pub from_is : w.from ≡ coord_at old f
  pub onto_is : w.onto ≡ coord_at new t
  pub put_is : w.put ≡ coord_at new (min t (last_place new))

-- the offset to which an offset goes then, cut to the last place
abbrev pub spot : List ℕ → ℕ → ℕ → ℕ → ℕ
spot new f t o = min (t + (o - f)) (last_place new)

-- each shift that is still to be passed may follow the one passed before it
abbrev pub IsQueue : ShiftWay → Coord → List Shift → Type 0
IsQueue way at [] = Unit {0}
IsQueue way at (s ∷ ss) = (is_at_most at (bound way s) ≡ true) × IsQueue way s.begin ss

-- a walk through rising shifts: what is left to do for each end to come makes the whole
pub record IsRising (first : List ℕ) (all : List Shift) (lower : ℕ) (w : ShiftReach) (rest : List Shift) : Type 0 where
  pub text : List ℕ
  pub steps : List Step
  pub f : ℕ
  pub t : ℕ
  pub behind : Coord
  pub stored : IsStored text
  pub stands : ReachStands first text w f t
  pub leads : Lead text steps
  pub rest_is : rest ≡ shifts_of steps
  pub rise : IsQueue Rising behind rest
  pub right : (o : ℕ) → lower ≤ o → o < length first → all_mapped rest (goes w (coord_at first o)) ≡ all_mapped all (coord_at first o)

-- the text behind steps that are listed in reverse order
abbrev pub text_behind : List ℕ → List Step → List ℕ
text_behind old [] = old
text_behind old (st ∷ sts) = st.text

-- steps that are listed in reverse order lead on from a text
abbrev pub LeadBack : List ℕ → List Step → Type 0
LeadBack old [] = Unit {0}
LeadBack old (st ∷ sts) = LeadsOn (text_behind old sts) st × LeadBack old sts

-- where a coordinate goes through shifts in reverse order
abbrev pub mapped_back : List Shift → Coord → Coord
mapped_back [] at = at
mapped_back (s ∷ ss) at = mapped s (mapped_back ss at)

-- a walk through falling shifts: the shifts passed are the last ones
pub record IsFalling (first : List ℕ) (all : List Shift) (lower : ℕ) (w : ShiftReach) (rest : List Shift) : Type 0 where
  pub newest : List ℕ
  pub steps : List Step
  pub done : List Shift
  pub f : ℕ
  pub t : ℕ
  pub floor : ℕ
  pub behind : Coord
  pub stored : IsStored newest
  pub stands : ReachStands (text_behind first steps) newest w f t
  pub leads : LeadBack first steps
  pub rest_is : rest ≡ shifts_of steps
  pub fall : IsQueue Falling behind rest
  pub behind_is : behind ≡ coord_at (text_behind first steps) floor
  pub floor_in : floor ≤ length (text_behind first steps)
  pub low : is_at_most behind (coord_at first lower) ≡ true
  pub right : (o : ℕ) → floor ≤ o → o < length (text_behind first steps) → goes w (coord_at (text_behind first steps) o) ≡ all_mapped done (coord_at (text_behind first steps) o)
  pub whole : (at : Coord) → all_mapped all at ≡ all_mapped done (mapped_back rest at)

-- a walk that is underway from a text, behind all ends before an offset
abbrev pub IsWalkReady : ShiftWay → List ℕ → List Shift → ℕ → ShiftReach → List Shift → Type 0
IsWalkReady Rising first all lower w rest = IsRising first all lower w rest
IsWalkReady Falling first all lower w rest = IsFalling first all lower w rest

-- a walk of the code that is underway
pub record IsWalking (way : ShiftWay) (first : List ℕ) (shifts : List Shift) (lower : ℕ) (walk : Walk) : Type 0 where
  pub ready : IsWalkReady way first shifts lower walk.reach (drop walk.passed (queue way shifts))
  pub few : walk.passed ≤ length shifts

-- a walk can go on to an end
pub record CanAdvance (way : ShiftWay) (shifts : List Shift) (walk : Walk) (at : Coord) : Type 0 where
  pub first : List ℕ
  pub lower : ℕ
  pub o : ℕ
  pub stored : IsStored first
  pub walking : IsWalking way first shifts lower walk
  pub behind : lower ≤ o
  pub inside : o < length first
  pub at_is : at ≡ coord_at first o

-- the ends of ranges, one after another, don't fall
abbrev pub EndsRise : ℕ → List Range → Type 0
EndsRise from [] = Unit {0}
EndsRise from (r ∷ rs) = (from ≤ r.low) × (r.low ≤ r.high) × EndsRise r.high rs

-- a list lies in a text with its ends in order, and steps with these shifts lead on from that text
pub record CanGo (old : List ℕ) (steps : List Step) (shifts : List Shift) (list : List Sel) : Type 0 where
  pub stored : IsStored old
  pub leads : Lead old steps
  pub shifts_are : shifts ≡ shifts_of steps
  pub inside : AreInside old list
  pub ends : EndsRise 0 (ranges_of old list)

-- there are such a text and such steps
pub record CanGoOn (shifts : List Shift) (list : List Sel) : Type 0 where
  pub old : List ℕ
  pub steps : List Step
  pub can : CanGo old steps shifts list

-- and the shifts go one way
pub record CanWalk (way : ShiftWay) (shifts : List Shift) (list : List Sel) : Type 0 where
  pub old : List ℕ
  pub steps : List Step
  pub can : CanGo old steps shifts list
  pub run : IsRun way shifts

-- a walk can go on over the selections that are left
pub record CanWalkOver (way : ShiftWay) (shifts : List Shift) (walk : Walk) (list : List Sel) : Type 0 where
  pub first : List ℕ
  pub lower : ℕ
  pub stored : IsStored first
  pub walking : IsWalking way first shifts lower walk
  pub inside : AreInside first list
  pub ends : EndsRise lower (ranges_of first list)
