-- What is stored of selection lists, and that a step leaves what others have stored.
use Rattle.std.specs.Prelude.{◌≡◌, ℕ, Bool, true, false, List, slice_index_or, [], ◌∷◌, Option, Some, None}
use Rattle.list_shelf.specs.declared.holder.Holder.{Holder}
use Rattle.list_shelf.specs.declared.holder.Holder.TheVariants.{Of}
use Rattle.change_list.specs.declared.log.TheConstants.{MAX_STAMP}
use Rattle.list_shelf.specs.Shelves.{Shelved, empty_shelf, same_holder, has_row, LeavesRow}
use Rattle.kak_world.specs.declared.since.Since.{Since}

-- the lists on a buffer as they are stored, and what became of the buffer since a step began
pub record Stored : Type 0 where
  pub shelf : Shelved
  pub since : Since

-- a step that began: whose it is, and the lists as they were stored then, on each buffer by its number
pub record Began : Type 0 where
  pub who : ℕ
  pub stored : List (Option Stored)

-- a step may be a client's: it is, where it is said whose it is
abbrev pub IsStepOf : ℕ → Option Began → Type 0
IsStepOf who None = Unit {0}
IsStepOf who (Some began) = who ≡ began.who

-- the turn is nobody's or that client's
abbrev pub IsTurnAtMost : ℕ → Option ℕ → Type 0
IsTurnAtMost who None = Unit {0}
IsTurnAtMost who (Some number) = number ≡ who

-- a buffer that was just opened, and one of which nothing became since
abbrev pub just_opened : Since
just_opened = record { is_new = true; began_again = false }

abbrev pub nothing_since : Since
nothing_since = record { is_new = false; began_again = false }

-- what is stored before anything happened: one buffer, with nobody's list on it
abbrev pub first_stored : List (Option Stored)
first_stored = Some (record { shelf = empty_shelf MAX_STAMP; since = just_opened }) ∷ []

-- behind shifts, which were noted behind those before, or else the log began again
abbrev pub since_behind : Bool → Since → Since
since_behind true since = since
since_behind false since = record since { began_again = true }

-- all lists on a buffer are left as they are stored but those of some holders, and nothing further became of it
pub record LeavesBut (mine : Holder → Bool) (old new : Stored) : Type 0 where
  pub since : new.since ≡ old.since
  pub rows : (other : Holder) → mine other ≡ false → has_row other old.shelf ≡ true → LeavesRow other old.shelf new.shelf

-- nobody is such a holder
abbrev pub is_nobody : Holder → Bool
is_nobody holder = false

-- so it is with the lists of others, as long as the buffer wasn't opened in the step, and its log didn't begin again
abbrev pub Leaves : Holder → Stored → Stored → Type 0
Leaves holder old new = new.since.is_new ≡ false → new.since.began_again ≡ false → LeavesBut (same_holder holder) old new

-- the lists of others are as they were stored when a step began, on a buffer that was there then and wasn't opened since, and
-- whose log didn't begin again
abbrev pub LeavesOthersIn : ℕ → Shelved → Stored → Type 0
LeavesOthersIn who old new = new.since.is_new ≡ false → new.since.began_again ≡ false
    → (other : Holder) → same_holder (Of who) other ≡ false → has_row other old ≡ true → LeavesRow other old new.shelf

-- where there was a buffer, and there is one
abbrev pub LeavesSlot : ℕ → Option Stored → Option Stored → Type 0
LeavesSlot who None new = Unit {0}
LeavesSlot who (Some old) None = Unit {0}
LeavesSlot who (Some old) (Some new) = LeavesOthersIn who old.shelf new

-- and so on each buffer, by its number
abbrev pub LeavesOthersOf : ℕ → List (Option Stored) → List (Option Stored) → Type 0
LeavesOthersOf who before after = (n : ℕ) → LeavesSlot who (slice_index_or before n None) (slice_index_or after n None)

-- what others had stored when a step began is left so, where it is said what they had
abbrev pub LeavesSince : Option Began → List (Option Stored) → Type 0
LeavesSince None after = Unit {0}
LeavesSince (Some began) after = LeavesOthersOf began.who began.stored after
