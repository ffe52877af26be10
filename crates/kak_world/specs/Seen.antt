-- How the flat world is seen in the state that the code keeps.
use Rattle.std.specs.Prelude.{◌≡◌, ℕ, ◌≤◌, Bool, true, false, List, ◌++◌, length, map, option_map, slice_index_or, Some, None, IfSome}
use Rattle.std.specs.List.{AllByRecursion}
use Rattle.std.specs.declared.option.Option.{Option}
use Rattle.std.specs.declared.result.Result.{Result}
use Rattle.std.specs.Prelude.{Ok, Err}
use Rattle.tables.specs.Tables.{first_where}
use Rattle.undo_model.specs.Stories.{Story}
use Rattle.change_list.specs.declared.log.TheConstants.{MAX_STAMP}
use Rattle.list_shelf.specs.declared.holder.Holder.{Holder}
use Rattle.list_shelf.specs.declared.holder.Holder.TheVariants.{Of}
use Rattle.list_shelf.specs.declared.rows.ShelfRow.{ShelfRow}
use Rattle.list_shelf.specs.Shelves.{Shelved, empty_shelf, lists_in, Stands, IsUp, KeepsUp, IsTrimmed}
use Rattle.kak_world.specs.declared.clients.Client.{Client}
use Rattle.kak_world.specs.Settled.{SlotIsSettled}
use Rattle.kak_world.specs.declared.since.Since.{Since}
use Rattle.kak_world.specs.Stored.{Stored, Began, just_opened, nothing_since, Leaves, LeavesOthersOf, IsTurnAtMost}
use Rattle.kak_world.specs.Flat.{Buffer, Flat, made_buffer, is_of, is_here, newcomer, lowest, is_there}

-- a buffer, by its name, whether that is a file's, its story, and the shelf of the lists on it: each list is seen as if it had been moved
-- at every change
abbrev pub buffer_seen : List ℕ → Bool → Story → Shelved → Buffer
buffer_seen name is_file story shelf = record { name = name; is_file = is_file; story = story; lists = lists_in story.text shelf }

-- a buffer as it is kept: as the flat world has it, its lists as they are stored, with the log of the changes that they missed, and
-- what became of it since a step began
pub record KeptBuffer : Type 0 where
  pub seen : Buffer
  pub shelf : Shelved
  pub since : Since

abbrev pub buffer_kept : List ℕ → Bool → Story → Shelved → Since → KeptBuffer
buffer_kept name is_file story shelf since = record { seen = buffer_seen name is_file story shelf; shelf = shelf; since = since }

-- a buffer that was just opened with a text, with nobody's list on it
abbrev pub buffer_made : List ℕ → Bool → List ℕ → KeptBuffer
buffer_made name is_file text = record { seen = made_buffer name is_file text; shelf = empty_shelf MAX_STAMP; since = just_opened }

-- a buffer that is seen otherwise, with its lists as they are stored
abbrev pub with_seen : (Buffer → Buffer) → KeptBuffer → KeptBuffer
with_seen f b = record { seen = f b.seen; shelf = b.shelf; since = b.since }

-- what is stored of it
abbrev pub stored_of : KeptBuffer → Stored
stored_of b = record { shelf = b.shelf; since = b.since }

abbrev pub all_stored : List (Option KeptBuffer) → List (Option Stored)
all_stored buffers = map (option_map stored_of) buffers

-- a shelf is that of a text, and its log holds no shift that no list has yet to go through
pub record IsShelfOf (text : List ℕ) (shelf : Shelved) : Type 0 where
  pub stands : Stands text shelf
  pub trimmed : IsTrimmed shelf

-- lists were added behind those of a shelf, as a function does it with the buffer that they are on, whatever else is said of the buffer
pub record IsListedBy (f : Buffer → Buffer) (text : List ℕ) (old new : Shelved) : Type 0 where
  pub added : List ShelfRow
  pub behind : new ≡ record old { rows = old.rows ++ added }
  pub seen : (name : List ℕ) (file : Bool) (story : Story) → story.text ≡ text → buffer_seen name file story new ≡ f (buffer_seen name file story old)
  pub shelf : IsShelfOf text new
  pub up : KeepsUp old new

-- a buffer as the flat world has it, where there is one, and all buffers
abbrev pub slot_seen : Option KeptBuffer → Option Buffer
slot_seen slot = option_map (λ b. b.seen) slot

abbrev pub all_seen : List (Option KeptBuffer) → List (Option Buffer)
all_seen buffers = map slot_seen buffers

-- a holder's list on a buffer is up to date, where there is a buffer, and the holder has a list on it
abbrev pub SlotIsUp : Holder → Option KeptBuffer → Type 0
SlotIsUp holder slot = IfSome slot (λ b. IsUp holder b.shelf)

-- each list on a buffer that was up to date is so still
abbrev pub SlotKeepsUp : Option KeptBuffer → Option KeptBuffer → Type 0
SlotKeepsUp old new = (holder : Holder) → SlotIsUp holder old → SlotIsUp holder new

-- and so on each buffer
abbrev pub AllKeepUp : List (Option KeptBuffer) → List (Option KeptBuffer) → Type 0
AllKeepUp old new = (n : ℕ) → SlotKeepsUp (slice_index_or old n None) (slice_index_or new n None)

-- the list of whose turn it is is up to date on the buffer that it sees
abbrev pub TurnIsUp : Option ℕ → List Client → List (Option KeptBuffer) → Type 0
TurnIsUp turn clients buffers = (who : ℕ) → turn ≡ Some who → is_here who clients ≡ true → SlotIsUp (Of who) (slice_index_or buffers (first_where (is_of who) (newcomer who 0 0) clients).shown None)

-- what others have on a buffer is left as it is stored: where the buffer is there still, it was there, or it was opened in the step
abbrev pub SlotLeaves : Holder → Option KeptBuffer → Option KeptBuffer → Type 0
SlotLeaves holder old None = Unit {0}
SlotLeaves holder None (Some new) = new.since.is_new ≡ false → new.since.began_again ≡ false → ⊥
SlotLeaves holder (Some old) (Some new) = Leaves holder (stored_of old) (stored_of new)

-- and so on each buffer
abbrev pub AllLeave : Holder → List (Option KeptBuffer) → List (Option KeptBuffer) → Type 0
AllLeave holder old new = (n : ℕ) → SlotLeaves holder (slice_index_or old n None) (slice_index_or new n None)

-- a step under way: the turn is that of the client whose step it is, or nobody's, and what others had when it began is left as it was stored
pub record StepStands (began : Began) (now : Option ℕ) (buffers : List (Option KeptBuffer)) : Type 0 where
  pub turn : IsTurnAtMost began.who now
  pub others : LeavesOthersOf began.who began.stored (all_stored buffers)

-- where something is said of the step
abbrev pub IsInStep : Option Began → Option ℕ → List (Option KeptBuffer) → Type 0
IsInStep None turn buffers = Unit {0}
IsInStep (Some began) turn buffers = StepStands began turn buffers

-- a buffer with which a step begins: nothing became of it since
abbrev pub begun_in : KeptBuffer → KeptBuffer
begun_in b = record { seen = b.seen; shelf = b.shelf; since = nothing_since }

-- nothing became of a buffer since the step began, where there is one, and of none of them
abbrev pub SlotIsCalm : Option KeptBuffer → Type 0
SlotIsCalm slot = IfSome slot (λ b. b.since ≡ nothing_since)

abbrev pub AreCalm : List (Option KeptBuffer) → Type 0
AreCalm buffers = AllByRecursion SlotIsCalm buffers

-- some buffer is there, and their numbers are below 1,024
pub record HasBuffer (buffers : List (Option Buffer)) : Type 0 where
  pub some : is_there (lowest buffers) buffers ≡ true
  pub few : length buffers ≤ 1024

-- nothing is pending in a buffer, where there is one
abbrev pub SlotIsQuiet : Option Buffer → Type 0
SlotIsQuiet slot = IfSome slot (λ b. b.story.group ≡ None)

-- nothing is pending in any buffer
abbrev pub AreQuiet : List (Option Buffer) → Type 0
AreQuiet buffers = AllByRecursion SlotIsQuiet buffers

-- the same of a buffer as it is kept, and that its lists are settled
abbrev pub KeptIsQuiet : Option KeptBuffer → Type 0
KeptIsQuiet slot = SlotIsQuiet (slot_seen slot)

abbrev pub KeptIsSettled : Option KeptBuffer → Type 0
KeptIsSettled slot = SlotIsSettled (slot_seen slot)

-- buffers as a world keeps them, which knows in what step it is, where nothing is pending, where nothing became of them since that
-- began, and whose turn it is
pub record BuffersStand (began : Option Began) (may_pend may_differ : Bool) (turn : Option ℕ) (clients : List Client) (buffers : List (Option KeptBuffer)) : Type 0 where
  pub has : HasBuffer (all_seen buffers)
  pub quiet : may_pend ≡ false → AreQuiet (all_seen buffers)
  pub calm : may_differ ≡ false → AreCalm buffers
  pub up : TurnIsUp turn clients buffers
  pub step : IsInStep began turn buffers

-- the world as contracts see it: the flat world, and what is stored of the lists on each buffer, by its number
pub record Kept : Type 0 where
  pub flat : Flat
  pub stored : List (Option Stored)

-- an answer without a value, with this value where it is well
abbrev pub CarriesValue : {T E : Type 0} → Result (Unit {0}) E → T → Result T E → Type 0
CarriesValue (Ok done) x r = r ≡ Ok x
CarriesValue (Err e) x r = r ≡ Err e

-- an answer of which a second one, for which memory may have been wanting, has a part: the first error counts
abbrev pub and_then : {E A : Type 0} → E → Result (Unit {0}) E → Result (Unit {0}) A → Result (Unit {0}) E
and_then wanting (Err e) second = Err e
and_then wanting (Ok done) (Ok noted) = Ok done
and_then wanting (Ok done) (Err e) = Err wanting
