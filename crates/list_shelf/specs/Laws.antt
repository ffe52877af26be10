-- Laws of lists that lag and of shelves, each proved as the contract of a function of `laws`.
use Rattle.std.specs.Prelude.{◌≡◌, ℕ, ◌+◌, ◌<◌, ◌≤◌, ◌⊎◌, true, false, List, [], ◌∷◌, ◌++◌, length, map, not, filter}
use Rattle.std.specs.List.{AllByRecursion}
use Rattle.tables.specs.Tables.{first_where, changed_where, with_row}
use Rattle.text_model.specs.declared.coords.Shift.{Shift}
use Rattle.text_model.specs.Texts.{IsStored}
use Rattle.text_model.specs.Changes.{Change, all_changed}
use Rattle.selection_set.specs.Listing.{Listed}
use Rattle.selection_set.specs.Held.{selected, IsHeld}
use Rattle.selection_map.specs.Catching.{AreShiftsOf, eager_by, IsCaughtUpBy}
use Rattle.change_list.specs.Logs.{Logged, stamp_of, fresh, pushed}
use Rattle.list_shelf.specs.declared.holder.Holder.{Holder}
use Rattle.list_shelf.specs.declared.lag.Lag.{Lag}
use Rattle.list_shelf.specs.declared.rows.ShelfRow.{ShelfRow}
use Rattle.window_view.specs.declared.corner.Corner.{Corner}
use Rattle.list_shelf.specs.Lagging.{caught, seen_by, up_to_date, Lags}
use Rattle.list_shelf.specs.Shelves.{same_holder, Shelved, empty_shelf, has_row, row_of, changed_for, with_corner, brought_up, entered, IsUp, KeepsUp, LeavesOthers, IsTrimmed, with_sels, with_main, listed, unlisted, begun_again, with_shift, noted, all_noted, all_moved, trimmed_shelf, Held, lists_in, is_held_by, list_moved, Stands, StandsWith}

-- one list
pub record CatchingLaws : Type 0 where
  -- a list that is carried through all of some changes and settled once is the one that is carried and settled at each of them: it is
  -- held in the text after them, with the same flags, targets and main selection
  pub once_for_each : (text : List ℕ) (cs : List Change) (ss : List Shift) (s : Listed) → IsStored text → AreShiftsOf text cs ss → IsHeld text s → IsCaughtUpBy text cs s (caught ss s)
  -- in parts it comes to the same list, to the last coordinate
  pub in_parts : (text : List ℕ) (cs ds : List Change) (ss ts : List Shift) (s : Listed) → IsStored text → AreShiftsOf text cs ss → AreShiftsOf (all_changed text cs) ds ts → IsHeld text s → caught ts (caught ss s) ≡ caught (ss ++ ts) s
  -- through no shifts it stays
  pub through_none : (text : List ℕ) (s : Listed) → IsStored text → IsHeld text s → caught [] s ≡ s
  -- what a list that lags is seen as is held in the text
  pub held : (text : List ℕ) (log : Logged) (lag : Lag) → Lags text log lag → IsHeld text (seen_by log lag)
  -- and is what the eager rule makes of it, from the text of its stamp on
  pub eager : (text : List ℕ) (log : Logged) (lag : Lag) (l : Lags text log lag) → selected text (seen_by log lag) ≡ eager_by l.old l.changes (selected l.old lag.sels)
  -- a list at the log's stamp is seen as it stands
  pub as_it_stands : (text : List ℕ) (log : Logged) (lag : Lag) → Lags text log lag → lag.stamp ≡ stamp_of log → seen_by log lag ≡ lag.sels
  -- bringing it up to date leaves what it is seen as
  pub up_to_date : (text : List ℕ) (log : Logged) (lag : Lag) → Lags text log lag → Lags text log (up_to_date log lag) × (seen_by log (up_to_date log lag) ≡ seen_by log lag)

-- a shelf follows single changes of its text by their shifts: it is the new text's, and each list on it is what the eager rule makes
-- of it, whoever holds it
pub record FollowingLaws : Type 0 where
  pub noted : (text : List ℕ) (cs : List Change) (ss : List Shift) (shelf : Shelved) → AreShiftsOf text cs ss → Stands text shelf → StandsWith (all_changed text cs) (all_noted ss shelf) (map (list_moved text cs) (lists_in text shelf))
  -- so it is where the shifts can't be noted
  pub not_noted : (text : List ℕ) (cs : List Change) (ss : List Shift) (shelf : Shelved) → AreShiftsOf text cs ss → Stands text shelf → StandsWith (all_changed text cs) (all_moved ss shelf) (map (list_moved text cs) (lists_in text shelf))

-- all lists stand at a stamp
abbrev pub AllStandAt : ℕ → List ShelfRow → Type 0
AllStandAt stamp rows = AllByRecursion (λ (row : ShelfRow). row.lag.stamp ≡ stamp) rows

-- as many letters are typed as a log holds, and one more: until then each list stands where it stood; then the log holds the one shift
-- alone, from stamp 0 on, each list stands at stamp 0, and one that is brought up to date is the eager one, as all others are seen
pub record PastTheLimit : Type 0 where
  pub until_then : (ss : List Shift) (shelf : Shelved) → shelf.log ≡ fresh → length ss ≡ shelf.limit → (all_noted ss shelf).rows ≡ shelf.rows
  pub log : (ss : List Shift) (s : Shift) (shelf : Shelved) → shelf.log ≡ fresh → length ss ≡ shelf.limit → (all_noted (ss ++ s ∷ []) shelf).log ≡ record { first = 0; shifts = s ∷ [] }
  pub stamps : (ss : List Shift) (s : Shift) (shelf : Shelved) → shelf.log ≡ fresh → length ss ≡ shelf.limit → AllStandAt 0 (all_noted (ss ++ s ∷ []) shelf).rows
  pub eager : (text : List ℕ) (cs : List Change) (ss : List Shift) (holder : Holder) (shelf : Shelved) → AreShiftsOf text cs ss → Stands text shelf
      → lists_in (all_changed text cs) (brought_up holder (all_noted ss shelf)) ≡ map (list_moved text cs) (lists_in text shelf)

-- what is done with a shelf, and not with its text
pub record StandingLaws : Type 0 where
  pub empty : (text : List ℕ) (limit : ℕ) → StandsWith text (empty_shelf limit) []
  pub brought_up : (text : List ℕ) (holder : Holder) (shelf : Shelved) → Stands text shelf → StandsWith text (brought_up holder shelf) (lists_in text shelf)
  pub begun_again : (text : List ℕ) (shelf : Shelved) → Stands text shelf → StandsWith text (begun_again shelf) (lists_in text shelf)
  pub trimmed : (text : List ℕ) (shelf : Shelved) → Stands text shelf → StandsWith text (trimmed_shelf shelf) (lists_in text shelf)
  pub replaced : (text : List ℕ) (holder : Holder) (s : Listed) (shelf : Shelved) → IsStored text → IsHeld text s → Stands text shelf
      → StandsWith text (with_sels holder s shelf) (changed_where (is_held_by holder) (λ list. record { holder = list.holder; sels = selected text s; corner = list.corner }) (lists_in text shelf))
  pub other_main : (text : List ℕ) (holder : Holder) (n : ℕ) (shelf : Shelved) → has_row holder shelf ≡ true → (row_of holder shelf).lag.stamp ≡ stamp_of shelf.log → n < length (row_of holder shelf).lag.sels.list → Stands text shelf
      → StandsWith text (with_main holder n shelf) (changed_where (is_held_by holder) (λ list. record { holder = list.holder; sels = record { list = list.sels.list; main = n }; corner = list.corner }) (lists_in text shelf))
  pub added : (text : List ℕ) (holder : Holder) (s : Listed) (corner : Corner) (shelf : Shelved) → IsStored text → IsHeld text s → Stands text shelf
      → StandsWith text (listed holder s corner shelf) (with_row (is_held_by holder) (record { holder = holder; sels = selected text s; corner = corner }) (lists_in text shelf))
  pub other_corner : (text : List ℕ) (holder : Holder) (corner : Corner) (shelf : Shelved) → Stands text shelf
      → StandsWith text (with_corner holder corner shelf) (changed_where (is_held_by holder) (λ list. record { holder = list.holder; sels = list.sels; corner = corner }) (lists_in text shelf))
  pub entered : (text : List ℕ) (holder : Holder) (shelf : Shelved) → Stands text shelf → StandsWith text (entered holder shelf) (lists_in text shelf)
  pub dropped : (text : List ℕ) (holder : Holder) (shelf : Shelved) → Stands text shelf → StandsWith text (unlisted holder shelf) (filter (λ list. not (is_held_by holder list)) (lists_in text shelf))
  -- a list that is up to date is read as it is seen
  pub read : (text : List ℕ) (holder : Holder) (shelf : Shelved) (other : Held) → has_row holder shelf ≡ true → (row_of holder shelf).lag.stamp ≡ stamp_of shelf.log → Stands text shelf
      → IsHeld text (row_of holder shelf).lag.sels × (selected text (row_of holder shelf).lag.sels ≡ (first_where (is_held_by holder) other (lists_in text shelf)).sels)
  -- each list is settled, and lies inside the text
  pub settled : (text : List ℕ) (shelf : Shelved) → Stands text shelf → AllByRecursion (λ (row : ShelfRow). IsHeld text (seen_by shelf.log row.lag)) shelf.rows

-- some list stands at a stamp
abbrev pub SomeStandsAt : ℕ → List ShelfRow → Type 0
SomeStandsAt stamp [] = ⊥
SomeStandsAt stamp (row ∷ rows) = (row.lag.stamp ≡ stamp) ⊎ SomeStandsAt stamp rows

-- the lists and stamps as they are stored
pub record StoringLaws : Type 0 where
  -- what is done with one holder's list leaves all others as they are stored
  pub others : (holder other : Holder) (f : Lag → Lag) (shelf : Shelved) → same_holder holder other ≡ false → row_of other (changed_for holder f shelf) ≡ row_of other shelf
  -- a list that was brought up to date stands at the log's stamp
  pub up : (holder : Holder) (shelf : Shelved) → has_row holder shelf ≡ true → (row_of holder (brought_up holder shelf)).lag.stamp ≡ stamp_of (brought_up holder shelf).log
  -- what is done with lists and windows leaves those up to date that were so
  pub up_replaced : (holder : Holder) (s : Listed) (shelf : Shelved) → KeepsUp shelf (with_sels holder s shelf)
  pub up_other_main : (holder : Holder) (n : ℕ) (shelf : Shelved) → KeepsUp shelf (with_main holder n shelf)
  pub up_other_corner : (holder : Holder) (corner : Corner) (shelf : Shelved) → KeepsUp shelf (with_corner holder corner shelf)
  pub up_added : (holder : Holder) (s : Listed) (corner : Corner) (shelf : Shelved) → KeepsUp shelf (listed holder s corner shelf)
  pub up_dropped : (holder : Holder) (shelf : Shelved) → KeepsUp shelf (unlisted holder shelf)
  pub up_trimmed : (text : List ℕ) (shelf : Shelved) → Stands text shelf → KeepsUp shelf (trimmed_shelf shelf)
  pub up_entered : (text : List ℕ) (holder : Holder) (shelf : Shelved) → Stands text shelf → KeepsUp shelf (entered holder shelf) × IsUp holder (entered holder shelf)
  -- up to the limit, noting leaves all lists as they are stored
  pub below_the_limit : (ss : List Shift) (shelf : Shelved) → stamp_of shelf.log + length ss ≤ shelf.limit
      → all_noted ss shelf ≡ record { limit = shelf.limit; log = record { first = shelf.log.first; shifts = shelf.log.shifts ++ ss }; rows = shelf.rows }
  -- so it is where a holder's changes are noted, but for that holder's list
  pub noted_for : (holder : Holder) (ss : List Shift) (shelf : Shelved) → LeavesOthers holder (length ss) shelf (entered holder (all_noted ss shelf))
  -- one shift more: the log holds that one alone, from stamp 0 on, and all lists stand at stamp 0
  pub at_the_limit : (s : Shift) (shelf : Shelved) → stamp_of shelf.log ≡ shelf.limit → (noted s shelf ≡ with_shift s (begun_again shelf)) × ((noted s shelf).log ≡ pushed fresh s) × AllStandAt 0 (noted s shelf).rows
  -- no log passes its limit
  pub within_the_limit : (ss : List Shift) (shelf : Shelved) → 0 < shelf.limit → stamp_of shelf.log ≤ shelf.limit → stamp_of (all_noted ss shelf).log ≤ shelf.limit
  -- a log is trimmed to the least stamp of the lists, or to its own where there are none
  pub trimmed_least : (shelf : Shelved) → AllByRecursion (λ (row : ShelfRow). (trimmed_shelf shelf).log.first ≤ row.lag.stamp) shelf.rows
  pub trimmed_to_one : (shelf : Shelved) → ((trimmed_shelf shelf).log.first ≡ stamp_of shelf.log) ⊎ SomeStandsAt (trimmed_shelf shelf).log.first shelf.rows
  pub trimmed_stamp : (text : List ℕ) (shelf : Shelved) → Stands text shelf → stamp_of (trimmed_shelf shelf).log ≡ stamp_of shelf.log
  pub trimmed : (text : List ℕ) (shelf : Shelved) → Stands text shelf → IsTrimmed (trimmed_shelf shelf)
