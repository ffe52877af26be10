-- What is kept on a text, as it is stored beside the shelf of the lists that clients have: each list stands at a stamp of the shelf's log.
use Rattle.std.specs.Prelude.{◌≡◌, ℕ, Bool, true, false, not, ◌&&◌, ◌-◌, nat_lt, min, ◌==◌, if◌then◌else◌, List, [], ◌∷◌, ◌++◌, length, take, drop, map, Some, None}
use Rattle.std.specs.List.{AllByRecursion}
use Rattle.std.specs.declared.option.Option.{Option}
use Rattle.text_model.specs.declared.coords.Coord.{Coord}
use Rattle.text_model.specs.declared.coords.Shift.{Shift}
use Rattle.text_model.specs.Changes.{Change}
use Rattle.list_model.specs.Ranges.{Selected}
use Rattle.selection_set.specs.declared.sel.Sel.{Sel}
use Rattle.selection_set.specs.Listing.{Listed}
use Rattle.selection_set.specs.Held.{selected}
use Rattle.selection_map.specs.Catching.{AreShiftsOf}
use Rattle.change_list.specs.Logs.{Logged, stamp_of, trimmed}
use Rattle.list_shelf.specs.declared.holder.Holder.TheVariants.{Of}
use Rattle.list_shelf.specs.declared.lag.Lag.{Lag}
use Rattle.list_shelf.specs.Lagging.{caught, seen_by, up_to_date, Lags, IsLagging}
use Rattle.list_shelf.specs.Shelves.{Shelved, has_row, row_of, with_lag_of, noted, least, Stands}
use Rattle.list_archive.specs.declared.saved.Saved.{Saved}
use Rattle.list_archive.specs.declared.saved.Saved.TheVariants.{Nothing, Same, Own}
use Rattle.list_archive.specs.Limits.{fits, newest}
use Rattle.list_archive.specs.Trails.{Trail, Mark, trail_with, mark_with, gone_on, gone_back, gone_forward, left_off}
use Rattle.list_archive.specs.Kept.{SavedList, KeptLists}

-- what is kept, as it is stored
pub record Archived : Type 0 where
  pub saved : Saved
  pub trails : List (Trail Lag)
  pub marks : List (Mark Lag)

abbrev pub empty_archive : Archived
empty_archive = record { saved = Nothing; trails = []; marks = [] }

-- a client's list, as it stands on a shelf and brought up to date
abbrev pub own_lag : ℕ → Shelved → Lag
own_lag who shelf = (row_of (Of who) shelf).lag

abbrev pub own_up : ℕ → Shelved → Lag
own_up who shelf = up_to_date shelf.log (own_lag who shelf)

-- how many selections a list has as it stands: it is never seen with more
abbrev pub stored_size : Lag → ℕ
stored_size lag = length lag.sels.list

-- the newest of some lists: where they may be too many, they are brought up to date, and counted as they are seen
abbrev pub newest_lags : Logged → List Lag → List Lag
newest_lags log lags = if fits stored_size lags then lags else newest stored_size (map (up_to_date log) lags)

-- whether two lists on one text are alike, by coordinates
abbrev pub is_same_place : Coord → Coord → Bool
is_same_place a b = a.line == b.line && a.column == b.column

abbrev pub is_alike_sel : Sel → Sel → Bool
is_alike_sel a b = is_same_place a.low b.low && (is_same_place a.high b.high && (if a.turned then b.turned else not b.turned))

abbrev pub are_alike_sels : List Sel → List Sel → Bool
are_alike_sels [] [] = true
are_alike_sels [] (b ∷ bs) = false
are_alike_sels (a ∷ rest) [] = false
are_alike_sels (a ∷ rest) (b ∷ bs) = is_alike_sel a b && are_alike_sels rest bs

abbrev pub alike_listed : Listed → Listed → Bool
alike_listed a b = are_alike_sels a.list b.list && a.main == b.main

-- a client's list is saved
abbrev pub same_saved : ℕ → Archived → Archived
same_saved who a = record { saved = Same who; trails = a.trails; marks = a.marks }

-- the saved list is dropped
abbrev pub unsaved : Archived → Archived
unsaved a = record { saved = Nothing; trails = a.trails; marks = a.marks }

-- whether the saved list is a client's, which has it still
abbrev pub is_had_by : ℕ → Saved → Bool
is_had_by who (Same number) = number == who
is_had_by who saved = false

-- the saved list becomes one of its own, where a client has it still
abbrev pub parted : ℕ → Shelved → Archived → Archived
parted who shelf a = record { saved = if is_had_by who a.saved then Own who (own_up who shelf) else a.saved; trails = a.trails; marks = a.marks }

-- a client gets another list, and the one that it had is the saved one, where that was the same
abbrev pub left_saved : ℕ → Lag → Saved → Saved
left_saved who had saved = if is_had_by who saved then Own who had else saved

abbrev pub left_by : ℕ → Lag → Archived → Archived
left_by who had a = record { saved = left_saved who had a.saved; trails = a.trails; marks = a.marks }

-- the client's key event ends
abbrev pub kept_from : ℕ → Shelved → Saved → Archived → Archived
kept_from who shelf (Own number lag) a =
    if number == who && not (alike_listed (seen_by shelf.log lag) (own_lag who shelf).sels)
    then record { saved = a.saved; trails = gone_on (newest_lags shelf.log) who (up_to_date shelf.log lag) a.trails; marks = a.marks } else a
kept_from who shelf saved a = a

abbrev pub saved_kept_in : ℕ → Shelved → Archived → Archived
saved_kept_in who shelf a = kept_from who shelf a.saved (unsaved a)

-- whether the saved list is a client's
abbrev pub is_saved_of : ℕ → Saved → Bool
is_saved_of who Nothing = false
is_saved_of who (Same number) = number == who
is_saved_of who (Own number lag) = number == who

-- what was kept for a client goes
abbrev pub saved_without : ℕ → Saved → Saved
saved_without who saved = if is_saved_of who saved then Nothing else saved

abbrev pub archived_without : ℕ → Archived → Archived
archived_without who a = record { saved = saved_without who a.saved; trails = left_off who a.trails; marks = a.marks }

-- a list brought up to date and through further shifts, for a log that begins again
abbrev pub carried : Logged → List Shift → Lag → Lag
carried log shifts lag = record { stamp = 0; sels = caught shifts (seen_by log lag) }

abbrev pub saved_carried : Logged → List Shift → Saved → Saved
saved_carried log shifts (Own who lag) = Own who (carried log shifts lag)
saved_carried log shifts saved = saved

-- all lists
abbrev pub archive_carried : Logged → List Shift → Archived → Archived
archive_carried log shifts a = record {
  saved = saved_carried log shifts a.saved;
  trails = map (trail_with (carried log shifts)) a.trails;
  marks = map (mark_with (carried log shifts)) a.marks;
}

-- one shift more is noted on a shelf: where its log begins again, all lists are brought up to date
abbrev pub archive_room : Shelved → Archived → Archived
archive_room shelf a = if nat_lt (stamp_of shelf.log) shelf.limit then a else archive_carried shelf.log [] a

-- shifts are noted on a shelf, one after another
abbrev pub archive_noted : List Shift → Shelved → Archived → Archived
archive_noted [] shelf a = a
archive_noted (s ∷ ss) shelf a = archive_noted ss (noted s shelf) (archive_room shelf a)

-- the least of a stamp and of those at which lists stand
abbrev pub least_lag : ℕ → List Lag → ℕ
least_lag stamp [] = stamp
least_lag stamp (lag ∷ lags) = least_lag (min stamp lag.stamp) lags

abbrev pub least_trail : ℕ → List (Trail Lag) → ℕ
least_trail stamp [] = stamp
least_trail stamp (t ∷ ts) = least_trail (least_lag (least_lag stamp t.past) t.ahead) ts

abbrev pub least_mark : ℕ → List (Mark Lag) → ℕ
least_mark stamp [] = stamp
least_mark stamp (m ∷ ms) = least_mark (min stamp m.list.stamp) ms

abbrev pub least_saved : ℕ → Saved → ℕ
least_saved stamp (Own who lag) = min stamp lag.stamp
least_saved stamp saved = stamp

abbrev pub least_kept : ℕ → Archived → ℕ
least_kept stamp a = least_mark (least_trail (least_saved stamp a.saved) a.trails) a.marks

-- a shelf without the shifts that neither one of its lists nor one that is kept has yet to go through
abbrev pub trimmed_with : Archived → Shelved → Shelved
trimmed_with a shelf = record { limit = shelf.limit; log = trimmed shelf.log (least (least_kept (stamp_of shelf.log) a) shelf.rows); rows = shelf.rows }

-- the log begins with the first shift that some list has yet to go through, on the shelf or kept
abbrev pub IsTrimmedWith : Archived → Shelved → Type 0
IsTrimmedWith a shelf = shelf.log.first ≡ least (least_kept (stamp_of shelf.log) a) shelf.rows

-- what is kept, as it is seen in a text
abbrev pub list_in : List ℕ → Logged → Lag → Selected
list_in text log lag = selected text (seen_by log lag)

abbrev pub saved_in : List ℕ → Shelved → Saved → Option SavedList
saved_in text shelf Nothing = None
saved_in text shelf (Same who) = Some (record { who = who; sels = list_in text shelf.log (own_lag who shelf) })
saved_in text shelf (Own who lag) = Some (record { who = who; sels = list_in text shelf.log lag })

abbrev pub kept_in : List ℕ → Shelved → Archived → KeptLists
kept_in text shelf a = record {
  saved = saved_in text shelf a.saved;
  trails = map (trail_with (list_in text shelf.log)) a.trails;
  marks = map (mark_with (list_in text shelf.log)) a.marks;
}

-- all lists lag behind a text
abbrev pub TrailLags : List ℕ → Logged → Trail Lag → Type 0
TrailLags text log t = AllByRecursion (Lags text log) t.past × AllByRecursion (Lags text log) t.ahead

abbrev pub SavedStands : List ℕ → Shelved → Saved → Type 0
SavedStands text shelf Nothing = Unit {0}
SavedStands text shelf (Same who) = has_row (Of who) shelf ≡ true
SavedStands text shelf (Own who lag) = Lags text shelf.log lag

pub record ArchiveStands (text : List ℕ) (shelf : Shelved) (a : Archived) : Type 0 where
  pub saved : SavedStands text shelf a.saved
  pub trails : AllByRecursion (TrailLags text shelf.log) a.trails
  pub marks : AllByRecursion (λ (m : Mark Lag). Lags text shelf.log m.list) a.marks

-- a trail as a client goes back on it: where a list comes before the client's own, the two are exchanged
abbrev pub WentBack : Option Lag → Bool → Trail Lag → Shelved → Trail Lag → Shelved → Type 0
WentBack None result t shelf now after = (result ≡ false) × ((now ≡ t) × (after ≡ shelf))
WentBack (Some lag) result t shelf now after = (result ≡ true)
    × ((now ≡ record { who = t.who; past = take (length t.past - 1) t.past; ahead = own_lag t.who shelf ∷ t.ahead }) × (after ≡ with_lag_of (Of t.who) (up_to_date shelf.log lag) shelf))

-- and as it goes forward; what comes before the client's own is cut, or isn't yet
abbrev pub WentForward : (List Lag → List Lag) → Option Lag → Bool → Trail Lag → Shelved → Trail Lag → Shelved → Type 0
WentForward keep None result t shelf now after = (result ≡ false) × ((now ≡ t) × (after ≡ shelf))
WentForward keep (Some lag) result t shelf now after = (result ≡ true)
    × ((now ≡ record { who = t.who; past = keep (t.past ++ own_lag t.who shelf ∷ []); ahead = drop 1 t.ahead }) × (after ≡ with_lag_of (Of t.who) (up_to_date shelf.log lag) shelf))

-- so with what is kept, when a client takes its list back, or redoes it
abbrev pub WasUndone : ℕ → Option Lag → Bool → Shelved → Archived → Shelved → Archived → Type 0
WasUndone who None result shelf a after now = (result ≡ false) × ((now ≡ a) × (after ≡ shelf))
WasUndone who (Some lag) result shelf a after now = (result ≡ true)
    × ((now ≡ record { saved = a.saved; trails = gone_back who (own_lag who shelf) a.trails; marks = a.marks }) × (after ≡ with_lag_of (Of who) (up_to_date shelf.log lag) shelf))

abbrev pub WasRedone : ℕ → Option Lag → Bool → Shelved → Archived → Shelved → Archived → Type 0
WasRedone who None result shelf a after now = (result ≡ false) × ((now ≡ a) × (after ≡ shelf))
WasRedone who (Some lag) result shelf a after now = (result ≡ true)
    × ((now ≡ record { saved = a.saved; trails = gone_forward (newest_lags shelf.log) who (own_lag who shelf) a.trails; marks = a.marks }) × (after ≡ with_lag_of (Of who) (up_to_date shelf.log lag) shelf))

-- lists that lag behind some text
abbrev pub AreAllLagging : Logged → List Lag → Type 0
AreAllLagging log lags = AllByRecursion (IsLagging log) lags

-- lists that can go through a log and further shifts
pub record IsCarriable (log : Logged) (shifts : List Shift) (lag : Lag) : Type 0 where
  pub text : List ℕ
  pub changes : List Change
  pub shifts_are : AreShiftsOf text changes shifts
  pub lags : Lags text log lag

abbrev pub AreCarriable : Logged → List Shift → List Lag → Type 0
AreCarriable log shifts lags = AllByRecursion (IsCarriable log shifts) lags

abbrev pub IsTrailCarriable : Logged → List Shift → Trail Lag → Type 0
IsTrailCarriable log shifts t = AreCarriable log shifts t.past × AreCarriable log shifts t.ahead

abbrev pub AreTrailsCarriable : Logged → List Shift → List (Trail Lag) → Type 0
AreTrailsCarriable log shifts trails = AllByRecursion (IsTrailCarriable log shifts) trails

abbrev pub AreMarksCarriable : Logged → List Shift → List (Mark Lag) → Type 0
AreMarksCarriable log shifts marks = AllByRecursion (λ (m : Mark Lag). IsCarriable log shifts m.list) marks

abbrev pub IsSavedCarriable : Logged → List Shift → Saved → Type 0
IsSavedCarriable log shifts (Own who lag) = IsCarriable log shifts lag
IsSavedCarriable log shifts saved = Unit {0}

pub record IsArchiveCarriable (log : Logged) (shifts : List Shift) (a : Archived) : Type 0 where
  pub saved : IsSavedCarriable log shifts a.saved
  pub trails : AreTrailsCarriable log shifts a.trails
  pub marks : AreMarksCarriable log shifts a.marks

-- there is a text of which a shelf and what is kept are
pub record CanStandWith (shelf : Shelved) (a : Archived) : Type 0 where
  pub text : List ℕ
  pub shelf_stands : Stands text shelf
  pub stands : ArchiveStands text shelf a

-- and shifts are those of single changes of it, one after another
pub record CanFollowWith (shelf : Shelved) (a : Archived) (shifts : List Shift) : Type 0 where
  pub text : List ℕ
  pub changes : List Change
  pub shifts_are : AreShiftsOf text changes shifts
  pub shelf_stands : Stands text shelf
  pub stands : ArchiveStands text shelf a

abbrev pub AreMarksLagging : Logged → List (Mark Lag) → Type 0
AreMarksLagging log marks = AllByRecursion (λ (m : Mark Lag). IsLagging log m.list) marks

-- what is kept is a text's, and it is seen as this
pub record KeptIs (text : List ℕ) (shelf : Shelved) (a : Archived) (k : KeptLists) : Type 0 where
  pub stands : ArchiveStands text shelf a
  pub is : kept_in text shelf a ≡ k

-- a client doesn't have the saved list still
abbrev pub IsApart : ℕ → Saved → Type 0
IsApart who saved = is_had_by who saved ≡ false
