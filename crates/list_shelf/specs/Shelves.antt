-- A shelf: the lists of all holders on one text, each with the stamp at which it stands and the corner at which its holder's
-- window on the text stands, and the log of the shifts since.
use Rattle.std.specs.Prelude.{◌≡◌, ◌+◌, ◌≤◌, ℕ, zero, suc, Bool, true, false, not, nat_lt, nat_le, min, ◌==◌, if◌then◌else◌, List, [], ◌∷◌, map, filter}
use Rattle.std.specs.List.{AllByRecursion, list_any}
use Rattle.tables.specs.Tables.{first_where, changed_where, with_row}
use Rattle.text_model.specs.declared.coords.Shift.{Shift}
use Rattle.text_model.specs.Changes.{Change}
use Rattle.list_model.specs.Ranges.{Selected}
use Rattle.selection_set.specs.Listing.{Listed}
use Rattle.selection_set.specs.Held.{selected}
use Rattle.selection_map.specs.Catching.{AreShiftsOf, IsCatchable, eager_by}
use Rattle.change_list.specs.Logs.{Logged, stamp_of, fresh, pushed, trimmed}
use Rattle.window_view.specs.declared.corner.Corner.{Corner}
use Rattle.window_view.specs.Sizes.{first_corner}
use Rattle.list_shelf.specs.declared.holder.Holder.{Holder}
use Rattle.list_shelf.specs.declared.holder.Holder.TheVariants.{Of}
use Rattle.list_shelf.specs.declared.lag.Lag.{Lag}
use Rattle.list_shelf.specs.declared.rows.ShelfRow.{ShelfRow}
use Rattle.list_shelf.specs.Lagging.{seen_by, up_to_date, renewed, gone_through, Lags}

-- whether two holders are one
abbrev pub same_holder : Holder → Holder → Bool
same_holder (Of who) (Of number) = number == who

-- a shelf as it stands: the stamp at which its log begins again, the log, and the lists in the order in which they came
pub record Shelved : Type 0 where
  pub limit : ℕ
  pub log : Logged
  pub rows : List ShelfRow

-- a shelf with nobody's list on it
abbrev pub empty_shelf : ℕ → Shelved
empty_shelf limit = record { limit = limit; log = fresh; rows = [] }

-- whether a list is a holder's
abbrev pub is_of : Holder → ShelfRow → Bool
is_of holder row = same_holder holder row.holder

-- whether a holder has a list
abbrev pub has_row : Holder → Shelved → Bool
has_row holder shelf = list_any (is_of holder) shelf.rows

-- an empty list, which no shelf holds
abbrev pub no_row : Holder → ShelfRow
no_row holder = record { holder = holder; lag = record { stamp = 0; sels = record { list = []; main = 0 } }; corner = first_corner }

-- a holder's list; where it has none, the empty one
abbrev pub row_of : Holder → Shelved → ShelfRow
row_of holder shelf = first_where (is_of holder) (no_row holder) shelf.rows

-- a row with its list changed
abbrev pub with_lag : (Lag → Lag) → ShelfRow → ShelfRow
with_lag f row = record { holder = row.holder; lag = f row.lag; corner = row.corner }

-- a shelf with a holder's list changed
abbrev pub changed_for : Holder → (Lag → Lag) → Shelved → Shelved
changed_for holder f shelf = record shelf { rows = changed_where (is_of holder) (with_lag f) shelf.rows }

-- a shelf with a holder's window elsewhere
abbrev pub with_corner : Holder → Corner → Shelved → Shelved
with_corner holder corner shelf = record shelf { rows = changed_where (is_of holder) (λ row. record { holder = row.holder; lag = row.lag; corner = corner }) shelf.rows }

-- a holder's list brought up to date
abbrev pub brought_up : Holder → Shelved → Shelved
brought_up holder shelf = changed_for holder (up_to_date shelf.log) shelf

-- a holder's list replaced by one of the text as it is now
abbrev pub with_sels : Holder → Listed → Shelved → Shelved
with_sels holder s shelf = changed_for holder (λ lag. record { stamp = stamp_of shelf.log; sels = s }) shelf

-- a holder's list replaced by one that stands at a stamp of its own
abbrev pub with_lag_of : Holder → Lag → Shelved → Shelved
with_lag_of holder other shelf = changed_for holder (λ lag. other) shelf

-- another main selection of a holder's list
abbrev pub with_main : Holder → ℕ → Shelved → Shelved
with_main holder n shelf = changed_for holder (λ lag. record { stamp = lag.stamp; sels = record { list = lag.sels.list; main = n } }) shelf

-- a list of the text as it is now for a holder that has none
abbrev pub listed : Holder → Listed → Corner → Shelved → Shelved
listed holder s corner shelf = record shelf { rows = with_row (is_of holder) (record { holder = holder; lag = record { stamp = stamp_of shelf.log; sels = s }; corner = corner }) shelf.rows }

-- a holder's lists taken off
abbrev pub unlisted : Holder → Shelved → Shelved
unlisted holder shelf = record shelf { rows = filter (λ row. not (is_of holder row)) shelf.rows }

-- all lists brought up to date; the log begins again, and they stand at stamp 0
abbrev pub begun_again : Shelved → Shelved
begun_again shelf = record shelf { log = fresh; rows = map (with_lag (renewed shelf.log)) shelf.rows }

-- room for one more shift: where the log stands at the limit, it begins again
abbrev pub room_made : Shelved → Shelved
room_made shelf = if nat_lt (stamp_of shelf.log) shelf.limit then shelf else begun_again shelf

-- a shelf whose log has one more shift; all lists are left where they stand
abbrev pub with_shift : Shift → Shelved → Shelved
with_shift s shelf = record shelf { log = pushed shelf.log s }

-- a shift is noted
abbrev pub noted : Shift → Shelved → Shelved
noted s shelf = with_shift s (room_made shelf)

-- shifts are noted, one after another
abbrev pub all_noted : List Shift → Shelved → Shelved
all_noted [] shelf = shelf
all_noted (s ∷ ss) shelf = all_noted ss (noted s shelf)

-- all lists taken through shifts that no log holds
abbrev pub all_gone_through : List Shift → Shelved → Shelved
all_gone_through shifts shelf = record shelf { rows = map (with_lag (gone_through shifts)) shelf.rows }

-- shifts that can't be noted: the log begins again, and all lists go through them
abbrev pub all_moved : List Shift → Shelved → Shelved
all_moved shifts shelf = all_gone_through shifts (begun_again shelf)

-- the least of a stamp and of those at which lists stand
abbrev pub least : ℕ → List ShelfRow → ℕ
least stamp [] = stamp
least stamp (row ∷ rows) = least (min stamp row.lag.stamp) rows

-- a shelf without the shifts that no list has yet to go through: with no list, without any
abbrev pub trimmed_shelf : Shelved → Shelved
trimmed_shelf shelf = record shelf { log = trimmed shelf.log (least (stamp_of shelf.log) shelf.rows) }

-- a shelf without those of them that come before a stamp
abbrev pub trimmed_before : ℕ → Shelved → Shelved
trimmed_before stamp shelf = record shelf { log = trimmed shelf.log (least stamp shelf.rows) }

-- a holder's list brought up to date, and the log without what no list has yet to go through then
abbrev pub entered : Holder → Shelved → Shelved
entered holder shelf = trimmed_shelf (brought_up holder shelf)

-- a holder's list is up to date, where it has one
abbrev pub IsUp : Holder → Shelved → Type 0
IsUp holder shelf = has_row holder shelf ≡ true → (row_of holder shelf).lag.stamp ≡ stamp_of shelf.log

-- each list that was up to date is so still
abbrev pub KeepsUp : Shelved → Shelved → Type 0
KeepsUp old new = (holder : Holder) → IsUp holder old → IsUp holder new

-- what other holders have stays as it is stored, where the log has room for so many shifts
abbrev pub LeavesOthers : Holder → ℕ → Shelved → Shelved → Type 0
LeavesOthers holder count old new = stamp_of old.log + count ≤ old.limit → (other : Holder) → same_holder holder other ≡ false → row_of other new ≡ row_of other old

-- whether a log has room for so many shifts more: there is room for none always, and for some where it doesn't pass its limit with them
abbrev pub has_room : ℕ → Shelved → Bool
has_room zero shelf = true
has_room (suc count) shelf = nat_le (stamp_of shelf.log + suc count) shelf.limit

-- a list is left as it is stored: its holder has it still, with its stamp and the corner of its window
pub record LeavesRow (holder : Holder) (old new : Shelved) : Type 0 where
  pub there : has_row holder new ≡ true
  pub same : row_of holder new ≡ row_of holder old

-- what other holders have is left so, where the log has room for so many shifts
abbrev pub LeavesRows : Holder → ℕ → Shelved → Shelved → Type 0
LeavesRows holder count old new = has_room count old ≡ true → (other : Holder) → same_holder holder other ≡ false → has_row other old ≡ true → LeavesRow other old new

-- the log begins with the first shift that some list has yet to go through: with no list it holds none
abbrev pub IsTrimmed : Shelved → Type 0
IsTrimmed shelf = shelf.log.first ≡ least (stamp_of shelf.log) shelf.rows

-- a list as it is seen in a text: whose it is, its ranges, and where its holder's window on the text stands
pub record Held : Type 0 where
  pub holder : Holder
  pub sels : Selected
  pub corner : Corner

abbrev pub seen_in : List ℕ → Logged → ShelfRow → Held
seen_in text log row = record { holder = row.holder; sels = selected text (seen_by log row.lag); corner = row.corner }

-- the lists of a shelf as they are seen in its text
abbrev pub lists_in : List ℕ → Shelved → List Held
lists_in text shelf = map (seen_in text shelf.log) shelf.rows

-- whether a list that is seen is a holder's
abbrev pub is_held_by : Holder → Held → Bool
is_held_by holder list = same_holder holder list.holder

-- the eager rule: a list is carried through each of some changes of its text, and settled there
abbrev pub list_moved : List ℕ → List Change → Held → Held
list_moved text cs list = record { holder = list.holder; sels = eager_by text cs list.sels; corner = list.corner }

-- all lists lag behind one text
abbrev pub AllLag : List ℕ → Logged → List ShelfRow → Type 0
AllLag text log rows = AllByRecursion (λ (row : ShelfRow). Lags text log row.lag) rows

-- a shelf is a text's
abbrev pub Stands : List ℕ → Shelved → Type 0
Stands text shelf = AllLag text shelf.log shelf.rows

-- there is a text behind which all lists lag
pub record AreLagging (log : Logged) (rows : List ShelfRow) : Type 0 where
  pub text : List ℕ
  pub all : AllLag text log rows

-- there is a text of which a shelf is
abbrev pub CanStand : Shelved → Type 0
CanStand shelf = AreLagging shelf.log shelf.rows

-- there is a text of which a shelf is, and shifts are those of single changes of it, one after another
pub record CanFollow (shelf : Shelved) (shifts : List Shift) : Type 0 where
  pub text : List ℕ
  pub changes : List Change
  pub shifts_are : AreShiftsOf text changes shifts
  pub stands : Stands text shelf

-- all lists can go through shifts
abbrev pub AreCatchable : List Shift → List ShelfRow → Type 0
AreCatchable shifts rows = AllByRecursion (λ (row : ShelfRow). IsCatchable shifts row.lag.sels) rows

-- the lists of some rows in a text, all of which lag behind it, are these
pub record HasLists (text : List ℕ) (log : Logged) (rows : List ShelfRow) (lists : List Held) : Type 0 where
  pub stands : AllLag text log rows
  pub lists_are : map (seen_in text log) rows ≡ lists

-- a shelf is a text's, and its lists are these
abbrev pub StandsWith : List ℕ → Shelved → List Held → Type 0
StandsWith text shelf lists = HasLists text shelf.log shelf.rows lists
