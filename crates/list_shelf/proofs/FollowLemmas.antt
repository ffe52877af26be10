-- A shelf whose text is changed: its lists follow.
use Rattle.std.proofs.Common.{◌≡◌, ℕ, List, [], ◌∷◌, map, nat_lt, cond, refl, sym, ap, ap₂, ◌∙◌}
use Rattle.tables.proofs.TableLemmas.{by_test}
use Rattle.text_model.specs.declared.coords.Shift.{Shift}
use Rattle.text_model.specs.Texts.{IsStored}
use Rattle.text_model.specs.Changes.{Change, changed, all_changed, move_of, IsShift}
use Rattle.list_model.specs.Ranges.{Selected}
use Rattle.selection_set.specs.Listing.{Listed}
use Rattle.selection_set.specs.Held.{selected}
use Rattle.selection_map.specs.Catching.{AreShiftsOf}
use Rattle.change_list.specs.Logs.{Logged, stamp_of, fresh, pushed}
use Rattle.list_shelf.specs.declared.holder.Holder.{Holder}
use Rattle.list_shelf.specs.declared.rows.ShelfRow.{ShelfRow}
use Rattle.window_view.specs.declared.corner.Corner.{Corner}
use Rattle.list_shelf.specs.Lagging.{renewed, gone_through}
use Rattle.list_shelf.specs.Shelves.{Shelved, with_lag, begun_again, room_made, noted, all_noted, all_moved, Held, seen_in, lists_in, list_moved, AllLag, Stands, CanFollow, HasLists, StandsWith}
use Rattle.list_shelf.proofs.LagLemmas.{renewed-lags, renewed-seen, gone-lags, gone-seen, noted-lags, noted-seen, noted-gone}

-- a list of a holder as it is seen
abbrev pub as_seen : Holder → Corner → Selected → Held
as_seen holder corner s = record { holder = holder; sels = s; corner = corner }

-- a row at stamp 0
abbrev row_of_none : Holder → Corner → Listed → ShelfRow
row_of_none holder corner s = record { holder = holder; lag = record { stamp = 0; sels = s }; corner = corner }

-- the log begins again

pub renewed-rows : (text : List ℕ) (log : Logged) (rows : List ShelfRow) → AllLag text log rows → HasLists text fresh (map (with_lag (renewed log)) rows) (map (seen_in text log) rows)
renewed-rows text log [] a = record { stands = tt; lists_are = refl }
renewed-rows text log (row ∷ rows) a =
    let rest : HasLists text fresh (map (with_lag (renewed log)) rows) (map (seen_in text log) rows) = renewed-rows text log rows a.1 in
    record {
      stands = (renewed-lags text log row.lag a.0, rest.stands);
      lists_are = ap₂ (λ l ls. l ∷ ls) (ap (λ s. as_seen row.holder row.corner (selected text s)) (renewed-seen text log row.lag a.0)) rest.lists_are;
    }

renewed-twice : (text : List ℕ) (log : Logged) (rows : List ShelfRow) → AllLag text log rows → map (with_lag (renewed fresh)) (map (with_lag (renewed log)) rows) ≡ map (with_lag (renewed log)) rows
renewed-twice text log [] a = refl
renewed-twice text log (row ∷ rows) a = ap₂ (λ r rs. r ∷ rs) (ap (row_of_none row.holder row.corner) (renewed-seen text log row.lag a.0)) (renewed-twice text log rows a.1)

pub room-stands : (text : List ℕ) (shelf : Shelved) → Stands text shelf → StandsWith text (room_made shelf) (lists_in text shelf)
room-stands text shelf st =
    by_test (λ b. StandsWith text (cond b shelf (begun_again shelf)) (lists_in text shelf)) (nat_lt (stamp_of shelf.log) shelf.limit)
    (λ _. record { stands = st; lists_are = refl })
    (λ _. renewed-rows text shelf.log shelf.rows st)

-- one shift is noted

noted-rows : (text : List ℕ) (c : Change) (s : Shift) (log : Logged) (rows : List ShelfRow) → IsStored (changed text c) → IsShift text (changed text c) s (move_of text c) → AllLag text log rows
    → HasLists (changed text c) (pushed log s) rows (map (list_moved text (c ∷ [])) (map (seen_in text log) rows))
noted-rows text c s log [] h i a = record { stands = tt; lists_are = refl }
noted-rows text c s log (row ∷ rows) h i a =
    let rest : HasLists (changed text c) (pushed log s) rows (map (list_moved text (c ∷ [])) (map (seen_in text log) rows)) = noted-rows text c s log rows h i a.1 in
    record {
      stands = (noted-lags text log row.lag c s h i a.0, rest.stands);
      lists_are = ap₂ (λ l ls. l ∷ ls) (ap (as_seen row.holder row.corner) (noted-seen text log row.lag c s h i a.0)) rest.lists_are;
    }

pub noted-follows : (text : List ℕ) (c : Change) (s : Shift) (shelf : Shelved) → IsStored (changed text c) → IsShift text (changed text c) s (move_of text c) → Stands text shelf
    → StandsWith (changed text c) (noted s shelf) (map (list_moved text (c ∷ [])) (lists_in text shelf))
noted-follows text c s shelf h i st =
    let room : StandsWith text (room_made shelf) (lists_in text shelf) = room-stands text shelf st in
    let next : HasLists (changed text c) (pushed (room_made shelf).log s) (room_made shelf).rows (map (list_moved text (c ∷ [])) (map (seen_in text (room_made shelf).log) (room_made shelf).rows)) =
    noted-rows text c s (room_made shelf).log (room_made shelf).rows h i room.stands in
    record { stands = next.stands; lists_are = next.lists_are ∙ ap (map (list_moved text (c ∷ []))) room.lists_are }

-- all shifts are noted

moved-none : (text : List ℕ) (ls : List Held) → map (list_moved text []) ls ≡ ls
moved-none text [] = refl
moved-none text (l ∷ ls) = ap (λ xs. l ∷ xs) (moved-none text ls)

moved-twice : (text : List ℕ) (c : Change) (cs : List Change) (ls : List Held) → map (list_moved (changed text c) cs) (map (list_moved text (c ∷ [])) ls) ≡ map (list_moved text (c ∷ cs)) ls
moved-twice text c cs [] = refl
moved-twice text c cs (l ∷ ls) = ap (λ xs. list_moved text (c ∷ cs) l ∷ xs) (moved-twice text c cs ls)

pub all-noted-follows : (text : List ℕ) (cs : List Change) (ss : List Shift) (shelf : Shelved) → AreShiftsOf text cs ss → Stands text shelf → StandsWith (all_changed text cs) (all_noted ss shelf) (map (list_moved text cs) (lists_in text shelf))
all-noted-follows text [] [] shelf k st = record { stands = st; lists_are = sym (moved-none text (lists_in text shelf)) }
all-noted-follows text [] (s ∷ ss) shelf k st = absurd k
all-noted-follows text (c ∷ cs) [] shelf k st = absurd k
all-noted-follows text (c ∷ cs) (s ∷ ss) shelf k st =
    let one : StandsWith (changed text c) (noted s shelf) (map (list_moved text (c ∷ [])) (lists_in text shelf)) = noted-follows text c s shelf k.0 k.1 st in
    let rest : StandsWith (all_changed (changed text c) cs) (all_noted ss (noted s shelf)) (map (list_moved (changed text c) cs) (lists_in (changed text c) (noted s shelf))) = all-noted-follows (changed text c) cs ss (noted s shelf) k.2 one.stands in
    record {
      stands = rest.stands;
      lists_are = rest.lists_are ∙ ap (map (list_moved (changed text c) cs)) one.lists_are ∙ moved-twice text c cs (lists_in text shelf);
    }

-- shifts that can't be noted

gone-rows : (text : List ℕ) (cs : List Change) (ss : List Shift) (log : Logged) (rows : List ShelfRow) → AreShiftsOf text cs ss → AllLag text log rows
    → HasLists (all_changed text cs) fresh (map (with_lag (gone_through ss)) (map (with_lag (renewed log)) rows)) (map (list_moved text cs) (map (seen_in text log) rows))
gone-rows text cs ss log [] k a = record { stands = tt; lists_are = refl }
gone-rows text cs ss log (row ∷ rows) k a =
    let rest : HasLists (all_changed text cs) fresh (map (with_lag (gone_through ss)) (map (with_lag (renewed log)) rows)) (map (list_moved text cs) (map (seen_in text log) rows)) = gone-rows text cs ss log rows k a.1 in
    record {
      stands = (gone-lags text cs ss log row.lag k a.0, rest.stands);
      lists_are = ap₂ (λ l ls. l ∷ ls) (ap (as_seen row.holder row.corner) (gone-seen text cs ss log row.lag k a.0)) rest.lists_are;
    }

pub all-moved-follows : (text : List ℕ) (cs : List Change) (ss : List Shift) (shelf : Shelved) → AreShiftsOf text cs ss → Stands text shelf → StandsWith (all_changed text cs) (all_moved ss shelf) (map (list_moved text cs) (lists_in text shelf))
all-moved-follows text cs ss shelf k st = gone-rows text cs ss shelf.log shelf.rows k st

-- whether the first shifts are noted or not, all of them lead to the same shelf

pub moved-room : (text : List ℕ) (ss : List Shift) (shelf : Shelved) → Stands text shelf → all_moved ss (room_made shelf) ≡ all_moved ss shelf
moved-room text ss shelf st =
    by_test (λ b. all_moved ss (cond b shelf (begun_again shelf)) ≡ all_moved ss shelf) (nat_lt (stamp_of shelf.log) shelf.limit)
    (λ _. refl)
    (λ _. ap (λ rows. let x : Shelved = record { limit = shelf.limit; log = fresh; rows = map (with_lag (gone_through ss)) rows } in x) (renewed-twice text shelf.log shelf.rows st))

shift-rows : (text : List ℕ) (c : Change) (cs : List Change) (s : Shift) (ss : List Shift) (log : Logged) (rows : List ShelfRow) → AreShiftsOf text (c ∷ cs) (s ∷ ss) → AllLag text log rows
    → map (with_lag (gone_through ss)) (map (with_lag (renewed (pushed log s))) rows) ≡ map (with_lag (gone_through (s ∷ ss))) (map (with_lag (renewed log)) rows)
shift-rows text c cs s ss log [] k a = refl
shift-rows text c cs s ss log (row ∷ rows) k a = ap₂ (λ r rs. r ∷ rs) (ap (row_of_none row.holder row.corner) (noted-gone text c cs s ss log row.lag k a.0)) (shift-rows text c cs s ss log rows k a.1)

pub moved-noted : (text : List ℕ) (c : Change) (cs : List Change) (s : Shift) (ss : List Shift) (shelf : Shelved) → AreShiftsOf text (c ∷ cs) (s ∷ ss) → Stands text shelf → all_moved ss (noted s shelf) ≡ all_moved (s ∷ ss) shelf
moved-noted text c cs s ss shelf k st =
    ap (λ rows. let x : Shelved = record { limit = (room_made shelf).limit; log = fresh; rows = rows } in x) (shift-rows text c cs s ss (room_made shelf).log (room_made shelf).rows k (room-stands text shelf st).stands)
    ∙ moved-room text (s ∷ ss) shelf st

-- for the loop over shifts

pub next-follows : (text : List ℕ) (cs : List Change) (s : Shift) (ss : List Shift) (shelf : Shelved) → AreShiftsOf text cs (s ∷ ss) → Stands text shelf → CanFollow (noted s shelf) ss
next-follows text [] s ss shelf k st = absurd k
next-follows text (c ∷ cs) s ss shelf k st = record { text = changed text c; changes = cs; shifts_are = k.2; stands = (noted-follows text c s shelf k.0 k.1 st).stands }

pub next-moved : (text : List ℕ) (cs : List Change) (s : Shift) (ss : List Shift) (shelf : Shelved) → AreShiftsOf text cs (s ∷ ss) → Stands text shelf → all_moved ss (noted s shelf) ≡ all_moved (s ∷ ss) shelf
next-moved text [] s ss shelf k st = absurd k
next-moved text (c ∷ cs) s ss shelf k st = moved-noted text c cs s ss shelf k st
