-- What is done with a shelf and not with its text.
use Rattle.std.proofs.Common.{◌≡◌, ℕ, ◌<◌, ◌≤◌, min, ◌||◌, true, false, not, List, [], ◌∷◌, ◌++◌, length, map, cond, refl, sym, ap, ap₂, ◌∙◌, arith}
use Rattle.std.specs.Prelude.{filter}
use Rattle.std.specs.List.{AllByRecursion, list_any}
use Rattle.std.proofs.lemmas.List.{length-map}
use Rattle.tables.specs.Tables.{first_where, changed_where, with_row}
use Rattle.tables.proofs.TableLemmas.{by_test}
use Rattle.tables.proofs.RowLemmas.{any-map}
use Rattle.text_model.specs.Texts.{IsStored}
use Rattle.selection_set.specs.Inside.{range_of}
use Rattle.selection_set.specs.Listing.{Listed}
use Rattle.selection_set.specs.Held.{selected, IsHeld}
use Rattle.change_list.specs.Logs.{Logged, stamp_of, trimmed}
use Rattle.list_shelf.specs.declared.holder.Holder.{Holder}
use Rattle.list_shelf.specs.declared.lag.Lag.{Lag}
use Rattle.list_shelf.specs.declared.rows.ShelfRow.{ShelfRow}
use Rattle.window_view.specs.declared.corner.Corner.{Corner}
use Rattle.list_shelf.specs.Lagging.{seen_by, up_to_date, Lags}
use Rattle.list_shelf.specs.Shelves.{Shelved, is_of, with_lag, brought_up, trimmed_shelf, entered, least, Held, seen_in, lists_in, is_held_by, AllLag, Stands, HasLists, StandsWith}
use Rattle.list_shelf.proofs.LagLemmas.{seen-held, up-lags, up-seen, up-held, up-own, lags-stored, brought-lags, brought-seen, trimmed-lags, trimmed-seen}
use Rattle.list_shelf.proofs.FollowLemmas.{as_seen}

-- a holder's list is brought up to date
pub brought-rows : (text : List ℕ) (log : Logged) (holder : Holder) (rows : List ShelfRow) → AllLag text log rows → HasLists text log (changed_where (is_of holder) (with_lag (up_to_date log)) rows) (map (seen_in text log) rows)
brought-rows text log holder [] a = record { stands = tt; lists_are = refl }
brought-rows text log holder (row ∷ rows) a =
    by_test (λ b. HasLists text log (cond b (with_lag (up_to_date log) row ∷ rows) (row ∷ changed_where (is_of holder) (with_lag (up_to_date log)) rows)) (seen_in text log row ∷ map (seen_in text log) rows)) (is_of holder row)
    (λ _. record { stands = (brought-lags text log row.lag a.0, a.1); lists_are = ap (λ s. as_seen row.holder row.corner (selected text s) ∷ map (seen_in text log) rows) (brought-seen text log row.lag a.0) })
    (λ _.
    let rest : HasLists text log (changed_where (is_of holder) (with_lag (up_to_date log)) rows) (map (seen_in text log) rows) = brought-rows text log holder rows a.1 in
    record { stands = (a.0, rest.stands); lists_are = ap (λ ls. seen_in text log row ∷ ls) rest.lists_are })

-- its holder's window stands elsewhere
abbrev pub other_corner : Corner → ShelfRow → ShelfRow
other_corner corner row = record { holder = row.holder; lag = row.lag; corner = corner }

abbrev pub other_corner_seen : Corner → Held → Held
other_corner_seen corner list = record { holder = list.holder; sels = list.sels; corner = corner }

pub corner-rows : (text : List ℕ) (log : Logged) (holder : Holder) (corner : Corner) (rows : List ShelfRow) → AllLag text log rows
    → HasLists text log (changed_where (is_of holder) (other_corner corner) rows) (changed_where (is_held_by holder) (other_corner_seen corner) (map (seen_in text log) rows))
corner-rows text log holder corner [] a = record { stands = tt; lists_are = refl }
corner-rows text log holder corner (row ∷ rows) a =
    by_test (λ b. HasLists text log (cond b (other_corner corner row ∷ rows) (row ∷ changed_where (is_of holder) (other_corner corner) rows)) (cond b (other_corner_seen corner (seen_in text log row) ∷ map (seen_in text log) rows) (seen_in text log row ∷ changed_where (is_held_by holder) (other_corner_seen corner) (map (seen_in text log) rows)))) (is_of holder row)
    (λ _. record { stands = (a.0, a.1); lists_are = refl })
    (λ _.
    let rest : HasLists text log (changed_where (is_of holder) (other_corner corner) rows) (changed_where (is_held_by holder) (other_corner_seen corner) (map (seen_in text log) rows)) = corner-rows text log holder corner rows a.1 in
    record { stands = (a.0, rest.stands); lists_are = ap (λ ls. seen_in text log row ∷ ls) rest.lists_are })

-- it is replaced
abbrev pub other_lag : Logged → Listed → Lag → Lag
other_lag log s lag = record { stamp = stamp_of log; sels = s }

abbrev pub other_seen : List ℕ → Listed → Held → Held
other_seen text s list = record { holder = list.holder; sels = selected text s; corner = list.corner }

pub replaced-rows : (text : List ℕ) (log : Logged) (holder : Holder) (s : Listed) (rows : List ShelfRow) → IsStored text → IsHeld text s → AllLag text log rows
    → HasLists text log (changed_where (is_of holder) (with_lag (other_lag log s)) rows) (changed_where (is_held_by holder) (other_seen text s) (map (seen_in text log) rows))
replaced-rows text log holder s [] h held a = record { stands = tt; lists_are = refl }
replaced-rows text log holder s (row ∷ rows) h held a =
    by_test (λ b. HasLists text log (cond b (with_lag (other_lag log s) row ∷ rows) (row ∷ changed_where (is_of holder) (with_lag (other_lag log s)) rows)) (cond b (other_seen text s (seen_in text log row) ∷ map (seen_in text log) rows) (seen_in text log row ∷ changed_where (is_held_by holder) (other_seen text s) (map (seen_in text log) rows)))) (is_of holder row)
    (λ _. record { stands = (up-lags text log (other_lag log s row.lag) h refl held, a.1); lists_are = ap (λ t. as_seen row.holder row.corner (selected text t) ∷ map (seen_in text log) rows) (up-seen text log (other_lag log s row.lag) h refl held) })
    (λ _.
    let rest : HasLists text log (changed_where (is_of holder) (with_lag (other_lag log s)) rows) (changed_where (is_held_by holder) (other_seen text s) (map (seen_in text log) rows)) = replaced-rows text log holder s rows h held a.1 in
    record { stands = (a.0, rest.stands); lists_are = ap (λ ls. seen_in text log row ∷ ls) rest.lists_are })

-- another main selection
abbrev pub main_lag : ℕ → Lag → Lag
main_lag n lag = record { stamp = lag.stamp; sels = record { list = lag.sels.list; main = n } }

abbrev pub main_seen : ℕ → Held → Held
main_seen n list = record { holder = list.holder; sels = record { list = list.sels.list; main = n }; corner = list.corner }

main-held : (text : List ℕ) (s : Listed) (n : ℕ) → IsHeld text s → n < length s.list → IsHeld text (record { list = s.list; main = n })
main-held text s n h l = record { inside = h.inside; settled = record { ranges = h.settled.ranges; apart = h.settled.apart; main_is = omega (arith, l, length-map s.list (range_of text)) } }

main-one : (text : List ℕ) (log : Logged) (n : ℕ) (row : ShelfRow) → row.lag.stamp ≡ stamp_of log → n < length row.lag.sels.list → Lags text log row.lag → seen_in text log (with_lag (main_lag n) row) ≡ main_seen n (seen_in text log row)
main-one text log n row up there l =
    let held : IsHeld text (main_lag n row.lag).sels = main-held text row.lag.sels n (up-held text log row.lag up l) there in
    let before : seen_by log row.lag ≡ row.lag.sels = up-own text log row.lag up l in
    ap (λ t. as_seen row.holder row.corner (selected text t)) (up-seen text log (main_lag n row.lag) (lags-stored text log row.lag l) up held)
    ∙ sym (ap (λ (t : Listed). main_seen n (as_seen row.holder row.corner (selected text t))) before)

pub main-rows : (text : List ℕ) (log : Logged) (holder : Holder) (n : ℕ) (other : ShelfRow) (rows : List ShelfRow) → list_any (is_of holder) rows ≡ true → (first_where (is_of holder) other rows).lag.stamp ≡ stamp_of log → n < length (first_where (is_of holder) other rows).lag.sels.list → AllLag text log rows
    → HasLists text log (changed_where (is_of holder) (with_lag (main_lag n)) rows) (changed_where (is_held_by holder) (main_seen n) (map (seen_in text log) rows))
main-rows text log holder n other [] some up there a = record { stands = tt; lists_are = refl }
main-rows text log holder n other (row ∷ rows) some up there a =
    by_test (λ b. (b || list_any (is_of holder) rows) ≡ true → (cond b row (first_where (is_of holder) other rows)).lag.stamp ≡ stamp_of log → n < length (cond b row (first_where (is_of holder) other rows)).lag.sels.list
    → HasLists text log (cond b (with_lag (main_lag n) row ∷ rows) (row ∷ changed_where (is_of holder) (with_lag (main_lag n)) rows)) (cond b (main_seen n (seen_in text log row) ∷ map (seen_in text log) rows) (seen_in text log row ∷ changed_where (is_held_by holder) (main_seen n) (map (seen_in text log) rows)))) (is_of holder row)
    (λ _ some up there. record {
      stands = (up-lags text log (main_lag n row.lag) (lags-stored text log row.lag a.0) up (main-held text row.lag.sels n (up-held text log row.lag up a.0) there), a.1);
      lists_are = ap (λ l. l ∷ map (seen_in text log) rows) (main-one text log n row up there a.0);
    })
    (λ _ some up there.
    let rest : HasLists text log (changed_where (is_of holder) (with_lag (main_lag n)) rows) (changed_where (is_held_by holder) (main_seen n) (map (seen_in text log) rows)) = main-rows text log holder n other rows some up there a.1 in
    record { stands = (a.0, rest.stands); lists_are = ap (λ ls. seen_in text log row ∷ ls) rest.lists_are })
    some up there

-- a list is added
added-lag : (text : List ℕ) (log : Logged) (row : ShelfRow) (rows : List ShelfRow) → AllLag text log rows → Lags text log row.lag → AllLag text log (rows ++ row ∷ [])
added-lag text log row [] a l = (l, tt)
added-lag text log row (x ∷ xs) a l = (a.0, added-lag text log row xs a.1 l)

added-seen : (text : List ℕ) (log : Logged) (row : ShelfRow) (rows : List ShelfRow) → map (seen_in text log) (rows ++ row ∷ []) ≡ map (seen_in text log) rows ++ seen_in text log row ∷ []
added-seen text log row [] = refl
added-seen text log row (x ∷ xs) = ap (λ ls. seen_in text log x ∷ ls) (added-seen text log row xs)

pub added-rows : (text : List ℕ) (log : Logged) (holder : Holder) (s : Listed) (corner : Corner) (rows : List ShelfRow) → IsStored text → IsHeld text s → AllLag text log rows
    → HasLists text log (with_row (is_of holder) (record { holder = holder; lag = record { stamp = stamp_of log; sels = s }; corner = corner }) rows) (with_row (is_held_by holder) (as_seen holder corner (selected text s)) (map (seen_in text log) rows))
added-rows text log holder s corner rows h held a =
    let lag : Lag = record { stamp = stamp_of log; sels = s } in
    let row : ShelfRow = record { holder = holder; lag = lag; corner = corner } in
    let list : Held = as_seen holder corner (selected text s) in
    let lags : Lags text log lag = up-lags text log lag h refl held in
    let seen : seen_in text log row ≡ list = ap (λ t. as_seen holder corner (selected text t)) (up-seen text log lag h refl held) in
    let same : list_any (is_held_by holder) (map (seen_in text log) rows) ≡ list_any (is_of holder) rows = any-map (is_held_by holder) (seen_in text log) rows in
    by_test (λ b. b ≡ list_any (is_of holder) rows → HasLists text log (cond b rows (rows ++ row ∷ [])) (with_row (is_held_by holder) list (map (seen_in text log) rows))) (list_any (is_of holder) rows)
    (λ _ e. record { stands = a; lists_are = ap (λ t. cond t (map (seen_in text log) rows) (map (seen_in text log) rows ++ list ∷ [])) (e ∙ sym same) })
    (λ _ e. record {
      stands = added-lag text log row rows a lags;
      lists_are = added-seen text log row rows ∙ ap (λ l. map (seen_in text log) rows ++ l ∷ []) seen ∙ ap (λ t. cond t (map (seen_in text log) rows) (map (seen_in text log) rows ++ list ∷ [])) (e ∙ sym same);
    })
    refl

-- a holder's lists are taken off
pub left-rows : (text : List ℕ) (log : Logged) (holder : Holder) (rows : List ShelfRow) → AllLag text log rows → HasLists text log (filter (λ row. not (is_of holder row)) rows) (filter (λ list. not (is_held_by holder list)) (map (seen_in text log) rows))
left-rows text log holder [] a = record { stands = tt; lists_are = refl }
left-rows text log holder (row ∷ rows) a =
    let rest : HasLists text log (filter (λ row. not (is_of holder row)) rows) (filter (λ list. not (is_held_by holder list)) (map (seen_in text log) rows)) = left-rows text log holder rows a.1 in
    by_test (λ b. HasLists text log (cond (not b) (row ∷ filter (λ row. not (is_of holder row)) rows) (filter (λ row. not (is_of holder row)) rows)) (cond (not b) (seen_in text log row ∷ filter (λ list. not (is_held_by holder list)) (map (seen_in text log) rows)) (filter (λ list. not (is_held_by holder list)) (map (seen_in text log) rows)))) (is_of holder row)
    (λ _. rest)
    (λ _. record { stands = (a.0, rest.stands); lists_are = ap (λ ls. seen_in text log row ∷ ls) rest.lists_are })

-- a list that is up to date is read as it is seen
pub read-row : (text : List ℕ) (log : Logged) (holder : Holder) (other : ShelfRow) (none : Held) (rows : List ShelfRow) → list_any (is_of holder) rows ≡ true → (first_where (is_of holder) other rows).lag.stamp ≡ stamp_of log → AllLag text log rows
    → IsHeld text (first_where (is_of holder) other rows).lag.sels × (selected text (first_where (is_of holder) other rows).lag.sels ≡ (first_where (is_held_by holder) none (map (seen_in text log) rows)).sels)
read-row text log holder other none [] some up a = absurd (let no : false ≡ true = some in cc)
read-row text log holder other none (row ∷ rows) some up a =
    by_test (λ b. (b || list_any (is_of holder) rows) ≡ true → (cond b row (first_where (is_of holder) other rows)).lag.stamp ≡ stamp_of log
    → IsHeld text (cond b row (first_where (is_of holder) other rows)).lag.sels × (selected text (cond b row (first_where (is_of holder) other rows)).lag.sels ≡ (cond b (seen_in text log row) (first_where (is_held_by holder) none (map (seen_in text log) rows))).sels)) (is_of holder row)
    (λ _ some up. (up-held text log row.lag up a.0, ap (selected text) (sym (up-own text log row.lag up a.0))))
    (λ _ some up. read-row text log holder other none rows some up a.1)
    some up

-- all are held
pub all-held : (text : List ℕ) (log : Logged) (rows : List ShelfRow) → AllLag text log rows → AllByRecursion (λ (row : ShelfRow). IsHeld text (seen_by log row.lag)) rows
all-held text log [] a = tt
all-held text log (row ∷ rows) a = (seen-held text log row.lag a.0, all-held text log rows a.1)

-- the least stamp

pub least-below : (stamp : ℕ) (rows : List ShelfRow) → least stamp rows ≤ stamp
least-below stamp [] = omega arith
least-below stamp (row ∷ rows) = let rest : least (min stamp row.lag.stamp) rows ≤ min stamp row.lag.stamp = least-below (min stamp row.lag.stamp) rows in omega (arith, rest)

pub least-all : (stamp : ℕ) (rows : List ShelfRow) → AllByRecursion (λ (row : ShelfRow). least stamp rows ≤ row.lag.stamp) rows
least-all stamp [] = tt
least-all stamp (row ∷ rows) =
    let rest : least (min stamp row.lag.stamp) rows ≤ min stamp row.lag.stamp = least-below (min stamp row.lag.stamp) rows in
    (omega (arith, rest), least-all (min stamp row.lag.stamp) rows)

pub least-behind : (text : List ℕ) (log : Logged) (stamp : ℕ) (rows : List ShelfRow) → log.first ≤ stamp → AllLag text log rows → log.first ≤ least stamp rows
least-behind text log stamp [] h a = h
least-behind text log stamp (row ∷ rows) h a = least-behind text log (min stamp row.lag.stamp) rows (let l : log.first ≤ row.lag.stamp = a.0.first in omega (arith, h, l)) a.1

-- trimming leaves the lists
trimmed-rows : (text : List ℕ) (log : Logged) (to : ℕ) (rows : List ShelfRow) → log.first ≤ to → to ≤ stamp_of log → AllByRecursion (λ (row : ShelfRow). to ≤ row.lag.stamp) rows → AllLag text log rows → HasLists text (trimmed log to) rows (map (seen_in text log) rows)
trimmed-rows text log to [] f m b a = record { stands = tt; lists_are = refl }
trimmed-rows text log to (row ∷ rows) f m b a =
    let rest : HasLists text (trimmed log to) rows (map (seen_in text log) rows) = trimmed-rows text log to rows f m b.1 a.1 in
    record {
      stands = (trimmed-lags text log to row.lag f b.0 m a.0, rest.stands);
      lists_are = ap₂ (λ l ls. l ∷ ls) (ap (λ s. as_seen row.holder row.corner (selected text s)) (trimmed-seen log to row.lag f b.0)) rest.lists_are;
    }

-- where a shelf's log is trimmed to
pub trim-from : (text : List ℕ) (shelf : Shelved) → Stands text shelf → shelf.log.first ≤ least (stamp_of shelf.log) shelf.rows
trim-from text shelf st = least-behind text shelf.log (stamp_of shelf.log) shelf.rows (omega arith) st

pub trimmed-stands : (text : List ℕ) (shelf : Shelved) → Stands text shelf → HasLists text (trimmed shelf.log (least (stamp_of shelf.log) shelf.rows)) shelf.rows (map (seen_in text shelf.log) shelf.rows)
trimmed-stands text shelf st = trimmed-rows text shelf.log (least (stamp_of shelf.log) shelf.rows) shelf.rows (trim-from text shelf st) (least-below (stamp_of shelf.log) shelf.rows) (least-all (stamp_of shelf.log) shelf.rows) st

-- a holder's list is brought up to date, and the log trimmed
pub entered-stands : (text : List ℕ) (holder : Holder) (shelf : Shelved) → Stands text shelf → StandsWith text (entered holder shelf) (lists_in text shelf)
entered-stands text holder shelf st =
    let up : StandsWith text (brought_up holder shelf) (lists_in text shelf) = brought-rows text shelf.log holder shelf.rows st in
    let now : HasLists text (trimmed_shelf (brought_up holder shelf)).log (brought_up holder shelf).rows (lists_in text (brought_up holder shelf)) = trimmed-stands text (brought_up holder shelf) up.stands in
    record { stands = now.stands; lists_are = now.lists_are ∙ up.lists_are }
