-- What is kept when the log of its shelf is trimmed, and when the shelf's own lists are brought up to date, added, or seen through a window that
-- stands elsewhere.
use Rattle.std.proofs.Common.{◌≡◌, ℕ, ◌≤◌, ◌-◌, min, ◌||◌, Bool, true, false, ◌==◌, List, [], ◌∷◌, ◌++◌, map, cond, refl, sym, ap, ap₂, ◌∙◌, arith}
use Rattle.std.specs.declared.option.Option.{Option}
use Rattle.std.specs.Prelude.{Some}
use Rattle.std.specs.List.{AllByRecursion, list_any}
use Rattle.std.proofs.lemmas.List.{length-drop}
use Rattle.tables.specs.Tables.{first_where, changed_where}
use Rattle.tables.proofs.TableLemmas.{by_test}
use Rattle.tables.proofs.RowLemmas.{first-kept, any-changed}
use Rattle.list_model.specs.Ranges.{Selected}
use Rattle.selection_set.specs.Listing.{Listed}
use Rattle.selection_set.specs.Held.{selected}
use Rattle.change_list.specs.Logs.{Logged, stamp_of, trimmed}
use Rattle.window_view.specs.declared.corner.Corner.{Corner}
use Rattle.list_shelf.specs.declared.holder.Holder.{Holder}
use Rattle.list_shelf.specs.declared.holder.Holder.TheVariants.{Of}
use Rattle.list_shelf.specs.declared.lag.Lag.{Lag}
use Rattle.list_shelf.specs.declared.rows.ShelfRow.{ShelfRow}
use Rattle.list_shelf.specs.Lagging.{Lags}
use Rattle.list_shelf.specs.Shelves.{Shelved, is_of, has_row, no_row, with_lag, with_main, brought_up, listed, with_corner, least, KeepsUp, seen_in, lists_in, AllLag, Stands, HasLists, StandsWith}
use Rattle.list_shelf.proofs.LagLemmas.{trimmed-lags, trimmed-seen}
use Rattle.list_shelf.proofs.FollowLemmas.{as_seen}
use Rattle.list_shelf.proofs.StandLemmas.{brought-rows, least-below, least-all, least-behind}
use Rattle.list_archive.specs.declared.saved.Saved.{Saved}
use Rattle.list_archive.specs.declared.saved.Saved.TheVariants.{Nothing, Same, Own}
use Rattle.list_archive.specs.Trails.{Trail, Mark, trail_with, mark_with}
use Rattle.list_archive.specs.Kept.{SavedList, KeptLists}
use Rattle.list_archive.specs.Archives.{Archived, own_lag, own_up, is_had_by, parted, least_lag, least_trail, least_mark, least_saved, least_kept, trimmed_with, IsTrimmedWith, list_in, saved_in, kept_in, SavedStands, ArchiveStands, KeptIs}
use Rattle.list_archive.proofs.EachLemmas.{AllOnTrails, AllOnMarks, each-trail, each-mark, same-trails, same-marks}
use Rattle.list_archive.proofs.OwnLemmas.{own-stays}

abbrev kept_by : Option SavedList → List (Trail Selected) → List (Mark Selected) → KeptLists
kept_by saved trails marks = record { saved = saved; trails = trails; marks = marks }

abbrev saved_list : ℕ → Selected → Option SavedList
saved_list who sels = Some (record { who = who; sels = sels })

-- a shelf with other rows, on which each client that had a list has one that is seen as before

abbrev pub shelf_with : Shelved → List ShelfRow → Shelved
shelf_with shelf rows = record { limit = shelf.limit; log = shelf.log; rows = rows }

abbrev pub KeepsOwn : List ℕ → Shelved → Shelved → Type 0
KeepsOwn text shelf after = (n : ℕ) → has_row (Of n) shelf ≡ true → (has_row (Of n) after ≡ true) × (list_in text after.log (own_lag n after) ≡ list_in text shelf.log (own_lag n shelf))

pub rows-keep : (text : List ℕ) (shelf : Shelved) (rows : List ShelfRow) (a : Archived) → KeepsOwn text shelf (shelf_with shelf rows) → ArchiveStands text shelf a → KeptIs text (shelf_with shelf rows) a (kept_in text shelf a)
rows-keep text shelf rows a own kept = record {
  stands = record { saved = (by a.saved kept.saved).0; trails = kept.trails; marks = kept.marks };
  is = ap (λ saved. kept_by saved (kept_in text shelf a).trails (kept_in text shelf a).marks) (by a.saved kept.saved).1;
}
  where
    by : (s : Saved) → SavedStands text shelf s → SavedStands text (shelf_with shelf rows) s × (saved_in text (shelf_with shelf rows) s ≡ saved_in text shelf s)
    by Nothing h = (tt, refl)
    by (Same n) h = ((own n h).0, ap (saved_list n) (own n h).1)
    by (Own n lag) h = (h, refl)

pub brought-keeps : (text : List ℕ) (holder : Holder) (shelf : Shelved) (a : Archived) → Stands text shelf → ArchiveStands text shelf a → KeptIs text (brought_up holder shelf) a (kept_in text shelf a)
brought-keeps text holder shelf a st kept =
    let up : StandsWith text (brought_up holder shelf) (lists_in text shelf) = brought-rows text shelf.log holder shelf.rows st in
    rows-keep text shelf (brought_up holder shelf).rows a (λ n some. own-stays text n shelf (brought_up holder shelf) up.lists_are some) kept

pub corner-keeps : (text : List ℕ) (holder : Holder) (corner : Corner) (shelf : Shelved) (a : Archived) → ArchiveStands text shelf a → KeptIs text (with_corner holder corner shelf) a (kept_in text shelf a)
corner-keeps text holder corner shelf a kept =
    let f : ShelfRow → ShelfRow = λ row. record { holder = row.holder; lag = row.lag; corner = corner } in
    rows-keep text shelf (with_corner holder corner shelf).rows a
    (λ n some. (
      any-changed (is_of holder) (is_of (Of n)) f shelf.rows (λ row. refl) ∙ some,
      ap (list_in text shelf.log) (first-kept (is_of holder) (is_of (Of n)) f (λ (row : ShelfRow). row.lag) (no_row (Of n)) shelf.rows (λ row. refl) (λ row. refl)),
    ))
    kept

first-some : (q : ShelfRow → Bool) (d : ShelfRow) (xs ys : List ShelfRow) → list_any q xs ≡ true → (list_any q (xs ++ ys) ≡ true) × (first_where q d (xs ++ ys) ≡ first_where q d xs)
first-some q d [] ys some = absurd (let no : false ≡ true = some in cc)
first-some q d (x ∷ xs) ys some =
    by_test (λ b. (b || list_any q xs) ≡ true → ((b || list_any q (xs ++ ys)) ≡ true) × (cond b x (first_where q d (xs ++ ys)) ≡ cond b x (first_where q d xs))) (q x)
    (λ _ _. (refl, refl))
    (λ _ some. first-some q d xs ys some)
    some

pub listed-keeps : (text : List ℕ) (holder : Holder) (s : Listed) (corner : Corner) (shelf : Shelved) (a : Archived) → ArchiveStands text shelf a → KeptIs text (listed holder s corner shelf) a (kept_in text shelf a)
listed-keeps text holder s corner shelf a kept =
    let row : ShelfRow = record { holder = holder; lag = record { stamp = stamp_of shelf.log; sels = s }; corner = corner } in
    by_test (λ b. KeptIs text (shelf_with shelf (cond b shelf.rows (shelf.rows ++ row ∷ []))) a (kept_in text shelf a)) (list_any (is_of holder) shelf.rows)
    (λ _. record { stands = kept; is = refl })
    (λ _. rows-keep text shelf (shelf.rows ++ row ∷ []) a
    (λ n some.
    let f : (list_any (is_of (Of n)) (shelf.rows ++ row ∷ []) ≡ true) × (first_where (is_of (Of n)) (no_row (Of n)) (shelf.rows ++ row ∷ []) ≡ first_where (is_of (Of n)) (no_row (Of n)) shelf.rows) = first-some (is_of (Of n)) (no_row (Of n)) shelf.rows (row ∷ []) some in
    (f.0, ap (λ (r : ShelfRow). list_in text shelf.log r.lag) f.1))
    kept)

-- the least stamp

abbrev IsFrom : ℕ → Lag → Type 0
IsFrom to lag = to ≤ lag.stamp

lag-below : (stamp : ℕ) (lags : List Lag) → least_lag stamp lags ≤ stamp
lag-below stamp [] = omega arith
lag-below stamp (x ∷ xs) = let rest : least_lag (min stamp x.stamp) xs ≤ min stamp x.stamp = lag-below (min stamp x.stamp) xs in omega (arith, rest)

lag-all : (stamp to : ℕ) (lags : List Lag) → to ≤ least_lag stamp lags → AllByRecursion (IsFrom to) lags
lag-all stamp to [] h = tt
lag-all stamp to (x ∷ xs) h =
    let rest : least_lag (min stamp x.stamp) xs ≤ min stamp x.stamp = lag-below (min stamp x.stamp) xs in
    (omega (arith, rest, h), lag-all (min stamp x.stamp) to xs h)

lag-from : (stamp to : ℕ) (lags : List Lag) → to ≤ stamp → AllByRecursion (IsFrom to) lags → to ≤ least_lag stamp lags
lag-from stamp to [] h a = h
lag-from stamp to (x ∷ xs) h a = let first : to ≤ x.stamp = a.0 in lag-from (min stamp x.stamp) to xs (omega (arith, h, first)) a.1

trail-below : (stamp : ℕ) (ts : List (Trail Lag)) → least_trail stamp ts ≤ stamp
trail-below stamp [] = omega arith
trail-below stamp (t ∷ ts) =
    let past : least_lag stamp t.past ≤ stamp = lag-below stamp t.past in
    let ahead : least_lag (least_lag stamp t.past) t.ahead ≤ least_lag stamp t.past = lag-below (least_lag stamp t.past) t.ahead in
    let rest : least_trail (least_lag (least_lag stamp t.past) t.ahead) ts ≤ least_lag (least_lag stamp t.past) t.ahead = trail-below (least_lag (least_lag stamp t.past) t.ahead) ts in
    omega (arith, past, ahead, rest)

trail-all : (stamp to : ℕ) (ts : List (Trail Lag)) → to ≤ least_trail stamp ts → AllOnTrails (IsFrom to) ts
trail-all stamp to [] h = tt
trail-all stamp to (t ∷ ts) h =
    let rest : least_trail (least_lag (least_lag stamp t.past) t.ahead) ts ≤ least_lag (least_lag stamp t.past) t.ahead = trail-below (least_lag (least_lag stamp t.past) t.ahead) ts in
    let ahead : least_lag (least_lag stamp t.past) t.ahead ≤ least_lag stamp t.past = lag-below (least_lag stamp t.past) t.ahead in
    ((lag-all stamp to t.past (omega (arith, h, rest, ahead)), lag-all (least_lag stamp t.past) to t.ahead (omega (arith, h, rest))), trail-all (least_lag (least_lag stamp t.past) t.ahead) to ts h)

trail-from : (stamp to : ℕ) (ts : List (Trail Lag)) → to ≤ stamp → AllOnTrails (IsFrom to) ts → to ≤ least_trail stamp ts
trail-from stamp to [] h a = h
trail-from stamp to (t ∷ ts) h a = trail-from (least_lag (least_lag stamp t.past) t.ahead) to ts (lag-from (least_lag stamp t.past) to t.ahead (lag-from stamp to t.past h a.0.0) a.0.1) a.1

mark-below : (stamp : ℕ) (ms : List (Mark Lag)) → least_mark stamp ms ≤ stamp
mark-below stamp [] = omega arith
mark-below stamp (m ∷ ms) = let rest : least_mark (min stamp m.list.stamp) ms ≤ min stamp m.list.stamp = mark-below (min stamp m.list.stamp) ms in omega (arith, rest)

mark-all : (stamp to : ℕ) (ms : List (Mark Lag)) → to ≤ least_mark stamp ms → AllOnMarks (IsFrom to) ms
mark-all stamp to [] h = tt
mark-all stamp to (m ∷ ms) h =
    let rest : least_mark (min stamp m.list.stamp) ms ≤ min stamp m.list.stamp = mark-below (min stamp m.list.stamp) ms in
    (omega (arith, rest, h), mark-all (min stamp m.list.stamp) to ms h)

mark-from : (stamp to : ℕ) (ms : List (Mark Lag)) → to ≤ stamp → AllOnMarks (IsFrom to) ms → to ≤ least_mark stamp ms
mark-from stamp to [] h a = h
mark-from stamp to (m ∷ ms) h a = let first : to ≤ m.list.stamp = a.0 in mark-from (min stamp m.list.stamp) to ms (omega (arith, h, first)) a.1

-- where a saved list of its own stands
abbrev SavedFrom : ℕ → Saved → Type 0
SavedFrom to (Own who lag) = to ≤ lag.stamp
SavedFrom to saved = Unit {0}

saved-below : (stamp : ℕ) (s : Saved) → least_saved stamp s ≤ stamp
saved-below stamp Nothing = omega arith
saved-below stamp (Same who) = omega arith
saved-below stamp (Own who lag) = omega arith

saved-all : (stamp to : ℕ) (s : Saved) → to ≤ least_saved stamp s → SavedFrom to s
saved-all stamp to Nothing h = tt
saved-all stamp to (Same who) h = tt
saved-all stamp to (Own who lag) h = omega (arith, h)

saved-from : (text : List ℕ) (shelf : Shelved) (stamp to : ℕ) (s : Saved) → to ≤ stamp → to ≤ shelf.log.first → SavedStands text shelf s → to ≤ least_saved stamp s
saved-from text shelf stamp to Nothing h f st = h
saved-from text shelf stamp to (Same who) h f st = h
saved-from text shelf stamp to (Own who lag) h f st = let first : shelf.log.first ≤ lag.stamp = st.first in omega (arith, h, f, first)

pub kept-below : (stamp : ℕ) (a : Archived) → least_kept stamp a ≤ stamp
kept-below stamp a =
    let saved : least_saved stamp a.saved ≤ stamp = saved-below stamp a.saved in
    let trails : least_trail (least_saved stamp a.saved) a.trails ≤ least_saved stamp a.saved = trail-below (least_saved stamp a.saved) a.trails in
    let marks : least_kept stamp a ≤ least_trail (least_saved stamp a.saved) a.trails = mark-below (least_trail (least_saved stamp a.saved) a.trails) a.marks in
    omega (arith, saved, trails, marks)

pub kept-from : (text : List ℕ) (shelf : Shelved) (a : Archived) → ArchiveStands text shelf a → shelf.log.first ≤ least_kept (stamp_of shelf.log) a
kept-from text shelf a st =
    let first : ℕ = shelf.log.first in
    mark-from (least_trail (least_saved (stamp_of shelf.log) a.saved) a.trails) shelf.log.first a.marks
    (trail-from (least_saved (stamp_of shelf.log) a.saved) shelf.log.first a.trails
    (saved-from text shelf (stamp_of shelf.log) shelf.log.first a.saved (omega arith) (omega arith) st.saved)
    (each-trail (Lags text shelf.log) (IsFrom shelf.log.first) a.trails (λ lag l. l.first) st.trails))
    (each-mark (Lags text shelf.log) (IsFrom shelf.log.first) a.marks (λ lag l. l.first) st.marks)

-- a trimmed log

abbrev to_of : Archived → Shelved → ℕ
to_of a shelf = least (least_kept (stamp_of shelf.log) a) shelf.rows

to-from : (text : List ℕ) (shelf : Shelved) (a : Archived) → Stands text shelf → ArchiveStands text shelf a → shelf.log.first ≤ to_of a shelf
to-from text shelf a st kept = least-behind text shelf.log (least_kept (stamp_of shelf.log) a) shelf.rows (kept-from text shelf a kept) st

to-kept : (shelf : Shelved) (a : Archived) → to_of a shelf ≤ least_kept (stamp_of shelf.log) a
to-kept shelf a = least-below (least_kept (stamp_of shelf.log) a) shelf.rows

to-stamp : (shelf : Shelved) (a : Archived) → to_of a shelf ≤ stamp_of shelf.log
to-stamp shelf a = let k : to_of a shelf ≤ least_kept (stamp_of shelf.log) a = to-kept shelf a in let b : least_kept (stamp_of shelf.log) a ≤ stamp_of shelf.log = kept-below (stamp_of shelf.log) a in omega (arith, k, b)

pub trimmed-stamp : (text : List ℕ) (shelf : Shelved) (a : Archived) → Stands text shelf → ArchiveStands text shelf a → stamp_of (trimmed_with a shelf).log ≡ stamp_of shelf.log
trimmed-stamp text shelf a st kept =
    let f : shelf.log.first ≤ to_of a shelf = to-from text shelf a st kept in
    let l : to_of a shelf ≤ stamp_of shelf.log = to-stamp shelf a in
    omega (arith, f, l, length-drop (to_of a shelf - shelf.log.first) shelf.log.shifts)

trimmed-rows : (text : List ℕ) (log : Logged) (to : ℕ) (rows : List ShelfRow) → log.first ≤ to → to ≤ stamp_of log → AllByRecursion (λ (row : ShelfRow). to ≤ row.lag.stamp) rows → AllLag text log rows → HasLists text (trimmed log to) rows (map (seen_in text log) rows)
trimmed-rows text log to [] f m b a = record { stands = tt; lists_are = refl }
trimmed-rows text log to (row ∷ rows) f m b a =
    let rest : HasLists text (trimmed log to) rows (map (seen_in text log) rows) = trimmed-rows text log to rows f m b.1 a.1 in
    record {
      stands = (trimmed-lags text log to row.lag f b.0 m a.0, rest.stands);
      lists_are = ap₂ (λ l ls. l ∷ ls) (ap (λ s. as_seen row.holder row.corner (selected text s)) (trimmed-seen log to row.lag f b.0)) rest.lists_are;
    }

pub trimmed-lists : (text : List ℕ) (shelf : Shelved) (a : Archived) → Stands text shelf → ArchiveStands text shelf a → StandsWith text (trimmed_with a shelf) (lists_in text shelf)
trimmed-lists text shelf a st kept =
    trimmed-rows text shelf.log (to_of a shelf) shelf.rows (to-from text shelf a st kept) (to-stamp shelf a) (least-all (least_kept (stamp_of shelf.log) a) shelf.rows) st

pub trimmed-is : (text : List ℕ) (shelf : Shelved) (a : Archived) → Stands text shelf → ArchiveStands text shelf a → IsTrimmedWith a (trimmed_with a shelf)
trimmed-is text shelf a st kept = ap (λ n. least (least_kept n a) shelf.rows) (sym (trimmed-stamp text shelf a st kept))

pub trimmed-up : (text : List ℕ) (shelf : Shelved) (a : Archived) → Stands text shelf → ArchiveStands text shelf a → KeepsUp shelf (trimmed_with a shelf)
trimmed-up text shelf a st kept holder up = λ some. up some ∙ sym (trimmed-stamp text shelf a st kept)

both : {A : Type 0} (P Q : A → Type 0) (xs : List A) → AllByRecursion P xs → AllByRecursion Q xs → AllByRecursion (λ x. P x × Q x) xs
both P Q [] p q = tt
both P Q (x ∷ xs) p q = ((p.0, q.0), both P Q xs p.1 q.1)

both-trails : {A : Type 0} (P Q : A → Type 0) (ts : List (Trail A)) → AllOnTrails P ts → AllOnTrails Q ts → AllOnTrails (λ x. P x × Q x) ts
both-trails P Q [] p q = tt
both-trails P Q (t ∷ ts) p q = ((both P Q t.past p.0.0 q.0.0, both P Q t.ahead p.0.1 q.0.1), both-trails P Q ts p.1 q.1)

pub trimmed-keeps : (text : List ℕ) (shelf : Shelved) (a : Archived) → Stands text shelf → StandsWith text (trimmed_with a shelf) (lists_in text shelf) → ArchiveStands text shelf a → KeptIs text (trimmed_with a shelf) a (kept_in text shelf a)
trimmed-keeps text shelf a st lists kept = record {
  stands = record {
    saved = (by a.saved kept.saved (saved-all (stamp_of shelf.log) (to_of a shelf) a.saved saved_to)).0;
    trails = each-trail P (Lags text (trimmed shelf.log (to_of a shelf))) a.trails lags all_trails;
    marks = each-mark P (Lags text (trimmed shelf.log (to_of a shelf))) a.marks lags all_marks;
  };
  is =
      ap (λ saved. kept_by saved (map (trail_with (list_in text (trimmed shelf.log (to_of a shelf)))) a.trails) (map (mark_with (list_in text (trimmed shelf.log (to_of a shelf)))) a.marks)) (by a.saved kept.saved (saved-all (stamp_of shelf.log) (to_of a shelf) a.saved saved_to)).1
      ∙ ap₂ (kept_by (saved_in text shelf a.saved))
      (same-trails P (list_in text (trimmed shelf.log (to_of a shelf))) (list_in text shelf.log) a.trails seen all_trails)
      (same-marks P (list_in text (trimmed shelf.log (to_of a shelf))) (list_in text shelf.log) a.marks seen all_marks);
}
  where
    P : Lag → Type 0
    P lag = IsFrom (to_of a shelf) lag × Lags text shelf.log lag

    first : shelf.log.first ≤ to_of a shelf
    first = to-from text shelf a st kept

    saved_to : to_of a shelf ≤ least_saved (stamp_of shelf.log) a.saved
    saved_to =
        let k : to_of a shelf ≤ least_kept (stamp_of shelf.log) a = to-kept shelf a in
        let m : least_kept (stamp_of shelf.log) a ≤ least_trail (least_saved (stamp_of shelf.log) a.saved) a.trails = mark-below (least_trail (least_saved (stamp_of shelf.log) a.saved) a.trails) a.marks in
        let t : least_trail (least_saved (stamp_of shelf.log) a.saved) a.trails ≤ least_saved (stamp_of shelf.log) a.saved = trail-below (least_saved (stamp_of shelf.log) a.saved) a.trails in
        omega (arith, k, m, t)

    trails_to : to_of a shelf ≤ least_trail (least_saved (stamp_of shelf.log) a.saved) a.trails
    trails_to =
        let k : to_of a shelf ≤ least_kept (stamp_of shelf.log) a = to-kept shelf a in
        let m : least_kept (stamp_of shelf.log) a ≤ least_trail (least_saved (stamp_of shelf.log) a.saved) a.trails = mark-below (least_trail (least_saved (stamp_of shelf.log) a.saved) a.trails) a.marks in
        omega (arith, k, m)

    all_trails : AllOnTrails P a.trails
    all_trails = both-trails (IsFrom (to_of a shelf)) (Lags text shelf.log) a.trails (trail-all (least_saved (stamp_of shelf.log) a.saved) (to_of a shelf) a.trails trails_to) kept.trails

    all_marks : AllOnMarks P a.marks
    all_marks = both (λ (m : Mark Lag). IsFrom (to_of a shelf) m.list) (λ (m : Mark Lag). Lags text shelf.log m.list) a.marks (mark-all (least_trail (least_saved (stamp_of shelf.log) a.saved) a.trails) (to_of a shelf) a.marks (to-kept shelf a)) kept.marks

    lags : (lag : Lag) → P lag → Lags text (trimmed shelf.log (to_of a shelf)) lag
    lags lag p = trimmed-lags text shelf.log (to_of a shelf) lag first p.0 (to-stamp shelf a) p.1

    seen : (lag : Lag) → P lag → list_in text (trimmed shelf.log (to_of a shelf)) lag ≡ list_in text shelf.log lag
    seen lag p = ap (selected text) (trimmed-seen shelf.log (to_of a shelf) lag first p.0)

    by : (s : Saved) → SavedStands text shelf s → SavedFrom (to_of a shelf) s → SavedStands text (trimmed_with a shelf) s × (saved_in text (trimmed_with a shelf) s ≡ saved_in text shelf s)
    by Nothing h f = (tt, refl)
    by (Same n) h f = ((own-stays text n shelf (trimmed_with a shelf) lists.lists_are h).0, ap (saved_list n) (own-stays text n shelf (trimmed_with a shelf) lists.lists_are h).1)
    by (Own n lag) h f = (lags lag (f, h), ap (saved_list n) (seen lag (f, h)))

-- where rows are changed that stay at their stamps, the log stays trimmed

least-changed : (p : ShelfRow → Bool) (f : ShelfRow → ShelfRow) (stamp : ℕ) (rows : List ShelfRow) → ((row : ShelfRow) → (f row).lag.stamp ≡ row.lag.stamp) → least stamp (changed_where p f rows) ≡ least stamp rows
least-changed p f stamp [] same = refl
least-changed p f stamp (row ∷ rows) same =
    by_test (λ b. least stamp (cond b (f row ∷ rows) (row ∷ changed_where p f rows)) ≡ least (min stamp row.lag.stamp) rows) (p row)
    (λ _. ap (λ n. least (min stamp n) rows) (same row))
    (λ _. least-changed p f (min stamp row.lag.stamp) rows same)

least-added : (stamp : ℕ) (row : ShelfRow) (rows : List ShelfRow) → stamp ≤ row.lag.stamp → least stamp (rows ++ row ∷ []) ≡ least stamp rows
least-added stamp row [] h = omega (arith, h)
least-added stamp row (x ∷ xs) h = least-added (min stamp x.lag.stamp) row xs (omega (arith, h))

pub corner-trimmed : (holder : Holder) (corner : Corner) (shelf : Shelved) (a : Archived) → IsTrimmedWith a shelf → IsTrimmedWith a (with_corner holder corner shelf)
corner-trimmed holder corner shelf a t =
    t ∙ sym (least-changed (is_of holder) (λ row. record { holder = row.holder; lag = row.lag; corner = corner }) (least_kept (stamp_of shelf.log) a) shelf.rows (λ row. refl))

parted-least : (who : ℕ) (shelf : Shelved) (s : Saved) → least_saved (stamp_of shelf.log) (cond (is_had_by who s) (Own who (own_up who shelf)) s) ≡ least_saved (stamp_of shelf.log) s
parted-least who shelf Nothing = refl
parted-least who shelf (Same n) =
    by_test (λ b. least_saved (stamp_of shelf.log) (cond b (Own who (own_up who shelf)) (Same n)) ≡ stamp_of shelf.log) (n == who)
    (λ _. omega arith)
    (λ _. refl)
parted-least who shelf (Own n lag) = refl

pub main-trimmed : (who n : ℕ) (shelf : Shelved) (a : Archived) → IsTrimmedWith a shelf → IsTrimmedWith (parted who shelf a) (with_main (Of who) n shelf)
main-trimmed who n shelf a t =
    t
    ∙ ap (λ m. least (least_mark (least_trail m a.trails) a.marks) shelf.rows) (sym (parted-least who shelf a.saved))
    ∙ sym (least-changed (is_of (Of who)) (with_lag (λ lag. record { stamp = lag.stamp; sels = record { list = lag.sels.list; main = n } })) (least_kept (stamp_of shelf.log) (parted who shelf a)) shelf.rows (λ row. refl))

pub added-trimmed : (holder : Holder) (s : Listed) (corner : Corner) (shelf : Shelved) (a : Archived) → IsTrimmedWith a shelf → IsTrimmedWith a (listed holder s corner shelf)
added-trimmed holder s corner shelf a t =
    let row : ShelfRow = record { holder = holder; lag = record { stamp = stamp_of shelf.log; sels = s }; corner = corner } in
    by_test (λ b. shelf.log.first ≡ least (least_kept (stamp_of shelf.log) a) (cond b shelf.rows (shelf.rows ++ row ∷ []))) (list_any (is_of holder) shelf.rows)
    (λ _. t)
    (λ _. t ∙ sym (least-added (least_kept (stamp_of shelf.log) a) row shelf.rows (kept-below (stamp_of shelf.log) a)))
