-- What the code makes of lags, rows and shelves.
use Rattle.std.proofs.Common.{◌≡◌, ℕ, zero, suc, ◌<◌, ◌≤◌, ◌||◌, Bool, true, false, nat_lt, List, [], ◌∷◌, ◌++◌, length, map, get_or, set, cond, refl, sym, ap, subst, ◌∙◌, arith, is_err, OnOk, OnErr, IfOk, Ok, Err}
use Rattle.std.specs.List.{list_any}
use Rattle.std.specs.declared.result.Result.{Result}
use Rattle.std.proofs.lemmas.Bool.{lt-ltb, le-ltb, ltb-true}
use Rattle.tables.specs.Tables.{first_where, place_where, changed_where}
use Rattle.tables.proofs.TableLemmas.{by_test, first-place}
use Rattle.tables.proofs.RowLemmas.{place-inside, changed-place}
use Rattle.text_model.specs.declared.coords.Shift.{Shift}
use Rattle.text_model.specs.Changes.{Change, all_changed}
use Rattle.selection_set.specs.Listing.{Listed}
use Rattle.selection_set.proofs.HeldLemmas.{all-at}
use Rattle.selection_map.specs.Catching.{Step, AreShiftsOf, CanCatchUp, IsCatchable, IsCaughtUp}
use Rattle.selection_map.proofs.FrontLemmas.{mapped_front, front-at}
use Rattle.selection_map.proofs.StepLemmas.{changes-catchable}
use Rattle.change_list.specs.Logs.{Logged, stamp_of}
use Rattle.list_shelf.specs.declared.holder.Holder.{Holder}
use Rattle.list_shelf.specs.declared.lag.Lag.{Lag}
use Rattle.list_shelf.specs.declared.rows.ShelfRow.{ShelfRow}
use Rattle.window_view.specs.declared.corner.Corner.{Corner}
use Rattle.list_shelf.specs.Lagging.{since, caught, seen_by, up_to_date, renewed, IsLagging, Lags}
use Rattle.list_shelf.specs.Shelves.{Shelved, is_of, has_row, no_row, row_of, with_lag, changed_for, AllLag, AreLagging, AreCatchable, CanStand, CanFollow, listed, with_corner, brought_up, all_noted, all_moved, begun_again, room_made}
use Rattle.list_shelf.proofs.CaughtLemmas.{caught-only}
use Rattle.list_shelf.proofs.LagLemmas.{lags-catchable, lags-stored, seen-held, up-own}
use Rattle.list_shelf.proofs.FollowLemmas.{room-stands, all-noted-follows, all-moved-follows}
use Rattle.list_shelf.proofs.StandLemmas.{brought-rows, other_corner}

-- an answer

pub err-is : {T E P : Type 0} (r : Result T E) → is_err r ≡ true → OnErr r P → P
err-is (Ok x) e p = absurd (let no : false ≡ true = e in cc)
err-is (Err x) e p = p

pub ok-is : {T E P : Type 0} (r : Result T E) → is_err r ≡ false → OnOk r P → P
ok-is (Ok x) e p = p
ok-is (Err x) e p = absurd (let no : true ≡ false = e in cc)

pub on-ok : {T E P Q : Type 0} (r : Result T E) → OnOk r P → (P → Q) → OnOk r Q
on-ok (Ok x) p f = f p
on-ok (Err x) p f = tt

pub on-err : {T E P Q : Type 0} (r : Result T E) → OnErr r P → (P → Q) → OnErr r Q
on-err (Ok x) p f = tt
on-err (Err x) p f = f p

pub if-ok : {T E : Type 0} {P Q : T → Type 0} (r : Result T E) → IfOk r P → ((x : T) → P x → Q x) → IfOk r Q
if-ok (Ok x) p f = f x p
if-ok (Err x) p f = tt

-- a list that catches up

-- one that is up to date is as it was
pub lag-stays : (log : Logged) (lag : Lag) (stamp : ℕ) → IsLagging log lag → lag.stamp ≡ stamp → stamp ≡ stamp_of log → lag ≡ up_to_date log lag
lag-stays log lag stamp h e s =
    let same : lag.stamp ≡ stamp_of log = e ∙ s in
    let P : ℕ → Listed → Lag = λ n l. record { stamp = n; sels = l } in
    ap (λ n. P n lag.sels) same ∙ sym (ap (P (stamp_of log)) (up-own h.text log lag same h.lags))

pub lag-catchable : (log : Logged) (lag : Lag) (ss : List Shift) → IsLagging log lag → ss ≡ since log lag.stamp → IsCatchable ss lag.sels
lag-catchable log lag ss h e = subst (λ l. IsCatchable l lag.sels) (sym e) (lags-catchable h.text log lag h.lags)

pub lag-caught : (log : Logged) (lag : Lag) (ss : List Shift) (stamp : ℕ) (now : Listed) → IsLagging log lag → ss ≡ since log lag.stamp → stamp ≡ stamp_of log
    → ((old : List ℕ) (steps : List Step) → CanCatchUp old steps ss lag.sels → IsCaughtUp old steps lag.sels now) → record { stamp = stamp; sels = now } ≡ up_to_date log lag
lag-caught log lag ss stamp now h e s caught_up =
    let P : ℕ → Listed → Lag = λ n l. record { stamp = n; sels = l } in
    let is : now ≡ seen_by log lag = caught-only ss lag.sels now (lag-catchable log lag ss h e) caught_up ∙ ap (λ l. caught l lag.sels) e in
    ap (λ n. P n now) s ∙ ap (P (stamp_of log)) is

-- rows at their places

pub row-lags : (log : Logged) (rows : List ShelfRow) (n : ℕ) (row : ShelfRow) → AreLagging log rows → n < length rows → row ≡ get_or rows n row → IsLagging log row.lag
row-lags log rows n row a h e = record { text = a.text; lags = subst (λ (r : ShelfRow). Lags a.text log r.lag) (sym e) (all-at (λ (r : ShelfRow). Lags a.text log r.lag) rows n row h a.all) }

pub row-catchable : (ss : List Shift) (rows : List ShelfRow) (n : ℕ) (row : ShelfRow) → AreCatchable ss rows → n < length rows → row ≡ get_or rows n row → IsCatchable ss row.lag.sels
row-catchable ss rows n row a h e = subst (λ (r : ShelfRow). IsCatchable ss r.lag.sels) (sym e) (all-at (λ (r : ShelfRow). IsCatchable ss r.lag.sels) rows n row h a)

-- a row that comes next in a loop is as it was
pub front-row : (n : ℕ) (f : ShelfRow → ShelfRow) (rows now : List ShelfRow) (row : ShelfRow) → now ≡ mapped_front n f rows → row ≡ get_or now n row → row ≡ get_or rows n row
front-row n f rows now row e r = r ∙ ap (λ l. get_or l n row) e ∙ front-at n f rows row

-- whether a row is there, by its place

outside : (p : ShelfRow → Bool) (rows : List ShelfRow) → list_any p rows ≡ false → length rows ≤ place_where p rows
outside p [] h = omega arith
outside p (row ∷ rows) h =
    by_test (λ b. (b || list_any p rows) ≡ false → suc (length rows) ≤ cond b 0 (suc (place_where p rows))) (p row)
    (λ _ h. absurd (let no : true ≡ false = h in cc))
    (λ _ h. let rest : length rows ≤ place_where p rows = outside p rows h in omega (arith, rest))
    h

pub place-test : (p : ShelfRow → Bool) (rows : List ShelfRow) (n size : ℕ) → n ≡ place_where p rows → size ≡ length rows → nat_lt n size ≡ list_any p rows
place-test p rows n size e f =
    by_test (λ b. b ≡ list_any p rows → nat_lt n size ≡ b) (list_any p rows)
    (λ _ t. let inside : place_where p rows < length rows = place-inside p rows (sym t) in lt-ltb n size (omega (arith, e, f, inside)))
    (λ _ t. let past : length rows ≤ place_where p rows = outside p rows (sym t) in le-ltb n size (omega (arith, e, f, past)))
    refl

pub place-there : (p : ShelfRow → Bool) (rows : List ShelfRow) (n : ℕ) → n ≡ place_where p rows → list_any p rows ≡ true → n < length rows
place-there p rows n e some = let inside : place_where p rows < length rows = place-inside p rows some in omega (arith, e, inside)

-- a row that was read at its place
pub place-read : (p : ShelfRow → Bool) (other : ShelfRow) (rows : List ShelfRow) (n : ℕ) (row : ShelfRow) → n ≡ place_where p rows → list_any p rows ≡ true → row ≡ get_or rows n row → row ≡ first_where p other rows
place-read p other rows n row e some r = r ∙ same-default rows n row other (place-there p rows n e some) ∙ ap (λ k. get_or rows k other) e ∙ sym (first-place p other rows)
  where
    same-default : (xs : List ShelfRow) (k : ℕ) (a b : ShelfRow) → k < length xs → get_or xs k a ≡ get_or xs k b
    same-default [] k a b h = absurd (omega arith)
    same-default (x ∷ xs) zero a b h = refl
    same-default (x ∷ xs) (suc k) a b h = same-default xs k a b (omega arith)

-- a row that was changed at its place
pub place-set : (p : ShelfRow → Bool) (f : ShelfRow → ShelfRow) (rows : List ShelfRow) (n : ℕ) (row to : ShelfRow) → n ≡ place_where p rows → n < length rows → row ≡ get_or rows n row → to ≡ f row → set rows n to ≡ changed_where p f rows
place-set p f rows n row to e h r t =
    let below : place_where p rows < length rows = omega (arith, e, h) in
    ap (set rows n) (t ∙ ap f r) ∙ ap (λ k. set rows k (f (get_or rows k row))) e ∙ sym (changed-place p f row rows below)

-- where none is there, none is changed
pub none-set : (p : ShelfRow → Bool) (f : ShelfRow → ShelfRow) (rows : List ShelfRow) (n : ℕ) → n ≡ place_where p rows → length rows ≤ n → rows ≡ changed_where p f rows
none-set p f rows n e h = unchanged rows (omega (arith, e, h))
  where
    unchanged : (xs : List ShelfRow) → length xs ≤ place_where p xs → xs ≡ changed_where p f xs
    unchanged [] h = refl
    unchanged (x ∷ xs) h =
        by_test (λ b. suc (length xs) ≤ cond b 0 (suc (place_where p xs)) → x ∷ xs ≡ cond b (f x ∷ xs) (x ∷ changed_where p f xs)) (p x)
        (λ _ h. absurd (omega (arith, h)))
        (λ _ h. ap (λ ys. x ∷ ys) (unchanged xs (omega (arith, h))))
        h

-- what a shelf can do, its rows can

pub room-can : (shelf : Shelved) (ss : List Shift) → CanFollow shelf ss → CanFollow (room_made shelf) ss
room-can shelf ss can = record { text = can.text; changes = can.changes; shifts_are = can.shifts_are; stands = (room-stands can.text shelf can.stands).stands }

pub follow-stands : (shelf : Shelved) (ss : List Shift) → CanFollow shelf ss → CanStand shelf
follow-stands shelf ss can = record { text = can.text; all = can.stands }

pub renewed-catchable : (text : List ℕ) (cs : List Change) (ss : List Shift) (log : Logged) (rows : List ShelfRow) → AreShiftsOf text cs ss → AllLag text log rows → AreCatchable ss (map (with_lag (renewed log)) rows)
renewed-catchable text cs ss log [] k a = tt
renewed-catchable text cs ss log (row ∷ rows) k a = (changes-catchable text cs ss (seen_by log row.lag) (lags-stored text log row.lag a.0) k (seen-held text log row.lag a.0), renewed-catchable text cs ss log rows k a.1)

-- a holder's list on a shelf, which is seen as another value

pub shelf-there : (holder : Holder) (s t : Shelved) (n : ℕ) → s ≡ t → n ≡ place_where (is_of holder) s.rows → has_row holder t ≡ true → n < length s.rows
shelf-there holder s t n v p h = place-there (is_of holder) s.rows n p (ap (has_row holder) v ∙ h)

pub shelf-read : (holder : Holder) (s t : Shelved) (n : ℕ) (row : ShelfRow) → s ≡ t → n ≡ place_where (is_of holder) s.rows → has_row holder t ≡ true → row ≡ get_or s.rows n row → row ≡ row_of holder t
shelf-read holder s t n row v p h r = place-read (is_of holder) (no_row holder) s.rows n row p (ap (has_row holder) v ∙ h) r ∙ ap (row_of holder) v

pub shelf-set : (holder : Holder) (f : Lag → Lag) (s t : Shelved) (n : ℕ) (row to : ShelfRow) → s ≡ t → n ≡ place_where (is_of holder) s.rows → has_row holder t ≡ true → row ≡ get_or s.rows n row → to ≡ with_lag f row
    → record { limit = s.limit; log = s.log; rows = set s.rows n to } ≡ changed_for holder f t
shelf-set holder f s t n row to v p h r e =
    ap (λ rows. let x : Shelved = record { limit = s.limit; log = s.log; rows = rows } in x) (place-set (is_of holder) (with_lag f) s.rows n row to p (shelf-there holder s t n v p h) r e)
    ∙ ap (changed_for holder f) v

pub listed-there : (holder : Holder) (l : Listed) (corner : Corner) (t : Shelved) → has_row holder t ≡ true → t ≡ listed holder l corner t
listed-there holder l corner t h = ap (λ b. let x : Shelved = record { limit = t.limit; log = t.log; rows = cond b t.rows (t.rows ++ (record { holder = holder; lag = record { stamp = stamp_of t.log; sels = l }; corner = corner }) ∷ []) } in x) (sym h)

pub listed-new : (holder : Holder) (l : Listed) (corner : Corner) (stamp : ℕ) (s t : Shelved) → s ≡ t → stamp ≡ stamp_of s.log → has_row holder t ≡ false
    → record { limit = s.limit; log = s.log; rows = s.rows ++ (record { holder = holder; lag = record { stamp = stamp; sels = l }; corner = corner }) ∷ [] } ≡ listed holder l corner t
listed-new holder l corner stamp s t v e h =
    let P : ℕ → Shelved → Shelved = λ n y. record { limit = y.limit; log = y.log; rows = y.rows ++ (record { holder = holder; lag = record { stamp = n; sels = l }; corner = corner }) ∷ [] } in
    ap (λ n. P n s) e
    ∙ ap (λ (y : Shelved). P (stamp_of y.log) y) v
    ∙ ap (λ b. let x : Shelved = record { limit = t.limit; log = t.log; rows = cond b t.rows (t.rows ++ (record { holder = holder; lag = record { stamp = stamp_of t.log; sels = l }; corner = corner }) ∷ []) } in x) (sym h)

-- room for a shift

pub room-there : (t : Shelved) → stamp_of t.log < t.limit → t ≡ room_made t
room-there t h = ap (λ b. cond b t (begun_again t)) (sym (lt-ltb (stamp_of t.log) t.limit h))

pub room-again : (t : Shelved) → t.limit ≤ stamp_of t.log → begun_again t ≡ room_made t
room-again t h = ap (λ b. cond b t (begun_again t)) (sym (le-ltb (stamp_of t.log) t.limit h))

-- behind it the log stands below its limit
pub room-left : (t : Shelved) → 0 < t.limit → stamp_of (room_made t).log < t.limit
room-left t some =
    by_test (λ b. b ≡ nat_lt (stamp_of t.log) t.limit → stamp_of (cond b t (begun_again t)).log < t.limit) (nat_lt (stamp_of t.log) t.limit)
    (λ _ e. ltb-true (stamp_of t.log) t.limit (sym e))
    (λ _ _. some)
    refl

pub room-limit : (t : Shelved) → (room_made t).limit ≡ t.limit
room-limit t = by_test (λ b. (cond b t (begun_again t)).limit ≡ t.limit) (nat_lt (stamp_of t.log) t.limit) (λ _. refl) (λ _. refl)

-- a holder's window stands elsewhere
pub shelf-corner : (holder : Holder) (corner : Corner) (s t : Shelved) (n : ℕ) (row to : ShelfRow) → s ≡ t → n ≡ place_where (is_of holder) s.rows → has_row holder t ≡ true → row ≡ get_or s.rows n row → to ≡ other_corner corner row
    → record { limit = s.limit; log = s.log; rows = set s.rows n to } ≡ with_corner holder corner t
shelf-corner holder corner s t n row to v p h r e =
    ap (λ rows. let x : Shelved = record { limit = s.limit; log = s.log; rows = rows } in x) (place-set (is_of holder) (other_corner corner) s.rows n row to p (shelf-there holder s t n v p h) r e)
    ∙ ap (with_corner holder corner) v

-- a shelf on which a list was brought up to date, or shifts were noted, is a text's
pub brought-can : (holder : Holder) (shelf next : Shelved) → CanStand shelf → next ≡ brought_up holder shelf → CanStand next
brought-can holder shelf next can e = subst (λ (s : Shelved). CanStand s) (sym e) (record { text = can.text; all = (brought-rows can.text shelf.log holder shelf.rows can.all).stands })

pub noted-can : {T E : Type 0} (r : Result T E) (shelf next : Shelved) (ss : List Shift) → CanFollow shelf ss → OnOk r (next ≡ all_noted ss shelf) → OnErr r (next ≡ all_moved ss shelf) → CanStand next
noted-can (Ok x) shelf next ss can ok err = subst (λ (s : Shelved). CanStand s) (sym ok) (record { text = all_changed can.text can.changes; all = (all-noted-follows can.text can.changes ss shelf can.shifts_are can.stands).stands })
noted-can (Err x) shelf next ss can ok err = subst (λ (s : Shelved). CanStand s) (sym err) (record { text = all_changed can.text can.changes; all = (all-moved-follows can.text can.changes ss shelf can.shifts_are can.stands).stands })
