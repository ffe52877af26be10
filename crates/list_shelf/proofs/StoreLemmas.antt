-- Lists and stamps as they are stored.
use Rattle.std.proofs.Common.{◌≡◌, ◌⊎◌, ℕ, ◌+◌, ◌-◌, ◌<◌, ◌≤◌, min, Bool, true, false, nat_lt, List, [], ◌∷◌, ◌++◌, length, map, cond, refl, sym, ap, subst, inl, inr, ◌∙◌, arith, append_assoc, append-nil}
use Rattle.std.proofs.lemmas.List.{length-append, length-drop}
use Rattle.std.proofs.lemmas.Bool.{lt-ltb, le-ltb, ltb-true, ltb-false, eqb-true, ne_eqb, eqb-false}
use Rattle.tables.proofs.TableLemmas.{by_test}
use Rattle.tables.proofs.RowLemmas.{AreApart, first-changed, first-changed_other}
use Rattle.text_model.specs.declared.coords.Shift.{Shift}
use Rattle.text_model.specs.Changes.{Change, all_changed}
use Rattle.selection_map.specs.Catching.{AreShiftsOf}
use Rattle.change_list.specs.Logs.{Logged, stamp_of, fresh, pushed}
use Rattle.list_shelf.specs.declared.holder.Holder.{Holder}
use Rattle.list_shelf.specs.declared.holder.Holder.TheVariants.{Of}
use Rattle.list_shelf.specs.declared.lag.Lag.{Lag}
use Rattle.list_shelf.specs.declared.rows.ShelfRow.{ShelfRow}
use Rattle.list_shelf.specs.Lagging.{up_to_date, renewed}
use Rattle.list_shelf.specs.Shelves.{same_holder, Shelved, is_of, has_row, no_row, row_of, with_lag, changed_for, brought_up, entered, LeavesOthers, begun_again, with_shift, noted, all_noted, least, trimmed_shelf, lists_in, list_moved, Stands, StandsWith}
use Rattle.list_shelf.specs.Laws.{AllStandAt, SomeStandsAt}
use Rattle.list_shelf.proofs.FollowLemmas.{all-noted-follows}
use Rattle.list_shelf.proofs.StandLemmas.{brought-rows, least-below, trim-from}

-- a list that is one holder's is no other's
pub holders-apart : (holder other : Holder) → same_holder holder other ≡ false → AreApart (is_of holder) (is_of other)
holders-apart (Of a) (Of b) apart row mine = by row.holder mine
  where
    by : (h : Holder) → same_holder (Of a) h ≡ true → same_holder (Of b) h ≡ false
    by (Of n) mine = ne_eqb n b (λ same. eqb-false b a apart (sym same ∙ eqb-true n a mine))

pub others-stay : (holder other : Holder) (f : Lag → Lag) (shelf : Shelved) → same_holder holder other ≡ false → row_of other (changed_for holder f shelf) ≡ row_of other shelf
others-stay holder other f shelf apart = first-changed_other (is_of holder) (is_of other) (with_lag f) (no_row other) shelf.rows (λ row. refl) (holders-apart holder other apart)

pub own-up : (holder : Holder) (shelf : Shelved) → has_row holder shelf ≡ true → (row_of holder (brought_up holder shelf)).lag.stamp ≡ stamp_of (brought_up holder shelf).log
own-up holder shelf some = ap (λ (row : ShelfRow). row.lag.stamp) (first-changed (is_of holder) (with_lag (up_to_date shelf.log)) (no_row holder) shelf.rows (λ row. refl) some)

-- up to the limit
pub fills : (ss : List Shift) (shelf : Shelved) → stamp_of shelf.log + length ss ≤ shelf.limit → all_noted ss shelf ≡ record { limit = shelf.limit; log = record { first = shelf.log.first; shifts = shelf.log.shifts ++ ss }; rows = shelf.rows }
fills [] shelf h =
    ap (λ shifts. let x : Shelved = record { limit = shelf.limit; log = record { first = shelf.log.first; shifts = shifts }; rows = shelf.rows } in x) (sym (append-nil shelf.log.shifts))
fills (s ∷ ss) shelf h =
    let below : stamp_of shelf.log < shelf.limit = omega (arith, h) in
    let more : stamp_of (with_shift s shelf).log + length ss ≤ shelf.limit = omega (arith, h, length-append shelf.log.shifts (s ∷ [])) in
    ap (λ b. all_noted ss (with_shift s (cond b shelf (begun_again shelf)))) (lt-ltb (stamp_of shelf.log) shelf.limit below)
    ∙ fills ss (with_shift s shelf) more
    ∙ ap (λ shifts. let x : Shelved = record { limit = shelf.limit; log = record { first = shelf.log.first; shifts = shifts }; rows = shelf.rows } in x) (append_assoc shelf.log.shifts (s ∷ []) ss)

pub others-for : (holder : Holder) (ss : List Shift) (shelf : Shelved) → LeavesOthers holder (length ss) shelf (entered holder (all_noted ss shelf))
others-for holder ss shelf room other apart =
    others-stay holder other (up_to_date (all_noted ss shelf).log) (all_noted ss shelf) apart ∙ ap (row_of other) (fills ss shelf room)

-- at the limit
all-begin : (log : Logged) (rows : List ShelfRow) → AllStandAt 0 (map (with_lag (renewed log)) rows)
all-begin log [] = tt
all-begin log (row ∷ rows) = (refl, all-begin log rows)

pub begins : (s : Shift) (shelf : Shelved) → stamp_of shelf.log ≡ shelf.limit → (noted s shelf ≡ with_shift s (begun_again shelf)) × ((noted s shelf).log ≡ pushed fresh s) × AllStandAt 0 (noted s shelf).rows
begins s shelf e =
    let is : noted s shelf ≡ with_shift s (begun_again shelf) = ap (λ b. with_shift s (cond b shelf (begun_again shelf))) (le-ltb (stamp_of shelf.log) shelf.limit (omega (arith, e))) in
    (is, ap (λ (x : Shelved). x.log) is, subst (λ (x : Shelved). AllStandAt 0 x.rows) (sym is) (all-begin shelf.log shelf.rows))

-- as many shifts as a log holds, and one more

noted-more : (ss : List Shift) (s : Shift) (shelf : Shelved) → all_noted (ss ++ s ∷ []) shelf ≡ noted s (all_noted ss shelf)
noted-more [] s shelf = refl
noted-more (t ∷ ts) s shelf = noted-more ts s (noted t shelf)

abbrev full : List Shift → Shelved → Shelved
full ss shelf = record { limit = shelf.limit; log = record { first = shelf.log.first; shifts = shelf.log.shifts ++ ss }; rows = shelf.rows }

fills-whole : (ss : List Shift) (shelf : Shelved) → shelf.log ≡ fresh → length ss ≡ shelf.limit → all_noted ss shelf ≡ full ss shelf
fills-whole ss shelf e l =
    let first : shelf.log.first ≡ 0 = ap (λ (x : Logged). x.first) e in
    let none : length shelf.log.shifts ≡ 0 = ap (λ (x : Logged). length x.shifts) e in
    fills ss shelf (omega (arith, first, none, l))

full-stamp : (ss : List Shift) (shelf : Shelved) → shelf.log ≡ fresh → length ss ≡ shelf.limit → stamp_of (full ss shelf).log ≡ (full ss shelf).limit
full-stamp ss shelf e l =
    let first : shelf.log.first ≡ 0 = ap (λ (x : Logged). x.first) e in
    let none : length shelf.log.shifts ≡ 0 = ap (λ (x : Logged). length x.shifts) e in
    omega (arith, first, none, l, length-append shelf.log.shifts ss)

past-is : (ss : List Shift) (s : Shift) (shelf : Shelved) → shelf.log ≡ fresh → length ss ≡ shelf.limit → all_noted (ss ++ s ∷ []) shelf ≡ noted s (full ss shelf)
past-is ss s shelf e l = noted-more ss s shelf ∙ ap (noted s) (fills-whole ss shelf e l)

pub until-full : (ss : List Shift) (shelf : Shelved) → shelf.log ≡ fresh → length ss ≡ shelf.limit → (all_noted ss shelf).rows ≡ shelf.rows
until-full ss shelf e l = ap (λ (x : Shelved). x.rows) (fills-whole ss shelf e l)

pub past-log : (ss : List Shift) (s : Shift) (shelf : Shelved) → shelf.log ≡ fresh → length ss ≡ shelf.limit → (all_noted (ss ++ s ∷ []) shelf).log ≡ record { first = 0; shifts = s ∷ [] }
past-log ss s shelf e l = ap (λ (x : Shelved). x.log) (past-is ss s shelf e l) ∙ (begins s (full ss shelf) (full-stamp ss shelf e l)).1

pub past-stamps : (ss : List Shift) (s : Shift) (shelf : Shelved) → shelf.log ≡ fresh → length ss ≡ shelf.limit → AllStandAt 0 (all_noted (ss ++ s ∷ []) shelf).rows
past-stamps ss s shelf e l = subst (λ (x : Shelved). AllStandAt 0 x.rows) (sym (past-is ss s shelf e l)) (begins s (full ss shelf) (full-stamp ss shelf e l)).2

pub past-eager : (text : List ℕ) (cs : List Change) (ss : List Shift) (holder : Holder) (shelf : Shelved) → AreShiftsOf text cs ss → Stands text shelf
    → lists_in (all_changed text cs) (brought_up holder (all_noted ss shelf)) ≡ map (list_moved text cs) (lists_in text shelf)
past-eager text cs ss holder shelf k st =
    let noted_all : StandsWith (all_changed text cs) (all_noted ss shelf) (map (list_moved text cs) (lists_in text shelf)) = all-noted-follows text cs ss shelf k st in
    (brought-rows (all_changed text cs) (all_noted ss shelf).log holder (all_noted ss shelf).rows noted_all.stands).lists_are ∙ noted_all.lists_are

-- never beyond it
one-within : (s : Shift) (shelf : Shelved) → 0 < shelf.limit → stamp_of (noted s shelf).log ≤ shelf.limit
one-within s shelf some =
    by_test (λ b. b ≡ nat_lt (stamp_of shelf.log) shelf.limit → stamp_of (with_shift s (cond b shelf (begun_again shelf))).log ≤ shelf.limit) (nat_lt (stamp_of shelf.log) shelf.limit)
    (λ _ e. let below : stamp_of shelf.log < shelf.limit = ltb-true (stamp_of shelf.log) shelf.limit (sym e) in omega (arith, below, length-append shelf.log.shifts (s ∷ [])))
    (λ _ e. omega (arith, some))
    refl

same-limit : (s : Shift) (shelf : Shelved) → (noted s shelf).limit ≡ shelf.limit
same-limit s shelf = by_test (λ b. (cond b shelf (begun_again shelf)).limit ≡ shelf.limit) (nat_lt (stamp_of shelf.log) shelf.limit) (λ _. refl) (λ _. refl)

pub within : (ss : List Shift) (shelf : Shelved) → 0 < shelf.limit → stamp_of shelf.log ≤ shelf.limit → stamp_of (all_noted ss shelf).log ≤ shelf.limit
within [] shelf some h = h
within (s ∷ ss) shelf some h =
    let same : (noted s shelf).limit ≡ shelf.limit = same-limit s shelf in
    subst (λ n. stamp_of (all_noted ss (noted s shelf)).log ≤ n) same (within ss (noted s shelf) (subst (λ n. 0 < n) (sym same) some) (subst (λ n. stamp_of (noted s shelf).log ≤ n) (sym same) (one-within s shelf some)))

-- the log is trimmed to its own stamp or to one at which a list stands
pub least-some : (stamp : ℕ) (rows : List ShelfRow) → (least stamp rows ≡ stamp) ⊎ SomeStandsAt (least stamp rows) rows
least-some stamp [] = inl refl
least-some stamp (row ∷ rows) = by (least-some (min stamp row.lag.stamp) rows) (nat_lt stamp row.lag.stamp) refl
  where
    by : (least (min stamp row.lag.stamp) rows ≡ min stamp row.lag.stamp) ⊎ SomeStandsAt (least (min stamp row.lag.stamp) rows) rows → (b : Bool) → nat_lt stamp row.lag.stamp ≡ b → (least (min stamp row.lag.stamp) rows ≡ stamp) ⊎ ((row.lag.stamp ≡ least (min stamp row.lag.stamp) rows) ⊎ SomeStandsAt (least (min stamp row.lag.stamp) rows) rows)
    by (inr s) b q = inr (inr s)
    by (inl e) true q = let lt : stamp < row.lag.stamp = ltb-true stamp row.lag.stamp q in inl (omega (arith, e, lt))
    by (inl e) false q = let le : row.lag.stamp ≤ stamp = ltb-false stamp row.lag.stamp q in inr (inl (omega (arith, e, le)))

pub trim-stamp : (text : List ℕ) (shelf : Shelved) → Stands text shelf → stamp_of (trimmed_shelf shelf).log ≡ stamp_of shelf.log
trim-stamp text shelf st =
    let from : shelf.log.first ≤ least (stamp_of shelf.log) shelf.rows = trim-from text shelf st in
    let to : least (stamp_of shelf.log) shelf.rows ≤ stamp_of shelf.log = least-below (stamp_of shelf.log) shelf.rows in
    omega (arith, from, to, length-drop (least (stamp_of shelf.log) shelf.rows - shelf.log.first) shelf.log.shifts)
