-- Which lists are up to date, and how far a log is trimmed.
use Rattle.std.proofs.Common.{◌≡◌, ℕ, ◌≤◌, min, ◌||◌, Bool, true, false, not, List, [], ◌∷◌, ◌++◌, cond, refl, sym, ap, subst, ◌∙◌, arith}
use Rattle.std.specs.Prelude.{filter}
use Rattle.std.specs.List.{list_any}
use Rattle.std.proofs.lemmas.Bool.{eqb-true}
use Rattle.tables.specs.Tables.{first_where, changed_where}
use Rattle.tables.proofs.TableLemmas.{by_test}
use Rattle.tables.proofs.RowLemmas.{any-changed, none-left}
use Rattle.window_view.specs.declared.corner.Corner.{Corner}
use Rattle.selection_set.specs.Listing.{Listed}
use Rattle.change_list.specs.Logs.{stamp_of}
use Rattle.list_shelf.specs.declared.holder.Holder.{Holder}
use Rattle.list_shelf.specs.declared.holder.Holder.TheVariants.{Of}
use Rattle.list_shelf.specs.declared.rows.ShelfRow.{ShelfRow}
use Rattle.list_shelf.specs.Lagging.{up_to_date}
use Rattle.list_shelf.specs.Shelves.{same_holder, Shelved, is_of, has_row, no_row, with_lag, with_corner, brought_up, with_sels, with_main, listed, unlisted, least, trimmed_shelf, entered, IsUp, KeepsUp, IsTrimmed, Stands, StandsWith, lists_in}
use Rattle.list_shelf.proofs.StandLemmas.{other_corner, other_lag, main_lag, brought-rows}
use Rattle.list_shelf.proofs.StoreLemmas.{own-up, trim-stamp}

-- a holder's list, where it has one among some rows, stands at a stamp
abbrev StandsAt : Holder → ℕ → List ShelfRow → Type 0
StandsAt holder stamp rows = list_any (is_of holder) rows ≡ true → (first_where (is_of holder) (no_row holder) rows).lag.stamp ≡ stamp

-- so it does where rows are changed that keep their holders, and those that stand at the stamp keep it
stands-changed : (other holder : Holder) (stamp : ℕ) (f : ShelfRow → ShelfRow) (rows : List ShelfRow) → ((row : ShelfRow) → is_of other (f row) ≡ is_of other row) → ((row : ShelfRow) → row.lag.stamp ≡ stamp → (f row).lag.stamp ≡ stamp)
    → StandsAt other stamp rows → StandsAt other stamp (changed_where (is_of holder) f rows)
stands-changed other holder stamp f [] leaves keeps up = λ some. absurd (let no : false ≡ true = some in cc)
stands-changed other holder stamp f (row ∷ rows) leaves keeps up =
    by_test (λ b. StandsAt other stamp (cond b (f row ∷ rows) (row ∷ changed_where (is_of holder) f rows))) (is_of holder row)
    (λ _.
    let P : Bool → Type 0 = λ t. (t || list_any (is_of other) rows) ≡ true → (cond t (f row) (first_where (is_of other) (no_row other) rows)).lag.stamp ≡ stamp in
    subst P (sym (leaves row))
    (by_test (λ t. ((t || list_any (is_of other) rows) ≡ true → (cond t row (first_where (is_of other) (no_row other) rows)).lag.stamp ≡ stamp) → P t) (is_of other row)
    (λ _ was _. keeps row (was refl))
    (λ _ was. was)
    up))
    (λ _.
    by_test (λ t. ((t || list_any (is_of other) rows) ≡ true → (cond t row (first_where (is_of other) (no_row other) rows)).lag.stamp ≡ stamp)
    → (t || list_any (is_of other) (changed_where (is_of holder) f rows)) ≡ true → (cond t row (first_where (is_of other) (no_row other) (changed_where (is_of holder) f rows))).lag.stamp ≡ stamp) (is_of other row)
    (λ _ was _. was refl)
    (λ _ was. stands-changed other holder stamp f rows leaves keeps was)
    up)

stands-added : (other : Holder) (stamp : ℕ) (row : ShelfRow) (rows : List ShelfRow) → row.lag.stamp ≡ stamp → StandsAt other stamp rows → StandsAt other stamp (rows ++ row ∷ [])
stands-added other stamp row [] e up =
    by_test (λ t. (t || false) ≡ true → (cond t row (no_row other)).lag.stamp ≡ stamp) (is_of other row)
    (λ _ _. e)
    (λ _ some. absurd (let no : false ≡ true = some in cc))
stands-added other stamp row (x ∷ xs) e up =
    by_test (λ t. ((t || list_any (is_of other) xs) ≡ true → (cond t x (first_where (is_of other) (no_row other) xs)).lag.stamp ≡ stamp)
    → (t || list_any (is_of other) (xs ++ row ∷ [])) ≡ true → (cond t x (first_where (is_of other) (no_row other) (xs ++ row ∷ []))).lag.stamp ≡ stamp) (is_of other x)
    (λ _ was _. was refl)
    (λ _ was. stands-added other stamp row xs e was)
    up

-- a list that is two holders' is one holder's
one-holder : (a b h : Holder) → same_holder a h ≡ true → same_holder b h ≡ true → a ≡ b
one-holder (Of a) (Of b) (Of n) p q = ap Of (sym (eqb-true n a p) ∙ eqb-true n b q)

stands-left : (other holder : Holder) (stamp : ℕ) (rows : List ShelfRow) → StandsAt other stamp rows → StandsAt other stamp (filter (λ row. not (is_of holder row)) rows)
stands-left other holder stamp [] up = up
stands-left other holder stamp (row ∷ rows) up =
    by_test (λ b. b ≡ is_of holder row → StandsAt other stamp (cond (not b) (row ∷ filter (λ r. not (is_of holder r)) rows) (filter (λ r. not (is_of holder r)) rows))) (is_of holder row)
    (λ _ e.
    by_test (λ t. t ≡ is_of other row → ((t || list_any (is_of other) rows) ≡ true → (cond t row (first_where (is_of other) (no_row other) rows)).lag.stamp ≡ stamp) → StandsAt other stamp (filter (λ r. not (is_of holder r)) rows)) (is_of other row)
    (λ _ o _ some.
    let same : holder ≡ other = one-holder holder other row.holder (sym e) (sym o) in
    let none : list_any (is_of other) (filter (λ r. not (is_of holder r)) rows) ≡ false = subst (λ h. list_any (is_of h) (filter (λ r. not (is_of holder r)) rows) ≡ false) same (none-left (is_of holder) rows) in
    absurd (let no : false ≡ true = sym none ∙ some in cc))
    (λ _ _ was. stands-left other holder stamp rows was)
    refl up)
    (λ _ _.
    by_test (λ t. ((t || list_any (is_of other) rows) ≡ true → (cond t row (first_where (is_of other) (no_row other) rows)).lag.stamp ≡ stamp)
    → (t || list_any (is_of other) (filter (λ r. not (is_of holder r)) rows)) ≡ true → (cond t row (first_where (is_of other) (no_row other) (filter (λ r. not (is_of holder r)) rows))).lag.stamp ≡ stamp) (is_of other row)
    (λ _ was _. was refl)
    (λ _ was. stands-left other holder stamp rows was)
    up)
    refl

-- what is done with a shelf leaves those up to date that were so

pub up-replaced : (holder : Holder) (s : Listed) (shelf : Shelved) → KeepsUp shelf (with_sels holder s shelf)
up-replaced holder s shelf other up = stands-changed other holder (stamp_of shelf.log) (with_lag (other_lag shelf.log s)) shelf.rows (λ row. refl) (λ row e. refl) up

pub up-main : (holder : Holder) (n : ℕ) (shelf : Shelved) → KeepsUp shelf (with_main holder n shelf)
up-main holder n shelf other up = stands-changed other holder (stamp_of shelf.log) (with_lag (main_lag n)) shelf.rows (λ row. refl) (λ row e. e) up

pub up-corner : (holder : Holder) (corner : Corner) (shelf : Shelved) → KeepsUp shelf (with_corner holder corner shelf)
up-corner holder corner shelf other up = stands-changed other holder (stamp_of shelf.log) (other_corner corner) shelf.rows (λ row. refl) (λ row e. e) up

pub up-brought : (holder : Holder) (shelf : Shelved) → KeepsUp shelf (brought_up holder shelf)
up-brought holder shelf other up = stands-changed other holder (stamp_of shelf.log) (with_lag (up_to_date shelf.log)) shelf.rows (λ row. refl) (λ row e. refl) up

pub up-added : (holder : Holder) (s : Listed) (corner : Corner) (shelf : Shelved) → KeepsUp shelf (listed holder s corner shelf)
up-added holder s corner shelf other up =
    let row : ShelfRow = record { holder = holder; lag = record { stamp = stamp_of shelf.log; sels = s }; corner = corner } in
    by_test (λ b. StandsAt other (stamp_of shelf.log) (cond b shelf.rows (shelf.rows ++ row ∷ []))) (list_any (is_of holder) shelf.rows)
    (λ _. up)
    (λ _. stands-added other (stamp_of shelf.log) row shelf.rows refl up)

pub up-left : (holder : Holder) (shelf : Shelved) → KeepsUp shelf (unlisted holder shelf)
up-left holder shelf other up = stands-left other holder (stamp_of shelf.log) shelf.rows up

pub up-trimmed : (text : List ℕ) (shelf : Shelved) → Stands text shelf → KeepsUp shelf (trimmed_shelf shelf)
up-trimmed text shelf st other up = λ some. up some ∙ sym (trim-stamp text shelf st)

pub up-entered : (text : List ℕ) (holder : Holder) (shelf : Shelved) → Stands text shelf → KeepsUp shelf (entered holder shelf) × IsUp holder (entered holder shelf)
up-entered text holder shelf st =
    let up : StandsWith text (brought_up holder shelf) (lists_in text shelf) = brought-rows text shelf.log holder shelf.rows st in (
      λ other was. up-trimmed text (brought_up holder shelf) up.stands other (up-brought holder shelf other was),
      up-trimmed text (brought_up holder shelf) up.stands holder (λ some. own-up holder shelf (sym (any-brought holder shelf) ∙ some)),
    )
  where
    any-brought : (holder : Holder) (shelf : Shelved) → has_row holder (brought_up holder shelf) ≡ has_row holder shelf
    any-brought holder shelf = any-changed (is_of holder) (is_of holder) (with_lag (up_to_date shelf.log)) shelf.rows (λ row. refl)

-- how far a log is trimmed

pub is-trimmed : (text : List ℕ) (shelf : Shelved) → Stands text shelf → IsTrimmed (trimmed_shelf shelf)
is-trimmed text shelf st = ap (λ n. least n shelf.rows) (sym (trim-stamp text shelf st))

pub entered-trimmed : (text : List ℕ) (holder : Holder) (shelf : Shelved) → Stands text shelf → IsTrimmed (entered holder shelf)
entered-trimmed text holder shelf st =
    let up : StandsWith text (brought_up holder shelf) (lists_in text shelf) = brought-rows text shelf.log holder shelf.rows st in
    is-trimmed text (brought_up holder shelf) up.stands

least-changed : (p : ShelfRow → Bool) (f : ShelfRow → ShelfRow) (stamp : ℕ) (rows : List ShelfRow) → ((row : ShelfRow) → (f row).lag.stamp ≡ row.lag.stamp) → least stamp (changed_where p f rows) ≡ least stamp rows
least-changed p f stamp [] same = refl
least-changed p f stamp (row ∷ rows) same =
    by_test (λ b. least stamp (cond b (f row ∷ rows) (row ∷ changed_where p f rows)) ≡ least (min stamp row.lag.stamp) rows) (p row)
    (λ _. ap (λ n. least (min stamp n) rows) (same row))
    (λ _. least-changed p f (min stamp row.lag.stamp) rows same)

least-added : (stamp : ℕ) (row : ShelfRow) (rows : List ShelfRow) → stamp ≤ row.lag.stamp → least stamp (rows ++ row ∷ []) ≡ least stamp rows
least-added stamp row [] h = omega (arith, h)
least-added stamp row (x ∷ xs) h = least-added (min stamp x.lag.stamp) row xs (omega (arith, h))

pub main-trimmed : (holder : Holder) (n : ℕ) (shelf : Shelved) → IsTrimmed shelf → IsTrimmed (with_main holder n shelf)
main-trimmed holder n shelf t = t ∙ sym (least-changed (is_of holder) (with_lag (main_lag n)) (stamp_of shelf.log) shelf.rows (λ row. refl))

pub corner-trimmed : (holder : Holder) (corner : Corner) (shelf : Shelved) → IsTrimmed shelf → IsTrimmed (with_corner holder corner shelf)
corner-trimmed holder corner shelf t = t ∙ sym (least-changed (is_of holder) (other_corner corner) (stamp_of shelf.log) shelf.rows (λ row. refl))

pub added-trimmed : (holder : Holder) (s : Listed) (corner : Corner) (shelf : Shelved) → IsTrimmed shelf → IsTrimmed (listed holder s corner shelf)
added-trimmed holder s corner shelf t =
    let row : ShelfRow = record { holder = holder; lag = record { stamp = stamp_of shelf.log; sels = s }; corner = corner } in
    by_test (λ b. shelf.log.first ≡ least (stamp_of shelf.log) (cond b shelf.rows (shelf.rows ++ row ∷ []))) (list_any (is_of holder) shelf.rows)
    (λ _. t)
    (λ _. t ∙ sym (least-added (stamp_of shelf.log) row shelf.rows (omega arith)))
