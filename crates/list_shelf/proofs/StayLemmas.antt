-- Lists that are left as they are stored.
use Rattle.std.proofs.Common.{◌≡◌, suc, ◌+◌, Bool, true, false, List, [], ◌∷◌, ◌++◌, length, cond, ◌||◌, refl, ap, ◌∙◌}
use Rattle.std.specs.List.{list_any}
use Rattle.std.proofs.lemmas.Bool.{leb-true}
use Rattle.tables.specs.Tables.{first_where, changed_where}
use Rattle.tables.proofs.TableLemmas.{by_test}
use Rattle.tables.proofs.RowLemmas.{Leaves, any-changed, first-changed_other, any-left, first-left}
use Rattle.text_model.specs.declared.coords.Shift.{Shift}
use Rattle.change_list.specs.Logs.{stamp_of}
use Rattle.window_view.specs.declared.corner.Corner.{Corner}
use Rattle.list_shelf.specs.declared.holder.Holder.{Holder}
use Rattle.list_shelf.specs.declared.lag.Lag.{Lag}
use Rattle.list_shelf.specs.declared.rows.ShelfRow.{ShelfRow}
use Rattle.list_shelf.specs.Lagging.{up_to_date}
use Rattle.list_shelf.specs.Shelves.{same_holder, Shelved, is_of, has_row, no_row, with_lag, changed_for, with_corner, unlisted, brought_up, entered, all_noted, has_room, LeavesRow}
use Rattle.list_shelf.proofs.StoreLemmas.{holders-apart, fills}

pub row-stays : (other : Holder) (shelf : Shelved) → has_row other shelf ≡ true → LeavesRow other shelf shelf
row-stays other shelf has = record { there = has; same = refl }

pub row-after : (other : Holder) (a b c : Shelved) → LeavesRow other a b → LeavesRow other b c → LeavesRow other a c
row-after other a b c f g = record { there = g.there; same = g.same ∙ f.same }

-- by the rows alone
pub by-rows : (other : Holder) (a b : Shelved) → b.rows ≡ a.rows → has_row other a ≡ true → LeavesRow other a b
by-rows other a b e has = record { there = ap (list_any (is_of other)) e ∙ has; same = ap (first_where (is_of other) (no_row other)) e }

-- where one holder's list is changed
changed-leaves : (holder other : Holder) (f : ShelfRow → ShelfRow) (a b : Shelved) → ((row : ShelfRow) → (f row).holder ≡ row.holder) → b.rows ≡ changed_where (is_of holder) f a.rows → same_holder holder other ≡ false → has_row other a ≡ true → LeavesRow other a b
changed-leaves holder other f a b keeps e apart has =
    let leaves : Leaves (is_of other) f = λ row. ap (same_holder other) (keeps row) in
    record {
      there = ap (list_any (is_of other)) e ∙ any-changed (is_of holder) (is_of other) f a.rows leaves ∙ has;
      same = ap (first_where (is_of other) (no_row other)) e ∙ first-changed_other (is_of holder) (is_of other) f (no_row other) a.rows leaves (holders-apart holder other apart);
    }

pub lag-leaves : (holder other : Holder) (f : Lag → Lag) (shelf : Shelved) → same_holder holder other ≡ false → has_row other shelf ≡ true → LeavesRow other shelf (changed_for holder f shelf)
lag-leaves holder other f shelf apart has = changed-leaves holder other (with_lag f) shelf (changed_for holder f shelf) (λ row. refl) refl apart has

pub corner-leaves : (holder other : Holder) (corner : Corner) (shelf : Shelved) → same_holder holder other ≡ false → has_row other shelf ≡ true → LeavesRow other shelf (with_corner holder corner shelf)
corner-leaves holder other corner shelf apart has = changed-leaves holder other (λ row. record { holder = row.holder; lag = row.lag; corner = corner }) shelf (with_corner holder corner shelf) (λ row. refl) refl apart has

pub entered-leaves : (holder other : Holder) (shelf : Shelved) → same_holder holder other ≡ false → has_row other shelf ≡ true → LeavesRow other shelf (entered holder shelf)
entered-leaves holder other shelf apart has =
    let up = lag-leaves holder other (up_to_date shelf.log) shelf apart has in
    row-after other shelf (brought_up holder shelf) (entered holder shelf) up (by-rows other (brought_up holder shelf) (entered holder shelf) refl up.there)

pub unlisted-leaves : (holder other : Holder) (shelf : Shelved) → same_holder holder other ≡ false → has_row other shelf ≡ true → LeavesRow other shelf (unlisted holder shelf)
unlisted-leaves holder other shelf apart has = record {
  there = any-left (is_of holder) (is_of other) shelf.rows (holders-apart holder other apart) ∙ has;
  same = first-left (is_of holder) (is_of other) (no_row other) shelf.rows (holders-apart holder other apart);
}

-- behind others that are added
any-before : (p : ShelfRow → Bool) (xs ys : List ShelfRow) → list_any p xs ≡ true → list_any p (xs ++ ys) ≡ true
any-before p [] ys has = absurd (let no : false ≡ true = has in cc)
any-before p (x ∷ xs) ys has = by_test (λ b. (b || list_any p xs) ≡ true → (b || list_any p (xs ++ ys)) ≡ true) (p x) (λ _ _. refl) (λ _ h. any-before p xs ys h) has

first-before : (p : ShelfRow → Bool) (d : ShelfRow) (xs ys : List ShelfRow) → list_any p xs ≡ true → first_where p d (xs ++ ys) ≡ first_where p d xs
first-before p d [] ys has = absurd (let no : false ≡ true = has in cc)
first-before p d (x ∷ xs) ys has =
    by_test (λ b. (b || list_any p xs) ≡ true → cond b x (first_where p d (xs ++ ys)) ≡ cond b x (first_where p d xs)) (p x) (λ _ _. refl) (λ _ h. first-before p d xs ys h) has

pub added-leaves : (other : Holder) (a b : Shelved) (added : List ShelfRow) → b.rows ≡ a.rows ++ added → has_row other a ≡ true → LeavesRow other a b
added-leaves other a b added e has = record {
  there = ap (list_any (is_of other)) e ∙ any-before (is_of other) a.rows added has;
  same = ap (first_where (is_of other) (no_row other)) e ∙ first-before (is_of other) (no_row other) a.rows added has;
}

-- where a log has room, noting shifts leaves all lists as they are stored
noted-rows : (ss : List Shift) (shelf : Shelved) → has_room (length ss) shelf ≡ true → (all_noted ss shelf).rows ≡ shelf.rows
noted-rows [] shelf room = refl
noted-rows (s ∷ ss) shelf room = ap (λ (x : Shelved). x.rows) (fills (s ∷ ss) shelf (leb-true (stamp_of shelf.log + suc (length ss)) shelf.limit room))

pub noted-leaves : (holder other : Holder) (ss : List Shift) (shelf : Shelved) → has_room (length ss) shelf ≡ true → same_holder holder other ≡ false → has_row other shelf ≡ true → LeavesRow other shelf (entered holder (all_noted ss shelf))
noted-leaves holder other ss shelf room apart has =
    let still = by-rows other shelf (all_noted ss shelf) (noted-rows ss shelf room) has in
    row-after other shelf (all_noted ss shelf) (entered holder (all_noted ss shelf)) still (entered-leaves holder other (all_noted ss shelf) apart still.there)
