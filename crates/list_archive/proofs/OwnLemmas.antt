-- A client's own list, by what is seen on a shelf.
use Rattle.std.proofs.Common.{◌≡◌, ℕ, ◌||◌, true, false, List, [], ◌∷◌, map, cond, refl, sym, ap, ◌∙◌}
use Rattle.std.specs.List.{list_any}
use Rattle.tables.specs.Tables.{first_where}
use Rattle.tables.proofs.TableLemmas.{by_test}
use Rattle.tables.proofs.RowLemmas.{any-map}
use Rattle.text_model.specs.Changes.{Change}
use Rattle.selection_map.specs.Catching.{eager_by}
use Rattle.change_list.specs.Logs.{Logged}
use Rattle.selection_set.specs.Held.{selected}
use Rattle.list_shelf.specs.declared.holder.Holder.{Holder}
use Rattle.list_shelf.specs.declared.holder.Holder.TheVariants.{Of}
use Rattle.list_shelf.specs.declared.rows.ShelfRow.{ShelfRow}
use Rattle.list_shelf.specs.Lagging.{seen_by}
use Rattle.list_shelf.specs.Shelves.{Shelved, is_of, has_row, no_row, Held, seen_in, lists_in, is_held_by, list_moved}
use Rattle.list_archive.specs.Archives.{own_lag, list_in}

-- among some rows
own-in : (text : List ℕ) (log : Logged) (holder : Holder) (none : ShelfRow) (other : Held) (rows : List ShelfRow) → list_any (is_of holder) rows ≡ true
    → selected text (seen_by log (first_where (is_of holder) none rows).lag) ≡ (first_where (is_held_by holder) other (map (seen_in text log) rows)).sels
own-in text log holder none other [] some = absurd (let no : false ≡ true = some in cc)
own-in text log holder none other (row ∷ rows) some =
    by_test (λ b. (b || list_any (is_of holder) rows) ≡ true → selected text (seen_by log (cond b row (first_where (is_of holder) none rows)).lag) ≡ (cond b (seen_in text log row) (first_where (is_held_by holder) other (map (seen_in text log) rows))).sels) (is_of holder row)
    (λ _ _. refl)
    (λ _ some. own-in text log holder none other rows some)
    some

pub own-seen : (text : List ℕ) (who : ℕ) (other : Held) (shelf : Shelved) → has_row (Of who) shelf ≡ true → list_in text shelf.log (own_lag who shelf) ≡ (first_where (is_held_by (Of who)) other (lists_in text shelf)).sels
own-seen text who other shelf some = own-in text shelf.log (Of who) (no_row (Of who)) other shelf.rows some

pub has-seen : (text : List ℕ) (holder : Holder) (shelf : Shelved) → list_any (is_held_by holder) (lists_in text shelf) ≡ has_row holder shelf
has-seen text holder shelf = any-map (is_held_by holder) (seen_in text shelf.log) shelf.rows

-- on a shelf on which the same lists are seen
pub own-stays : (text : List ℕ) (who : ℕ) (shelf after : Shelved) → lists_in text after ≡ lists_in text shelf → has_row (Of who) shelf ≡ true
    → (has_row (Of who) after ≡ true) × (list_in text after.log (own_lag who after) ≡ list_in text shelf.log (own_lag who shelf))
own-stays text who shelf after e some =
    let there : has_row (Of who) after ≡ true = sym (has-seen text (Of who) after) ∙ ap (list_any (is_held_by (Of who))) e ∙ has-seen text (Of who) shelf ∙ some in
    let none : Held = seen_in text shelf.log (no_row (Of who)) in (
      there,
      own-seen text who none after there ∙ ap (λ ls. (first_where (is_held_by (Of who)) none ls).sels) e ∙ sym (own-seen text who none shelf some),
    )

-- on one where all were moved
moved-first : (text : List ℕ) (cs : List Change) (holder : Holder) (other : Held) (ls : List Held) → (first_where (is_held_by holder) (list_moved text cs other) (map (list_moved text cs) ls)).sels ≡ eager_by text cs (first_where (is_held_by holder) other ls).sels
moved-first text cs holder other [] = refl
moved-first text cs holder other (l ∷ ls) =
    by_test (λ b. (cond b (list_moved text cs l) (first_where (is_held_by holder) (list_moved text cs other) (map (list_moved text cs) ls))).sels ≡ eager_by text cs (cond b l (first_where (is_held_by holder) other ls)).sels) (is_held_by holder l)
    (λ _. refl)
    (λ _. moved-first text cs holder other ls)

moved-any : (text : List ℕ) (cs : List Change) (holder : Holder) (ls : List Held) → list_any (is_held_by holder) (map (list_moved text cs) ls) ≡ list_any (is_held_by holder) ls
moved-any text cs holder ls = any-map (is_held_by holder) (list_moved text cs) ls

pub own-moves : (text next : List ℕ) (cs : List Change) (who : ℕ) (shelf after : Shelved) → lists_in next after ≡ map (list_moved text cs) (lists_in text shelf) → has_row (Of who) shelf ≡ true
    → (has_row (Of who) after ≡ true) × (list_in next after.log (own_lag who after) ≡ eager_by text cs (list_in text shelf.log (own_lag who shelf)))
own-moves text next cs who shelf after e some =
    let there : has_row (Of who) after ≡ true = sym (has-seen next (Of who) after) ∙ ap (list_any (is_held_by (Of who))) e ∙ moved-any text cs (Of who) (lists_in text shelf) ∙ has-seen text (Of who) shelf ∙ some in
    let none : Held = seen_in text shelf.log (no_row (Of who)) in (
      there,
      own-seen next who (list_moved text cs none) after there
          ∙ ap (λ ls. (first_where (is_held_by (Of who)) (list_moved text cs none) ls).sels) e
          ∙ moved-first text cs (Of who) none (lists_in text shelf)
          ∙ ap (eager_by text cs) (sym (own-seen text who none shelf some)),
    )
