-- Shifts that are noted one after another, and a log that is trimmed.
use Rattle.std.proofs.Common.{◌≡◌, ℕ, ◌≤◌, List, ◌∷◌, sym, ap, subst, ◌∙◌}
use Rattle.text_model.specs.declared.coords.Shift.{Shift}
use Rattle.selection_map.specs.Catching.{AreShiftsOf}
use Rattle.change_list.specs.Logs.{Logged, stamp_of}
use Rattle.list_shelf.specs.declared.rows.ShelfRow.{ShelfRow}
use Rattle.list_shelf.specs.Shelves.{Shelved, noted, all_noted, all_moved, least, CanStand, CanFollow}
use Rattle.list_shelf.proofs.FollowLemmas.{next-follows, next-moved}
use Rattle.list_shelf.proofs.StandLemmas.{least-below, trim-from}

-- the first of some shifts was noted, and the others are to come

pub next-can : (shelf next : Shelved) (rest others : List Shift) (s : Shift) → rest ≡ s ∷ others → next ≡ noted s shelf → CanFollow shelf rest → CanFollow next others
next-can shelf next rest others s r e can =
    subst (λ (x : Shelved). CanFollow x others) (sym e) (next-follows can.text can.changes s others shelf (subst (AreShiftsOf can.text can.changes) r can.shifts_are) can.stands)

pub next-noted : (shelf next whole : Shelved) (rest others : List Shift) (s : Shift) → rest ≡ s ∷ others → next ≡ noted s shelf → all_noted rest shelf ≡ whole → all_noted others next ≡ whole
next-noted shelf next whole rest others s r e so_far = ap (all_noted others) e ∙ sym (ap (λ l. all_noted l shelf) r) ∙ so_far

pub next-all_moved : (shelf next whole : Shelved) (rest others : List Shift) (s : Shift) → rest ≡ s ∷ others → next ≡ noted s shelf → CanFollow shelf rest → all_moved rest shelf ≡ whole → all_moved others next ≡ whole
next-all_moved shelf next whole rest others s r e can so_far =
    ap (all_moved others) e
    ∙ next-moved can.text can.changes s others shelf (subst (AreShiftsOf can.text can.changes) r can.shifts_are) can.stands
    ∙ sym (ap (λ l. all_moved l shelf) r)
    ∙ so_far

-- a shelf by its parts
abbrev pub shelf_of : ℕ → Logged → List ShelfRow → Shelved
shelf_of limit log rows = record { limit = limit; log = log; rows = rows }

-- where a log may be trimmed to
pub trim-behind : (limit : ℕ) (log : Logged) (rows : List ShelfRow) (shelf : Shelved) (to : ℕ) → shelf_of limit log rows ≡ shelf → CanStand shelf → to ≡ least (stamp_of log) rows → log.first ≤ to
trim-behind limit log rows shelf to v can e =
    let inside : CanStand (shelf_of limit log rows) = subst (λ (s : Shelved). CanStand s) (sym v) can in
    subst (λ n. log.first ≤ n) (sym e) (trim-from inside.text (shelf_of limit log rows) inside.all)

pub trim-within : (log : Logged) (rows : List ShelfRow) (to : ℕ) → to ≡ least (stamp_of log) rows → to ≤ stamp_of log
trim-within log rows to e = subst (λ n. n ≤ stamp_of log) (sym e) (least-below (stamp_of log) rows)
