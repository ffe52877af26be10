use Rattle.std.proofs.Common.{◌≡◌, ℕ, List, [], ◌∷◌, ◌++◌, ◌+◌, ◌<◌, length, drop, get_or, ap, ap₂, sym, subst, ◌∙◌, arith, append_assoc}
use Rattle.std.proofs.lemmas.List.{drop_more, length_push}
use Rattle.text_model.specs.declared.coords.Coord.{Coord}
use Rattle.text_model.specs.declared.coords.Shift.{Shift}
use Rattle.selection_set.specs.declared.sel.Sel.{Sel}
use Rattle.selection_map.specs.Carrying.{IsSmall}
use Rattle.buffer_store.specs.declared.edits.Splice.{Splice}
use Rattle.edit_ops.specs.declared.passing.PassedShifts.{PassedShifts}
use Rattle.edit_ops.specs.Passing.{place, passed, passed_at, mark_at, passed_marks, count_then}
use Rattle.edit_ops.proofs.HomeLemmas.{home-of-all}
use Rattle.edit_ops.proofs.LeftLemmas.{CanPass, GoesOn, can-go-on, go-on, edit-small}
use Rattle.edit_ops.proofs.leaving.marks_of.Goals as goal

next-is : (splices : List Splice) (i : ℕ) (s : Splice) → i < length splices → s ≡ get_or splices i s → drop i splices ≡ s ∷ drop (i + 1) splices
next-is splices i s h e = drop_more splices i s h ∙ ap (λ x. x ∷ drop (i + 1) splices) (sym e)

can : (last : Coord) (shifts : List Shift) (w : PassedShifts) (splices : List Splice) (i : ℕ) (s : Splice) → i < length splices → s ≡ get_or splices i s → GoesOn last shifts w (drop i splices) → CanPass last shifts w s
can last shifts w splices i s h e g = can-go-on last shifts w s (drop (i + 1) splices) (drop i splices) (next-is splices i s h e) g

pub place-at-requires-clause-ordered : goal.place-at-requires-clause-ordered
place-at-requires-clause-ordered c = (can c.args.last c.args.shifts.now c.loop-splice.walk c.args.splices.now c.loop-splice.splice-index c.splice-item.result c.loop-splice-test.true c.splice-item.is c.loop-splice.invariant.goes_on).ordered

pub place-at-requires-clause-from_small : goal.place-at-requires-clause-from_small
place-at-requires-clause-from_small c = (can c.args.last c.args.shifts.now c.loop-splice.walk c.args.splices.now c.loop-splice.splice-index c.splice-item.result c.loop-splice-test.true c.splice-item.is c.loop-splice.invariant.goes_on).from_small

pub place-at-requires-clause-now_small : goal.place-at-requires-clause-now_small
place-at-requires-clause-now_small c = (can c.args.last c.args.shifts.now c.loop-splice.walk c.args.splices.now c.loop-splice.splice-index c.splice-item.result c.loop-splice-test.true c.splice-item.is c.loop-splice.invariant.goes_on).now_small

pub passed_at-walk-requires-clause-room : goal.passed_at-walk-requires-clause-room
passed_at-walk-requires-clause-room c =
    let k : CanPass c.args.last c.args.shifts.now c.loop-splice.walk c.splice-item.result = can c.args.last c.args.shifts.now c.loop-splice.walk c.args.splices.now c.loop-splice.splice-index c.splice-item.result c.loop-splice-test.true c.splice-item.is c.loop-splice.invariant.goes_on in
    omega (arith, k.room, ap (count_then c.args.last c.loop-splice.walk c.splice-item.result) c.place-at.ensures)

pub passed_at-walk-requires-clause-small : goal.passed_at-walk-requires-clause-small
passed_at-walk-requires-clause-small c = edit-small c.args.last c.args.splices.now c.args.shifts.now c.requires.edit

pub passed_at-walk-requires-clause-last_small : goal.passed_at-walk-requires-clause-last_small
passed_at-walk-requires-clause-last_small c = (can c.args.last c.args.shifts.now c.loop-splice.walk c.args.splices.now c.loop-splice.splice-index c.splice-item.result c.loop-splice-test.true c.splice-item.is c.loop-splice.invariant.goes_on).last_small

pub mark_at-requires-clause-home : goal.mark_at-requires-clause-home
mark_at-requires-clause-home c = home-of-all c.args.shifts.now c.args.ends.now c.passed_at-walk.result.next c.requires.homes

pub mark_at-requires-clause-few : goal.mark_at-requires-clause-few
mark_at-requires-clause-few c = (can c.args.last c.args.shifts.now c.loop-splice.walk c.args.splices.now c.loop-splice.splice-index c.splice-item.result c.loop-splice-test.true c.splice-item.is c.loop-splice.invariant.goes_on).few

pub mark_at-requires-clause-at_small : goal.mark_at-requires-clause-at_small
mark_at-requires-clause-at_small c =
    subst IsSmall (sym c.place-at.ensures) (can c.args.last c.args.shifts.now c.loop-splice.walk c.args.splices.now c.loop-splice.splice-index c.splice-item.result c.loop-splice-test.true c.splice-item.is c.loop-splice.invariant.goes_on).at_small

pub loop-splice-preserved : goal.loop-splice-preserved
loop-splice-preserved c =
    let last : Coord = c.args.last in
    let shifts : List Shift = c.args.shifts.now in
    let splices : List Splice = c.args.splices.now in
    let i : ℕ = c.loop-splice.splice-index in
    let s : Splice = c.splice-item.result in
    let w : PassedShifts = c.loop-splice.walk in
    let rest : drop i splices ≡ s ∷ drop (i + 1) splices = next-is splices i s c.loop-splice-test.true c.splice-item.is in
    let walk : c.passed_at-walk.result ≡ passed last shifts w s = c.passed_at-walk.ensures ∙ ap (passed_at last shifts w s) c.place-at.ensures in
    let mark : c.mark_at.result ≡ mark_at shifts (passed last shifts w s) s (place w s) = c.mark_at.ensures ∙ ap₂ (λ v at. mark_at shifts v s at) walk c.place-at.ensures in
    record {
      so_far = ap₂ (λ (xs ys : List Sel). xs ++ ys) (c.push_reserved.ensures.items ∙ ap (λ x. c.loop-splice.list.items ++ x ∷ []) mark) (ap (λ v. passed_marks last shifts v (drop (i + 1) splices)) walk)
          ∙ append_assoc c.loop-splice.list.items (mark_at shifts (passed last shifts w s) s (place w s) ∷ []) (passed_marks last shifts (passed last shifts w s) (drop (i + 1) splices))
          ∙ ap (λ r. c.loop-splice.list.items ++ passed_marks last shifts w r) (sym rest) ∙ c.loop-splice.invariant.so_far;
      goes_on = subst (λ v. GoesOn last shifts v (drop (i + 1) splices)) (sym walk) (go-on last shifts w s (drop (i + 1) splices) (drop i splices) rest c.loop-splice.invariant.goes_on);
      room = omega (arith, ap length c.push_reserved.ensures.items, length_push c.loop-splice.list.items c.mark_at.result, c.push_reserved.ensures.capacity, c.loop-splice.invariant.room, c.loop-splice-test.true);
    }
