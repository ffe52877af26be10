use Rattle.std.proofs.Common.{List, sym, subst₂, arith, IfOk}
use Rattle.text_model.specs.declared.coords.Shift.{Shift}
use Rattle.selection_set.specs.declared.sel.Sel.{Sel}
use Rattle.move_marks.specs.Marking.{AreOfChanges}
use Rattle.move_marks.proofs.MarkedLemmas.{of-rest, shifts-many}
use Rattle.move_marks.proofs.LeftLemmas.{IsLeftFor, left-ok}
use Rattle.move_marks.proofs.leaving.list_left.Goals as goal

pub split_at-requires-2 : goal.split_at-requires-2
split_at-requires-2 c = omega (arith, shifts-many c.args.marks.now c.args.shifts.now c.requires.marked, c.saturating_sub-skipped.ensures)

pub list_of-requires-clause-marked : goal.list_of-requires-clause-marked
list_of-requires-clause-marked c =
    subst₂ AreOfChanges (sym c.split_at.ensures.back) (sym c.split_at-2.ensures.back) (of-rest c.saturating_sub-skipped.result c.args.marks.now c.args.shifts.now c.requires.marked)

pub returns-clause-left : goal.returns-clause-left
returns-clause-left c =
    let P : List Sel → List Shift → Type 0 = λ ms ss. IfOk c.list_of.result (IsLeftFor ms ss) in
    left-ok c.list_of.result c.saturating_sub-skipped.result c.args.marks.now c.args.shifts.now c.saturating_sub-skipped.ensures (omega (arith, c.saturating_sub-skipped.ensures, c.requires.some))
    (subst₂ P c.split_at.ensures.back c.split_at-2.ensures.back c.list_of.ensures.settles)
