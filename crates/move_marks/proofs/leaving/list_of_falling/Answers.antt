use Rattle.std.proofs.Common.{◌≡◌, List, length, reverse, sym, ap, subst, ◌∙◌}
use Rattle.std.proofs.lemmas.List.{length-reverse}
use Rattle.std.specs.List.{refill}
use Rattle.selection_set.specs.declared.sel.Sel.{Sel}
use Rattle.selection_set.proofs.InOrderLemmas.{refilled}
use Rattle.selection_map.specs.Behind.{each_through_rest, StandBehind}
use Rattle.move_marks.proofs.MarkedLemmas.{shifts-many}
use Rattle.move_marks.proofs.PassLemmas.{stand-behind, rest-length, fallen-ok}
use Rattle.move_marks.proofs.leaving.list_of_falling.Goals as goal

pub carry_back-requires-clause-behind : goal.carry_back-requires-clause-behind
carry_back-requires-clause-behind c = subst (StandBehind c.args.shifts.now) (sym (c.as_mut_slice.ensures.value ∙ c.in_ok-list.ensures.ok)) (stand-behind c.args.marks.now c.args.shifts.now c.requires.marked)

pub returns-clause-settles : goal.returns-clause-settles
returns-clause-settles c =
    let given : List Sel = c.in_ok-list.list.items in
    let carried : List Sel = each_through_rest c.args.shifts.now c.args.marks.now in
    let gone : c.carry_back.new.sels ≡ carried = c.carry_back.ensures ∙ ap (each_through_rest c.args.shifts.now) (c.as_mut_slice.ensures.value ∙ c.in_ok-list.ensures.ok) in
    let many : length carried ≡ length given = rest-length c.args.shifts.now c.args.marks.now (shifts-many c.args.marks.now c.args.shifts.now c.requires.marked) ∙ sym (ap length c.in_ok-list.ensures.ok) in
    let back : refill (length given) given c.carry_back.new.sels ≡ carried = refilled given c.carry_back.new.sels (ap length gone ∙ many) ∙ gone in
    let turned : c.reverse.new.self ≡ reverse carried = c.reverse.ensures.after ∙ ap reverse (c.as_mut_slice-2.ensures.value ∙ back) in
    fallen-ok c.settled.result c.args.marks.now c.args.shifts.now _
    (refilled (refill (length given) given c.carry_back.new.sels) c.reverse.new.self (ap length turned ∙ length-reverse carried ∙ sym (ap length back)) ∙ turned) c.settled.ensures.settles
