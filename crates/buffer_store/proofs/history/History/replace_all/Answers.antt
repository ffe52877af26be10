use Rattle.std.proofs.Common.{length, subst}
use Rattle.text_model.specs.Texts.{IsStored}
use Rattle.undo_model.proofs.EditLemmas.{edit-steps}
use Rattle.buffer_store.specs.Buffers.{flat_splices}
use Rattle.buffer_store.proofs.MakingLemmas.{on_any}
use Rattle.buffer_store.proofs.EditingLemmas.{next-rebased, editing-next, next-short, next-room, editing-more, editing-failed}
use Rattle.buffer_store.proofs.history.History.replace_all.Goals as goal

pub rebase-begin-requires-clause-ordered : goal.rebase-begin-requires-clause-ordered
rebase-begin-requires-clause-ordered c =
    (next-rebased c.args.who c.args.self.now c.args.splices.now c.loop-splice.splice-index c.loop-splice.self c.loop-splice.from c.loop-splice.to c.loop-splice.shifts.items c.splice-item.result (subst IsStored c.lines.ensures c.len-stored.ensures.valid) c.requires.splices c.loop-splice-test.true c.splice-item.is c.loop-splice.invariant).from_order

pub rebase-begin-requires-clause-at_small : goal.rebase-begin-requires-clause-at_small
rebase-begin-requires-clause-at_small c =
    (next-rebased c.args.who c.args.self.now c.args.splices.now c.loop-splice.splice-index c.loop-splice.self c.loop-splice.from c.loop-splice.to c.loop-splice.shifts.items c.splice-item.result (subst IsStored c.lines.ensures c.len-stored.ensures.valid) c.requires.splices c.loop-splice-test.true c.splice-item.is c.loop-splice.invariant).from_small

pub rebase-begin-requires-clause-to_small : goal.rebase-begin-requires-clause-to_small
rebase-begin-requires-clause-to_small c =
    (next-rebased c.args.who c.args.self.now c.args.splices.now c.loop-splice.splice-index c.loop-splice.self c.loop-splice.from c.loop-splice.to c.loop-splice.shifts.items c.splice-item.result (subst IsStored c.lines.ensures c.len-stored.ensures.valid) c.requires.splices c.loop-splice-test.true c.splice-item.is c.loop-splice.invariant).onto_small

pub rebase-end-requires-clause-ordered : goal.rebase-end-requires-clause-ordered
rebase-end-requires-clause-ordered c =
    (next-rebased c.args.who c.args.self.now c.args.splices.now c.loop-splice.splice-index c.loop-splice.self c.loop-splice.from c.loop-splice.to c.loop-splice.shifts.items c.splice-item.result (subst IsStored c.lines.ensures c.len-stored.ensures.valid) c.requires.splices c.loop-splice-test.true c.splice-item.is c.loop-splice.invariant).to_order

pub rebase-end-requires-clause-at_small : goal.rebase-end-requires-clause-at_small
rebase-end-requires-clause-at_small c =
    (next-rebased c.args.who c.args.self.now c.args.splices.now c.loop-splice.splice-index c.loop-splice.self c.loop-splice.from c.loop-splice.to c.loop-splice.shifts.items c.splice-item.result (subst IsStored c.lines.ensures c.len-stored.ensures.valid) c.requires.splices c.loop-splice-test.true c.splice-item.is c.loop-splice.invariant).to_small

pub rebase-end-requires-clause-to_small : goal.rebase-end-requires-clause-to_small
rebase-end-requires-clause-to_small c =
    (next-rebased c.args.who c.args.self.now c.args.splices.now c.loop-splice.splice-index c.loop-splice.self c.loop-splice.from c.loop-splice.to c.loop-splice.shifts.items c.splice-item.result (subst IsStored c.lines.ensures c.len-stored.ensures.valid) c.requires.splices c.loop-splice-test.true c.splice-item.is c.loop-splice.invariant).onto_small

pub replace-requires-clause-from : goal.replace-requires-clause-from
replace-requires-clause-from c =
    (editing-next c.args.who c.args.self.now c.args.splices.now c.loop-splice.splice-index c.loop-splice.self c.loop-splice.from c.loop-splice.to c.loop-splice.shifts.items c.splice-item.result c.rebase-begin.result c.rebase-end.result c.as_slice.result.now (subst IsStored c.lines.ensures c.len-stored.ensures.valid) c.requires.splices c.loop-splice-test.true c.splice-item.is c.loop-splice.invariant c.rebase-begin.ensures c.rebase-end.ensures c.as_slice.ensures).begin_place

pub replace-requires-clause-to : goal.replace-requires-clause-to
replace-requires-clause-to c =
    (editing-next c.args.who c.args.self.now c.args.splices.now c.loop-splice.splice-index c.loop-splice.self c.loop-splice.from c.loop-splice.to c.loop-splice.shifts.items c.splice-item.result c.rebase-begin.result c.rebase-end.result c.as_slice.result.now (subst IsStored c.lines.ensures c.len-stored.ensures.valid) c.requires.splices c.loop-splice-test.true c.splice-item.is c.loop-splice.invariant c.rebase-begin.ensures c.rebase-end.ensures c.as_slice.ensures).behind_place

pub replace-requires-clause-ordered : goal.replace-requires-clause-ordered
replace-requires-clause-ordered c =
    (editing-next c.args.who c.args.self.now c.args.splices.now c.loop-splice.splice-index c.loop-splice.self c.loop-splice.from c.loop-splice.to c.loop-splice.shifts.items c.splice-item.result c.rebase-begin.result c.rebase-end.result c.as_slice.result.now (subst IsStored c.lines.ensures c.len-stored.ensures.valid) c.requires.splices c.loop-splice-test.true c.splice-item.is c.loop-splice.invariant c.rebase-begin.ensures c.rebase-end.ensures c.as_slice.ensures).ordered

pub replace-requires-clause-room : goal.replace-requires-clause-room
replace-requires-clause-room c =
    next-short c.args.who c.args.self.now c.args.splices.now c.loop-splice.splice-index c.loop-splice.self c.loop-splice.from c.loop-splice.to c.loop-splice.shifts.items c.splice-item.result c.rebase-begin.result c.rebase-end.result c.as_slice.result.now
    (editing-next c.args.who c.args.self.now c.args.splices.now c.loop-splice.splice-index c.loop-splice.self c.loop-splice.from c.loop-splice.to c.loop-splice.shifts.items c.splice-item.result c.rebase-begin.result c.rebase-end.result c.as_slice.result.now (subst IsStored c.lines.ensures c.len-stored.ensures.valid) c.requires.splices c.loop-splice-test.true c.splice-item.is c.loop-splice.invariant c.rebase-begin.ensures c.rebase-end.ensures c.as_slice.ensures)

pub replace-requires-clause-nodes : goal.replace-requires-clause-nodes
replace-requires-clause-nodes c =
    next-room c.args.who c.args.self.now c.args.splices.now c.loop-splice.splice-index c.loop-splice.self c.loop-splice.from c.loop-splice.to c.loop-splice.shifts.items c.splice-item.result c.rebase-begin.result c.rebase-end.result c.as_slice.result.now
    (editing-next c.args.who c.args.self.now c.args.splices.now c.loop-splice.splice-index c.loop-splice.self c.loop-splice.from c.loop-splice.to c.loop-splice.shifts.items c.splice-item.result c.rebase-begin.result c.rebase-end.result c.as_slice.result.now (subst IsStored c.lines.ensures c.len-stored.ensures.valid) c.requires.splices c.loop-splice-test.true c.splice-item.is c.loop-splice.invariant c.rebase-begin.ensures c.rebase-end.ensures c.as_slice.ensures)

pub returns-in_err-to-clause-err : goal.returns-in_err-to-clause-err
returns-in_err-to-clause-err c =
    on_any c.from_residual.result _ (editing-failed c.args.who c.args.self.now c.args.splices.now c.loop-splice.splice-index c.loop-splice.self c.replace.new.self c.loop-splice.from c.loop-splice.to c.loop-splice.shifts.items c.replace.new.shifts.items c.splice-item.result c.rebase-begin.result c.rebase-end.result c.as_slice.result.now
    (editing-next c.args.who c.args.self.now c.args.splices.now c.loop-splice.splice-index c.loop-splice.self c.loop-splice.from c.loop-splice.to c.loop-splice.shifts.items c.splice-item.result c.rebase-begin.result c.rebase-end.result c.as_slice.result.now (subst IsStored c.lines.ensures c.len-stored.ensures.valid) c.requires.splices c.loop-splice-test.true c.splice-item.is c.loop-splice.invariant c.rebase-begin.ensures c.rebase-end.ensures c.as_slice.ensures)
    c.in_err-to.ensures.err)

pub loop-splice-preserved : goal.loop-splice-preserved
loop-splice-preserved c =
    editing-more c.args.who c.args.self.now c.args.splices.now c.loop-splice.splice-index c.loop-splice.self c.replace.new.self c.loop-splice.from c.loop-splice.to c.in_ok-to.to c.loop-splice.shifts.items c.replace.new.shifts.items c.splice-item.result c.rebase-begin.result c.rebase-end.result c.as_slice.result.now
    (editing-next c.args.who c.args.self.now c.args.splices.now c.loop-splice.splice-index c.loop-splice.self c.loop-splice.from c.loop-splice.to c.loop-splice.shifts.items c.splice-item.result c.rebase-begin.result c.rebase-end.result c.as_slice.result.now (subst IsStored c.lines.ensures c.len-stored.ensures.valid) c.requires.splices c.loop-splice-test.true c.splice-item.is c.loop-splice.invariant c.rebase-begin.ensures c.rebase-end.ensures c.as_slice.ensures)
    (subst IsStored c.lines.ensures c.len-stored.ensures.valid) c.in_ok-to.ensures.ok c.in_ok-to.ensures.behind

pub returns-in_err-to-clause-steps : goal.returns-in_err-to-clause-steps
returns-in_err-to-clause-steps c = edit-steps (length c.args.self.now.text) c.args.self.now.text 0 (flat_splices c.args.self.now.text c.args.splices.now) (subst IsStored c.lines.ensures c.len-stored.ensures.valid) c.requires.splices.in_order c.requires.short

pub returns-clause-steps : goal.returns-clause-steps
returns-clause-steps c = edit-steps (length c.args.self.now.text) c.args.self.now.text 0 (flat_splices c.args.self.now.text c.args.splices.now) (subst IsStored c.lines.ensures c.len-stored.ensures.valid) c.requires.splices.in_order c.requires.short
