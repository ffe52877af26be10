use Rattle.buffer_store.proofs.PartLemmas.{edited-some, edited-all}
use Rattle.buffer_store.proofs.buffer.Buffer.edit.Goals as goal

pub returns-in_err-replace_all-clause-edits : goal.returns-in_err-replace_all-clause-edits
returns-in_err-replace_all-clause-edits c = edited-some c.args.who c.from_residual.result c.args.splices.now c.self.inside.history c.replace_all.new.self c.args.self.now c.replace_all.new.shifts.items c.self.view_is c.from_residual.ensures.0 c.in_err-replace_all.ensures.steps c.in_err-replace_all.ensures.err

pub returns-clause-edits : goal.returns-clause-edits
returns-clause-edits c = edited-all c.args.who c.args.splices.now c.self.inside.history c.replace_all.new.self c.args.self.now c.replace_all.new.shifts.items c.self.view_is c.in_ok-replace_all.ensures.steps c.in_ok-replace_all.ensures.ok
