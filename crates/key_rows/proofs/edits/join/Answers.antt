use Rattle.std.proofs.Common.{Err, ap}
use Rattle.std.proofs.lemmas.Result.{err_from_is_err_and}
use Rattle.edit_ops.specs.Joining.{joins}
use Rattle.kak_world.specs.declared.ask.EditError.TheVariants.{NoMemory}
use Rattle.kak_world.proofs.AnswerLemmas.{error-of}
use Rattle.key_rows.proofs.WantingLemmas.{flats-are, some-made}
use Rattle.key_rows.proofs.edits.join.Goals as goal

pub returns-in_err-edit-clause-wanting : goal.returns-in_err-edit-clause-wanting
returns-in_err-edit-clause-wanting g c =
    let p = err_from_is_err_and c.from_residual-in_err-edit.result c.from_residual-in_err-edit.ensures.1 in
    let made = flats-are joins c.args.who c.args.world.now.flat c.lines.result.now c.sels.result.now c.in_ok-splices.splices.items c.as_slice.result.now c.as_slice.ensures.value c.lines.ensures c.sels.ensures.sels c.in_ok-splices.ensures.joins in
    rw (p.1, p.2) (λ h. some-made c.args.who c.args.world.now.flat c.edit.new.self.flat c.as_slice.result.now _ made (c.in_err-edit.ensures.wanting (ap Err (ap (error-of NoMemory) h))))
