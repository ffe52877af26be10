use Rattle.std.proofs.lemmas.Result.{err_from_is_err_and}
use Rattle.edit_ops.specs.declared.kinds.Put.TheVariants.{BeforeCursor}
use Rattle.kak_world.specs.Editing.{edit_row}
use Rattle.key_rows.specs.Edits.{puts_of}
use Rattle.key_rows.proofs.RegisterLemmas.{refused-row}
use Rattle.insert_prompt.proofs.inserts.put_register.Goals as goal

pub returns-in_err-splices-clause-row : goal.returns-in_err-splices-clause-row
returns-in_err-splices-clause-row g c =
    let flat = c.args.world.now.flat in
    let p = err_from_is_err_and c.from_residual.result c.from_residual.ensures.1 in
    rw (p.1, p.2) (refused-row c.in_err-splices.field-0.0 BeforeCursor c.args.name c.args.who flat (λ strings w. edit_row (puts_of BeforeCursor strings c.args.who w) c.args.who w) (λ strings e. e) c.in_err-splices.ensures.refused)
