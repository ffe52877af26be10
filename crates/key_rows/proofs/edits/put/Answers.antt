use Rattle.std.proofs.Common.{◌≡◌, subst, ℕ}
use Rattle.std.proofs.lemmas.Result.{err_from_is_err_and}
use Rattle.std.specs.Prelude.{IfSome}
use Rattle.kak_world.specs.Rows.{row_of}
use Rattle.key_rows.specs.Reading.{strings_read}
use Rattle.key_rows.specs.Edits.{with_strings, leaving_row, puts_of}
use Rattle.key_rows.proofs.RegisterLemmas.{refused-row, leaving-fails}
use Rattle.key_rows.proofs.edits.put.Goals as goal

pub returns-in_err-splices-clause-row : goal.returns-in_err-splices-clause-row
returns-in_err-splices-clause-row g c =
    let flat = c.args.world.now.flat in
    let p = err_from_is_err_and c.from_residual.result c.from_residual.ensures.1 in
    rw (p.1, p.2) (subst (λ (n : ℕ). IfSome (row_of c.in_err-splices.field-0.0) (λ end. with_strings (strings_read n c.args.who flat) n (λ strings w. leaving_row (puts_of c.args.how strings c.args.who w) c.args.who w) flat ≡ record { world = flat; row = end })) c.used.ensures
    (refused-row c.in_err-splices.field-0.0 c.args.how c.used.result c.args.who flat (λ strings w. leaving_row (puts_of c.args.how strings c.args.who w) c.args.who w) (λ strings e. leaving-fails (puts_of c.args.how strings c.args.who flat) c.args.who flat e) c.in_err-splices.ensures.refused))
