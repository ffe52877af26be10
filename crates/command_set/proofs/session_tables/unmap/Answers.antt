use Rattle.std.proofs.Common.{◌≡◌, ℕ, List, subst}
use Rattle.std.proofs.lemmas.Result.{err_from_is_err_and}
use Rattle.std.specs.Prelude.{Err, IfSome}
use Rattle.kak_world.specs.Rows.{row_of}
use Rattle.command_set.specs.Tables.{key_told}
use Rattle.command_set.proofs.MappingLemmas.{unmap-key-refused}
use Rattle.command_set.proofs.session_tables.unmap.Goals as goal

pub returns-in_err-key-clause-row : goal.returns-in_err-key-clause-row
returns-in_err-key-clause-row g c =
    let flat = c.args.world.now.flat in
    let e = c.in_err-key.field-0.0 in
    let p = err_from_is_err_and c.from_residual-in_err-key.result c.from_residual-in_err-key.ensures.1 in
    let why = subst (λ (word : List ℕ). IfSome (row_of e) (λ x. key_told word ≡ Err e)) c.as_str.ensures c.in_err-key.ensures.why in
    rw (p.1, p.2) (unmap-key-refused c.args.name c.args.who flat c.in_ok-scope.scope c.in_ok-mode.mode c.in_ok-scope.ensures.scope c.in_ok-mode.ensures.mode e why)
