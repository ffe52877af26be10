use Rattle.std.proofs.Common.{◌≡◌, ℕ, List, subst}
use Rattle.std.proofs.lemmas.Result.{err_from_is_err_and}
use Rattle.std.specs.Prelude.{Ok, Err, IfSome}
use Rattle.std.specs.Str.{chars}
use Rattle.key_names.specs.Reading.{read_text}
use Rattle.kak_world.specs.Rows.{row_of}
use Rattle.command_set.specs.Tables.{keys_told, key_told}
use Rattle.command_set.proofs.MappingLemmas.{map-key-refused, map-keys-refused}
use Rattle.command_set.proofs.session_tables.map.Goals as goal

pub returns-in_err-key-clause-row : goal.returns-in_err-key-clause-row
returns-in_err-key-clause-row g c =
    let flat = c.args.world.now.flat in
    let e = c.in_err-key.field-0.0 in
    let p = err_from_is_err_and c.from_residual-in_err-key.result c.from_residual-in_err-key.ensures.1 in
    let why = subst (λ (word : List ℕ). IfSome (row_of e) (λ x. key_told word ≡ Err e)) c.as_str.ensures c.in_err-key.ensures.why in
    rw (p.1, p.2) (map-key-refused c.args.mapping c.args.who flat c.in_ok-scope.scope c.in_ok-mode.mode c.in_ok-scope.ensures.scope c.in_ok-mode.ensures.mode e why)

pub returns-in_err-keys-clause-row : goal.returns-in_err-keys-clause-row
returns-in_err-keys-clause-row g c =
    let flat = c.args.world.now.flat in
    let e = c.in_err-keys.field-0.0 in
    let p = err_from_is_err_and c.from_residual-in_err-keys.result c.from_residual-in_err-keys.ensures.1 in
    let key = subst (λ (word : List ℕ). key_told word ≡ Ok c.in_ok-key.key) c.as_str.ensures c.in_ok-key.ensures.key in
    let why = subst (λ (word : List ℕ). IfSome (row_of e) (λ x. keys_told (read_text (chars word)) ≡ Err e)) c.as_str-2.ensures c.in_err-keys.ensures.why in
    rw (p.1, p.2) (map-keys-refused c.args.mapping c.args.who flat c.in_ok-scope.scope c.in_ok-mode.mode c.in_ok-scope.ensures.scope c.in_ok-mode.ensures.mode c.in_ok-key.key e key why)
