use Rattle.std.proofs.Common.{◌≡◌, ℕ, List, subst}
use Rattle.std.proofs.lemmas.Result.{err_from_is_err_and}
use Rattle.std.specs.Prelude.{None, Err, IfSome}
use Rattle.std.specs.Str.{chars}
use Rattle.key_names.specs.declared.key.Key.{Key}
use Rattle.key_names.specs.Reading.{read_text}
use Rattle.kak_world.specs.declared.ask.Ask.TheVariants.{Play}
use Rattle.kak_world.specs.Rows.{RowEnd, row_of}
use Rattle.command_set.specs.Buffers.{asks}
use Rattle.command_set.specs.Tables.{keys_told}
use Rattle.command_set.proofs.PlainLemmas.{plain-keys, told-refused}
use Rattle.command_set.proofs.running.play.Goals as goal

pub returns-in_err-keys : goal.returns-in_err-keys
returns-in_err-keys g c =
    let flat = c.args.world.now.flat in
    let read = read_text (chars c.args.order.now.keys) in
    let e = c.in_err-keys.field-0.0 in
    let row : List Key → RowEnd = λ keys. asks (Play (record { keys = keys; hooks = c.args.order.now.hooks; maps = c.args.order.now.maps; again = None })) flat in
    let p = err_from_is_err_and c.from_residual.result c.from_residual.ensures.1 in
    let why = subst (λ (word : List ℕ). IfSome (row_of e) (λ x. keys_told (read_text (chars word)) ≡ Err e)) c.as_str.ensures c.in_err-keys.ensures.why in
    record { row = rw (p.1, p.2) (told-refused row flat (keys_told read) e (plain-keys read) why) }
