use Rattle.std.proofs.Common.{Err, ap, inl}
use Rattle.key_rows.proofs.RegisterLemmas.{crowded-puts}
use Rattle.key_rows.proofs.reading.strings_put.Goals as goal

pub returns-in-Err-TooLong-clause-refused : goal.returns-in-Err-TooLong-clause-refused
returns-in-Err-TooLong-clause-refused g c =
    inl (c.long_refusal.ensures, crowded-puts c.args.how c.args.strings.now c.args.who c.args.world.now.flat c.lines-lines.result.now c.sels.result.now c.lines-lines.ensures c.sels.ensures.sels c.sels.ensures.held c.is_stored.ensures (c.in-Err-TooLong.ensures.long.0 (ap Err c.in-Err-TooLong.field-0-is)))
