use Rattle.std.proofs.Common.{refl}
use Rattle.text_coding.proofs.LoadLemmas.{fitting-full, fitting-ok}
use Rattle.text_coding.proofs.decoding.load_text.Goals as goal

pub returns-then-is_too_long : goal.returns-then-is_too_long
returns-then-is_too_long c = fitting-full _ c.eol_of-eol.result c.args.bom _ c.eol_of-eol.ensures refl (c.is_too_long.ensures.long c.if-is_too_long.true)

pub returns-in-Err : goal.returns-in-Err
returns-in-Err c = fitting-ok _ c.eol_of-eol.result c.args.bom _ c.eol_of-eol.ensures refl (c.is_too_long.ensures.short c.if-is_too_long.false)
