use Rattle.std.proofs.Common.{arith, sym}
use Rattle.compact_chars.specs.Rows.{chars_of}
use Rattle.text_coding.proofs.SaveLemmas.{coded-more}
use Rattle.text_coding.proofs.encoding.with_chars.Goals as goal

pub loop-i-preserved : goal.loop-i-preserved
loop-i-preserved c =
    coded-more (chars_of c.args.chars) c.loop-i.i c.at.result c.args.bytes.items _ _ (omega (arith, c.loop-i-test.true, c.len-i-end.ensures)) (sym c.at.ensures) c.loop-i.invariant c.in_ok-push_char.ensures
