use Rattle.std.proofs.Common.{◌∙◌}
use Rattle.command_set.proofs.NamingLemmas.{word-more, word-all}
use Rattle.command_set.proofs.painters.push_word.Goals as goal

pub loop-c-preserved : goal.loop-c-preserved
loop-c-preserved c =
    word-more c.args.name.now c.loop-c.name c.push_in_name.new.name c.as_slice-c-items.result.now c.loop-c.c-index c.c-item.result c.loop-c-test.true c.c-item.is c.loop-c.invariant c.in_ok-push_in_name.ensures

pub returns : goal.returns
returns c =
    word-all c.args.name.now c.loop-c.name c.as_slice-c-items.result.now c.args.word.now c.loop-c.c-index c.loop-c-test.false (c.as_slice-c-items.ensures ∙ c.in_ok-word.ensures) c.loop-c.invariant
