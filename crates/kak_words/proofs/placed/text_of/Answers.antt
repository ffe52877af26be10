use Rattle.std.proofs.Common.{◌++◌, encode_utf8, get_or, ap, ◌∙◌, sym}
use Rattle.kak_words.proofs.ClosingLemmas.{text_of-more}
use Rattle.kak_words.proofs.placed.text_of.Goals as goal

pub loop-p-preserved : goal.loop-p-preserved
loop-p-preserved c =
    c.in_ok-push.ensures.bytes
    ∙ ap (λ bs. bs ++ encode_utf8 (get_or c.args.list.now c.loop-p.p-index (record { at = 0; c = 0 })).c) c.loop-p.invariant
    ∙ sym (text_of-more c.args.list.now c.loop-p.p-index (record { at = 0; c = 0 }) c.loop-p-test.true)
