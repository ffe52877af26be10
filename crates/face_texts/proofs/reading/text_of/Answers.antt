use Rattle.std.proofs.Common.{◌++◌, encode_utf8, string_bytes, get_or, ap, ◌∙◌, sym}
use Rattle.face_texts.proofs.WordLemmas.{text-more}
use Rattle.face_texts.proofs.reading.text_of.Goals as goal

pub loop-letter-preserved : goal.loop-letter-preserved
loop-letter-preserved c =
    c.in_ok-push.ensures.bytes
    ∙ ap (λ x. string_bytes c.loop-letter.text ++ encode_utf8 x) c.letter-item.is
    ∙ ap (λ bs. bs ++ encode_utf8 (get_or c.args.list.now c.loop-letter.letter-index c.letter-item.result)) c.loop-letter.invariant
    ∙ sym (text-more c.args.list.now c.loop-letter.letter-index c.letter-item.result c.loop-letter-test.true)
