use Rattle.std.proofs.Common.{◌≡◌, ◌++◌, get_or, take, string_bytes, encode_utf8_all, encode_utf8, ap, sym, ◌∙◌, append_assoc}
use Rattle.std.proofs.lemmas.List.{get_or_read}
use Rattle.compact_chars.proofs.EncodingLemmas.{encoded-more}
use Rattle.compact_chars.proofs.lent.push_wide.Goals as goal

pub loop-c-preserved : goal.loop-c-preserved
loop-c-preserved c =
    let here : get_or c.args.chars.now c.loop-c.c-index 0 ≡ c.c-item.result = sym (get_or_read c.args.chars.now c.loop-c.c-index c.c-item.result c.loop-c-test.true c.c-item.is 0) in
    c.in_ok-push.ensures.bytes ∙ ap (λ t. t ++ encode_utf8 c.c-item.result) c.loop-c.invariant ∙ append_assoc (string_bytes c.args.text.now) (encode_utf8_all (take c.loop-c.c-index c.args.chars.now)) (encode_utf8 c.c-item.result) ∙ ap (λ t. string_bytes c.args.text.now ++ t) (sym (encoded-more c.args.chars.now c.loop-c.c-index c.c-item.result c.loop-c-test.true here))
