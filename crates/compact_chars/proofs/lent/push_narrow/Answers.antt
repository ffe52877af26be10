use Rattle.std.proofs.Common.{◌++◌, get_or, take, string_bytes, encode_utf8_all, encode_utf8, refl, ap, sym, ◌∙◌, append_assoc}
use Rattle.std.proofs.lemmas.Result.{on_ok_weaker}
use Rattle.std.proofs.lemmas.Str.{encodes-IsAscii}
use Rattle.compact_chars.proofs.EncodingLemmas.{encoded-more}
use Rattle.compact_chars.proofs.lent.push_narrow.Goals as goal

pub returns-then-is_ascii : goal.returns-then-is_ascii
returns-then-is_ascii c =
    on_ok_weaker c.push_ascii.result (λ e. e ∙ ap (λ t. string_bytes c.args.text.now ++ t) (sym (encodes-IsAscii c.args.bytes.now c.if-is_ascii.ensures.cases))) c.push_ascii.ensures

pub loop-b-preserved : goal.loop-b-preserved
loop-b-preserved c =
    c.in_ok-push.ensures.bytes ∙ ap (λ t. t ++ encode_utf8 (get_or c.args.bytes.now c.loop-b.b-index 0)) c.loop-b.invariant
    ∙ append_assoc (string_bytes c.args.text.now) (encode_utf8_all (take c.loop-b.b-index c.args.bytes.now)) (encode_utf8 (get_or c.args.bytes.now c.loop-b.b-index 0))
    ∙ ap (λ t. string_bytes c.args.text.now ++ t) (sym (encoded-more c.args.bytes.now c.loop-b.b-index (get_or c.args.bytes.now c.loop-b.b-index 0) c.loop-b-test.true refl))
