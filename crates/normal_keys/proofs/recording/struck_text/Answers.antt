use Rattle.std.proofs.Common.{refl, ap, ◌∙◌}
use Rattle.std.proofs.lemmas.List.{take_all}
use Rattle.std.specs.Prelude.{◌++◌, string_bytes, encode_utf8_all}
use Rattle.normal_keys.specs.Recording.{struck_text}
use Rattle.normal_keys.proofs.StruckLemmas.{struck-more}
use Rattle.normal_keys.proofs.recording.struck_text.Goals as goal

pub loop-key-preserved : goal.loop-key-preserved
loop-key-preserved c =
    struck-more c.args.keys.now c.loop-key.key-index _ _ _ _ refl c.loop-key-test.true c.loop-key.invariant
    (c.in_ok-push_str.ensures.bytes ∙ ap (λ q. string_bytes c.loop-key.text ++ q) (c.as_str.ensures.value ∙ c.in_ok-print_key.ensures.spelling))

pub returns : goal.returns
returns c = c.loop-key.invariant ∙ ap (λ ks. encode_utf8_all (struck_text ks)) (take_all c.loop-key.key-index c.args.keys.now c.loop-key-test.false)
