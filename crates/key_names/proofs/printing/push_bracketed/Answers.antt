use Rattle.std.proofs.Common.{◌∷◌, [], ◌++◌, ap, ◌∙◌, encode_utf8_all}
use Rattle.std.specs.Prelude.{codes}
use Rattle.std.specs.String.{string_bytes}
use Rattle.key_names.specs.Printing.{held_text, base_text}
use Rattle.key_names.proofs.PrintingLemmas.{written_six, encodes-bracketed}
use Rattle.key_names.proofs.printing.push_bracketed.Goals as goal

pub returns : goal.returns
returns c =
    let old = string_bytes c.args.text.now in
    let key = c.args.key in
    written_six old (string_bytes c.push_str.new.self) (string_bytes c.push_str-2.new.self) (string_bytes c.push_str-3.new.self) (string_bytes c.push_str-4.new.self) (string_bytes c.push_base.new.text) (string_bytes c.push_str-5.new.self) (60 ∷ []) c.held.result.now c.held-2.result.now c.held-3.result.now (held_text key.control (codes "c-")) (held_text key.alt (codes "a-")) (held_text key.shift (codes "s-")) (encode_utf8_all (base_text key.base)) (62 ∷ [])
    c.in_ok-push_str.ensures.bytes c.in_ok-push_str-2.ensures.bytes c.held.ensures c.in_ok-push_str-3.ensures.bytes c.held-2.ensures c.in_ok-push_str-4.ensures.bytes c.held-3.ensures c.in_ok-push_base.ensures c.in_ok-push_str-5.ensures.bytes
    ∙ ap (λ b. old ++ b) (encodes-bracketed key c.requires)
