use Rattle.std.proofs.Common.{◌++◌, encode_utf8_all, ap, sym, ◌∙◌, append_assoc}
use Rattle.std.proofs.lemmas.Str.{encodes-IsAscii}
use Rattle.compact_chars.specs.Rows.{chars_of}
use Rattle.regex_select.proofs.gathering.Gathered.with_run.Goals as goal

pub returns-in_ok-extend_from_slice-in-Narrow : goal.returns-in_ok-extend_from_slice-in-Narrow
returns-in_ok-extend_from_slice-in-Narrow c =
    ap (λ t. c.self.inside.text.bytes.items ++ t) (c.in_ok-extend_from_slice-in-Narrow.ensures.items ∙ ap (λ t. c.self.inside.waiting.items ++ t) (sym (encodes-IsAscii c.in-Narrow.bytes.now c.if-is_ascii.ensures.cases) ∙ ap (λ k. encode_utf8_all (chars_of k)) (sym c.in-Narrow.is)))
    ∙ sym (append_assoc c.self.inside.text.bytes.items c.self.inside.waiting.items (encode_utf8_all (chars_of c.args.chars))) ∙ ap (λ t. t ++ encode_utf8_all (chars_of c.args.chars)) c.self.view_is
