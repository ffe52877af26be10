use Rattle.std.proofs.Common.{◌++◌, encode_utf8_all, ap, sym, ◌∙◌}
use Rattle.std.proofs.lemmas.Str.{encodes-IsAscii}
use Rattle.compact_chars.specs.Rows.{chars_of}
use Rattle.text_coding.proofs.encoding.with_run.Goals as goal

pub returns-in_ok-extend_from_slice-in-Narrow : goal.returns-in_ok-extend_from_slice-in-Narrow
returns-in_ok-extend_from_slice-in-Narrow c =
    c.in_ok-extend_from_slice-in-Narrow.ensures.items ∙ ap (λ t. c.args.bytes.items ++ t) (sym (encodes-IsAscii c.in-Narrow.narrow.now c.if-is_ascii.ensures.cases))
    ∙ ap (λ k. c.args.bytes.items ++ encode_utf8_all (chars_of k)) (sym c.in-Narrow.is)
