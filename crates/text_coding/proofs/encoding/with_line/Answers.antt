use Rattle.std.proofs.Common.{◌≡◌, ◌-◌, ◌++◌, length, take, encode_utf8_all, refl, ap, ◌∙◌, arith}
use Rattle.std.proofs.lemmas.Result.{IfOk-weaker}
use Rattle.compact_chars.specs.Rows.{chars_of}
use Rattle.text_coding.proofs.SaveLemmas.{coded-line}
use Rattle.text_coding.proofs.encoding.with_line.Goals as goal

pub returns : goal.returns
returns c =
    let front : chars_of c.between.result ≡ take (length (chars_of c.args.line) - 1) (chars_of c.args.line) = c.between.ensures ∙ ap (λ n. take n (chars_of c.args.line)) (omega (arith, c.len.ensures)) in
    IfOk-weaker c.with_end.result _ _ (λ new added. coded-line c.args.eol (chars_of c.args.line) _ c.args.bytes.items _ new.items c.requires refl (c.in_ok-with_run.ensures ∙ ap (λ t. c.args.bytes.items ++ encode_utf8_all t) front) added) c.with_end.ensures
