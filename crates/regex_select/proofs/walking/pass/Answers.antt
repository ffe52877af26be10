use Rattle.std.proofs.Common.{◌≡◌, ◌+◌, ◌-◌, length, sym, ap, ◌∙◌, arith}
use Rattle.std.specs.Prelude.{encode_utf8}
use Rattle.compact_chars.specs.Rows.{chars_of}
use Rattle.regex_select.specs.Walks.{bytes_of_first}
use Rattle.regex_select.proofs.WalkLemmas.{bytes-ascii, bytes-more}
use Rattle.regex_select.proofs.walking.pass.Goals as goal

pub returns-in-Narrow-clause-bytes : goal.returns-in-Narrow-clause-bytes
returns-in-Narrow-clause-bytes c =
    ap (λ n. c.args.from + n) (sym (bytes-ascii c.in-Narrow.ascii.now (length c.in-Narrow.ascii.now) c.if-is_ascii.ensures.cases (omega arith)) ∙ ap (λ k. bytes_of_first (chars_of k) (length c.in-Narrow.ascii.now)) (sym c.in-Narrow.is))

pub returns-in-Narrow-clause-begun : goal.returns-in-Narrow-clause-begun
returns-in-Narrow-clause-begun c =
    let ascii = c.in-Narrow.ascii.now in
    let whole : length (chars_of c.args.run) ≡ length ascii = ap (λ k. length (chars_of k)) c.in-Narrow.is in
    omega (arith, bytes-ascii ascii (length ascii - 1) c.if-is_ascii.ensures.cases (omega arith), ap (λ k. bytes_of_first (chars_of k) (length ascii - 1)) c.in-Narrow.is, whole, c.requires.some, c.requires.few)

pub loop-i-preserved : goal.loop-i-preserved
loop-i-preserved c =
    let run = chars_of c.args.run in
    let more : bytes_of_first run (c.loop-i.i + 1) ≡ bytes_of_first run c.loop-i.i + length (encode_utf8 c.at.result) = bytes-more run c.loop-i.i (omega (arith, c.loop-i-test.true, c.len-i-end.ensures)) ∙ ap (λ x. bytes_of_first run c.loop-i.i + length (encode_utf8 x)) (sym c.at.ensures) in
    let last : c.loop-i.i + 1 - 1 ≡ c.loop-i.i = omega arith in
    record {
      bytes = omega (arith, more, c.loop-i.invariant.bytes, c.len_utf8-bytes.ensures.len);
      begun = λ some. omega (arith, ap (bytes_of_first run) last, c.loop-i.invariant.bytes, c.if-byte-bytes.false);
      small = omega (arith, c.loop-i.invariant.small, c.len_utf8-bytes.ensures.upper_bound);
    }
