use Rattle.std.proofs.Common.{◌+◌, ◌^◌, ◌<◌, length, chars, arith}
use Rattle.std.proofs.lemmas.Bool.Decides.{nat_tests}
use Rattle.line_buffer.proofs.GrowingLemmas.{few_chars}
use Rattle.text_coding.proofs.FormLemmas.{few-ended}
use Rattle.text_coding.proofs.decoding.is_too_long.Goals as goal

pub returns-then-text-lt-MAX_CHARS-clause-short : goal.returns-then-text-lt-MAX_CHARS-clause-short
returns-then-text-lt-MAX_CHARS-clause-short c = λ _. few-ended c.args.eol c.args.text.now c.utf8.text c.if-text-lt-MAX_CHARS.true

pub returns-clause-long : goal.returns-clause-long
returns-clause-long c = λ more.
    let small : length (chars c.args.text.now) + 1 < 2 ^ 64 = omega (arith, c.requires, few_chars c.args.text.now c.utf8.text) in
    let counted = c.text_len.ensures _ c.survey_of.ensures small in
    grind (arith, nat_tests)

pub returns-clause-short : goal.returns-clause-short
returns-clause-short c = λ less.
    let small : length (chars c.args.text.now) + 1 < 2 ^ 64 = omega (arith, c.requires, few_chars c.args.text.now c.utf8.text) in
    let counted = c.text_len.ensures _ c.survey_of.ensures small in
    grind (arith, nat_tests)
