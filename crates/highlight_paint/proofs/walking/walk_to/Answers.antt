use Rattle.std.proofs.Common.{◌≡◌, ◌+◌, ◌-◌, length, drop, sym, ap, ◌∙◌, arith}
use Rattle.std.specs.Prelude.{encode_utf8}
use Rattle.compact_chars.specs.Rows.{chars_of}
use Rattle.regex_ports.specs.Matching.{chars_before}
use Rattle.regex_ports.proofs.CharLemmas.{chars-done, chars-step, chars-over}
use Rattle.highlight_paint.proofs.WalkLemmas.{walk-more}
use Rattle.highlight_paint.proofs.walking.walk_to.Goals as goal

pub loop-walk-init : goal.loop-walk-init
loop-walk-init c = record { walk = c.not_beyond-walk.ensures.walk; rest = c.not_beyond-walk.ensures.walk.rest c.args.byte c.not_beyond-walk.ensures.before }

pub returns-then-byte-walk-clause-passed : goal.returns-then-byte-walk-clause-passed
returns-then-byte-walk-clause-passed c =
    let line = chars_of c.args.line in
    let none : chars_before (drop c.loop-walk.walk.passed line) (c.args.byte - c.loop-walk.walk.bytes) ≡ 0 = chars-done (drop c.loop-walk.walk.passed line) (c.args.byte - c.loop-walk.walk.bytes) (omega (arith, c.if-byte-walk.true)) in
    omega (arith, none, c.loop-walk.invariant.rest)

pub loop-walk-preserved : goal.loop-walk-preserved
loop-walk-preserved c =
    let line = chars_of c.args.line in
    let size = c.len_utf8.ensures.len ∙ ap (λ x. length (encode_utf8 x)) c.at.ensures in
    record {
      walk = walk-more line c.loop-walk.walk c.len_utf8.result (c.loop-walk.walk.bytes + c.len_utf8.result) c.loop-walk.invariant.walk (omega (arith, c.loop-walk-test.true, c.len.ensures)) size c.len_utf8.ensures.upper_bound (omega arith);
      rest = c.loop-walk.invariant.rest ∙ chars-step line c.loop-walk.walk.passed c.args.byte c.loop-walk.walk.bytes (c.loop-walk.walk.bytes + c.len_utf8.result) (omega (arith, c.loop-walk-test.true, c.len.ensures)) c.if-byte-walk.false (ap (λ k. c.loop-walk.walk.bytes + k) size);
    }

pub returns-clause-passed : goal.returns-clause-passed
returns-clause-passed c =
    let line = chars_of c.args.line in
    sym (c.loop-walk.invariant.rest ∙ chars-over line c.loop-walk.walk.passed (c.args.byte - c.loop-walk.walk.bytes) (omega (arith, c.loop-walk-test.false, c.len.ensures)))
