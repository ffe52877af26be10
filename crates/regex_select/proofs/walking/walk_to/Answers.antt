use Rattle.std.proofs.Common.{◌≡◌, ◌+◌, ◌-◌, drop, sym, ap, ◌∙◌, arith}
use Rattle.regex_ports.specs.Matching.{chars_before}
use Rattle.regex_select.specs.Walks.{own_chars, IsWalk}
use Rattle.regex_ports.proofs.CharLemmas.{chars-done, chars-over}
use Rattle.regex_select.proofs.WalkLemmas.{chars-behind, chars-begun}
use Rattle.regex_select.proofs.MatchedLemmas.{walk-inside, walk-over}
use Rattle.regex_select.proofs.walking.walk_to.Goals as goal

pub loop-sel-init : goal.loop-sel-init
loop-sel-init c =
    let own = own_chars c.args.lines.now c.args.sel in
    let walk : IsWalk c.args.lines.now c.args.sel c.not_beyond-walk.result = c.not_beyond-walk.ensures.walk c.args.lines.now c.requires.inside c.requires.walk in
    record {
      walk = walk;
      rest = chars-behind own c.not_beyond-walk.result.passed c.args.byte (c.not_beyond-walk.ensures.before c.args.lines.now c.requires.inside c.requires.walk) walk.few ∙ ap (λ n. c.not_beyond-walk.result.passed + chars_before (drop c.not_beyond-walk.result.passed own) (c.args.byte - n)) (sym walk.bytes);
    }

pub returns-then-byte-walk-clause-passed : goal.returns-then-byte-walk-clause-passed
returns-then-byte-walk-clause-passed c =
    let own = own_chars c.args.lines.now c.args.sel in
    let none : chars_before (drop c.loop-sel.walk.passed own) (c.args.byte - c.loop-sel.walk.bytes) ≡ 0 = chars-done (drop c.loop-sel.walk.passed own) (c.args.byte - c.loop-sel.walk.bytes) (omega (arith, c.if-byte-walk.true)) in
    omega (arith, none, c.loop-sel.invariant.rest)

pub pass_line-walk-requires-clause-there : goal.pass_line-walk-requires-clause-there
pass_line-walk-requires-clause-there c = walk-inside c.args.lines.now c.args.sel c.loop-sel.walk c.requires.inside c.loop-sel.invariant.walk (sym c.is_at_most.ensures ∙ c.loop-sel-test.true)

pub loop-sel-preserved : goal.loop-sel-preserved
loop-sel-preserved c =
    let own = own_chars c.args.lines.now c.args.sel in
    let next = c.pass_line-walk.result in
    record {
      walk = c.pass_line-walk.ensures.walk;
      rest =
          chars-begun own next.passed c.args.byte (omega (arith, c.pass_line-walk.ensures.further)) c.pass_line-walk.ensures.walk.few c.pass_line-walk.ensures.begun
          ∙ ap (λ n. next.passed + chars_before (drop next.passed own) (c.args.byte - n)) (sym c.pass_line-walk.ensures.walk.bytes);
    }

pub returns-clause-passed : goal.returns-clause-passed
returns-clause-passed c =
    let own = own_chars c.args.lines.now c.args.sel in
    let over = walk-over c.args.lines.now c.args.sel c.loop-sel.walk c.requires.inside c.loop-sel.invariant.walk (sym c.is_at_most.ensures ∙ c.loop-sel-test.false) in
    sym (c.loop-sel.invariant.rest ∙ chars-over own c.loop-sel.walk.passed (c.args.byte - c.loop-sel.walk.bytes) over)
