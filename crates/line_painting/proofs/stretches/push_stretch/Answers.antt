use Rattle.std.proofs.Common.{◌+◌, ◌-◌, ◌≤◌, length, refl, arith}
use Rattle.compact_chars.specs.Rows.{chars_of}
use Rattle.window_view.specs.Views.{window_seen}
use Rattle.line_painting.specs.Cells.{right_of}
use Rattle.line_painting.proofs.StretchLemmas.{pushed-none, pushed-run, pushed-one, pushed-all, pushed-cut, column-all, column-cut, run-inside}
use Rattle.line_painting.proofs.stretches.push_stretch.Goals as goal

pub loop-done-init : goal.loop-done-init
loop-done-init c = record { pushed = pushed-none c.args.frame.tabstop.columns c.args.frame.signs (window_seen c.args.frame.window) c.args.atoms.now c.set_face.new.self c.args.face (chars_of c.args.chars) c.args.column c.in_ok-set_face.ensures; small = omega arith }

pub overflow_add-next : goal.overflow_add-next
overflow_add-next c =
    let inside : c.loop-done.done + c.plain_ahead.result ≤ length (chars_of c.args.chars) = run-inside (chars_of c.args.chars) (chars_of c.behind.result) c.loop-done.done c.plain_ahead.result c.loop-done.invariant.pushed.inside c.behind.ensures c.plain_ahead.ensures.few in
    omega (arith, inside, c.loop-done.invariant.small, c.requires)

pub push_one-requires : goal.push_one-requires
push_one-requires c =
    let inside : c.loop-done.done + c.plain_ahead.result ≤ length (chars_of c.args.chars) = run-inside (chars_of c.args.chars) (chars_of c.behind.result) c.loop-done.done c.plain_ahead.result c.loop-done.invariant.pushed.inside c.behind.ensures c.plain_ahead.ensures.few in
    omega (arith, inside, c.loop-done.invariant.small, c.requires)

pub returns-then-to-len-clause-drawn : goal.returns-then-to-len-clause-drawn
returns-then-to-len-clause-drawn c =
    pushed-all c.args.frame.tabstop.columns c.args.frame.signs (window_seen c.args.frame.window) c.args.atoms.now c.push_chars.new.self c.args.face (chars_of c.args.chars) c.args.column _ _
    (pushed-run c.args.frame.tabstop.columns c.args.frame.signs (window_seen c.args.frame.window) c.args.atoms.now c.loop-done.atoms c.push_chars.new.self c.args.face (chars_of c.args.chars) (chars_of c.behind.result) (chars_of c.between.result) c.args.column c.loop-done.behind _ c.loop-done.done c.plain_ahead.result
    c.loop-done.invariant.pushed c.behind.ensures c.between.ensures c.plain_ahead.ensures.few c.plain_ahead.ensures.plain c.plain_ahead.ensures.left c.plain_ahead.ensures.right c.in_ok-push_chars.ensures refl)
    (omega (arith, c.if-to-len.true, c.len-in-loop-done.ensures))

pub returns-then-to-len-clause-column : goal.returns-then-to-len-clause-column
returns-then-to-len-clause-column c =
    column-all c.args.frame.tabstop.columns c.args.frame.signs (window_seen c.args.frame.window) c.args.atoms.now c.push_chars.new.self c.args.face (chars_of c.args.chars) c.args.column _ _
    (pushed-run c.args.frame.tabstop.columns c.args.frame.signs (window_seen c.args.frame.window) c.args.atoms.now c.loop-done.atoms c.push_chars.new.self c.args.face (chars_of c.args.chars) (chars_of c.behind.result) (chars_of c.between.result) c.args.column c.loop-done.behind _ c.loop-done.done c.plain_ahead.result
    c.loop-done.invariant.pushed c.behind.ensures c.between.ensures c.plain_ahead.ensures.few c.plain_ahead.ensures.plain c.plain_ahead.ensures.left c.plain_ahead.ensures.right c.in_ok-push_chars.ensures (omega arith))
    (omega (arith, c.if-to-len.true, c.len-in-loop-done.ensures))

pub returns-then-from-right-clause-drawn : goal.returns-then-from-right-clause-drawn
returns-then-from-right-clause-drawn c =
    let right : right_of (window_seen c.args.frame.window) ≤ c.loop-done.behind + c.plain_ahead.result = omega (arith, c.if-from-right.true, c.right.ensures, c.from.ensures) in
    pushed-cut c.args.frame.tabstop.columns c.args.frame.signs (window_seen c.args.frame.window) c.args.atoms.now c.push_chars.new.self c.args.face (chars_of c.args.chars) c.args.column (c.loop-done.behind + c.plain_ahead.result) _
    (pushed-run c.args.frame.tabstop.columns c.args.frame.signs (window_seen c.args.frame.window) c.args.atoms.now c.loop-done.atoms c.push_chars.new.self c.args.face (chars_of c.args.chars) (chars_of c.behind.result) (chars_of c.between.result) c.args.column c.loop-done.behind (c.loop-done.behind + c.plain_ahead.result) c.loop-done.done c.plain_ahead.result
    c.loop-done.invariant.pushed c.behind.ensures c.between.ensures c.plain_ahead.ensures.few c.plain_ahead.ensures.plain c.plain_ahead.ensures.left c.plain_ahead.ensures.right c.in_ok-push_chars.ensures refl)
    right

pub returns-then-from-right-clause-column : goal.returns-then-from-right-clause-column
returns-then-from-right-clause-column c =
    column-cut c.args.frame.tabstop.columns c.args.frame.signs (window_seen c.args.frame.window) c.args.atoms.now c.push_chars.new.self c.args.face (chars_of c.args.chars) c.args.column _ _
    (pushed-run c.args.frame.tabstop.columns c.args.frame.signs (window_seen c.args.frame.window) c.args.atoms.now c.loop-done.atoms c.push_chars.new.self c.args.face (chars_of c.args.chars) (chars_of c.behind.result) (chars_of c.between.result) c.args.column c.loop-done.behind _ c.loop-done.done c.plain_ahead.result
    c.loop-done.invariant.pushed c.behind.ensures c.between.ensures c.plain_ahead.ensures.few c.plain_ahead.ensures.plain c.plain_ahead.ensures.left c.plain_ahead.ensures.right c.in_ok-push_chars.ensures (omega arith))
    (omega (arith, c.if-from-right.true, c.right.ensures, c.from.ensures))

pub loop-done-preserved : goal.loop-done-preserved
loop-done-preserved c =
    let run = pushed-run c.args.frame.tabstop.columns c.args.frame.signs (window_seen c.args.frame.window) c.args.atoms.now c.loop-done.atoms c.push_chars.new.self c.args.face (chars_of c.args.chars) (chars_of c.behind.result) (chars_of c.between.result) c.args.column c.loop-done.behind (c.loop-done.behind + (c.loop-done.done + c.plain_ahead.result - c.loop-done.done)) c.loop-done.done c.plain_ahead.result
    c.loop-done.invariant.pushed c.behind.ensures c.between.ensures c.plain_ahead.ensures.few c.plain_ahead.ensures.plain c.plain_ahead.ensures.left c.plain_ahead.ensures.right c.in_ok-push_chars.ensures (omega arith) in
    record {
      pushed = pushed-one c.args.frame.tabstop.columns c.args.frame.signs (window_seen c.args.frame.window) c.args.atoms.now c.push_chars.new.self c.push_one.new.atoms c.args.face (chars_of c.args.chars) c.args.column _ c.in_ok-behind.behind (c.loop-done.done + c.plain_ahead.result) c.at.result
          run (omega (arith, c.if-to-len.false, c.len-in-loop-done.ensures)) c.at.ensures c.in_ok-behind.ensures.drawn c.in_ok-behind.ensures.column;
      small = omega (arith, c.in_ok-behind.ensures.small, c.loop-done.invariant.small);
    }

pub returns-clause-drawn : goal.returns-clause-drawn
returns-clause-drawn c = pushed-all c.args.frame.tabstop.columns c.args.frame.signs (window_seen c.args.frame.window) c.args.atoms.now c.loop-done.atoms c.args.face (chars_of c.args.chars) c.args.column c.loop-done.behind c.loop-done.done c.loop-done.invariant.pushed (omega (arith, c.loop-done-test.false, c.len.ensures))

pub returns-clause-column : goal.returns-clause-column
returns-clause-column c = column-all c.args.frame.tabstop.columns c.args.frame.signs (window_seen c.args.frame.window) c.args.atoms.now c.loop-done.atoms c.args.face (chars_of c.args.chars) c.args.column c.loop-done.behind c.loop-done.done c.loop-done.invariant.pushed (omega (arith, c.loop-done-test.false, c.len.ensures))
