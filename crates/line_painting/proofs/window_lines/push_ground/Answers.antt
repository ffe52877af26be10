use Rattle.std.proofs.Common.{length, get_or, ap, ◌∙◌, length-drop, arith}
use Rattle.compact_chars.specs.Rows.{chars_of}
use Rattle.window_view.specs.Views.{window_seen}
use Rattle.line_painting.specs.Painting.{with_stretch}
use Rattle.line_painting.proofs.DrawnLemmas.{ground-first, ground-run, ground-rest, ground-all, ground-cut, zero_run, read-run, slice-length}
use Rattle.line_painting.proofs.window_lines.push_ground.Goals as goal

pub loop-k-init : goal.loop-k-init
loop-k-init c = record {
  pushed = ground-first c.args.frame.tabstop.columns c.args.frame.signs c.args.base.now (window_seen c.args.frame.window) (chars_of c.args.line) c.args.atoms.now.atoms;
  small = omega arith;
}

pub returns-then-at-len : goal.returns-then-at-len
returns-then-at-len c =
    ground-all c.args.frame.tabstop.columns c.args.frame.signs c.args.base.now (window_seen c.args.frame.window) (chars_of c.args.line) c.args.atoms.now.atoms c.loop-k.atoms.atoms c.loop-k.k c.loop-k.at c.loop-k.column
    c.loop-k.invariant.pushed (omega (arith, c.if-at-len.true, c.len.ensures))

pub returns-then-from-right : goal.returns-then-from-right
returns-then-from-right c =
    ground-cut c.args.frame.tabstop.columns c.args.frame.signs c.args.base.now (window_seen c.args.frame.window) (chars_of c.args.line) c.args.atoms.now.atoms c.loop-k.atoms.atoms c.loop-k.k c.loop-k.at c.loop-k.column
    c.loop-k.invariant.pushed (omega (arith, c.if-from-right.true, c.right.ensures, c.from.ensures))

pub returns-then-at-len-2 : goal.returns-then-at-len-2
returns-then-at-len-2 c =
    ground-all c.args.frame.tabstop.columns c.args.frame.signs c.args.base.now (window_seen c.args.frame.window) (chars_of c.args.line) c.args.atoms.now.atoms c.loop-k.atoms.atoms c.loop-k.k c.loop-k.at c.loop-k.column
    c.loop-k.invariant.pushed (omega (arith, c.if-at-len-2.true, c.len-2.ensures))

pub push_stretch-requires : goal.push_stretch-requires
push_stretch-requires c =
    omega (arith, c.requires, c.loop-k.invariant.small, c.if-at-len.false, c.len.ensures, c.len-in-loop-k.ensures, c.max-to.ensures, c.min.ensures, ap length c.between-part.ensures, slice-length (chars_of c.args.line) c.loop-k.at c.min.result)

pub push_stretch-requires-2 : goal.push_stretch-requires-2
push_stretch-requires-2 c =
    omega (arith, c.requires, c.loop-k.invariant.small, c.if-at-len-2.false, c.len-2.ensures, ap length c.behind.ensures, length-drop c.loop-k.at (chars_of c.args.line))

pub loop-k-preserved : goal.loop-k-preserved
loop-k-preserved c = record {
  pushed = ground-run c.args.frame.tabstop.columns c.args.frame.signs c.args.base.now (window_seen c.args.frame.window) (chars_of c.args.line) (chars_of c.between-part.result) c.args.atoms.now.atoms c.loop-k.atoms.atoms c.push_stretch.new.atoms.atoms
      c.loop-k.k c.loop-k.at c.max-to.result c.min.result c.loop-k.column c.in_ok-column.column (get_or c.runs-runs.result.now c.loop-k.k zero_run) zero_run
      c.loop-k.invariant.pushed (omega (arith, c.if-at-len.false, c.len.ensures)) (omega (arith, c.loop-k-test.true, ap length c.runs-runs.ensures))
      (read-run c.runs-runs.result.now c.args.base.now.runs c.loop-k.k c.runs-runs.ensures) (omega (arith, c.max-to.ensures)) (omega (arith, c.min.ensures, c.len-in-loop-k.ensures)) c.between-part.ensures
      c.in_ok-column.ensures.drawn c.in_ok-column.ensures.column;
  small = omega (arith, c.loop-k.invariant.small, c.in_ok-column.ensures.small, c.if-at-len.false, c.len.ensures, c.len-in-loop-k.ensures, c.max-to.ensures, c.min.ensures, ap length c.between-part.ensures, slice-length (chars_of c.args.line) c.loop-k.at c.min.result);
}

pub returns : goal.returns
returns c =
    ground-rest c.args.frame.tabstop.columns c.args.frame.signs c.args.base.now (window_seen c.args.frame.window) (chars_of c.args.line) (chars_of c.behind.result) c.args.atoms.now.atoms c.loop-k.atoms.atoms c.push_stretch-2.new.atoms.atoms
    c.loop-k.k c.loop-k.at c.loop-k.column c.in_ok-push_stretch.field-0 c.loop-k.invariant.pushed (omega (arith, c.if-at-len-2.false, c.len-2.ensures)) (omega (arith, c.loop-k-test.false, ap length c.runs-runs.ensures))
    c.behind.ensures
    (c.in_ok-push_stretch.ensures.drawn ∙ ap (λ f. with_stretch c.args.frame.tabstop.columns c.args.frame.signs (window_seen c.args.frame.window) c.loop-k.atoms.atoms f c.loop-k.column (chars_of c.behind.result)) c.rest.ensures)
    c.in_ok-push_stretch.ensures.column
