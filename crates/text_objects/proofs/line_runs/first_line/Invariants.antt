use Rattle.std.proofs.Common.{◌≡◌, ◌≤◌}
use Rattle.text_objects.specs.Runs.{run_begin}
use Rattle.text_objects.specs.LineKinds.{is_line_of}
use Rattle.text_objects.proofs.line_runs.first_line.Given as goal

abbrev pub invariant-loop-n : goal.invariant-loop-n
invariant-loop-n l = record {
  before : l.n ≤ l.fn.from;
  same : run_begin (is_line_of l.kind l.lines) l.n ≡ run_begin (is_line_of l.kind l.lines) l.fn.from;
}

abbrev pub decreases-loop-n : goal.decreases-loop-n
decreases-loop-n l = l.n
