use Rattle.std.proofs.Common.{◌≡◌, ◌≤◌, ◌-◌}
use Rattle.text_model.specs.Texts.{line_count}
use Rattle.text_objects.specs.Runs.{run_end}
use Rattle.text_objects.specs.LineKinds.{is_line_of}
use Rattle.text_objects.proofs.line_runs.line_behind.Given as goal

abbrev pub invariant-loop-n : goal.invariant-loop-n
invariant-loop-n l = record {
  behind : l.fn.from ≤ l.n;
  there : l.n ≤ line_count l.lines;
  same : run_end (is_line_of l.kind l.lines) l.n (line_count l.lines) ≡ run_end (is_line_of l.kind l.lines) l.fn.from (line_count l.lines);
}

abbrev pub decreases-loop-n : goal.decreases-loop-n
decreases-loop-n l = line_count l.lines - l.n
