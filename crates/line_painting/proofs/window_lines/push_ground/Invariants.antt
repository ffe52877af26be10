-- The places of the runs before the k-th are drawn.
use Rattle.std.proofs.Common.{◌*◌, ◌≤◌, min, length}
use Rattle.compact_chars.specs.Rows.{chars_of}
use Rattle.window_view.specs.Views.{window_seen}
use Rattle.line_painting.proofs.DrawnLemmas.{IsPushed}
use Rattle.line_painting.proofs.window_lines.push_ground.Given as goal

abbrev pub invariant-loop-k : goal.invariant-loop-k
invariant-loop-k l = record {
  pushed : IsPushed l.frame.tabstop.columns l.frame.signs l.base (window_seen l.frame.window) (chars_of l.line) l.fn.atoms.atoms l.atoms.atoms l.k l.at l.column;
  small : l.column ≤ 64 * min (length (chars_of l.line)) l.at;
}
