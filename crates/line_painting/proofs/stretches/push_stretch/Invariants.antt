-- The stretch is drawn before a character, which begins at the column behind.
use Rattle.std.proofs.Common.{◌+◌, ◌-◌, ◌*◌, ◌≤◌, length}
use Rattle.compact_chars.specs.Rows.{chars_of}
use Rattle.window_view.specs.Views.{window_seen}
use Rattle.line_painting.proofs.StretchLemmas.{IsPushedTo}
use Rattle.line_painting.proofs.stretches.push_stretch.Given as goal

abbrev pub invariant-loop-done : goal.invariant-loop-done
invariant-loop-done l = record {
  pushed : IsPushedTo l.frame.tabstop.columns l.frame.signs (window_seen l.frame.window) l.fn.atoms l.atoms l.fn.face (chars_of l.chars) l.column l.behind l.done;
  small : l.behind ≤ l.column + 64 * l.done;
}

abbrev pub decreases-loop-done : goal.decreases-loop-done
decreases-loop-done l = length (chars_of l.chars) - l.done
