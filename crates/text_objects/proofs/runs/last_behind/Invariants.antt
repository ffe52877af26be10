-- From the place that is reached, the run ends at the same offset.
use Rattle.std.proofs.Common.{◌≡◌, ◌+◌, ◌-◌, length}
use Rattle.text_model.specs.Texts.{offset, IsPlace}
use Rattle.text_objects.specs.Runs.{chars_end}
use Rattle.text_objects.specs.CharKinds.{is_char_of}
use Rattle.text_objects.proofs.runs.last_behind.Given as goal

abbrev pub invariant-loop-next : goal.invariant-loop-next
invariant-loop-next l = record {
  place : IsPlace l.lines l.at;
  same : chars_end (is_char_of l.kind) l.lines (offset l.lines l.at + 1) ≡ chars_end (is_char_of l.kind) l.lines (offset l.lines l.fn.from + 1);
}

abbrev pub decreases-loop-next : goal.decreases-loop-next
decreases-loop-next l = length l.lines - offset l.lines l.at
