-- From the place that is reached, the run begins at the same offset.
use Rattle.std.proofs.Common.{◌≡◌}
use Rattle.text_model.specs.Texts.{offset, IsPlace}
use Rattle.text_objects.specs.Runs.{chars_begin}
use Rattle.text_objects.specs.CharKinds.{is_char_of}
use Rattle.text_objects.proofs.runs.first_before.Given as goal

abbrev pub invariant-loop-before : goal.invariant-loop-before
invariant-loop-before l = record {
  place : IsPlace l.lines l.at;
  same : chars_begin (is_char_of l.kind) l.lines (offset l.lines l.at) ≡ chars_begin (is_char_of l.kind) l.lines (offset l.lines l.fn.from);
}

abbrev pub decreases-loop-before : goal.decreases-loop-before
decreases-loop-before l = offset l.lines l.at
