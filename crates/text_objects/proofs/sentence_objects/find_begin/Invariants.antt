use Rattle.std.proofs.Common.{◌≡◌, ◌+◌}
use Rattle.text_model.specs.Texts.{offset, IsPlace}
use Rattle.motion_keys.specs.Extremes.{greatest_below}
use Rattle.text_objects.specs.Sentences.{is_begin}
use Rattle.text_objects.proofs.sentence_objects.find_begin.Given as goal

abbrev pub invariant-loop-at : goal.invariant-loop-at
invariant-loop-at l = record {
  place : IsPlace l.lines l.at;
  rest : greatest_below (is_begin l.lines) (offset l.lines l.at + 1) ≡ greatest_below (is_begin l.lines) (offset l.lines l.fn.from + 1);
}

abbrev pub decreases-loop-at : goal.decreases-loop-at
decreases-loop-at l = offset l.lines l.at
