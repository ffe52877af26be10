use Rattle.std.proofs.Common.{◌≡◌, ◌+◌, ◌-◌, length}
use Rattle.text_model.specs.Texts.{offset, IsPlace}
use Rattle.motion_keys.specs.Extremes.{least_between}
use Rattle.text_objects.specs.Sentences.{is_begin}
use Rattle.text_objects.proofs.sentence_objects.find_before_next.Given as goal

abbrev pub invariant-loop-next : goal.invariant-loop-next
invariant-loop-next l = record {
  place : IsPlace l.lines l.at;
  rest : least_between (is_begin l.lines) (offset l.lines l.at + 1) (length l.lines) ≡ least_between (is_begin l.lines) (offset l.lines l.fn.begin + 1) (length l.lines);
}

abbrev pub decreases-loop-next : goal.decreases-loop-next
decreases-loop-next l = length l.lines - offset l.lines l.at
