use Rattle.std.proofs.Common.{◌≡◌, ◌<◌, ◌≤◌, ◌+◌}
use Rattle.text_model.specs.Texts.{offset, IsPlace}
use Rattle.motion_keys.specs.Extremes.{greatest_below}
use Rattle.text_objects.specs.Unclosed.{opens_one_more}
use Rattle.text_objects.proofs.BracketLemmas.{IsWaiting}
use Rattle.text_objects.proofs.bracket_objects.find_unclosed.Given as goal

abbrev pub invariant-loop-before : goal.invariant-loop-before
invariant-loop-before l = record {
  place : IsPlace l.lines l.at;
  some : 0 < l.depth;
  few : l.depth + offset l.lines l.at ≤ offset l.lines l.fn.from + 1;
  waiting : IsWaiting l.opening l.closing l.lines (offset l.lines l.fn.from) (offset l.lines l.at) l.depth;
  rest : greatest_below (opens_one_more l.opening l.closing l.lines (offset l.lines l.fn.from)) (offset l.lines l.fn.from)
      ≡ greatest_below (opens_one_more l.opening l.closing l.lines (offset l.lines l.fn.from)) (offset l.lines l.at);
}

abbrev pub decreases-loop-before : goal.decreases-loop-before
decreases-loop-before l = offset l.lines l.at
