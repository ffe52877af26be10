use Rattle.std.proofs.Common.{◌≡◌, ◌<◌, ◌≤◌, ◌+◌, slice_range}
use Rattle.text_model.specs.Texts.{offset, IsPlace}
use Rattle.motion_keys.specs.Extremes.{greatest_below}
use Rattle.motion_keys.specs.Jumps.{are_even}
use Rattle.motion_keys.proofs.DepthLemmas.{IsOpen}
use Rattle.motion_keys.proofs.bracket_moves.match_behind.Given as goal

abbrev pub invariant-loop-before : goal.invariant-loop-before
invariant-loop-before l = record {
  place : IsPlace l.lines l.at;
  some : 0 < l.depth;
  few : l.depth + offset l.lines l.at ≤ offset l.lines l.fn.from + 1;
  before : offset l.lines l.at ≤ offset l.lines l.fn.from;
  opened : IsOpen l.own l.other (slice_range l.lines (offset l.lines l.at) (offset l.lines l.fn.from + 1)) l.depth;
  rest : greatest_below (λ n. are_even l.lines l.own l.other n (offset l.lines l.fn.from)) (offset l.lines l.fn.from)
      ≡ greatest_below (λ n. are_even l.lines l.own l.other n (offset l.lines l.fn.from)) (offset l.lines l.at);
}

abbrev pub decreases-loop-before : goal.decreases-loop-before
decreases-loop-before l = offset l.lines l.at
