use Rattle.std.proofs.Common.{◌≡◌, ◌<◌, ◌≤◌, ◌+◌, ◌-◌, length, slice_range}
use Rattle.text_model.specs.Texts.{offset, IsPlace}
use Rattle.motion_keys.specs.Extremes.{least_between}
use Rattle.motion_keys.specs.Jumps.{are_even}
use Rattle.motion_keys.proofs.DepthLemmas.{IsOpen}
use Rattle.motion_keys.proofs.bracket_moves.match_ahead.Given as goal

abbrev pub invariant-loop-next : goal.invariant-loop-next
invariant-loop-next l = record {
  place : IsPlace l.lines l.at;
  some : 0 < l.depth;
  few : l.depth ≤ offset l.lines l.at + 1;
  behind : offset l.lines l.fn.from ≤ offset l.lines l.at;
  opened : IsOpen l.own l.other (slice_range l.lines (offset l.lines l.fn.from) (offset l.lines l.at + 1)) l.depth;
  rest : least_between (are_even l.lines l.own l.other (offset l.lines l.fn.from)) (offset l.lines l.fn.from + 1) (length l.lines)
      ≡ least_between (are_even l.lines l.own l.other (offset l.lines l.fn.from)) (offset l.lines l.at + 1) (length l.lines);
}

abbrev pub decreases-loop-next : goal.decreases-loop-next
decreases-loop-next l = length l.lines - offset l.lines l.at
