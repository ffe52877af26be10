-- From the place that is reached, the search finds the same.
use Rattle.std.proofs.Common.{◌≡◌, ◌+◌, ◌-◌, length}
use Rattle.text_model.specs.Texts.{offset, IsPlace}
use Rattle.motion_keys.specs.Extremes.{least_between}
use Rattle.list_keys.specs.Cuts.{is_solid}
use Rattle.list_keys.proofs.cuts.solid_from.Given as goal

abbrev pub invariant-loop-last : goal.invariant-loop-last
invariant-loop-last l = record {
  place : IsPlace l.lines l.at;
  same : least_between (is_solid l.lines) (offset l.lines l.fn.from) (offset l.lines l.last + 1) ≡ least_between (is_solid l.lines) (offset l.lines l.at) (offset l.lines l.last + 1);
}

abbrev pub decreases-loop-last : goal.decreases-loop-last
decreases-loop-last l = length l.lines - offset l.lines l.at
