-- From the place that is reached, the search finds the same.
use Rattle.std.proofs.Common.{◌≡◌}
use Rattle.text_model.specs.Texts.{offset, IsPlace}
use Rattle.motion_keys.specs.Searching.{passes, nearest}
use Rattle.motion_keys.proofs.WayLemmas.{remaining}
use Rattle.motion_keys.proofs.searching.nearest.Given as goal

abbrev pub invariant-loop-direction : goal.invariant-loop-direction
invariant-loop-direction l = record {
  place : IsPlace l.lines l.at;
  same : nearest l.direction (passes l.test) l.lines (offset l.lines l.at) ≡ nearest l.direction (passes l.test) l.lines (offset l.lines l.fn.from);
}

abbrev pub decreases-loop-direction : goal.decreases-loop-direction
decreases-loop-direction l = remaining l.direction l.lines (offset l.lines l.at)
