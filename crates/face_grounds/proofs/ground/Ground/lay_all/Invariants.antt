-- The faces before are laid.
use Rattle.std.proofs.Common.{◌≡◌, ℕ, ◌-◌, ◌≤◌, length, take}
use Rattle.face_grounds.specs.Grounds.{ground_at, over_all}
use Rattle.face_grounds.proofs.ground.Ground.lay_all.Given as goal

abbrev pub invariant-loop-at : goal.invariant-loop-at
invariant-loop-at l = record {
  inside : l.at ≤ length l.overs;
  laid : (n : ℕ) → ground_at l.self n ≡ over_all (take l.at l.overs) n (ground_at l.fn.self n);
}

abbrev pub decreases-loop-at : goal.decreases-loop-at
decreases-loop-at l = length l.overs - l.at
