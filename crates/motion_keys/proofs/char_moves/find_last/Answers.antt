use Rattle.std.proofs.Common.{ℕ, Option, subst}
use Rattle.motion_keys.specs.Places.{OffsetsAre}
use Rattle.motion_keys.proofs.WayLemmas.{last-nearest}
use Rattle.motion_keys.proofs.char_moves.find_last.Goals as goal

pub returns : goal.returns
returns c =
    let P : Option ℕ → Type 0 = OffsetsAre c.args.lines.now c.nearest.result in
    record { gives = subst P (last-nearest c.args.lines.now c.args.c _ _ c.in_ok-before.ensures.gives.1) c.nearest.ensures }
