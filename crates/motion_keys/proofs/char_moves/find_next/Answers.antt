use Rattle.std.proofs.Common.{ℕ, Option, subst}
use Rattle.motion_keys.specs.Places.{OffsetsAre}
use Rattle.motion_keys.proofs.WayLemmas.{next-nearest}
use Rattle.motion_keys.proofs.char_moves.find_next.Goals as goal

pub returns : goal.returns
returns c =
    let P : Option ℕ → Type 0 = OffsetsAre c.args.lines.now c.nearest.result in
    record { gives = subst P (next-nearest c.args.lines.now c.args.c _ _ c.in_ok-next.ensures.gives.1) c.nearest.ensures }
