use Rattle.std.proofs.Common.{arith, refl}
use Rattle.std.proofs.lemmas.Grind.{common_steps}
use Rattle.client_links.proofs.Totals.{total_grown}
use Rattle.client_links.proofs.kept.MemLink.new.Goals as goal

pub loop-piece-preserved : goal.loop-piece-preserved
loop-piece-preserved c =
    (grind (arith, common_steps), grind (arith, common_steps), total_grown _ _ _ _ _ _ c.in_ok-push.ensures.items c.in_ok-extend_from_slice.ensures.items refl c.loop-piece.invariant.2)
