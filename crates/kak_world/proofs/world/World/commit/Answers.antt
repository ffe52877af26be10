use Rattle.std.proofs.Common.{subst}
use Rattle.kak_world.specs.Seen.{all_seen, SlotIsQuiet, AreQuiet}
use Rattle.kak_world.proofs.WorldLemmas.{committed-all}
use Rattle.kak_world.proofs.QuietLemmas.{quiet-commits}
use Rattle.kak_world.proofs.KeptLemmas.{seen-mapped}
use Rattle.kak_world.proofs.StandingLemmas.{stands-mapped, all-seen}
use Rattle.kak_world.proofs.world.World.commit.Goals as goal

pub returns-then-not-self : goal.returns-then-not-self
returns-then-not-self g c = quiet-commits c.args.who _ _ _ _ c.self.view_is (c.self.invariant.quiet c.if-not-self.true)

pub invariant_of-self : goal.invariant_of-self
invariant_of-self g c = stands-mapped _ _ _ _ _ _ _ c.commit_all.ensures (λ e. subst (λ bs. AreQuiet (all_seen bs)) c.as_slice.ensures.value (all-seen SlotIsQuiet _ (c.any_pending-self-inside.ensures e))) c.self.invariant

pub returns : goal.returns
returns g c = committed-all c.args.who _ _ _ _ _ c.self.view_is (seen-mapped _ _ _ c.commit_all.ensures)
