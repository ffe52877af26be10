use Rattle.std.proofs.Common.{◌≡◌, sym, ap, subst, ◌∙◌}
use Rattle.kak_world.specs.Seen.{Kept}
use Rattle.kak_world.specs.Stored.{LeavesOthersOf}
use Rattle.kak_engine.specs.Held.{resting}
use Rattle.kak_engine.proofs.resting.leave_in_step.Goals as goal

pub returns-clause-others : goal.returns-clause-others
returns-clause-others g c =
    let taken : c.in-Some.world ≡ c.args.resting.now = ap resting (sym c.in-Some.is ∙ c.take.ensures.value) ∙ c.resting.view_is in
    subst (λ (k : Kept). LeavesOthersOf c.args.who k.stored c.leave_inside-world.result.0.stored) taken c.leave_inside-world.ensures.others
