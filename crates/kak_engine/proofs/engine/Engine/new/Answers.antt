use Rattle.std.proofs.Common.{◌≡◌, length, ap, arith, ◌∙◌}
use Rattle.kak_world.specs.Seen.{Kept}
use Rattle.kak_engine.proofs.JoinedLemmas.{knows-first}
use Rattle.kak_engine.proofs.RunLemmas.{stands-first}
use Rattle.kak_engine.proofs.engine.Engine.new.Goals as goal

pub invariant_of-result : goal.invariant_of-result
invariant_of-result g c =
    let nobody : length c.in-Ok.world.flat.clients ≡ 0 = ap (λ (k : Kept). length k.flat.clients) c.in-Ok.ensures in
    (stands-first _ _ c.args.limit _ (ap (λ (k : Kept). k.flat) (c.new-in-Ok.ensures ∙ c.in-Ok.ensures)) c.new-in-Ok-2.ensures.items c.requires, λ m. omega (arith, nobody, ap (λ (k : Kept). length k.flat.clients) c.new-in-Ok.ensures, c.new-in-Ok-2.ensures.len), knows-first _ _ _ c.new-in-Ok-3.ensures.empty c.new-in-Ok-2.ensures.items)
