use Rattle.std.proofs.Common.{length, ap, ◌∙◌}
use Rattle.std.specs.Prelude.{IfOk}
use Rattle.list_model.specs.Ranges.{Selected}
use Rattle.kak_world.specs.Seen.{Kept}
use Rattle.kak_world.specs.Flat.{is_joined, sels_of}
use Rattle.kak_engine.specs.Held.{HeldEngine}
use Rattle.kak_engine.proofs.CountLemmas.{known-joined, led-world}
use Rattle.kak_engine.proofs.engine.Engine.sels.Goals as goal

pub sel_count-requires : goal.sel_count-requires
sel_count-requires g c = ap (λ (k : Kept). is_joined c.args.who k.flat) c.get.ensures ∙ known-joined _ _ _ _ _ _ _ c.args.who c.self.invariant.0 (ap (λ (e : HeldEngine). e.history) c.self.view_is) (ap (λ (e : HeldEngine). e.mark) c.self.view_is) c.requires.whole c.requires.here

pub returns : goal.returns
returns g c =
    let world = led-world _ _ _ _ _ _ _ c.self.invariant.0 (ap (λ (e : HeldEngine). e.history) c.self.view_is) (ap (λ (e : HeldEngine). e.mark) c.self.view_is) c.requires.whole in
    c.in_ok-sel_count.ensures ∙ ap (λ (s : Selected). length s.list) (ap (λ (k : Kept). sels_of c.args.who k.flat) c.get.ensures ∙ ap (sels_of c.args.who) world)
