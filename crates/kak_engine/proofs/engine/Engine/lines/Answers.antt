use Rattle.std.proofs.Common.{ap, ◌∙◌}
use Rattle.text_model.specs.Texts.{line_count}
use Rattle.kak_world.specs.Seen.{Kept}
use Rattle.kak_world.specs.Flat.{is_joined, text_of}
use Rattle.kak_engine.specs.Held.{HeldEngine}
use Rattle.kak_engine.proofs.CountLemmas.{known-joined, led-world}
use Rattle.kak_engine.proofs.engine.Engine.lines.Goals as goal

pub lines-requires : goal.lines-requires
lines-requires g c = ap (λ (k : Kept). is_joined c.args.who k.flat) c.get.ensures ∙ known-joined _ _ _ _ _ _ _ c.args.who c.self.invariant.0 (ap (λ (e : HeldEngine). e.history) c.self.view_is) (ap (λ (e : HeldEngine). e.mark) c.self.view_is) c.requires.whole c.requires.here

pub returns : goal.returns
returns g c =
    let world = led-world _ _ _ _ _ _ _ c.self.invariant.0 (ap (λ (e : HeldEngine). e.history) c.self.view_is) (ap (λ (e : HeldEngine). e.mark) c.self.view_is) c.requires.whole in
    c.line_count.ensures.value ∙ ap line_count (c.lines.ensures ∙ ap (λ (k : Kept). text_of c.args.who k.flat) c.get.ensures ∙ ap (text_of c.args.who) world)
