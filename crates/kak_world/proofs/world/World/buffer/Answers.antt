use Rattle.std.proofs.Common.{ap, ◌∙◌, get_or, None, arith}
use Rattle.kak_world.specs.Seen.{Kept, slot_seen}
use Rattle.kak_world.proofs.KeptLemmas.{past-none, here-some}
use Rattle.kak_world.proofs.world.World.buffer.Goals as goal

pub returns-then-n-len : goal.returns-then-n-len
returns-then-n-len g c = past-none c.self.inside.buffers.items c.args.n (omega (arith, c.if-n-len.true, c.len.ensures, c.self.inside.buffers.ok.0)) ∙ ap (λ (k : Kept). get_or k.flat.buffers c.args.n None) c.self.view_is

pub returns : goal.returns
returns g c = ap slot_seen c.as_ref.ensures.value ∙ here-some c.self.inside.buffers.items c.args.n _ (omega (arith, c.if-n-len.false, c.len.ensures, c.self.inside.buffers.ok.0)) c.index.ensures ∙ ap (λ (k : Kept). get_or k.flat.buffers c.args.n None) c.self.view_is
