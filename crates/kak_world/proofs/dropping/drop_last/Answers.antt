use Rattle.std.proofs.Common.{set, ap, ◌∙◌, arith, Some}
use Rattle.kak_world.specs.Seen.{all_seen}
use Rattle.kak_world.proofs.DroppingLemmas.{last-dropped}
use Rattle.kak_world.proofs.KeptLemmas.{seen-length, seen-set}
use Rattle.kak_world.proofs.StoredLemmas.{leave-after, gone-leaves, placed-leaves}
use Rattle.kak_world.proofs.dropping.drop_last.Goals as goal

pub returns-clause-ok : goal.returns-clause-ok
returns-clause-ok c =
    seen-set _ _ _
    ∙ ap (λ xs. set xs 0 (Some c.in_ok-buffer.buffer.seen)) (seen-set _ _ _)
    ∙ last-dropped c.args.n c.args.clients.now (all_seen c.args.buffers.now.items) c.in_ok-buffer.buffer.seen c.requires.there (omega (arith, c.requires.last, seen-length c.args.buffers.now.items)) c.in_ok-buffer.ensures.seen

pub returns-clause-leaves : goal.returns-clause-leaves
returns-clause-leaves c = λ other. leave-after other _ _ _ (gone-leaves other c.args.n c.args.buffers.now.items) (placed-leaves other 0 c.in_ok-buffer.buffer _ c.in_ok-buffer.ensures.fresh)
