use Rattle.std.proofs.Common.{not, ap, ◌∙◌, arith}
use Rattle.std.specs.Prelude.{is_some}
use Rattle.std.specs.List.{list_any}
use Rattle.kak_world.specs.Flat.{lowest}
use Rattle.kak_world.specs.Seen.{Kept, all_seen}
use Rattle.kak_world.specs.Dropping.{emptied}
use Rattle.kak_world.proofs.DroppingLemmas.{only-by}
use Rattle.kak_world.proofs.KeptLemmas.{seen-length}
use Rattle.kak_world.proofs.world.World.is_only.Goals as goal

pub returns : goal.returns
returns g c =
    only-by c.args.n c.len.result c.lowest_other.result (all_seen c.self.inside.buffers.items)
    (omega (arith, c.len.ensures, seen-length c.self.inside.buffers.items, c.self.inside.buffers.ok.0))
    (c.lowest_other.ensures ∙ ap (λ bs. lowest (emptied c.args.n (all_seen bs))) c.as_slice.ensures.value)
    ∙ ap (λ (k : Kept). not (list_any is_some (emptied c.args.n k.flat.buffers))) c.self.view_is
