use Rattle.highlight_paint.proofs.RowLemmas.{path-added, path-removed, added-elsewhere, removed-elsewhere}
use Rattle.highlight_paint.proofs.laws.paths_are_apart.Goals as goal

pub returns : goal.returns
returns c = record {
  added = path-added;
  removed = path-removed;
  added_elsewhere = added-elsewhere;
  removed_elsewhere = removed-elsewhere;
}
