use Rattle.undo_model.proofs.WayLemmas.{way-by_nodes, way-apart}
use Rattle.undo_model.proofs.laws.moves_go_by_nodes.Goals as goal

pub returns : goal.returns
returns c = record { way = way-by_nodes; apart = way-apart }
