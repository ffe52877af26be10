use Rattle.pointer_rows.proofs.PlacesLaws.{scrolling_moves_places}
use Rattle.pointer_rows.proofs.laws.scrolling_moves_places.Goals as goal

pub returns : goal.returns
returns c = scrolling_moves_places
