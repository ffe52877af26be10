use Rattle.pointer_rows.proofs.PlacesLaws.{pointing_moves_places}
use Rattle.pointer_rows.proofs.laws.pointing_moves_places.Goals as goal

pub returns : goal.returns
returns c = pointing_moves_places
