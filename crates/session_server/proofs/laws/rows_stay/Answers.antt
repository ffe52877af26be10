use Rattle.session_server.proofs.RowLemmas.{row-later, row-served, row-drawn}
use Rattle.session_server.proofs.laws.rows_stay.Goals as goal

pub returns : goal.returns
returns c = record { stays = row-later; served = row-served; drawn = row-drawn }
