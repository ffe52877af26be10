use Rattle.link_lines.proofs.DrawingLemmas.{others-draw}
use Rattle.link_lines.proofs.LaterLemmas.{over-later}
use Rattle.link_lines.proofs.laws.served_later.Goals as goal

pub returns : goal.returns
returns c = record { served = over-later; drawn = others-draw }
