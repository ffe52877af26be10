use Rattle.line_painting.proofs.MarkLemmas.{windows_show_cells}
use Rattle.line_painting.proofs.laws.windows_show_cells.Goals as goal

pub returns : goal.returns
returns c = windows_show_cells
