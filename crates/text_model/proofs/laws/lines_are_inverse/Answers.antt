use Rattle.text_model.proofs.LineLemmas.{joined-lines_of, lines_of-joined}
use Rattle.text_model.proofs.PlaceLemmas.{All-lines_of, some_lines}
use Rattle.text_model.proofs.laws.lines_are_inverse.Goals as goal

pub returns : goal.returns
returns c = record { joined_lines = joined-lines_of; lines_joined = lines_of-joined; each_is_line = All-lines_of; some_line = some_lines }
