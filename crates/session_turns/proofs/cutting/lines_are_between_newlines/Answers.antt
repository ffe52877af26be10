use Rattle.session_turns.proofs.LineLemmas.{all-lines, lines-have-none, rest-has-none}
use Rattle.session_turns.proofs.cutting.lines_are_between_newlines.Goals as goal

pub returns : goal.returns
returns c = record { all = all-lines; lines = lines-have-none; rest = rest-has-none }
