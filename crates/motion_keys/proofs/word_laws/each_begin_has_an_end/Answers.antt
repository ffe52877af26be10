use Rattle.motion_keys.proofs.EndLemmas.{next_has_end, end_has_end, back_has_end}
use Rattle.motion_keys.proofs.word_laws.each_begin_has_an_end.Goals as goal

pub returns : goal.returns
returns c = record { next = next_has_end; «end» = end_has_end; back = back_has_end }
