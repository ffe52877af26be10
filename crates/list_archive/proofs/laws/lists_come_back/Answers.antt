use Rattle.list_archive.specs.Archives.{list_in}
use Rattle.list_archive.proofs.BackLemmas.{before-seen, ahead-seen, mark-seen, back-keeps, forward-keeps, marking-keeps, unmarking-keeps}
use Rattle.list_archive.proofs.laws.lists_come_back.Goals as goal

pub returns : goal.returns
returns c = record {
  before_is_seen = λ text who shelf a. before-seen (list_in text shelf.log) who a.trails;
  ahead_is_seen = λ text who shelf a. ahead-seen (list_in text shelf.log) who a.trails;
  mark_is_seen = λ text register shelf a. mark-seen (list_in text shelf.log) register a.marks;
  back = back-keeps;
  forward = forward-keeps;
  marked = marking-keeps;
  unmarked = unmarking-keeps;
}
