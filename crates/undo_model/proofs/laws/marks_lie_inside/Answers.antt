use Rattle.std.proofs.Common.{[]}
use Rattle.std.proofs.lemmas.List.Elements.{All-nil}
use Rattle.undo_model.specs.Laws.{IsInText}
use Rattle.undo_model.proofs.MarkLemmas.{marks-inside}
use Rattle.undo_model.proofs.laws.marks_lie_inside.Goals as goal

pub returns : goal.returns
returns c = record { inside = λ text cs h k. marks-inside text [] cs k (All-nil (IsInText text)) }
