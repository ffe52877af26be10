use Rattle.undo_model.proofs.MoveLemmas.{undo-named, redo-named, node-named, target-is_there, named-leads, named-story}
use Rattle.undo_model.proofs.laws.moves_by_name.Goals as goal

pub returns : goal.returns
returns c = record {
  undo = undo-named;
  redo = redo-named;
  to_node = node-named;
  is_there = target-is_there;
  are_steps = λ travel s h. (named-leads travel s h).steps;
  lead = λ travel s h. (named-leads travel s h).lead;
  kept = named-story;
}
