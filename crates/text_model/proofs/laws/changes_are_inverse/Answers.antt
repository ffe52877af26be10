use Rattle.text_model.proofs.ChangeLemmas.{changed-inverse, IsInside-inverse, move_of-change, IsChange-back}
use Rattle.text_model.proofs.laws.changes_are_inverse.Goals as goal

pub returns : goal.returns
returns c = record { taken_back = changed-inverse; inverse_is_inside = IsInside-inverse; by_offsets = move_of-change; other_way = IsChange-back }
