use Rattle.list_model.proofs.ListLemmas.{place_of_below}
use Rattle.list_model.proofs.SortLemmas.{settled-settles}
use Rattle.list_model.proofs.UniqueLemmas.{settled-unique}
use Rattle.list_model.proofs.MoveLemmas.{settled-settled, is_settled_list}
use Rattle.list_model.proofs.laws.lists_have_one_settled_list.Goals as goal

pub returns : goal.returns
returns c = record {
  settles = λ s h k. settled-settles s h (place_of_below s.list s.main k);
  only_one = settled-unique;
  stays = settled-settled;
  is_settled = is_settled_list;
}
