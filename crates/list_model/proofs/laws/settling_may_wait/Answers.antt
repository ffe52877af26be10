use Rattle.list_model.proofs.MoveLemmas.{moved_at_once-each, moved-unique, moved_at_once-append, each_settled-twice}
use Rattle.list_model.proofs.laws.settling_may_wait.Goals as goal

pub returns : goal.returns
returns c = record {
  once_for_each = moved_at_once-each;
  only_one = moved-unique;
  in_parts = moved_at_once-append;
  settled_twice = λ f g k l s h. each_settled-twice f g k l s h;
}
