use Rattle.buffer_store.proofs.MakingLemmas.{made-flats, backs-undoing}
use Rattle.buffer_store.proofs.laws.kept_changes_go_both_ways.Goals as goal

pub returns : goal.returns
returns c = record { made_by_offsets = made-flats; taken_back_by_inverses = λ text ks h. (backs-undoing text ks h).0; old_text = λ text ks h. (backs-undoing text ks h).1 }
