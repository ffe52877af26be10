use Rattle.list_model.proofs.UniqueLemmas.{linked-held, held-linked}
use Rattle.list_model.proofs.laws.chains_become_one.Goals as goal

pub returns : goal.returns
returns c = record { chain_is_held = linked-held; held_is_chain = held-linked }
