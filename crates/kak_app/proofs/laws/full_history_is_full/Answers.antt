use Rattle.kak_app.proofs.laws.full_history_is_full.Goals as goal

pub returns : goal.returns
returns c = λ keys old new r. (r.history, r.full)
