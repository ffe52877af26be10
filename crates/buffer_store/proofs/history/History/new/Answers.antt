use Rattle.std.proofs.Common.{List, sym, subst, ◌∙◌, ap, None, ◌++◌, ◌∷◌, []}
use Rattle.std.specs.Vec.{vec_len, vec_capacity}
use Rattle.change_list.specs.declared.change.Change.{Change as Kept}
use Rattle.buffer_store.specs.Seen.{Branch}
use Rattle.buffer_store.specs.Histories.{IsHistory}
use Rattle.buffer_store.specs.Laws.{first_branch}
use Rattle.buffer_store.proofs.HistoryLemmas.{history-opened}
use Rattle.buffer_store.proofs.history.History.new.Goals as goal

pub invariant_of-result : goal.invariant_of-result
invariant_of-result c =
    let P : List Branch → Type 0 = λ bs. IsHistory c.args.lines bs 0 0 None (vec_len c.push.new.self) (vec_capacity c.push.new.self) in
    let first : List Kept → Branch = λ ks. record { parent = 0; heir = None; changes = ks } in
    subst P (sym (c.in_ok-push.ensures.items ∙ ap (λ ks. c.new-branches.result.items ++ first ks ∷ []) c.new.ensures.items ∙ ap (λ bs. bs ++ first_branch ∷ []) c.new-branches.ensures.items)) (history-opened c.args.lines (vec_len c.push.new.self) (vec_capacity c.push.new.self) c.len-stored.ensures.valid)
