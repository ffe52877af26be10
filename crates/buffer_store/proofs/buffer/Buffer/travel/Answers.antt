use Rattle.std.proofs.Common.{ℕ, ◌<◌, length, sym, subst, IfSome}
use Rattle.std.specs.declared.option.Option.{Option}
use Rattle.undo_model.proofs.MoveLemmas.{target-there}
use Rattle.buffer_store.proofs.buffer.Buffer.travel.Goals as goal

pub go_to-requires-clause-there : goal.go_to-requires-clause-there
go_to-requires-clause-there c =
    let P : Option ℕ → Type 0 = λ o. IfSome o (λ n. n < length c.commit.new.self.nodes) in
    subst P (sym c.in-Some.ensures) (target-there c.args.travel c.commit.new.self c.is_story.ensures)
