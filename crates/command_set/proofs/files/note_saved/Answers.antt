use Rattle.std.proofs.Common.{sym, subst}
use Rattle.kak_world.proofs.AnswerLemmas.{on-err}
use Rattle.command_set.specs.Wanting.{IsPartOfSaved}
use Rattle.command_set.proofs.WantingLemmas.{part-saved}
use Rattle.command_set.proofs.files.note_saved.Goals as goal

pub returns-in_err-note-in-Done-clause-err : goal.returns-in_err-note-in-Done-clause-err
returns-in_err-note-in-Done-clause-err g c =
    let old = c.args.world.now.flat in
    let new = c.note.new.self.flat in
    on-err c.from_residual-in_err-note-in-Done.result
    (subst (λ p. IsPartOfSaved c.args.saving p c.args.who old new) (sym c.in-Done.is)
    (part-saved c.args.saving c.args.who old c.mark_if_own.new.world.flat new c.in_ok-mark_if_own-in-Done.ensures.ok c.in_err-note-in-Done.ensures.held c.in_err-note-in-Done.ensures.err))
