use Rattle.std.proofs.Common.{ap, sym}
use Rattle.scope_tables.specs.declared.names.HookName.TheVariants.{BufCreate}
use Rattle.kak_world.specs.Events.{event_of, noted, displayed}
use Rattle.kak_world.proofs.AnswerLemmas.{on-err}
use Rattle.command_set.specs.Files.{made_noted}
use Rattle.command_set.proofs.NotingLaws.{wants_noted, wants_more, wants_err}
use Rattle.command_set.proofs.files.note_made.Goals as goal

pub returns-in_err-note-clause-err : goal.returns-in_err-note-clause-err
returns-in_err-note-clause-err g c =
    let event = event_of BufCreate c.args.name.now c.args.n in
    let old = c.args.world.now.flat in
    on-err c.from_residual.result (wants_more _ (noted event old) c.note.new.self.flat (wants_noted event old c.note.new.self.flat c.in_err-note.ensures.held c.in_err-note.ensures.err))

pub returns-clause-err : goal.returns-clause-err
returns-clause-err g c =
    wants_err c.note_displayed.result _ (made_noted c.args.name.now c.args.n c.args.who c.args.world.now.flat) c.note.new.self.flat c.note_displayed.new.self.flat
    (ap (displayed c.args.who) (sym c.in_ok-note.ensures.notes)) c.note_displayed.ensures.err c.note_displayed.ensures.held
