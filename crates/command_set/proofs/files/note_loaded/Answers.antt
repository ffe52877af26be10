use Rattle.std.proofs.Common.{ap, sym, ◌∙◌}
use Rattle.scope_tables.specs.declared.names.HookName.TheVariants.{BufCreate, BufOpenFile}
use Rattle.kak_world.specs.Flat.{Flat}
use Rattle.kak_world.specs.Events.{event_of, noted, displayed}
use Rattle.kak_world.proofs.AnswerLemmas.{on-err}
use Rattle.command_set.specs.Files.{loaded_noted}
use Rattle.command_set.proofs.NotingLaws.{wants_noted, wants_more, wants_err}
use Rattle.command_set.proofs.files.note_loaded.Goals as goal

pub returns-in_err-note-clause-err : goal.returns-in_err-note-clause-err
returns-in_err-note-clause-err g c =
    let made = event_of BufCreate c.args.name.now c.args.n in
    let opened = event_of BufOpenFile c.args.name.now c.args.n in
    let old = c.args.world.now.flat in
    let new = c.note.new.self.flat in
    on-err c.from_residual.result
    (wants_more _ (noted opened (noted made old)) new (wants_more opened (noted made old) new (wants_noted made old new c.in_err-note.ensures.held c.in_err-note.ensures.err)))

pub returns-in_err-note-2-clause-err : goal.returns-in_err-note-2-clause-err
returns-in_err-note-2-clause-err g c =
    let made = event_of BufCreate c.args.name.now c.args.n in
    let opened = event_of BufOpenFile c.args.name.now c.args.n in
    let old = c.args.world.now.flat in
    let new = c.note-2.new.self.flat in
    on-err c.from_residual-in_err-note-2.result
    (wants_more _ (noted opened (noted made old)) new (wants_noted opened (noted made old) new c.in_err-note-2.ensures.held (c.in_err-note-2.ensures.err ∙ c.in_ok-note.ensures.notes)))

pub returns-clause-err : goal.returns-clause-err
returns-clause-err g c =
    let opened = event_of BufOpenFile c.args.name.now c.args.n in
    wants_err c.note_displayed.result _ (loaded_noted c.args.name.now c.args.n c.args.who c.args.world.now.flat) c.note-2.new.self.flat c.note_displayed.new.self.flat
    (ap (displayed c.args.who) (sym (c.in_ok-note-2.ensures.notes ∙ ap (λ (x : Flat). noted opened x) c.in_ok-note.ensures.notes))) c.note_displayed.ensures.err c.note_displayed.ensures.held
