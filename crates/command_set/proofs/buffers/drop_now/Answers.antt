use Rattle.std.proofs.Common.{ap, sym, ◌∙◌}
use Rattle.std.specs.Prelude.{if◌then◌else◌, codes}
use Rattle.scope_tables.specs.declared.names.HookName.TheVariants.{BufCreate}
use Rattle.kak_world.specs.Flat.{Flat}
use Rattle.kak_world.specs.Dropping.{dropped}
use Rattle.kak_world.specs.Events.{event_of, noted}
use Rattle.command_set.specs.Buffers.{drop_noted}
use Rattle.command_set.proofs.NotingLaws.{unheard_err}
use Rattle.command_set.proofs.buffers.drop_now.Goals as goal

pub returns-clause-err : goal.returns-clause-err
returns-clause-err g c =
    let old : Flat = c.args.world.now.flat in
    let event = event_of BufCreate (codes "*scratch*") 0 in
    unheard_err c.note.result event old (drop_noted c.args.n old) c.drop_buffer.new.self.flat c.note.new.self.flat
    (ap (λ t. if t then noted event (dropped c.args.n old) else dropped c.args.n old) (sym c.is_only-only.ensures ∙ c.if-not-only.false) ∙ ap (λ (x : Flat). noted event x) (sym c.in_ok-drop_buffer.ensures.ok))
    c.note.ensures.err c.note.ensures.held
