use Rattle.std.proofs.Common.{◌≡◌, sym, subst}
use Rattle.std.specs.Prelude.{OnOk, codes}
use Rattle.scope_tables.specs.declared.names.HookName.TheVariants.{ModeChange}
use Rattle.kak_world.specs.Flat.{Flat}
use Rattle.kak_world.specs.Events.{event_of, noted, mode_left}
use Rattle.kak_world.proofs.world.World.note_left.Goals as goal

pub returns-in-Insert-clause-notes : goal.returns-in-Insert-clause-notes
returns-in-Insert-clause-notes g c =
    let IsNow : Flat → Type 0 = λ flat. OnOk c.note.result (c.note.new.self.flat ≡ flat) in
    subst (λ mode. IsNow (mode_left mode c.args.who c.args.self.now.flat)) (sym c.in-Insert.is)
    (subst (λ buffer. IsNow (noted (event_of ModeChange (codes "pop:insert:normal") buffer) c.args.self.now.flat)) c.shown_number-buffer.ensures c.note.ensures.notes)
