use Rattle.std.proofs.Common.{◌≡◌, sym, subst}
use Rattle.std.specs.Prelude.{OnOk, codes}
use Rattle.scope_tables.specs.declared.names.HookName.TheVariants.{ModeChange}
use Rattle.kak_world.specs.Flat.{Flat}
use Rattle.kak_world.specs.Events.{event_of, noted, mode_entered}
use Rattle.kak_world.proofs.world.World.note_entered.Goals as goal

pub returns-in-Insert-clause-notes : goal.returns-in-Insert-clause-notes
returns-in-Insert-clause-notes g c =
    let IsNow : Flat → Type 0 = λ flat. OnOk c.note.result (c.note.new.self.flat ≡ flat) in
    subst (λ mode. IsNow (mode_entered mode c.args.who c.args.self.now.flat)) (sym c.in-Insert.is)
    (subst (λ buffer. IsNow (noted (event_of ModeChange (codes "push:normal:insert") buffer) c.args.self.now.flat)) c.shown_number-buffer.ensures c.note.ensures.notes)

pub returns-in-Prompt-clause-notes : goal.returns-in-Prompt-clause-notes
returns-in-Prompt-clause-notes g c =
    let IsNow : Flat → Type 0 = λ flat. OnOk c.note-in-Prompt.result (c.note-in-Prompt.new.self.flat ≡ flat) in
    subst (λ mode. IsNow (mode_entered mode c.args.who c.args.self.now.flat)) (sym c.in-Prompt.is)
    (subst (λ buffer. IsNow (noted (event_of ModeChange (codes "push:normal:prompt") buffer) c.args.self.now.flat)) c.shown_number-buffer.ensures c.note-in-Prompt.ensures.notes)
