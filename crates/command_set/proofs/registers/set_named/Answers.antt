use Rattle.std.proofs.Common.{ap, inr}
use Rattle.kak_world.specs.Flat.{Flat}
use Rattle.kak_world.specs.Rows.{RowEnd, does}
use Rattle.kak_world.specs.Events.{register_modified}
use Rattle.kak_world.specs.Registers.{set_row}
use Rattle.key_rows.specs.Sequence.{then_row}
use Rattle.command_set.proofs.NotingLaws.{wants_noted, wants_as}
use Rattle.command_set.proofs.registers.set_named.Goals as goal

pub returns-in_err-note_register-clause-wanting : goal.returns-in_err-note_register-clause-wanting
returns-in_err-note_register-clause-wanting g c = λ is.
    let next : Flat → RowEnd = λ w. does (register_modified c.args.name c.args.who w) in
    let mid : Flat = c.set_register.new.self.flat in
    let new : Flat = c.note_register.new.self.flat in
    inr (wants_as (then_row (set_row c.args.name c.args.values c.args.world.now.flat) next).world (register_modified c.args.name c.args.who mid) new
    (ap (λ (x : RowEnd). (then_row x next).world) c.in_ok-set_register.ensures.row) (wants_noted _ mid new c.in_err-note_register.ensures.held c.in_err-note_register.ensures.err))
