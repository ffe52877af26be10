use Rattle.std.proofs.Common.{ap, sym}
use Rattle.kak_world.specs.Events.{displayed}
use Rattle.kak_world.specs.Showing.{shows}
use Rattle.command_set.proofs.NotingLaws.{unheard_err}
use Rattle.command_set.proofs.buffers.show_at.Goals as goal

pub returns-clause-err : goal.returns-clause-err
returns-clause-err g c =
    let old = c.args.world.now.flat in
    unheard_err c.note_displayed.result _ old (displayed c.args.who (shows c.args.who c.args.n old)) c.show.new.self.flat c.note_displayed.new.self.flat
    (ap (displayed c.args.who) (sym c.in_ok-show.ensures.ok)) c.note_displayed.ensures.err c.note_displayed.ensures.held
