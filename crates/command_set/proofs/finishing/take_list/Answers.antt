use Rattle.std.proofs.Common.{ap, refl, ◌∙◌}
use Rattle.selection_set.specs.Held.{selected}
use Rattle.kak_world.specs.Flat.{text_of, with_sels}
use Rattle.command_set.specs.Finishing.{further_asked}
use Rattle.command_set.proofs.UseLemmas.{unit-asked}
use Rattle.command_set.proofs.finishing.take_list.Goals as goal

pub returns-else-not-take_unit-clause-row : goal.returns-else-not-take_unit-clause-row
returns-else-not-take_unit-clause-row g c =
    let who = c.args.who in
    let flat = c.args.world.now.flat in
    let sels = selected (text_of who flat) c.args.sels in
    ap (λ n. further_asked n (with_sels who sels flat)) c.in-Some.is
    ∙ unit-asked c.in-Some.next who sels flat c.set_sels-in-Some.new.self.flat c.take_unit.new.self.flat c.in_ok-ask-in-Some.ask c.in_ok-ask-in-Some.ensures.row c.set_sels-in-Some.ensures (c.if-not-take_unit.ensures.taken refl).0 (c.if-not-take_unit.ensures.taken refl).1
