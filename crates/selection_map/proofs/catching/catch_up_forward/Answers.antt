use Rattle.std.proofs.Common.{ap, sym}
use Rattle.selection_set.specs.Listing.{Listed}
use Rattle.selection_map.specs.Premises.{CanGoOn}
use Rattle.selection_map.proofs.CatchLemmas.{can-go-on, list-none, caught-up}
use Rattle.selection_map.proofs.catching.catch_up_forward.Goals as goal

pub walk_sels-requires-clause-can : goal.walk_sels-requires-clause-can
walk_sels-requires-clause-can g c =
    let go : CanGoOn c.args.shifts.now c.args.sels.now.list = can-go-on c.args.shifts.now c.args.sels.now 0 c.args.sels.now.list c.requires.can (sym (list-none c.args.sels.now.list)) in
    record { old = go.old; steps = go.steps; can = go.can; run = c.requires.rise }

pub returns-clause-caught : goal.returns-clause-caught
returns-clause-caught g c = λ old steps can.
    caught-up old steps c.args.shifts.now c.args.sels.now c.walk_sels.new.sels c.settle.new.self
    (ap (λ (s : Listed). s.list) c.walk_sels.ensures.each) (ap (λ (s : Listed). s.main) c.walk_sels.ensures.each) c.settle.ensures.settles can
