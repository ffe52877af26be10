use Rattle.std.proofs.Common.{sym, subst}
use Rattle.std.specs.Prelude.{slice_get}
use Rattle.change_list.specs.Logs.{Logged}
use Rattle.list_archive.specs.Archives.{newest_lags, AreAllLagging}
use Rattle.list_archive.proofs.ForwardLemmas.{not-forward, forward-lagging, forward-cut}
use Rattle.list_archive.proofs.trails.TrailRow.go_forward.Goals as goal

pub step_forward-requires-clause-list : goal.step_forward-requires-clause-list
step_forward-requires-clause-list c = c.requires.list

pub step_forward-requires-clause-lagging : goal.step_forward-requires-clause-lagging
step_forward-requires-clause-lagging c = c.requires.ahead

pub returns-then-not-step_forward : goal.returns-then-not-step_forward
returns-then-not-step_forward c =
    not-forward (newest_lags c.args.shelf.now.log) (slice_get c.args.self.now.ahead 0) c.step_forward.result c.args.self.now c.args.shelf.now c.step_forward.new.self c.step_forward.new.shelf c.step_forward.ensures c.if-not-step_forward.true

pub keep_newest-requires : goal.keep_newest-requires
keep_newest-requires c =
    subst (λ (log : Logged). AreAllLagging log c.step_forward.new.self.past) (sym c.log.ensures)
    (forward-lagging (slice_get c.args.self.now.ahead 0) c.step_forward.result c.args.self.now c.args.shelf.now c.step_forward.new.self c.step_forward.new.shelf c.step_forward.ensures c.if-not-step_forward.false c.requires.past)

pub returns : goal.returns
returns c =
    forward-cut (slice_get c.args.self.now.ahead 0) c.step_forward.result c.args.self.now c.args.shelf.now c.step_forward.new.self c.step_forward.new.shelf c.keep_newest.new.self c.log.result.now c.step_forward.ensures c.if-not-step_forward.false c.log.ensures c.keep_newest.ensures
