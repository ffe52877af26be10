use Rattle.std.proofs.Common.{sym, subst, ◌≤◌, ◌+◌, ◌*◌, List, length}
use Rattle.text_model.specs.declared.coords.Shift.{Shift}
use Rattle.selection_map.specs.Behind.{AreRising}
use Rattle.selection_map.specs.Staying.{count_moved}
use Rattle.list_shelf.proofs.CodeLemmas.{lag-catchable, lag-caught}
use Rattle.list_shelf.proofs.lag.catch_up_forward.Goals as goal

pub catch_up_forward-requires-clause-can : goal.catch_up_forward-requires-clause-can
catch_up_forward-requires-clause-can g c = lag-catchable c.args.log.now c.args.lag.now c.since.result.now c.requires.lags c.since.ensures

pub catch_up_forward-requires-clause-rise : goal.catch_up_forward-requires-clause-rise
catch_up_forward-requires-clause-rise g c = subst AreRising (sym c.since.ensures) c.requires.rise

pub returns : goal.returns
returns g c = record {
  caught = lag-caught c.args.log.now c.args.lag.now c.since.result.now c.stamp-lag.result c.catch_up_forward.new.sels c.requires.lags c.since.ensures c.stamp-lag.ensures.value c.catch_up_forward.ensures.caught;
  ends = subst (λ (l : List Shift). c.args.steps.now + 2 * count_moved l c.args.lag.now.sels.list ≤ c.catch_up_forward.new.steps) c.since.ensures c.catch_up_forward.ensures.ends;
  turns = subst (λ (l : List Shift). c.catch_up_forward.new.steps ≤ c.args.steps.now + (2 * length c.args.lag.now.sels.list + length l)) c.since.ensures c.catch_up_forward.ensures.turns;
}
