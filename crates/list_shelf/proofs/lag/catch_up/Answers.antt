use Rattle.list_shelf.proofs.CodeLemmas.{lag-catchable, lag-caught, lag-stays}
use Rattle.list_shelf.proofs.lag.catch_up.Goals as goal

pub returns-then-lag-stamp : goal.returns-then-lag-stamp
returns-then-lag-stamp c = lag-stays c.args.log.now c.args.lag.now c.stamp.result c.requires c.if-lag-stamp.true c.stamp.ensures.value

pub catch_up-requires : goal.catch_up-requires
catch_up-requires c = lag-catchable c.args.log.now c.args.lag.now c.since.result.now c.requires c.since.ensures

pub returns : goal.returns
returns c = lag-caught c.args.log.now c.args.lag.now c.since.result.now c.stamp-lag.result c.catch_up.new.sels c.requires c.since.ensures c.stamp-lag.ensures.value c.catch_up.ensures.caught
