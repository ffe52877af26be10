use Rattle.list_shelf.proofs.StoreLemmas.{until-full, past-log, past-stamps, past-eager}
use Rattle.list_shelf.proofs.laws.logs_begin_again.Goals as goal

pub returns : goal.returns
returns c = record { until_then = until-full; log = past-log; stamps = past-stamps; eager = past-eager }
