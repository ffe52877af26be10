use Rattle.std.proofs.Common.{◌/◌, ◌^◌, ap}
use Rattle.session_draws.proofs.DrawLemmas.{cut-once}
use Rattle.session_draws.proofs.draws.Draws.draw.Goals as goal

pub returns-clause-state : goal.returns-clause-state
returns-clause-state c = cut-once c.args.self.now.state

pub returns-clause-number : goal.returns-clause-number
returns-clause-number c = ap (λ n. n / 2 ^ 33) (cut-once c.args.self.now.state)
