use Rattle.std.proofs.Common.{[]}
use Rattle.session_events.specs.Counting.{most_here}
use Rattle.session_events.proofs.CountingLemmas.{few-in-front}
use Rattle.session_events.proofs.laws.few_are_here.Goals as goal

pub returns : goal.returns
returns c = λ limit front rest legal. few-in-front most_here [] front rest legal.few
