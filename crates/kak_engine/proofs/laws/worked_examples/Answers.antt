use Rattle.kak_engine.proofs.ExampleLemmas.{examples}
use Rattle.kak_engine.proofs.laws.worked_examples.Goals as goal

pub returns : goal.returns
returns c = examples
