use Rattle.kak_engine.proofs.NestingExampleLemmas.{nesting}
use Rattle.kak_engine.proofs.laws.nesting_examples.Goals as goal

pub returns : goal.returns
returns c = nesting
