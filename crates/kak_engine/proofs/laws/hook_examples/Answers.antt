use Rattle.kak_engine.proofs.NestingExampleLemmas.{hooking}
use Rattle.kak_engine.proofs.laws.hook_examples.Goals as goal

pub returns : goal.returns
returns c = hooking
