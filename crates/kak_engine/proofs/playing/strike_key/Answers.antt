use Rattle.std.proofs.Common.{true}
use Rattle.kak_engine.specs.Doing.{Do, play_key}
use Rattle.kak_engine.proofs.EndLemmas.{acts-part}
use Rattle.kak_engine.proofs.NestingLemmas.{tame-key}
use Rattle.kak_engine.proofs.playing.strike_key.Goals as goal

pub returns-clause-acts : goal.returns-clause-acts
returns-clause-acts g c = acts-part c.args.who c.strike_mapped.result (play_key Do c.top.result true c.args.key) _ _ c.strike_mapped.ensures.does (tame-key c.top.result true c.args.key).joined c.requires
