use Rattle.std.proofs.Common.{chars, refl}
use Rattle.text_coding.proofs.ReturnLemmas.{returned-end, plain-run}
use Rattle.text_coding.proofs.lines.without_return.Goals as goal

pub returns-in-Some-clause-same : goal.returns-in-Some-clause-same
returns-in-Some-clause-same c = λ rest. returned-end (chars c.args.run.now) (chars c.in-Some.front.now) rest c.requires c.in-Some.ensures.some

pub returns-in-None-clause-same : goal.returns-in-None-clause-same
returns-in-None-clause-same c = λ rest. plain-run (chars c.args.run.now) rest c.requires (c.in-None.ensures.none refl)
