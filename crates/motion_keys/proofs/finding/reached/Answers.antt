use Rattle.motion_keys.proofs.FoundLemmas.{extended-inside, extended-range}
use Rattle.motion_keys.proofs.finding.reached.Goals as goal

pub returns-in-Extend-clause-inside : goal.returns-in-Extend-clause-inside
returns-in-Extend-clause-inside c = λ text h k. extended-inside text c.args.sel c.args.target c.of_pair-extended.result c.anchor.result c.cursor.result c.anchor.ensures c.cursor.ensures c.of_pair-extended.ensures h k

pub returns-in-Extend-clause-reaches : goal.returns-in-Extend-clause-reaches
returns-in-Extend-clause-reaches c = λ text h k. rw c.in-Extend.is (extended-range text c.args.sel c.args.target c.of_pair-extended.result c.anchor.result c.cursor.result c.anchor.ensures c.cursor.ensures c.of_pair-extended.ensures h k)
