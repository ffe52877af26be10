use Rattle.std.proofs.Common.{rules, inr}
use Rattle.kak_app.proofs.program.status_of.Goals as goal

pub returns-in-Ok-Ended-clause-answers : goal.returns-in-Ok-Ended-clause-answers
returns-in-Ok-Ended-clause-answers c = λ keys old new ran. inr (search rules)
