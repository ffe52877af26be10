use Rattle.change_list.proofs.ChangeLemmas.{IsShift-back}
use Rattle.change_list.proofs.change.inverse.Goals as goal

pub returns-clause-takes_back : goal.returns-clause-takes_back
returns-clause-takes_back c = λ text ch h k l. IsShift-back text ch c.args.change.now.shift c.args.last h k l
