use Rattle.command_forms.proofs.WordLemmas.{parted-some}
use Rattle.command_forms.proofs.parting.parted.Goals as goal

pub returns : goal.returns
returns c =
    parted-some c.args.mark c.args.text.now c.in_ok-before.before.now c.in_ok-before.behind.now c.in_ok-before.ensures.2 c.in_ok-before.ensures.0 c.in_ok-before.ensures.1
