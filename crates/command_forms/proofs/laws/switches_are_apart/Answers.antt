use Rattle.command_forms.proofs.SwitchLemmas.{switch-same, switch-true}
use Rattle.command_forms.proofs.laws.switches_are_apart.Goals as goal

pub returns : goal.returns
returns c = record { same = switch-same; apart = switch-true }
