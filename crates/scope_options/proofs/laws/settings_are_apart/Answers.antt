use Rattle.scope_options.proofs.SettingLemmas.{set-same, set-other}
use Rattle.scope_options.proofs.laws.settings_are_apart.Goals as goal

pub returns : goal.returns
returns c = record { same = set-same; others = set-other }
