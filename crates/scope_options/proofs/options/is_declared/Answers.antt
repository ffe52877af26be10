use Rattle.std.proofs.Common.{ap, sym, ◌∙◌}
use Rattle.std.specs.Prelude.{is_some}
use Rattle.scope_options.proofs.SettingLemmas.{copied-some}
use Rattle.scope_options.proofs.options.is_declared.Goals as goal

pub returns : goal.returns
returns c = c.is_some.ensures ∙ sym (copied-some c.value_at.result) ∙ ap is_some c.value_at.ensures
