use Rattle.std.proofs.Common.{not, Ok, ap, sym, ◌∙◌, rules}
use Rattle.std.specs.Prelude.{is_some}
use Rattle.std.proofs.lemmas.Fn.{filter_same}
use Rattle.scope_options.specs.declared.scope.Scope.TheVariants.{Global}
use Rattle.scope_options.specs.declared.setting.Setting.{Setting}
use Rattle.scope_options.specs.Settings.{is_at, value_at, without}
use Rattle.scope_options.proofs.SettingLemmas.{unset-declared}
use Rattle.scope_options.proofs.options.Options.unset.Goals as goal

pub returns-clause-unsets : goal.returns-clause-unsets
returns-clause-unsets c =
    let rows = c.as_slice.ensures.value ∙ c.self.view_is in
    let declared = sym (c.is_declared.ensures ∙ ap (λ r. is_some (value_at Global c.args.name.now r)) rows) ∙ c.if-not-is_declared.false in
    let kept = filter_same _ (λ (r : Setting). not (is_at c.args.scope c.args.name.now r)) _ (λ x b f' k. search rules) _ _ c.retain.ensures.filtered ∙ ap (without c.args.scope c.args.name.now) c.self.view_is in
    unset-declared c.args.scope c.args.name.now c.args.self.now declared (sym c.is_same.ensures ∙ c.if-is_same.false) ∙ ap Ok (sym kept)
