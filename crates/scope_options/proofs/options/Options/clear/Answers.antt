use Rattle.std.proofs.Common.{not, ap, ◌∙◌, rules}
use Rattle.std.proofs.lemmas.Fn.{filter_same}
use Rattle.scope_options.specs.declared.setting.Setting.{Setting}
use Rattle.scope_options.specs.Scopes.{is_same_scope}
use Rattle.scope_options.specs.Settings.{cleared}
use Rattle.scope_options.proofs.options.Options.clear.Goals as goal

pub returns : goal.returns
returns c =
    filter_same _ (λ (r : Setting). not (is_same_scope r.scope c.args.scope)) _ (λ x b f' k. search rules) _ _ c.retain.ensures.filtered
    ∙ ap (cleared c.args.scope) c.self.view_is
