use Rattle.std.proofs.Common.{not, ap, ◌∙◌, rules}
use Rattle.std.proofs.lemmas.Fn.{filter_same}
use Rattle.scope_options.specs.declared.setting.Setting.{Setting}
use Rattle.scope_options.specs.Scopes.{is_of_buffer}
use Rattle.scope_options.specs.Settings.{without_buffer}
use Rattle.scope_options.proofs.options.Options.clear_buffer.Goals as goal

pub returns : goal.returns
returns c =
    filter_same _ (λ (r : Setting). not (is_of_buffer c.args.buffer r.scope)) _ (λ x b f' k. search rules) _ _ c.retain.ensures.filtered
    ∙ ap (without_buffer c.args.buffer) c.self.view_is
