use Rattle.std.proofs.Common.{not, ap, ◌∙◌, rules}
use Rattle.std.proofs.lemmas.Fn.{filter_same}
use Rattle.scope_options.specs.Scopes.{is_same_scope}
use Rattle.highlight_paint.specs.Painters.{Highlighter}
use Rattle.highlight_paint.specs.Highlighters.{without_scopes}
use Rattle.highlight_paint.proofs.highlighters.Highlighters.clear.Goals as goal

pub returns : goal.returns
returns g c =
    filter_same _ (λ (r : Highlighter). not (is_same_scope r.scope c.args.scope)) _ (λ x b f' k. search rules) _ _ c.retain.ensures.filtered
    ∙ ap (without_scopes (λ s. is_same_scope s c.args.scope)) c.self.view_is
