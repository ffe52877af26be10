use Rattle.std.proofs.Common.{not, ap, ◌∙◌, rules}
use Rattle.std.proofs.lemmas.Fn.{filter_same}
use Rattle.scope_options.specs.Scopes.{is_of_buffer}
use Rattle.highlight_paint.specs.Painters.{Highlighter}
use Rattle.highlight_paint.specs.Highlighters.{without_scopes}
use Rattle.highlight_paint.proofs.highlighters.Highlighters.clear_buffer.Goals as goal

pub returns : goal.returns
returns g c =
    filter_same _ (λ (r : Highlighter). not (is_of_buffer c.args.buffer r.scope)) _ (λ x b f' k. search rules) _ _ c.retain.ensures.filtered
    ∙ ap (without_scopes (is_of_buffer c.args.buffer)) c.self.view_is
