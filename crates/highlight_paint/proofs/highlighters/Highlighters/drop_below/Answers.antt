use Rattle.std.proofs.Common.{not, ap, ◌∙◌, rules}
use Rattle.std.proofs.lemmas.Fn.{filter_same}
use Rattle.highlight_paint.specs.Painters.{Highlighter}
use Rattle.highlight_paint.specs.Highlighters.{is_below_highlighter, without_below}
use Rattle.highlight_paint.proofs.highlighters.Highlighters.drop_below.Goals as goal

pub returns : goal.returns
returns g c =
    filter_same _ (λ (r : Highlighter). not (is_below_highlighter c.args.scope c.args.path.now r)) _ (λ x b f' k. search rules) _ _ c.retain.ensures.filtered
    ∙ ap (without_below c.args.scope c.args.path.now) c.self.view_is
