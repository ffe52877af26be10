use Rattle.std.proofs.Common.{not, List, ap, ◌∙◌, rules}
use Rattle.std.specs.Prelude.{filter}
use Rattle.std.proofs.lemmas.Fn.{filter_same}
use Rattle.highlight_paint.specs.Painters.{Highlighter}
use Rattle.highlight_paint.specs.Highlighters.{is_highlighter, without_below}
use Rattle.highlight_paint.proofs.highlighters.Highlighters.remove.Goals as goal

pub returns-clause-removes : goal.returns-clause-removes
returns-clause-removes g c =
    c.drop_below.ensures
    ∙ ap (without_below c.args.scope c.args.path.now)
    (filter_same _ (λ (r : Highlighter). not (is_highlighter c.args.scope c.args.path.now r)) _ (λ x b f' k. search rules) _ _ c.retain.ensures.filtered
    ∙ ap (λ (rs : List Highlighter). filter (λ r. not (is_highlighter c.args.scope c.args.path.now r)) rs) c.self.view_is)
