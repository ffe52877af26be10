use Rattle.std.proofs.Common.{◌≡◌, ◌∙◌, subst}
use Rattle.scope_options.specs.declared.scope.Scope.TheVariants.{Global, Buffer, Window}
use Rattle.highlight_paint.specs.Painters.{painting_at, painting}
use Rattle.highlight_paint.specs.Numbers.{gutter_of}
use Rattle.highlight_paint.proofs.NumberLemmas.{numbers-all}
use Rattle.highlight_paint.proofs.highlighters.Highlighters.gutter.Goals as goal

pub returns : goal.returns
returns g c =
    let rows = c.as_slice-rows.result.now in
    let viewer = c.args.viewer in
    subst (λ rs. c.scope_behind.result ≡ gutter_of c.args.tabstop.columns c.args.lines (painting c.args.viewer.buffer c.args.viewer.client rs)) (c.as_slice-rows.ensures.value ∙ c.self.view_is)
    (numbers-all c.args.tabstop.columns c.args.lines c.scope_behind-global.result c.scope_behind-shared.result c.scope_behind.result
    (painting_at Global rows) (painting_at (Buffer viewer.buffer) rows) (painting_at (Window viewer.client viewer.buffer) rows)
    c.scope_behind-global.ensures.value c.scope_behind-shared.ensures.value c.scope_behind.ensures.value)
