use Rattle.std.proofs.Common.{◌≡◌, true, sym, ◌∙◌, subst}
use Rattle.scope_options.specs.declared.scope.Scope.TheVariants.{Global, Buffer, Window}
use Rattle.highlight_paint.specs.Painters.{painting_at, painting}
use Rattle.highlight_paint.specs.Numbers.{has_signs}
use Rattle.highlight_paint.proofs.NumberLemmas.{signs-first, signs-second, signs-third}
use Rattle.highlight_paint.proofs.highlighters.Highlighters.has_signs.Goals as goal

pub returns-then-scope_has_signs : goal.returns-then-scope_has_signs
returns-then-scope_has_signs g c =
    let rows = c.as_slice-rows.result.now in
    let viewer = c.args.viewer in
    subst (λ rs. true ≡ has_signs (painting c.args.viewer.buffer c.args.viewer.client rs)) (c.as_slice-rows.ensures.value ∙ c.self.view_is)
    (signs-first (painting_at Global rows) (painting_at (Buffer viewer.buffer) rows) (painting_at (Window viewer.client viewer.buffer) rows) (sym c.scope_has_signs.ensures ∙ c.if-scope_has_signs.true))

pub returns-then-scope_has_signs-2 : goal.returns-then-scope_has_signs-2
returns-then-scope_has_signs-2 g c =
    let rows = c.as_slice-rows.result.now in
    let viewer = c.args.viewer in
    subst (λ rs. true ≡ has_signs (painting c.args.viewer.buffer c.args.viewer.client rs)) (c.as_slice-rows.ensures.value ∙ c.self.view_is)
    (signs-second (painting_at Global rows) (painting_at (Buffer viewer.buffer) rows) (painting_at (Window viewer.client viewer.buffer) rows)
    (sym c.scope_has_signs.ensures ∙ c.if-scope_has_signs.false) (sym c.scope_has_signs-2.ensures ∙ c.if-scope_has_signs-2.true))

pub returns : goal.returns
returns g c =
    let rows = c.as_slice-rows.result.now in
    let viewer = c.args.viewer in
    subst (λ rs. c.scope_has_signs-3.result ≡ has_signs (painting c.args.viewer.buffer c.args.viewer.client rs)) (c.as_slice-rows.ensures.value ∙ c.self.view_is)
    (signs-third c.scope_has_signs-3.result (painting_at Global rows) (painting_at (Buffer viewer.buffer) rows) (painting_at (Window viewer.client viewer.buffer) rows)
    (sym c.scope_has_signs.ensures ∙ c.if-scope_has_signs.false) (sym c.scope_has_signs-2.ensures ∙ c.if-scope_has_signs-2.false) c.scope_has_signs-3.ensures)
