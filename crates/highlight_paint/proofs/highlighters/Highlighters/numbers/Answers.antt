use Rattle.std.proofs.Common.{◌≡◌, map, ap, ◌∙◌, subst}
use Rattle.scope_options.specs.declared.scope.Scope.TheVariants.{Global, Buffer, Window}
use Rattle.highlight_paint.specs.Painters.{painting_at, painting}
use Rattle.highlight_paint.specs.Numbers.{numbering, numbers_of}
use Rattle.highlight_paint.proofs.NumberLemmas.{numbering-all}
use Rattle.highlight_paint.proofs.highlighters.Highlighters.numbers.Goals as goal

pub returns : goal.returns
returns g c =
    let rows = c.as_slice-rows.result.now in
    let viewer = c.args.viewer in
    subst (λ rs. map numbering c.push_scope-3.new.numbers.items ≡ numbers_of (painting c.args.viewer.buffer c.args.viewer.client rs)) (c.as_slice-rows.ensures.value ∙ c.self.view_is)
    (numbering-all (map numbering c.new-numbers.result.items) (map numbering c.push_scope.new.numbers.items) (map numbering c.push_scope-2.new.numbers.items) (map numbering c.push_scope-3.new.numbers.items)
    (painting_at Global rows) (painting_at (Buffer viewer.buffer) rows) (painting_at (Window viewer.client viewer.buffer) rows)
    (ap (map numbering) c.new-numbers.ensures.items) c.in_ok-push_scope.ensures c.in_ok-push_scope-2.ensures c.in_ok-push_scope-3.ensures)
