use Rattle.std.proofs.Common.{◌-◌, replicate, ap, ◌∙◌, subst}
use Rattle.scope_options.specs.declared.scope.Scope.TheVariants.{Global, Buffer, Window}
use Rattle.face_grounds.specs.Grounds.{everywhere}
use Rattle.face_texts.specs.declared.palette.Palette.{Palette}
use Rattle.highlight_paint.specs.Painters.{painting_at, painting}
use Rattle.highlight_paint.specs.Painting.{ArePainted}
use Rattle.highlight_paint.proofs.PaintLemmas.{painted-all}
use Rattle.highlight_paint.proofs.highlighters.Highlighters.paint.Goals as goal

pub returns : goal.returns
returns g c =
    let rows = c.as_slice-rows.result.now in
    let viewer = c.args.viewer in
    subst (λ rs. ArePainted c.args.faces.now (painting c.args.viewer.buffer c.args.viewer.client rs) c.args.part.lines.now c.args.part.top c.args.part.below c.lay_scope-3.new.grounds.items) (c.as_slice-rows.ensures.value ∙ c.self.view_is)
    (painted-all c.args.faces.now (painting_at Global rows) (painting_at (Buffer viewer.buffer) rows) (painting_at (Window viewer.client viewer.buffer) rows)
    c.args.part.lines.now c.args.part.top c.args.part.below c.in_ok-grounds.grounds.items c.lay_scope.new.grounds.items c.lay_scope-2.new.grounds.items c.lay_scope-3.new.grounds.items
    (c.in_ok-grounds.ensures ∙ ap (λ (p : Palette). replicate (c.args.part.below - c.args.part.top) (everywhere p.default)) c.palette.ensures)
    c.in_ok-lay_scope.ensures c.in_ok-lay_scope-2.ensures c.in_ok-lay_scope-3.ensures)
