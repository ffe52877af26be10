use Rattle.std.proofs.Common.{ap, ◌∙◌, refl}
use Rattle.std.proofs.lemmas.Result.{on_ok_weaker}
use Rattle.text_model.specs.Texts.{nth_line}
use Rattle.selection_set.specs.Held.{selected}
use Rattle.face_grounds.specs.Grounds.{ground_at, over_all}
use Rattle.line_painting.specs.Painting.{line_start, slice_index_seen}
use Rattle.line_painting.proofs.OverLemmas.{line-laid, line-bare, below-first}
use Rattle.line_painting.proofs.window_lines.lay_line.Goals as goal

pub returns-then-not-reaches : goal.returns-then-not-reaches
returns-then-not-reaches c = record {
  laid = λ i x. line-bare c.args.scene.palette.now c.args.scene.lines.now c.args.scene.sels.now c.args.n c.args.first i (ground_at (slice_index_seen c.args.overlay.now.grounds.items c.args.k)) c.requires.held c.requires.before
      (below-first c.args.scene.lines.now c.args.scene.sels.now c.as_slice.result.now c.args.n c.args.first c.requires.held c.requires.there c.as_slice.ensures.value (c.reaches.ensures c.if-not-reaches.true)) x;
  others = record { same = refl; others = λ j d h. refl };
}

pub returns : goal.returns
returns c = record {
  laid = on_ok_weaker c.lay_at.result
      (λ e i x. e.here i ∙ ap (λ os. over_all os i (ground_at (slice_index_seen c.args.overlay.now.grounds.items c.args.k) i)) c.as_slice-2.ensures.value
      ∙ line-laid c.args.scene.palette.now (selected c.args.scene.lines.now c.args.scene.sels.now) (line_start c.args.scene.lines.now c.args.n) (nth_line c.args.scene.lines.now c.args.n)
      (ground_at (slice_index_seen c.args.overlay.now.grounds.items c.args.k)) c.clear.new.self.items c.push_selections.new.overs.items c.push_cursors.new.overs.items i c.clear.ensures.items
      c.in_ok-push_selections.ensures c.in_ok-push_cursors.ensures x)
      c.lay_at.ensures;
  others = on_ok_weaker c.lay_at.result (λ e. e.kept) c.lay_at.ensures;
}
