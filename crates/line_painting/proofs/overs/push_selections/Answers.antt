use Rattle.std.proofs.Common.{◌∙◌, ◌<◌, ap, eqb, get_or, length, arith}
use Rattle.selection_set.proofs.HeldLemmas.{zero_sel}
use Rattle.face_texts.specs.Palettes.{palette_face}
use Rattle.line_painting.specs.Lines.{selection_name}
use Rattle.line_painting.proofs.OverLemmas.{selections-none, selections-one, selections-all, below-line, below-all, read-sel}
use Rattle.line_painting.proofs.overs.push_selections.Goals as goal

pub loop-k-init : goal.loop-k-init
loop-k-init c = selections-none c.args.scene.palette.now c.args.scene.lines.now c.args.scene.sels.now c.args.n c.args.first c.args.overs.now.items c.requires.held c.requires.before

pub returns-then-sel-n : goal.returns-then-sel-n
returns-then-sel-n c =
    let there : c.loop-k.k < length c.args.scene.sels.now.list = omega (arith, c.loop-k-test.true, ap length c.as_slice-list.ensures.value) in
    selections-all c.args.scene.palette.now c.args.scene.lines.now c.args.scene.sels.now c.args.n c.loop-k.k c.args.overs.now.items c.loop-k.overs.items
    (below-line c.args.scene.lines.now c.args.scene.sels.now c.args.n c.loop-k.k (get_or c.as_slice-list.result.now c.loop-k.k zero_sel) c.requires.held c.requires.there there
    (read-sel c.as_slice-list.result.now c.args.scene.sels.now.list c.loop-k.k zero_sel c.as_slice-list.ensures.value there) c.if-sel-n.true) c.loop-k.invariant

pub loop-k-preserved : goal.loop-k-preserved
loop-k-preserved c =
    let there : c.loop-k.k < length c.args.scene.sels.now.list = omega (arith, c.loop-k-test.true, ap length c.as_slice-list.ensures.value) in
    selections-one c.args.scene.palette.now c.args.scene.lines.now c.args.scene.sels.now c.args.n c.loop-k.k c.len.result (get_or c.as_slice-list.result.now c.loop-k.k zero_sel) c.selection_face-face.result
    c.args.overs.now.items c.loop-k.overs.items c.push_selection.new.overs.items c.requires.held c.requires.there (c.len.ensures ∙ ap length c.line-line.ensures.value) there
    (read-sel c.as_slice-list.result.now c.args.scene.sels.now.list c.loop-k.k zero_sel c.as_slice-list.ensures.value there)
    (c.selection_face-face.ensures ∙ ap (λ m. palette_face c.args.scene.palette.now (selection_name (eqb c.loop-k.k m))) c.main.ensures.value)
    c.in_ok-push_selection.ensures c.loop-k.invariant

pub returns : goal.returns
returns c =
    selections-all c.args.scene.palette.now c.args.scene.lines.now c.args.scene.sels.now c.args.n c.loop-k.k c.args.overs.now.items c.loop-k.overs.items
    (below-all c.args.scene.lines.now c.args.scene.sels.now c.args.n c.loop-k.k (omega (arith, c.loop-k-test.false, ap length c.as_slice-list.ensures.value))) c.loop-k.invariant
