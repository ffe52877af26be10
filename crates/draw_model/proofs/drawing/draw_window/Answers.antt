use Rattle.std.proofs.Common.{◌≡◌, ℕ, List, map, sym, ap, ap₂, subst, ◌∙◌}
use Rattle.std.proofs.lemmas.Result.{IfOk-weaker}
use Rattle.selection_set.specs.Held.{selected}
use Rattle.face_texts.specs.declared.rows.NamedFace.{NamedFace}
use Rattle.face_texts.specs.Palettes.{palette_of}
use Rattle.highlight_paint.specs.Painters.{Paints, painting}
use Rattle.highlight_paint.specs.Painting.{ArePainted}
use Rattle.highlight_paint.specs.Numbers.{numbering, numbers_of, has_signs}
use Rattle.line_painting.specs.declared.scene.Scene.{Scene}
use Rattle.line_painting.specs.Lines.{text_part}
use Rattle.kak_world.specs.Flat.{Flat, shown_of, faces_of}
use Rattle.text_model.specs.declared.coords.Coord.{Coord}
use Rattle.draw_model.specs.Drawings.{paints_for}
use Rattle.draw_model.proofs.LooksLemmas.{window-drawn}
use Rattle.draw_model.proofs.drawing.draw_window.Goals as goal

pub returns : goal.returns
returns g c =
    let who : ℕ = c.args.who in
    let flat : Flat = c.args.world.now.flat in
    let scene : Scene = record {
      lines = c.lines-lines.result;
      sels = c.sels.result;
      frame = record { window = c.text_part-window.result; tabstop = c.args.tabstop; signs = c.has_signs.result };
      palette = c.palette.result;
      numbers = c.as_slice.result;
      cursor_line = c.args.main.at.line;
    } in
    let paints : painting c.viewer_of-viewer.result.buffer c.viewer_of-viewer.result.client c.highlighters-highlighters.result.now ≡ paints_for c.args.who c.args.world.now.flat =
    ap₂ (λ b w. painting b w c.highlighters-highlighters.result.now) c.viewer_of-viewer.ensures.buffer c.viewer_of-viewer.ensures.client
    ∙ ap (painting (shown_of c.args.who c.args.world.now.flat) c.args.who) c.highlighters-highlighters.ensures in
    let painted : ArePainted (faces_of c.args.world.now.flat) (paints_for c.args.who c.args.world.now.flat) c.lines-lines.result.now c.part_in-part.result.top c.part_in-part.result.below c.in_ok-grounds.grounds.items =
    subst (λ (fs : List NamedFace). ArePainted fs (paints_for c.args.who c.args.world.now.flat) c.lines-lines.result.now c.part_in-part.result.top c.part_in-part.result.below c.in_ok-grounds.grounds.items) c.faces.ensures
    (subst (λ (ps : List Paints). ArePainted c.faces.result.now ps c.lines-lines.result.now c.part_in-part.result.top c.part_in-part.result.below c.in_ok-grounds.grounds.items) paints
    (subst (λ (t : List ℕ). ArePainted c.faces.result.now (painting c.viewer_of-viewer.result.buffer c.viewer_of-viewer.result.client c.highlighters-highlighters.result.now) t c.part_in-part.result.top c.part_in-part.result.below c.in_ok-grounds.grounds.items)
    c.part_in-part.ensures.lines c.in_ok-grounds.ensures)) in
    IfOk-weaker c.draw_lines.result _ _
    (λ drawn e. e ∙ window-drawn c.args.who c.args.world.now.flat scene c.part_in-part.result.top c.part_in-part.result.below c.in_ok-grounds.grounds.items
    c.lines-lines.ensures c.requires.tabstop (c.has_signs.ensures ∙ ap has_signs paints)
    (c.text_part-window.ensures ∙ ap₂ (λ v k. text_part v k) c.window.ensures c.requires.gutter)
    (c.palette.ensures ∙ ap palette_of c.faces-2.ensures)
    (ap (λ t. selected t c.sels.result.now) c.lines-lines.ensures ∙ sym c.sels.ensures.sels)
    (ap (map numbering) c.as_slice.ensures.value ∙ c.in_ok-numbers.ensures ∙ ap numbers_of paints)
    (ap (λ (a : Coord). a.line) c.requires.at) c.part_in-part.ensures.top c.part_in-part.ensures.below painted)
    c.draw_lines.ensures
