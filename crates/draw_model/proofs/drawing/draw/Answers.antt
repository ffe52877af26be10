use Rattle.std.proofs.Common.{◌≡◌, ℕ, List, refl, ap, ap₂, ◌∙◌}
use Rattle.std.specs.Prelude.{not, length, option_map}
use Rattle.list_model.specs.Ranges.{Selected}
use Rattle.text_model.specs.declared.coords.Coord.{Coord}
use Rattle.window_view.specs.Views.{window_seen}
use Rattle.face_texts.specs.declared.palette.Palette.{Palette}
use Rattle.face_texts.specs.Palettes.{palette_of}
use Rattle.drawings.specs.declared.drawing.DrawnLine.{DrawnLine}
use Rattle.drawings.specs.declared.drawing.Drawing.{Drawing}
use Rattle.kak_world.specs.Flat.{Flat, text_of, number_of, name_of, mode_of, sels_of, view_of, tabstop_of, status_of, purpose_of, prompt_of, is_drawn}
use Rattle.kak_world.specs.declared.own.Mode.{Mode}
use Rattle.kak_world.specs.declared.own.Own.{Own}
use Rattle.line_painting.specs.Atoms.{ShownChar, atoms_of}
use Rattle.line_painting.proofs.OverLemmas.{ranges-length}
use Rattle.draw_model.specs.Boxes.{line_in, boxed, info_since, sent_to, box_for}
use Rattle.draw_model.specs.Drawings.{status_line, mode_text, main_cursor, main_column, cursor_drawn, gutter_for, palette_for, drawing_of}
use Rattle.draw_model.proofs.drawing.draw.Goals as goal

-- a line of characters in their faces
abbrev line_of : List ShownChar → DrawnLine
line_of shown = record { atoms = atoms_of shown }

-- drawings are equal when their parts are
same_drawing : (a b : Drawing) → a.first ≡ b.first → a.lines ≡ b.lines → a.default_face ≡ b.default_face → a.padding_face ≡ b.padding_face
    → a.status ≡ b.status → a.mode_line ≡ b.mode_line → a.status_face ≡ b.status_face → a.cursor ≡ b.cursor → a.info ≡ b.info → a ≡ b
same_drawing a b first lines default_face padding_face status mode_line status_face cursor info = rw (first, lines, default_face, padding_face, status, mode_line, status_face, cursor, info) refl

pub returns : goal.returns
unfolding drawing_of
returns g c =
    let who : ℕ = c.args.who in
    let flat : Flat = c.args.world.now.flat in
    let text : List ℕ = text_of who flat in
    let sels : Selected = sels_of who flat in
    let tabstop : ℕ = tabstop_of c.args.who flat in
    let mode : Mode = mode_of who flat in
    let palette : c.palette-palette.result.now ≡ palette_for flat = c.palette-palette.ensures ∙ ap palette_of c.faces.ensures in
    let drawn : c.own-own.result.now.drawn ≡ is_drawn who flat = ap (λ (o : Own). o.drawn) c.own-own.ensures in
    let is_mode : c.own-own.result.now.mode ≡ mode = ap (λ (o : Own). o.mode) c.own-own.ensures in
    let status : c.in_ok-draw_status.field-0 ≡ record { atoms = atoms_of (status_line (palette_for flat) mode (status_of who flat) (purpose_of who flat) (prompt_of who flat)) } =
    c.in_ok-draw_status.ensures
    ∙ ap₂ (λ p m. line_of (status_line p m c.own-own.result.now.status c.own-own.result.now.purpose c.own-own.result.now.prompt)) palette is_mode
    ∙ ap (λ (o : Own). line_of (status_line (palette_for flat) mode o.status o.purpose o.prompt)) c.own-own.ensures in
    let said : c.in_ok-said.said ≡ mode_text (name_of who flat) (main_cursor text sels) mode sels (number_of who flat) =
    c.in_ok-said.ensures sels (ap (λ (s : Selected). s.main) c.sels-sels.ensures.sels)
    (ap (λ (s : Selected). length s.list) c.sels-sels.ensures.sels ∙ ranges-length text c.sels-sels.result.now.list)
    ∙ ap₂ (λ a m. mode_text c.buffer_name-name.result.now a m sels c.number.result) c.requires.at is_mode
    ∙ ap₂ (λ b n. mode_text b (main_cursor text sels) mode sels n) c.buffer_name-name.ensures c.number.ensures in
    let mode_line : c.in_ok-run_line.field-0 ≡ line_in (palette_for flat).status_line (mode_text (name_of who flat) (main_cursor text sels) mode sels (number_of who flat)) =
    c.in_ok-run_line.ensures ∙ ap₂ (λ (p : Palette) t. line_in p.status_line t) palette (c.as_slice.ensures ∙ said) in
    let cursor : c.in_ok-cursor_of.field-0 ≡ cursor_drawn tabstop mode (main_cursor text sels).line (main_column tabstop text sels) (view_of who flat) (gutter_for who flat) (purpose_of who flat) (prompt_of who flat) =
    c.in_ok-cursor_of.ensures.value
    ∙ ap₂ (λ m (a : Coord). cursor_drawn c.args.tabstop.columns m a.line c.args.main.column (window_seen c.window-window.result) c.args.main.gutter c.own-own.result.now.purpose c.own-own.result.now.prompt) is_mode c.requires.at
    ∙ ap₂ (λ k v. cursor_drawn c.args.tabstop.columns mode (main_cursor text sels).line k v c.args.main.gutter c.own-own.result.now.purpose c.own-own.result.now.prompt) c.requires.column c.window-window.ensures
    ∙ ap₂ (λ n (o : Own). cursor_drawn n mode (main_cursor text sels).line (main_column n text sels) (view_of who flat) c.args.main.gutter o.purpose o.prompt) c.requires.tabstop c.own-own.ensures
    ∙ ap (λ k. cursor_drawn tabstop mode (main_cursor text sels).line (main_column tabstop text sels) (view_of who flat) k (purpose_of who flat) (prompt_of who flat)) c.requires.gutter in
    let info : c.in_ok-draw_info.field-0 ≡ info_since (sent_to who flat) (box_for who flat) =
    c.in_ok-draw_info.ensures
    ∙ ap₂ (λ (o : Own) (p : Palette). info_since o.sent (option_map (boxed p.information) o.info)) c.own-own.ensures palette in
    let a : Drawing = record {
      first = not c.own-own.result.now.drawn;
      lines = c.in_ok-draw_window.field-0;
      default_face = c.palette-palette.result.now.default;
      padding_face = c.palette-palette.result.now.buffer_padding;
      status = c.in_ok-draw_status.field-0;
      mode_line = c.in_ok-run_line.field-0;
      status_face = c.palette-palette.result.now.status_line;
      cursor = c.in_ok-cursor_of.field-0;
      info = c.in_ok-draw_info.field-0;
    } in
    same_drawing a (drawing_of who flat) (ap not drawn) c.in_ok-draw_window.ensures (ap (λ (p : Palette). p.default) palette) (ap (λ (p : Palette). p.buffer_padding) palette)
    status mode_line (ap (λ (p : Palette). p.status_line) palette) cursor info
