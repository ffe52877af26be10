-- What a client's window shows, drawn over the grounds that its highlighters paint.
use Rattle.std.proofs.Common.{◌≡◌, ℕ, ◌+◌, ◌-◌, ◌<◌, min, Bool, List, length, map, ap, ap₂, ◌∙◌, arith}
use Rattle.text_model.specs.Texts.{lines_of, line_count, nth_line}
use Rattle.list_model.specs.Ranges.{Selected}
use Rattle.selection_set.specs.Held.{selected}
use Rattle.window_view.specs.View.{View}
use Rattle.window_view.specs.Views.{window_seen}
use Rattle.kak_faces.specs.Standard.{default_face}
use Rattle.face_grounds.specs.Grounds.{Seen, everywhere, ground_at}
use Rattle.face_texts.specs.declared.palette.Palette.{Palette}
use Rattle.face_texts.specs.declared.rows.NamedFace.{NamedFace}
use Rattle.highlight_paint.specs.Painters.{Paints}
use Rattle.highlight_paint.specs.Painting.{painted_face, ArePainted}
use Rattle.highlight_paint.specs.Numbers.{Numbering, numbering, numbers_of, has_signs}
use Rattle.drawings.specs.declared.drawing.DrawnLine.{DrawnLine}
use Rattle.line_painting.specs.declared.scene.Scene.{Scene}
use Rattle.line_painting.specs.Lines.{text_part, Looks, drawn_lines}
use Rattle.line_painting.specs.Painting.{grounds_from, slice_index_seen, scene_looks, lines_in}
use Rattle.line_painting.proofs.WindowLemmas.{drawn-same, lines-length}
use Rattle.kak_world.specs.Flat.{Flat, text_of, sels_of, view_of, tabstop_of, faces_of}
use Rattle.draw_model.specs.Drawings.{main_cursor, paints_for, gutter_for, palette_for, looks_for}

-- as many grounds as the window shows lines
pub grounds-length : (text : List ℕ) (view : View) (top below : ℕ) (grounds : List Seen) → top ≡ min (line_count text) view.top → below ≡ min (line_count text) (top + view.rows) → length grounds ≡ below - top
    → length grounds ≡ length (lines_in view text)
grounds-length text view top below grounds t b g = omega (arith, t, b, g, lines-length (lines_of text) view.top view.rows)

-- the faces of the places of the lines in the window are those that are painted
base-same : (faces : List NamedFace) (paints : List Paints) (text : List ℕ) (view : View) (top below : ℕ) (grounds : List Seen) → top ≡ min (line_count text) view.top → below ≡ min (line_count text) (top + view.rows)
    → ArePainted faces paints text top below grounds → (k i : ℕ) → k < length (lines_in view text)
    → grounds_from view.top grounds (view.top + k) i ≡ painted_face faces paints (view.top + k) (nth_line text (view.top + k)) i
base-same faces paints text view top below grounds t b p k i h =
    let inside : k < below - top = omega (arith, t, b, h, lines-length (lines_of text) view.top view.rows) in
    let same : top ≡ view.top = omega (arith, t, h, lines-length (lines_of text) view.top view.rows) in
    let at : view.top + k - view.top ≡ k = omega arith in
    ap (λ m. ground_at (slice_index_seen grounds m) i) at
    ∙ p.faces_are k i (everywhere default_face) inside
    ∙ ap (λ n. painted_face faces paints (n + k) (nth_line text (n + k)) i) same

-- lines as they are drawn by all that they are drawn by
abbrev drawn_by : ℕ → Bool → View → Palette → Selected → List NamedFace → List Paints → List Numbering → ℕ → List ℕ → List DrawnLine
drawn_by tabstop signs view palette sels faces paints numbers cursor_line text =
    let looks : Looks = record {
      tabstop = tabstop;
      signs = signs;
      view = view;
      palette = palette;
      sels = sels;
      base = λ n i. painted_face faces paints n (nth_line text n) i;
      numbers = numbers;
      cursor_line = cursor_line;
    } in
    drawn_lines looks text

pub window-drawn : (who : ℕ) (flat : Flat) (scene : Scene) (top below : ℕ) (grounds : List Seen) → scene.lines.now ≡ text_of who flat → scene.frame.tabstop.columns ≡ tabstop_of who flat
    → scene.frame.signs ≡ has_signs (paints_for who flat) → window_seen scene.frame.window ≡ text_part (view_of who flat) (gutter_for who flat) → scene.palette.now ≡ palette_for flat
    → selected scene.lines.now scene.sels.now ≡ sels_of who flat → map numbering scene.numbers.now ≡ numbers_of (paints_for who flat) → scene.cursor_line ≡ (main_cursor (text_of who flat) (sels_of who flat)).line
    → top ≡ min (line_count scene.lines.now) scene.frame.window.top → below ≡ min (line_count scene.lines.now) (top + scene.frame.window.rows)
    → ArePainted (faces_of flat) (paints_for who flat) scene.lines.now top below grounds
    → drawn_lines (scene_looks scene grounds) scene.lines.now ≡ drawn_lines (looks_for who flat) (text_of who flat)
window-drawn who flat scene top below grounds text tab signs view palette sels numbers cursor t b painted =
    drawn-same (scene_looks scene grounds) (λ n i. painted_face (faces_of flat) (paints_for who flat) n (nth_line scene.lines.now n) i) scene.lines.now
    (base-same (faces_of flat) (paints_for who flat) scene.lines.now (window_seen scene.frame.window) top below grounds t b painted)
    ∙ ap₂ (λ x y. drawn_by x y (window_seen scene.frame.window) scene.palette.now (selected scene.lines.now scene.sels.now) (faces_of flat) (paints_for who flat) (map numbering scene.numbers.now) scene.cursor_line scene.lines.now) tab signs
    ∙ ap₂ (λ x y. drawn_by (tabstop_of who flat) (has_signs (paints_for who flat)) x y (selected scene.lines.now scene.sels.now) (faces_of flat) (paints_for who flat) (map numbering scene.numbers.now) scene.cursor_line scene.lines.now) view palette
    ∙ ap₂ (λ x y. drawn_by (tabstop_of who flat) (has_signs (paints_for who flat)) (text_part (view_of who flat) (gutter_for who flat)) (palette_for flat) x (faces_of flat) (paints_for who flat) y scene.cursor_line scene.lines.now) sels numbers
    ∙ ap₂ (λ x y. drawn_by (tabstop_of who flat) (has_signs (paints_for who flat)) (text_part (view_of who flat) (gutter_for who flat)) (palette_for flat) (sels_of who flat) (faces_of flat) (paints_for who flat) (numbers_of (paints_for who flat)) x y) cursor text
