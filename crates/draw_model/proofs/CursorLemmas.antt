-- The main cursor, the list that it is of, and the tab stops where a window moves.
use Rattle.std.proofs.Common.{◌≡◌, ℕ, ◌<◌, List, length, get_or, refl, sym, ap, ap₂, subst, ◌∙◌}
use Rattle.text_model.specs.declared.coords.Coord.{Coord}
use Rattle.text_model.specs.Texts.{IsPlace, coord_at}
use Rattle.list_model.specs.Ranges.{Range, Selected, cursor, only}
use Rattle.selection_set.specs.declared.sel.Sel.{Sel}
use Rattle.selection_set.specs.Inside.{cursor_at}
use Rattle.selection_set.specs.Listing.{Listed}
use Rattle.selection_set.proofs.CursorLemmas.{coord_at-cursor, cursor-place}
use Rattle.selection_set.specs.Held.{selected, IsHeld}
use Rattle.window_view.specs.declared.corner.Corner.{Corner}
use Rattle.text_model.specs.Texts.{line_count}
use Rattle.kak_world.specs.Flat.{Flat, text_of, tabstop_of, shown_of, client_of, with_corner, with_list_of, rest_of, scoped_of}
use Rattle.kak_world.proofs.WorldLaws.{text_corner}
use Rattle.highlight_paint.specs.Numbers.{gutter_of}
use Rattle.draw_model.specs.Drawings.{main_cursor, paints_for, gutter_for}
use Rattle.selection_set.proofs.HeldLemmas.{nth-inside, nth-range}

-- the cursor of the main selection is the main cursor
pub main-cursor : (text : List ℕ) (s : Listed) (sels : Selected) (at : Sel) (place : Coord) → sels ≡ selected text s → IsHeld text s → s.main < length s.list → ((d : Sel) → at ≡ get_or s.list s.main d) → place ≡ cursor_at at
    → place ≡ main_cursor text sels
main-cursor text s sels at place e h l g p =
    p
    ∙ sym (coord_at-cursor text at (nth-inside text s.list s.main at h.inside l g))
    ∙ ap (λ (r : Range). coord_at text (cursor r)) (nth-range text s.list s.main at (only 0) l g)
    ∙ ap (main_cursor text) (sym e)

-- and a place
pub main-place : (text : List ℕ) (s : Listed) (at : Sel) (place : Coord) → IsHeld text s → s.main < length s.list → ((d : Sel) → at ≡ get_or s.list s.main d) → place ≡ cursor_at at → IsPlace text place
main-place text s at place h l g p = subst (IsPlace text) (sym p) (cursor-place text at (nth-inside text s.list s.main at h.inside l g))

-- a window that moves leaves the tab stops
pub tabstop_corner : (k who : ℕ) (corner : Corner) (flat : Flat) → tabstop_of k (with_corner who corner flat) ≡ tabstop_of k flat
unfolding tabstop_of shown_of client_of rest_of with_corner with_list_of
tabstop_corner k who corner flat = refl

-- and what highlighters do
paints_corner : (k who : ℕ) (corner : Corner) (flat : Flat) → paints_for k (with_corner who corner flat) ≡ paints_for k flat
unfolding shown_of client_of scoped_of with_corner with_list_of
paints_corner k who corner flat = refl

pub gutter_corner : (k who : ℕ) (corner : Corner) (flat : Flat) → gutter_for k (with_corner who corner flat) ≡ gutter_for k flat
gutter_corner k who corner flat =
    ap₂ (λ t text. gutter_of t (line_count text) (paints_for k (with_corner who corner flat))) (tabstop_corner k who corner flat) (text_corner k who corner flat)
    ∙ ap (gutter_of (tabstop_of k flat) (line_count (text_of k flat))) (paints_corner k who corner flat)
