-- Where a vertical move of the main selection arrives that leads to a line of the window.
use Rattle.std.proofs.Common.{◌≡◌, ◌≢◌, ℕ, ◌+◌, ◌-◌, ◌<◌, ◌≤◌, min, ℤ, Bool, true, false, List, Some, FitsSigned, w64, to_z, of_z, to_z-of_z, sym, ap, ap₂, ◌∙◌, arith, inl, inr, true≢false, lt-ltb, le-ltb}
use Rattle.std.specs.Prelude.{◌&&◌, if◌then◌else◌, option_map}
use Rattle.std.proofs.lemmas.Bool.{cases_lt}
use Rattle.text_model.specs.declared.coords.Coord.{Coord}
use Rattle.text_model.specs.Texts.{coord_at, line_count}
use Rattle.text_model.proofs.PlaceLemmas.{leb_true}
use Rattle.list_model.specs.Ranges.{Range, cursor}
use Rattle.selection_set.specs.declared.sel.Sel.{Sel}
use Rattle.selection_set.specs.Inside.{range_of, cursor_at}
use Rattle.selection_set.specs.Listing.{Listed}
use Rattle.selection_set.specs.Held.{selected, main_of}
use Rattle.selection_set.proofs.CursorLemmas.{coord_at-cursor, cursor-place}
use Rattle.selection_set.proofs.HeldLemmas.{IsMain}
use Rattle.window_view.specs.View.{View}
use Rattle.motion_keys.specs.Motions.{line_by, aim, landed, vertical}
use Rattle.pointer_rows.specs.Windows.{shows_line, nearest_shown}
use Rattle.pointer_rows.specs.Lists.{main_line}

-- the line of the main cursor, where that was found
pub line-found : (text : List ℕ) (s : Listed) (sel : Sel) (at : Coord) → IsMain text s sel → at ≡ cursor_at sel → main_line text (selected text s) ≡ at.line
line-found text s sel at is e =
    ap (λ (r : Range). (coord_at text (cursor r)).line) (sym is.same)
    ∙ ap (λ (c : Coord). c.line) (coord_at-cursor text sel is.inside ∙ sym e)

-- it is a line of the text
pub line-there : (text : List ℕ) (s : Listed) (sel : Sel) (at : Coord) → IsMain text s sel → at ≡ cursor_at sel → at.line < line_count text
line-there text s sel at is e = let p = cursor-place text sel is.inside in omega (arith, p.on_line, ap (λ (c : Coord). c.line) e)

-- a line that a window doesn't show isn't one that it shows
pub line-apart : (count : ℕ) (view : View) (line to : ℕ) → 1 ≤ view.rows → shows_line view line ≡ false → to ≡ nearest_shown count view line → line ≢ to
line-apart count view line to some hidden e same = elim (cases_lt line view.top) [
  | inl above ↦ (let first : to ≡ view.top = e ∙ ap (λ (t : Bool). if t then view.top else min (view.top + view.rows - 1) (count - 1)) (lt-ltb line view.top above) in
      absurd (omega (arith, above, same, first)))
  | inr below ↦ (let last : to ≡ min (view.top + view.rows - 1) (count - 1) = e ∙ ap (λ (t : Bool). if t then view.top else min (view.top + view.rows - 1) (count - 1)) (le-ltb line view.top below) in
      let inside : line < view.top + view.rows = omega (arith, same, last, some) in
      let shown : shows_line view line ≡ true = ap₂ (λ a b. a && b) (leb_true view.top line below) (lt-ltb line (view.top + view.rows) inside) in
      absurd (true≢false (sym shown ∙ hidden)))
]

-- where a vertical move arrives that leads to a line
pub arrives : (text : List ℕ) (s : Listed) (sel : Sel) (at : Coord) (by : ℤ) (tabstop to : ℕ) → IsMain text s sel → at ≡ cursor_at sel → FitsSigned w64 by → line_by (line_count text) at.line by ≡ Some to
    → vertical text (range_of text sel) (to_z w64 (of_z w64 by)) tabstop ≡ Some (landed text (aim text (main_of (selected text s)) tabstop) tabstop to)
arrives text s sel at by tabstop to is e fits leads =
    ap (λ (z : ℤ). vertical text (range_of text sel) z tabstop) (to_z-of_z fits)
    ∙ ap (option_map (landed text (aim text (range_of text sel) tabstop) tabstop))
    (ap (λ (c : Coord). line_by (line_count text) c.line by) (coord_at-cursor text sel is.inside ∙ sym e) ∙ leads)
    ∙ ap (λ (r : Range). Some (landed text (aim text r tabstop) tabstop to)) is.same
