-- Places of a window in a text, as they are found and as they are known.
use Rattle.std.proofs.Common.{◌≡◌, ℕ, ◌-◌, ◌≤◌, List, length, None, sym, ap, ap₂, ◌∙◌, arith}
use Rattle.std.specs.Prelude.{unwrap_or}
use Rattle.text_model.specs.declared.coords.Coord.{Coord}
use Rattle.text_model.specs.Texts.{offset, nth_line}
use Rattle.kak_text.specs.Cells.{display_column}
use Rattle.window_view.specs.View.{View}
use Rattle.window_view.proofs.HoldingLemmas.{none_behind}
use Rattle.motion_keys.proofs.HolderLemmas.{held-is}
use Rattle.pointer_rows.specs.Places.{line_shown, cell_shown, column_holding, offset_shown}

-- behind a line no character holds a cell, and its newline is meant
pub newline-behind : (line : List ℕ) (cell tabstop at : ℕ) → at ≡ display_column line (length line) tabstop → at ≤ cell → column_holding line cell tabstop ≡ length line - 1
newline-behind line cell tabstop at e h =
    ap (λ found. unwrap_or found (length line - 1)) (sym (held-is line cell tabstop None (none_behind line tabstop cell at (length line) e h (omega arith))))

-- the offset of a place whose line and column were found
pub offset-found : (text : List ℕ) (view : View) (gutter tabstop : ℕ) (at : Coord) (line column cell : ℕ) → line ≡ line_shown text view at.line → cell ≡ cell_shown view gutter at.column → column ≡ column_holding (nth_line text line) cell tabstop
    → offset text (record { line = line; column = column }) ≡ offset_shown text view gutter tabstop at
offset-found text view gutter tabstop at line column cell e f g =
    let P : ℕ → ℕ → ℕ = λ l c. offset text (record { line = l; column = c }) in
    ap₂ P e (g ∙ ap₂ (λ l c. column_holding (nth_line text l) c tabstop) e f)
