-- The lines of a selection.
use Rattle.std.proofs.Common.{◌≡◌, ℕ, ◌+◌, ◌-◌, List, length, None, sym, ap, ap₂, ◌∙◌, arith}
use Rattle.text_model.specs.declared.coords.Coord.{Coord}
use Rattle.text_model.specs.Texts.{offset, nth_line}
use Rattle.text_model.proofs.PlaceLemmas.{coord_at-offset, offset-next_line}
use Rattle.list_model.specs.Ranges.{Range}
use Rattle.selection_set.specs.declared.sel.Sel.{Sel}
use Rattle.selection_set.specs.Inside.{range_of, IsInside}
use Rattle.key_rows.specs.declared.shapes.Shape.TheVariants.{Lines}
use Rattle.motion_keys.specs.Landmarks.{line_begin}
use Rattle.key_rows.specs.Each.{reshaped}

-- from the first character of its first line to the newline of its last one
pub whole_lines-range : (text : List ℕ) (sel : Sel) (line : List ℕ) → IsInside text sel → line ≡ nth_line text sel.high.line
    → range_of text (record { low = record { line = sel.low.line; column = 0 }; high = record { line = sel.high.line; column = length line - 1 }; turned = sel.turned; target = None })
    ≡ reshaped Lines text (range_of text sel)
whole_lines-range text sel line h e =
    let some : length line - 1 + 1 ≡ length (nth_line text sel.high.line) = omega (arith, ap length e, h.high.in_line) in
    let next : line_begin text (sel.high.line + 1) ≡ offset text (record { line = sel.high.line; column = length line - 1 }) + 1 = offset-next_line text sel.high.line (length line - 1) h.high.on_line some in
    let last : offset text (record { line = sel.high.line; column = length line - 1 }) ≡ line_begin text (sel.high.line + 1) - 1 = omega (arith, next) in
    ap₂ (λ l g. let r : Range = record { low = l; high = g; turned = sel.turned; target = None } in r)
    (ap (λ (c : Coord). line_begin text c.line) (sym (coord_at-offset text sel.low h.low)))
    (last ∙ ap (λ (c : Coord). line_begin text (c.line + 1) - 1) (sym (coord_at-offset text sel.high h.high)))
