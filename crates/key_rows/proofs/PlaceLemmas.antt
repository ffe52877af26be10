-- Places that selections go to by themselves.
use Rattle.std.proofs.Common.{◌≡◌, ℕ, ◌+◌, ◌-◌, List, length, sym, ap, ◌∙◌, arith}
use Rattle.text_model.specs.declared.coords.Coord.{Coord}
use Rattle.text_model.specs.Texts.{IsPlace, offset, nth_line}
use Rattle.text_model.proofs.PlaceLemmas.{coord_at-offset, offset-next_line}
use Rattle.motion_keys.specs.Landmarks.{line_begin}
use Rattle.key_rows.specs.Each.{newline_of}

-- the newline of the line of a place
pub newline-at : (text : List ℕ) (at end : Coord) → IsPlace text at → end.line ≡ at.line → IsPlace text end → end.column + 1 ≡ length (nth_line text at.line) → offset text end ≡ newline_of text (offset text at)
newline-at text at end h l p e =
    let here : end ≡ record { line = at.line; column = end.column } = ap (λ n. let x : Coord = record { line = n; column = end.column } in x) l in
    let next : line_begin text (at.line + 1) ≡ offset text (record { line = at.line; column = end.column }) + 1 = offset-next_line text at.line end.column h.on_line e in
    let back : offset text (record { line = at.line; column = end.column }) ≡ line_begin text (at.line + 1) - 1 = omega (arith, next) in
    ap (offset text) here ∙ back ∙ ap (λ (c : Coord). line_begin text (c.line + 1) - 1) (sym (coord_at-offset text at h))
