-- The lines that a range touches are those of which it holds a character.
use Rattle.std.proofs.Common.{◌≡◌, ℕ, ◌<◌, ◌≤◌, Bool, true, false, ◌&&◌, List, length, refl, sym, ap, ap₂, arith, inl, le-leb, leb-true, leb-false, leb}
use Rattle.text_model.specs.declared.coords.Coord.{Coord}
use Rattle.text_model.specs.Texts.{IsText, IsPlace, coord_at, lines_of}
use Rattle.text_model.proofs.PlaceLemmas.{coord_at-offset, offset-coord_at, IsPlace-coord_at, nth_line_is_line, offset-earlier_line}
use Rattle.line_buffer.proofs.FlatLemmas.{ordered_lines, start-le-offset}
use Rattle.list_model.specs.Ranges.{Range}
use Rattle.edit_ops.specs.declared.spans.LineReach.TheVariants.{Touched}
use Rattle.edit_ops.specs.Spans.{line_of, line_start, line_span_of, is_in, HoldsSomeOf}

lines-rise : (text : List ℕ) (a b : ℕ) → a ≤ b → b < length text → line_of text a ≤ line_of text b
lines-rise text a b h k =
    ordered_lines text (coord_at text a) (coord_at text b) (inl (IsPlace-coord_at text a (omega arith))) (inl (IsPlace-coord_at text b k)) (omega (arith, offset-coord_at text a (omega arith), offset-coord_at text b (omega arith)))

pub held-touched : (text : List ℕ) (r : Range) (n : ℕ) → r.high < length text → HoldsSomeOf text r n → is_in n (line_span_of text Touched r) ≡ true
held-touched text r n l (o, from, to, at) =
    ap₂ (λ (b c : Bool). b && c) (le-leb (line_of text r.low) n (omega (arith, at, lines-rise text r.low o from (omega arith)))) (le-leb n (line_of text r.high) (omega (arith, at, lines-rise text o r.high to l)))

-- the first character of a line
line-held : (text : List ℕ) (r : Range) (n : ℕ) → IsText text → r.low ≤ r.high → r.high < length text → line_of text r.low < n → n ≤ line_of text r.high → HoldsSomeOf text r n
line-held text r n t o l f b =
    let low : Coord = coord_at text r.low in
    let high : Coord = coord_at text r.high in
    let begin : Coord = record { line = n; column = 0 } in
    let high_place : IsPlace text high = IsPlace-coord_at text r.high l in
    let on_line : n < length (lines_of text) = omega (arith, b, high_place.on_line) in
    let place : IsPlace text begin = record { on_line = on_line; in_line = (nth_line_is_line text n t on_line).some } in (
      line_start text n,
      omega (arith, offset-earlier_line text low begin (IsPlace-coord_at text r.low (omega arith)) f, offset-coord_at text r.low (omega arith)),
      omega (arith, start-le-offset text n high b, offset-coord_at text r.high (omega arith)),
      ap (λ (at : Coord). at.line) (coord_at-offset text begin place),
    )

first-or-later : (text : List ℕ) (r : Range) (n : ℕ) (b : Bool) → b ≡ leb n (line_of text r.low) → IsText text → r.low ≤ r.high → r.high < length text → line_of text r.low ≤ n → n ≤ line_of text r.high → HoldsSomeOf text r n
first-or-later text r n true e t o l f b = (r.low, omega arith, o, omega (arith, f, leb-true n (line_of text r.low) (sym e)))
first-or-later text r n false e t o l f b = line-held text r n t o l (leb-false n (line_of text r.low) (sym e)) b

both-hold : (a b : Bool) → (a && b) ≡ true → (a ≡ true) × (b ≡ true)
both-hold true b h = (refl, h)
both-hold false b h = absurd (let e : false ≡ true = h in cc)

pub touched-held : (text : List ℕ) (r : Range) (n : ℕ) → IsText text → r.low ≤ r.high → r.high < length text → is_in n (line_span_of text Touched r) ≡ true → HoldsSomeOf text r n
touched-held text r n t o l h =
    let b = both-hold (leb (line_of text r.low) n) (leb n (line_of text r.high)) h in
    first-or-later text r n (leb n (line_of text r.low)) refl t o l (leb-true (line_of text r.low) n b.0) (leb-true n (line_of text r.high) b.1)
