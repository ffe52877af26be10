-- Lemmas on going over the lines of a text.
use Rattle.std.proofs.Common.{◌≡◌, ℕ, ◌+◌, ◌-◌, ◌<◌, ◌≤◌, List, [], ◌∷◌, ◌++◌, length, take, drop, get_or, slice_range, encode_utf8_all, refl, sym, ap, ap₂, ◌∙◌, arith, append-nil, append_assoc, length-drop, take_all, take_at, take-add, inl, inr}
use Rattle.std.proofs.lemmas.List.{take_more, drop-drop, take-append-le}
use Rattle.std.proofs.lemmas.Str.{encodes-append}
use Rattle.text_model.specs.declared.TheConstants.{MAX_CHARS}
use Rattle.text_model.specs.declared.coords.Coord.{Coord}
use Rattle.text_model.specs.Texts.{IsStored, IsPlace, IsPlaceOrEnd, lines_of, joined, offset, coord_at}
use Rattle.text_model.proofs.LineLemmas.{joined-append, joined-lines_of}
use Rattle.text_model.proofs.PlaceLemmas.{start-more, start-le, start-end, length-lines, coord_at-offset, coord_at-end, drop-offset, offset-earlier_line, earlier_is_place, three_ways}

-- the lines up to the next one
pub joined-more : (ls : List (List ℕ)) (n : ℕ) → n < length ls → joined (take (n + 1) ls) ≡ joined (take n ls) ++ get_or ls n []
joined-more ls n h =
    ap joined (take_more ls n [] h) ∙ joined-append (take n ls) (get_or ls n [] ∷ []) ∙ ap (λ t. joined (take n ls) ++ t) (append-nil (get_or ls n []))

-- all lines are the text
pub joined-all : (text : List ℕ) (n : ℕ) → length (lines_of text) ≤ n → joined (take n (lines_of text)) ≡ text
joined-all text n h = ap joined (take_all n (lines_of text) h) ∙ joined-lines_of text

-- lines before a number are no longer than the text
pub start-small : (text : List ℕ) (n : ℕ) → IsStored text → n ≤ length (lines_of text) → length (joined (take n (lines_of text))) ≤ MAX_CHARS
start-small text n h k = omega (arith, start-le (lines_of text) n (length (lines_of text)) k, start-end (lines_of text), length-lines text, h.small)

-- the coordinate of an offset that lies in a line
pub coord_on_line : (text : List ℕ) (n rest o : ℕ) → n < length (lines_of text) → rest < length (get_or (lines_of text) n []) → length (joined (take n (lines_of text))) + rest ≡ o → (let at : Coord = record { line = n; column = rest } in at) ≡ coord_at text o
coord_on_line text n rest o h k e =
    let at : Coord = record { line = n; column = rest } in
    let place : IsPlace text at = record { on_line = h; in_line = k } in
    sym (coord_at-offset text at place) ∙ ap (coord_at text) e

-- the coordinate of the length
pub coord_behind : (text : List ℕ) (n m rest o : ℕ) → IsStored text → n ≡ length (lines_of text) → length (lines_of text) ≤ m → o ≤ length text → length (joined (take m (lines_of text))) + rest ≡ o → (let at : Coord = record { line = n; column = 0 } in at) ≡ coord_at text o
coord_behind text n m rest o h e k l s =
    let whole : length (joined (take m (lines_of text))) ≡ length text = ap length (joined-all text m k) in
    let last : o ≡ length text = omega arith in
    let P : ℕ → Coord = λ x. record { line = x; column = 0 } in
    ap P e ∙ sym (coord_at-end text h.is_text) ∙ ap (coord_at text) (sym last)

-- characters from a place on, cut in two
pub slice_more : (text : List ℕ) (p o k : ℕ) → p ≤ o → slice_range text p (o + k) ≡ slice_range text p o ++ take k (drop o text)
slice_more text p o k h =
    let sum : o + k - p ≡ o - p + k = omega arith in
    let at : p + (o - p) ≡ o = omega arith in
    ap (λ n. take n (drop p text)) sum ∙ take-add (o - p) k (drop p text) ∙ ap (λ t. take (o - p) (drop p text) ++ take k t) (drop-drop (o - p) p text ∙ ap (λ n. drop n text) at)

-- up to the next line
pub slice_line : (text : List ℕ) (p n start : ℕ) → n < length (lines_of text) → start < length (get_or (lines_of text) n []) → p ≤ offset text (record { line = n; column = start }) → slice_range text p (offset text (record { line = n + 1; column = 0 })) ≡ slice_range text p (offset text (record { line = n; column = start })) ++ drop start (get_or (lines_of text) n [])
slice_line text p n start h k l =
    let at : Coord = record { line = n; column = start } in
    let line : List ℕ = get_or (lines_of text) n [] in
    let rest : List ℕ = drop start line in
    let long : length rest ≡ length line - start = length-drop start line in
    let place : IsPlace text at = record { on_line = h; in_line = k } in
    let next : offset text (record { line = n + 1; column = 0 }) ≡ offset text at + length rest = omega (arith, start-more (lines_of text) n h) in
    ap (slice_range text p) next ∙ slice_more text p (offset text at) (length rest) l ∙ ap (λ t. slice_range text p (offset text at) ++ t) (ap (take (length rest)) (drop-offset text at place) ∙ take_at rest _ (length rest) refl)

-- up to a column of the same line
pub slice_column : (text : List ℕ) (p n start column : ℕ) → n < length (lines_of text) → start ≤ column → column < length (get_or (lines_of text) n []) → p ≤ offset text (record { line = n; column = start }) → slice_range text p (offset text (record { line = n; column = column })) ≡ slice_range text p (offset text (record { line = n; column = start })) ++ take (column - start) (drop start (get_or (lines_of text) n []))
slice_column text p n start column h o k l =
    let at : Coord = record { line = n; column = start } in
    let line : List ℕ = get_or (lines_of text) n [] in
    let short : column - start ≤ length (drop start line) = omega (arith, length-drop start line) in
    let place : IsPlace text at = record { on_line = h; in_line = omega arith } in
    let next : offset text (record { line = n; column = column }) ≡ offset text at + (column - start) = omega arith in
    ap (slice_range text p) next ∙ slice_more text p (offset text at) (column - start) l ∙ ap (λ t. slice_range text p (offset text at) ++ t) (ap (take (column - start)) (drop-offset text at place) ∙ take-append-le (column - start) (drop start line) _ short)

-- a later place isn't on an earlier line
pub ordered_lines : (text : List ℕ) (from to : Coord) → IsPlaceOrEnd text from → IsPlaceOrEnd text to → offset text from ≤ offset text to → from.line ≤ to.line
ordered_lines text from to h k o =
    elim (three_ways to.line from.line) [
      | inl lt ↦ absurd (omega (arith, offset-earlier_line text to from (earlier_is_place text to from k h lt) lt))
      | inr w ↦ elim w [ inl same ↦ omega arith | inr more ↦ omega arith ]
    ]

-- the line of a place or of the end
pub line-le-count : (text : List ℕ) (at : Coord) → IsPlaceOrEnd text at → at.line ≤ length (lines_of text)
line-le-count text at (inl p) = omega (arith, p.on_line)
line-le-count text at (inr e) = omega (arith, ap (λ (x : Coord). x.line) e)

-- with a column that isn't 0 it is a place
pub place_by_column : (text : List ℕ) (at : Coord) → IsPlaceOrEnd text at → 0 < at.column → IsPlace text at
place_by_column text at (inl p) h = p
place_by_column text at (inr e) h = absurd (omega (arith, ap (λ (x : Coord). x.column) e))

-- a place on a later line is not before that line's begin
pub start-le-offset : (text : List ℕ) (n : ℕ) (to : Coord) → n ≤ to.line → offset text (record { line = n; column = 0 }) ≤ offset text to
start-le-offset text n to h = omega (arith, start-le (lines_of text) n to.line h)

-- one more line's characters
pub sliced_line : (text chars new line : List ℕ) (p n start : ℕ) → chars ≡ slice_range text p (offset text (record { line = n; column = start })) → new ≡ chars ++ drop start line → line ≡ get_or (lines_of text) n [] → n < length (lines_of text) → start < length (get_or (lines_of text) n []) → p ≤ offset text (record { line = n; column = start }) → new ≡ slice_range text p (offset text (record { line = n + 1; column = 0 }))
sliced_line text chars new line p n start so_far more is h k l =
    more ∙ ap₂ (λ x y. x ++ drop start y) so_far is ∙ sym (slice_line text p n start h k l)

-- the last part's characters
pub sliced_part : (text chars new line : List ℕ) (p n start : ℕ) (to : Coord) → chars ≡ slice_range text p (offset text (record { line = n; column = start })) → new ≡ chars ++ take (to.column - start) (drop start line) → line ≡ get_or (lines_of text) to.line [] → n ≡ to.line → IsPlace text to → start ≤ to.column → p ≤ offset text (record { line = n; column = start }) → new ≡ slice_range text p (offset text to)
sliced_part text chars new line p n start to so_far more is same place o l =
    let at : Coord = record { line = to.line; column = start } in
    let here : offset text (record { line = n; column = start }) ≡ offset text at = ap (λ m. length (joined (take m (lines_of text))) + start) same in
    more ∙ ap₂ (λ x y. x ++ take (to.column - start) (drop start y)) (so_far ∙ ap (slice_range text p) here) is ∙ sym (slice_column text p to.line start to.column place.on_line o place.in_line (omega arith))

-- nothing is left of the last part
pub sliced_none : (text chars : List ℕ) (p n start : ℕ) (to : Coord) → chars ≡ slice_range text p (offset text (record { line = n; column = start })) → n ≡ to.line → to.column ≤ start → offset text (record { line = n; column = start }) ≤ offset text to → chars ≡ slice_range text p (offset text to)
sliced_none text chars p n start to so_far same o l =
    let here : offset text (record { line = n; column = start }) ≡ offset text (record { line = to.line; column = start }) = ap (λ m. length (joined (take m (lines_of text))) + start) same in
    let e : offset text (record { line = n; column = start }) ≡ offset text to = omega arith in
    so_far ∙ ap (slice_range text p) e

-- a place with a later line behind it lies in its line
pub from-in-line : (text : List ℕ) (from to : Coord) → IsPlaceOrEnd text from → IsPlaceOrEnd text to → from.line < to.line → from.column < length (get_or (lines_of text) from.line [])
from-in-line text from to (inl p) k h = p.in_line
from-in-line text from to (inr e) k h = absurd (omega (arith, h, line-le-count text to k, ap (λ (x : Coord). x.line) e))

-- nothing was added yet
pub added-none-yet : (text old : List ℕ) (p : ℕ) → old ≡ old ++ encode_utf8_all (slice_range text p p)
added-none-yet text old p =
    let none : p - p ≡ 0 = omega arith in
    sym (append-nil old) ∙ sym (ap (λ k. old ++ encode_utf8_all (take k (drop p text))) none)

-- one more line's characters were added
pub added-line : (text old bytes new line : List ℕ) (p n start : ℕ) → bytes ≡ old ++ encode_utf8_all (slice_range text p (offset text (record { line = n; column = start }))) → new ≡ bytes ++ encode_utf8_all (drop start line) → line ≡ get_or (lines_of text) n []
    → n < length (lines_of text) → start < length (get_or (lines_of text) n []) → p ≤ offset text (record { line = n; column = start }) → new ≡ old ++ encode_utf8_all (slice_range text p (offset text (record { line = n + 1; column = 0 })))
added-line text old bytes new line p n start so_far more is h k l =
    let chars : List ℕ = slice_range text p (offset text (record { line = n; column = start })) in
    more ∙ ap (λ b. b ++ encode_utf8_all (drop start line)) so_far ∙ append_assoc old (encode_utf8_all chars) (encode_utf8_all (drop start line))
    ∙ ap (λ t. old ++ t) (sym (encodes-append chars (drop start line)) ∙ ap encode_utf8_all (sliced_line text chars (chars ++ drop start line) line p n start refl refl is h k l))

-- those of the last line's part were
pub added-part : (text old bytes new line part : List ℕ) (p n start : ℕ) (to : Coord) → bytes ≡ old ++ encode_utf8_all (slice_range text p (offset text (record { line = n; column = start }))) → new ≡ bytes ++ encode_utf8_all part → part ≡ take (to.column - start) (drop start line) → line ≡ get_or (lines_of text) to.line []
    → n ≡ to.line → IsPlace text to → start ≤ to.column → p ≤ offset text (record { line = n; column = start }) → new ≡ old ++ encode_utf8_all (slice_range text p (offset text to))
added-part text old bytes new line part p n start to so_far more cut is same place o l =
    let chars : List ℕ = slice_range text p (offset text (record { line = n; column = start })) in
    more ∙ ap (λ b. b ++ encode_utf8_all part) so_far ∙ append_assoc old (encode_utf8_all chars) (encode_utf8_all part)
    ∙ ap (λ t. old ++ t) (sym (encodes-append chars part) ∙ ap encode_utf8_all (sliced_part text chars (chars ++ part) line p n start to refl (ap (λ t. chars ++ t) cut) is same place o l))

-- nothing is left to add
pub added-all : (text old bytes : List ℕ) (p n start : ℕ) (to : Coord) → bytes ≡ old ++ encode_utf8_all (slice_range text p (offset text (record { line = n; column = start }))) → n ≡ to.line → to.column ≤ start → offset text (record { line = n; column = start }) ≤ offset text to → bytes ≡ old ++ encode_utf8_all (slice_range text p (offset text to))
added-all text old bytes p n start to so_far same o l =
    so_far ∙ ap (λ t. old ++ encode_utf8_all t) (sliced_none text (slice_range text p (offset text (record { line = n; column = start }))) p n start to refl same o l)
