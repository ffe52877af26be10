-- Lemmas on insertions at coordinates.
use Rattle.std.proofs.Common.{◌≡◌, ◌≢◌, All, ne_eqb, ℕ, ◌+◌, ◌<◌, ◌≤◌, true, eqb, inl, inr, List, [], ◌∷◌, ◌++◌, length, take, drop, get_or, refl, sym, ap, ap₂, subst, ◌∙◌, arith, append_assoc, append-nil, length-append, length-take-le, take_all, take_at}
use Rattle.std.proofs.lemmas.List.{take_more, drop_all}
use Rattle.std.proofs.lemmas.List.Elements.{All-head, All-tail}
use Rattle.text_model.specs.declared.TheConstants.{MAX_CHARS}
use Rattle.text_model.specs.declared.coords.Coord.{Coord}
use Rattle.text_model.specs.Coords.{origin, after, reached}
use Rattle.text_model.specs.Texts.{IsStored, IsPlace, IsPlaceOrEnd, lines_of, offset, coord_at, end_coord, last_place}
use Rattle.text_model.specs.Changes.{ended, put_in, inserted, Insertion, move_of, IsCut, IsShift}
use Rattle.text_model.proofs.CoordLemmas.{reached-append, after-newline, after-other, test_cases, same_coord}
use Rattle.text_model.proofs.PlaceLemmas.{offset-le, coord_at-offset, coord_at-offset_or_end, All-lines_of, length-lines}
use Rattle.text_model.proofs.ChangeLemmas.{put_in-inside, put_in-end, move_of-change}
use Rattle.line_buffer.proofs.BufferLemmas.{length-lines-le, length-line-le}

-- one character more
pub reached-push : (at : Coord) (xs : List ℕ) (i : ℕ) → i < length xs → reached at (take (i + 1) xs) ≡ after (reached at (take i xs)) (get_or xs i 0)
reached-push at xs i h = ap (reached at) (take_more xs i 0 h) ∙ reached-append at (take i xs) (get_or xs i 0 ∷ [])

-- over characters of one line one stays on it
pub reached-along : (at : Coord) (xs : List ℕ) → All (λ c. c ≢ 10) xs → reached at xs ≡ record { line = at.line; column = at.column + length xs }
reached-along at [] none = same_coord _ _ refl (omega arith)
reached-along at (c ∷ cs) none =
    ap (λ t. reached t cs) (after-other at c (ne_eqb c 10 (All-head (λ c. c ≢ 10) c cs none))) ∙ reached-along (record { line = at.line; column = at.column + 1 }) cs (All-tail (λ c. c ≢ 10) c cs none) ∙ same_coord _ _ refl (omega arith)

pub after-line-le : (at : Coord) (c : ℕ) → (after at c).line ≤ at.line + 1
after-line-le at c =
    elim (test_cases (eqb c 10)) [
      | inl e ↦ omega (arith, ap (λ (x : Coord). x.line) (after-newline at c e))
      | inr e ↦ omega (arith, ap (λ (x : Coord). x.line) (after-other at c e))
    ]

pub after-column-le : (at : Coord) (c : ℕ) → (after at c).column ≤ at.column + 1
after-column-le at c =
    elim (test_cases (eqb c 10)) [
      | inl e ↦ omega (arith, ap (λ (x : Coord). x.column) (after-newline at c e))
      | inr e ↦ omega (arith, ap (λ (x : Coord). x.column) (after-other at c e))
    ]

-- coordinates of places are small
pub place-line-le : (text : List ℕ) (at : Coord) → IsStored text → IsPlace text at → at.line < MAX_CHARS
place-line-le text at h p = omega (arith, length-lines-le (lines_of text) (All-lines_of text h.is_text), length-lines text, h.small, p.on_line)

pub place-column-le : (text : List ℕ) (at : Coord) → IsStored text → IsPlace text at → at.column < MAX_CHARS
place-column-le text at h p = omega (arith, length-line-le (lines_of text) at.line, length-lines text, h.small, p.in_line)

-- by its line a coordinate is a place or the end
pub place_by_line : (text : List ℕ) (at : Coord) → IsPlaceOrEnd text at → at.line < length (lines_of text) → IsPlace text at
place_by_line text at (inl p) h = p
place_by_line text at (inr e) h = absurd (let l : at.line ≡ length (lines_of text) = ap (λ (x : Coord). x.line) e in omega arith)

pub end_by_line : (text : List ℕ) (at : Coord) → IsPlaceOrEnd text at → length (lines_of text) ≤ at.line → at ≡ end_coord text
end_by_line text at (inl p) h = absurd (omega (arith, p.on_line))
end_by_line text at (inr e) h = e

-- an insertion at a place puts in just the characters
pub inserted-inside : (text : List ℕ) (p : ℕ) (s : List ℕ) → p < length text → inserted text p s ≡ take p text ++ (s ++ drop p text)
inserted-inside text p s h = ap (λ t. take p text ++ (t ++ drop p text)) (put_in-inside text p s h)

pub put_in-ended : (text : List ℕ) (p : ℕ) (s : List ℕ) → p ≡ length text → 0 < length s → put_in text p s ≡ ended s
put_in-ended text p [] e h = absurd (omega arith)
put_in-ended text p (c ∷ cs) e h = put_in-end text p c cs e

-- an insertion at the end puts whole lines behind the text
pub inserted-end : (text : List ℕ) (p : ℕ) (s : List ℕ) → p ≡ length text → 0 < length s → inserted text p s ≡ text ++ ended s
inserted-end text p s e h =
    let most : length text ≤ p = omega arith in
    ap₂ (λ x y. x ++ (put_in text p s ++ y)) (take_all p text most) (drop_all p text most) ∙ ap (λ t. text ++ t) (append-nil (put_in text p s) ∙ put_in-ended text p s e h)

-- the shift of an insertion at a coordinate
pub insertion_shift : (text new : List ℕ) (at behind last : Coord) (s : List ℕ) → IsStored text → IsPlaceOrEnd text at → new ≡ inserted text (offset text at) s → behind ≡ reached at (put_in text (offset text at) s) → IsPlace new last → offset new last ≡ last_place new → IsShift text new (record { insert = true; begin = at; end = behind; last = last }) (move_of text (Insertion (offset text at) (put_in text (offset text at) s)))
insertion_shift text new at behind last s h place n b l o =
    let p : ℕ = offset text at in
    let real : List ℕ = put_in text p s in
    let inside : p ≤ length text = offset-le text at place in
    let front : length (take p text) ≡ p = length-take-le p text inside in
    let before : take p new ≡ take p text = ap (take p) n ∙ take_at (take p text) (real ++ drop p text) p front in
    let through : take (p + length real) new ≡ take p text ++ real =
    ap (take (p + length real)) (n ∙ sym (append_assoc (take p text) real (drop p text))) ∙ take_at (take p text ++ real) (drop p text) (p + length real) (length-append (take p text) real ∙ ap (λ m. m + length real) front) in
    let here : coord_at text p ≡ at = coord_at-offset_or_end text at h.is_text place in
    record {
      insert_is = refl;
      change = (let Q : List ℕ → Type 0 = λ t. IsCut t text p (p + length real) in subst Q (sym n) (move_of-change text (Insertion p real) inside));
      begin_is = sym (ap (reached origin) before ∙ here);
      end_is = b ∙ sym (ap (reached origin) through ∙ reached-append origin (take p text) real ∙ ap (λ c. reached c real) here);
      last_offset = ap last_place (sym n);
      last_is = sym (ap (coord_at new) (ap last_place (sym n) ∙ sym o) ∙ coord_at-offset new last l);
    }
