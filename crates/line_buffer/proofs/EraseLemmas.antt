-- Lemmas on erasures at coordinates.
use Rattle.std.proofs.Common.{◌≡◌, ◌≢◌, ℕ, suc, ◌+◌, ◌-◌, ◌<◌, ◌≤◌, set, slice_range, drop_at, Bool, true, false, cond, not, ◌&&◌, eqb, ltb, inl, inr, List, [], ◌∷◌, ◌++◌, length, take, drop, get_or, All, refl, sym, ap, ap₂, subst, ◌∙◌, arith, append_assoc, append-nil, length-append, length-take-le, length-drop, take_at, take-append-drop, eq-eqb, ne_eqb, eqb-true, lt-ltb, ltb-true, ltb-false}
use Rattle.std.proofs.lemmas.Bool.{eqb-false}
use Rattle.std.proofs.lemmas.List.{drop_all, set_split, take-append-le, take-take}
use Rattle.std.proofs.lemmas.List.Elements.{All-append, All-take, All-drop, All-cons}
use Rattle.text_model.specs.declared.coords.Coord.{Coord}
use Rattle.text_model.specs.Texts.{IsText, IsStored, IsLine, IsPlace, IsPlaceOrEnd, lines_of, joined, offset, coord_at, last_place}
use Rattle.text_model.specs.Changes.{begins_line, taken_end, changed, Erasure, move_of, IsCut, IsShift}
use Rattle.text_model.proofs.CoordLemmas.{test_cases}
use Rattle.text_model.proofs.LineLemmas.{joined-append}
use Rattle.text_model.proofs.PlaceLemmas.{take-offset, drop-offset, offset-le, offset-below, char-at, nth_line_is_line, coord_at-offset, coord_at-offset_or_end}
use Rattle.text_model.proofs.ChangeLemmas.{length-changed_erasure, move_of-change, taken_end_cases}
use Rattle.line_buffer.specs.Buffer.{IsBuffer}
use Rattle.line_buffer.proofs.BufferLemmas.{buffer_lines, seen_lines, is_buffer, set_is_replaced, joined_is_line}
use Rattle.line_buffer.proofs.FlatLemmas.{line-le-count, place_by_column}
use Rattle.line_buffer.proofs.StepLemmas.{offset-line_before}

-- lines whose text is a buffer's with a range taken out
less_buffer : (text : List ℕ) (ls new : List (List ℕ)) (count gone p q : ℕ) → IsBuffer ls count → joined ls ≡ text → All IsLine new → 0 < length new → joined new ≡ changed text (Erasure p q) → p + gone ≡ q → q ≤ length text → IsBuffer new (count - gone)
less_buffer text ls new count gone p q h v all some flat sum inside =
    let long : length (joined new) + gone ≡ length text = omega (arith, ap length flat, length-changed_erasure text p q (omega arith) inside) in
    is_buffer new (count - gone) all some (omega (arith, long, h.stored.small, ap length v)) (omega (arith, long, h.counted, ap length v))

-- lines replaced by the begin of the first before the end of the last, as the text sees it
pub joined_text : (text : List ℕ) (ls new : List (List ℕ)) (count : ℕ) (from to : Coord) (line : List ℕ) → IsBuffer ls count → joined ls ≡ text → IsPlace text from → IsPlace text to → line ≡ take from.column (get_or ls from.line []) ++ drop to.column (get_or ls to.line []) → new ≡ take from.line ls ++ (line ∷ drop (to.line + 1) ls) → joined new ≡ changed text (Erasure (offset text from) (offset text to))
joined_text text ls new count from to line h v f t l n =
    let same : lines_of text ≡ ls = seen_lines text ls count h v in
    let before : take (offset text from) text ≡ joined (take from.line ls) ++ take from.column (get_or ls from.line []) =
    take-offset text from f ∙ ap (λ x. joined (take from.line x) ++ take from.column (get_or x from.line [])) same in
    let behind : drop (offset text to) text ≡ drop to.column (get_or ls to.line []) ++ joined (drop (to.line + 1) ls) =
    drop-offset text to t ∙ ap (λ x. drop to.column (get_or x to.line []) ++ joined (drop (to.line + 1) x)) same in
    ap joined n ∙ joined-append (take from.line ls) (line ∷ drop (to.line + 1) ls) ∙ ap (λ x. joined (take from.line ls) ++ (x ++ joined (drop (to.line + 1) ls))) l ∙ regrouped (joined (take from.line ls)) (take from.column (get_or ls from.line [])) (drop to.column (get_or ls to.line [])) (joined (drop (to.line + 1) ls)) ∙ sym (ap₂ (λ x y. x ++ y) before behind)
  where
    regrouped : (a b c d : List ℕ) → a ++ ((b ++ c) ++ d) ≡ (a ++ b) ++ (c ++ d)
    regrouped a b c d = simp append_assoc

-- and the lines are a buffer's again
pub joined_buffer : (text : List ℕ) (ls new : List (List ℕ)) (count gone : ℕ) (from to : Coord) (line : List ℕ) → IsBuffer ls count → joined ls ≡ text → IsPlace text from → IsPlace text to → line ≡ take from.column (get_or ls from.line []) ++ drop to.column (get_or ls to.line []) → new ≡ take from.line ls ++ (line ∷ drop (to.line + 1) ls) → offset text from + gone ≡ offset text to → IsBuffer new (count - gone)
joined_buffer text ls new count gone from to line h v f t l n sum =
    let same : lines_of text ≡ ls = seen_lines text ls count h v in
    let old : All IsLine ls = buffer_lines ls count h in
    let first : from.line < length ls = omega (arith, ap length same, f.on_line) in
    let last : to.line < length ls = omega (arith, ap length same, t.on_line) in
    let is_line : IsLine line = subst IsLine (sym l) (joined_is_line (get_or ls from.line []) (get_or ls to.line []) from.column to.column (old from.line [] first) (old to.line [] last) (omega (arith, ap (λ x. length (get_or x from.line [])) same, f.in_line)) (omega (arith, ap (λ x. length (get_or x to.line [])) same, t.in_line))) in
    let P : List (List ℕ) → Type 0 = All IsLine in
    less_buffer text ls new count gone (offset text from) (offset text to) h v
    (subst P (sym n) (All-append IsLine (take from.line ls) (line ∷ drop (to.line + 1) ls) (All-take IsLine from.line ls old) (All-cons IsLine line (drop (to.line + 1) ls) is_line (All-drop IsLine (to.line + 1) ls old))))
    (omega (arith, ap length n, length-append (take from.line ls) (line ∷ drop (to.line + 1) ls)))
    (joined_text text ls new count from to line h v f t l n) sum (omega (arith, offset-below text to t))

-- the lines before one, as the text sees them
pub cut_off_text : (text : List ℕ) (ls new : List (List ℕ)) (count : ℕ) (from : Coord) → IsBuffer ls count → joined ls ≡ text → from.column ≡ 0 → new ≡ take from.line ls → joined new ≡ changed text (Erasure (offset text from) (length text))
cut_off_text text ls new count from h v z n =
    let same : lines_of text ≡ ls = seen_lines text ls count h v in
    let parts : text ≡ joined (take from.line ls) ++ joined (drop from.line ls) = sym v ∙ ap joined (sym (take-append-drop from.line ls)) ∙ joined-append (take from.line ls) (drop from.line ls) in
    let start : length (joined (take from.line ls)) ≡ offset text from = omega (arith, ap (λ x. length (joined (take from.line x))) same, z) in
    let before : take (offset text from) text ≡ joined (take from.line ls) = ap (take (offset text from)) parts ∙ take_at (joined (take from.line ls)) (joined (drop from.line ls)) (offset text from) start in
    let none : drop (length text) text ≡ [] = drop_all (length text) text (omega arith) in
    ap joined n ∙ sym (ap₂ (λ x y. x ++ y) before none ∙ append-nil (joined (take from.line ls)))

-- and they are a buffer's again
pub cut_off_buffer : (text : List ℕ) (ls new : List (List ℕ)) (count gone : ℕ) (from : Coord) → IsBuffer ls count → joined ls ≡ text → from.column ≡ 0 → 0 < from.line → from.line ≤ length (lines_of text) → new ≡ take from.line ls → offset text from + gone ≡ length text → IsBuffer new (count - gone)
cut_off_buffer text ls new count gone from h v z some inside n sum =
    let same : lines_of text ≡ ls = seen_lines text ls count h v in
    let P : List (List ℕ) → Type 0 = All IsLine in
    less_buffer text ls new count gone (offset text from) (length text) h v
    (subst P (sym n) (All-take IsLine from.line ls (buffer_lines ls count h)))
    (omega (arith, ap length n, length-take-le from.line ls (omega (arith, ap length same))))
    (cut_off_text text ls new count from h v z n) sum (omega arith)

-- a place of a line before another
pub earlier_on_line : (text : List ℕ) (from to : Coord) → IsPlace text to → from.line ≡ to.line → from.column ≤ to.column → IsPlace text from
earlier_on_line text from to t e k = record {
  on_line = omega (arith, t.on_line);
  in_line = omega (arith, ap (λ n. length (get_or (lines_of text) n [])) e, t.in_line);
}

-- and how far it is to that other
pub offset-same_line : (text : List ℕ) (from to : Coord) → from.line ≡ to.line → from.column ≤ to.column → offset text from + (to.column - from.column) ≡ offset text to
offset-same_line text from to e k = omega (arith, ap (λ n. length (joined (take n (lines_of text)))) e)

-- one line set, as lines replaced
pub set_joined : (ls : List (List ℕ)) (m n : ℕ) (line : List ℕ) → m ≡ n → n < length ls → set ls n line ≡ take m ls ++ (line ∷ drop (n + 1) ls)
set_joined ls m n line e h = set_is_replaced ls n line h ∙ ap (λ k. take k ls ++ (line ∷ drop (n + 1) ls)) (sym e)

-- the lines behind one taken out, and then it set
pub set_shorter : (ls : List (List ℕ)) (m n : ℕ) (line : List ℕ) → m ≤ n → n < length ls → set (take (m + 1) ls ++ drop (n + 1) ls) m line ≡ take m ls ++ (line ∷ drop (n + 1) ls)
set_shorter ls m n line h k =
    let front : length (take (m + 1) ls) ≡ suc m = length-take-le (m + 1) ls (omega arith) ∙ omega arith in
    let long : m < length (take (m + 1) ls ++ drop (n + 1) ls) = omega (arith, length-append (take (m + 1) ls) (drop (n + 1) ls)) in
    let before : take m (take (m + 1) ls ++ drop (n + 1) ls) ≡ take m ls = take-append-le m (take (m + 1) ls) (drop (n + 1) ls) (omega arith) ∙ take-take m (m + 1) ls (omega arith) in
    let behind : drop (suc m) (take (m + 1) ls ++ drop (n + 1) ls) ≡ drop (n + 1) ls = drop_at (take (m + 1) ls) (drop (n + 1) ls) (suc m) front in
    set_split (take (m + 1) ls ++ drop (n + 1) ls) m line long ∙ ap₂ (λ x y. x ++ (line ∷ y)) before behind

-- so many characters lie between two offsets
pub length-slice : (text : List ℕ) (p q : ℕ) → p ≤ q → q ≤ length text → p + length (slice_range text p q) ≡ q
length-slice text p q h k = let room : q - p ≤ length (drop p text) = omega (arith, length-drop p text) in omega (arith, length-take-le (q - p) (drop p text) room)

never : (v : Bool) → v && false ≡ false
never true = refl
never false = refl

-- a line begins at an offset behind the first exactly where its coordinate has column 0 and isn't on the first line
pub begins_line-at : (text : List ℕ) (at : Coord) → IsText text → IsPlaceOrEnd text at → begins_line text (offset text at) ≡ ltb 0 at.line && eqb at.column 0
begins_line-at text at h k =
    elim (test_cases (eqb at.column 0)) [
      | inl e ↦ elim (test_cases (ltb 0 at.line)) [
        | inl l ↦ behind_line (eqb-true at.column 0 e) (ltb-true 0 at.line l) ∙ sym (ap₂ (λ v w. v && w) l e)
        | inr l ↦ on_first (eqb-true at.column 0 e) (ltb-false 0 at.line l) ∙ sym (ap (λ v. v && eqb at.column 0) l)
      ]
      | inr e ↦ in_line (omega (arith, eqb-false at.column 0 e)) ∙ sym (ap (λ w. ltb 0 at.line && w) e ∙ never (ltb 0 at.line))
    ]
  where
    behind_line : at.column ≡ 0 → 0 < at.line → begins_line text (offset text at) ≡ true
    behind_line c l =
        let m : ℕ = at.line - 1 in
        let up : m + 1 ≡ at.line = omega arith in
        let there : m < length (lines_of text) = omega (arith, line-le-count text at k) in
        let line : IsLine (get_or (lines_of text) m []) = nth_line_is_line text m h there in
        let last : Coord = record { line = m; column = length (get_or (lines_of text) m []) - 1 } in
        let place : IsPlace text last = record { on_line = there; in_line = omega (arith, line.some) } in
        let next : offset text last + 1 ≡ offset text (record { line = at.line; column = 0 }) = offset-line_before text m at.line last.column up there (omega (arith, line.some)) in
        let before : offset text at - 1 ≡ offset text last = omega arith in
        let newline : get_or text (offset text at - 1) 0 ≡ 10 = ap (λ n. get_or text n 0) before ∙ char-at text last 0 place ∙ line.ended in
        ap₂ (λ v w. v && w) (lt-ltb 0 (offset text at) (omega arith)) (eq-eqb (get_or text (offset text at - 1) 0) 10 newline)

    on_first : at.column ≡ 0 → at.line ≤ 0 → begins_line text (offset text at) ≡ false
    on_first c l =
        let z : at.line ≡ 0 = omega arith in
        let none : offset text at ≡ 0 = omega (arith, ap (λ n. length (joined (take n (lines_of text)))) z, c) in
        ap (begins_line text) none

    in_line : 0 < at.column → begins_line text (offset text at) ≡ false
    in_line c =
        let place : IsPlace text at = place_by_column text at k c in
        let before : Coord = record { line = at.line; column = at.column - 1 } in
        let there : IsPlace text before = record { on_line = place.on_line; in_line = omega (arith, place.in_line) } in
        let line : IsLine (get_or (lines_of text) at.line []) = nth_line_is_line text at.line h place.on_line in
        let same : offset text at - 1 ≡ offset text before = omega arith in
        let other : get_or text (offset text at - 1) 0 ≢ 10 = λ e. line.only (at.column - 1) (omega (arith, place.in_line)) (sym (ap (λ n. get_or text n 0) same ∙ char-at text before 0 there) ∙ e) in
        ap (λ w. ltb 0 (offset text at) && w) (ne_eqb (get_or text (offset text at - 1) 0) 10 other) ∙ never (ltb 0 (offset text at))

-- behind a newline all is taken up to the end
pub taken_end-whole : (text : List ℕ) (p q : ℕ) → begins_line text p ≡ true → taken_end text p q ≡ q
taken_end-whole text p q b =
    elim (taken_end_cases text p q) [
      | inl w ↦ w.0
      | inr w ↦ absurd (let both : true ≡ false = sym b ∙ w.2 in cc)
    ]

-- and else the last newline stays
pub taken_end-kept : (text : List ℕ) (p q : ℕ) → q ≡ length text → begins_line text p ≡ false → taken_end text p q ≡ q - 1
taken_end-kept text p q e b = ap₂ (λ v w. cond (v && not w) (q - 1) q) (eq-eqb q (length text) e) b

-- the shift of an erasure between coordinates
pub erasure_shift : (text new : List ℕ) (from to last : Coord) (q : ℕ) → IsStored text → IsPlaceOrEnd text from → IsPlaceOrEnd text to → offset text from ≤ offset text to → offset text to ≡ q → new ≡ changed text (Erasure (offset text from) (offset text to)) → IsPlace new last → offset new last ≡ last_place new → IsShift text new (record { insert = false; begin = from; end = to; last = last }) (move_of text (Erasure (offset text from) q))
erasure_shift text new from to last q h f t k e n l o =
    let p : ℕ = offset text from in
    let P : ℕ → Type 0 = λ x. IsShift text new (record { insert = false; begin = from; end = to; last = last }) (move_of text (Erasure p x)) in
    let here : P (offset text to) = record {
      insert_is = refl;
      change = (let Q : List ℕ → Type 0 = λ x. IsCut text x p (offset text to) in subst Q (sym n) (move_of-change text (Erasure p (offset text to)) (k, offset-le text to t)));
      begin_is = sym (coord_at-offset_or_end text from h.is_text f);
      end_is = sym (coord_at-offset_or_end text to h.is_text t);
      last_offset = ap last_place (sym n);
      last_is = sym (ap (coord_at new) (ap last_place (sym n) ∙ sym o) ∙ coord_at-offset new last l);
    } in
    subst P e here
