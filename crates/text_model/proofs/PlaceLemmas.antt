-- Lemmas on places: where lines begin, what stands at a coordinate, and offsets and coordinates as inverses.
use Rattle.std.proofs.Common.{◌≡◌, ℕ, zero, suc, ◌+◌, ◌<◌, ◌≤◌, Bool, true, false, cond, eqb, List, [], ◌∷◌, ◌++◌, length, take, drop, get_or, All, refl, sym, ap, subst, ◌∙◌, arith, append_assoc, append-nil, length-append, take_all, get_or-append-add, drop_at, inl, inr, if◌then◌else◌, eq-eqb, ne_eqb, ◌⊎◌, ◌||◌, ◌&&◌, leb, lt-ltb, le-ltb, le-leb, leb-true, leb-false}
use Rattle.std.proofs.lemmas.List.Elements.{All-head, All-tail}
use Rattle.std.proofs.Math.Dec.{eqb-suc-zero}
use Rattle.std.proofs.Math.Seq.{take-nil, take-append-add}
use Rattle.std.proofs.lemmas.List.{take_more, get_or_append_left, take-append-le, drop-append-le, drop-drop}
use Rattle.text_model.specs.declared.coords.Coord.{Coord}
use Rattle.text_model.specs.Coords.{origin, after, reached, further, is_at_most}
use Rattle.text_model.specs.Texts.{IsText, IsLine, onto_first, lines_of, joined, IsPlace, IsPlaceOrEnd, offset, coord_at, end_coord}
use Rattle.text_model.proofs.CoordLemmas.{same_coord, reached-append, reached-from, further-same_line, further-below, after-newline, after-other, test_cases, zero_or_suc}
use Rattle.text_model.proofs.LineLemmas.{joined-append, joined-lines_of, tail_is_line, lines_are_lines}

-- a text cut before and behind one of its lines
pub joined-split : (ls : List (List ℕ)) (n : ℕ) → n < length ls → joined ls ≡ joined (take n ls) ++ (get_or ls n [] ++ joined (drop (n + 1) ls))
joined-split [] n h = absurd (omega arith)
joined-split (l ∷ ls) zero h = refl
joined-split (l ∷ ls) (suc n) h =
    let e : suc n + 1 ≡ suc (n + 1) = omega arith in
    rw e (ap (λ t. l ++ t) (joined-split ls n (omega arith)) ∙ sym (append_assoc l (joined (take n ls)) (get_or ls n [] ++ joined (drop (n + 1) ls))))

-- where the next line begins
pub start-more : (ls : List (List ℕ)) (n : ℕ) → n < length ls → length (joined (take (n + 1) ls)) ≡ length (joined (take n ls)) + length (get_or ls n [])
start-more ls n h =
    ap (λ t. length (joined t)) (take_more ls n [] h) ∙ ap length (joined-append (take n ls) (get_or ls n [] ∷ [])) ∙ length-append (joined (take n ls)) (get_or ls n [] ++ []) ∙ ap (λ t. length (joined (take n ls)) + length t) (append-nil (get_or ls n []))

-- later lines begin later
pub start-le : (ls : List (List ℕ)) (m n : ℕ) → m ≤ n → length (joined (take m ls)) ≤ length (joined (take n ls))
start-le [] zero n h = omega arith
start-le [] (suc m) zero h = omega arith
start-le [] (suc m) (suc n) h = omega arith
start-le (l ∷ ls) zero n h = omega arith
start-le (l ∷ ls) (suc m) zero h = absurd (omega arith)
start-le (l ∷ ls) (suc m) (suc n) h =
    omega (arith, start-le ls m n (omega arith), length-append l (joined (take m ls)), length-append l (joined (take n ls)))

pub start-end : (ls : List (List ℕ)) → length (joined (take (length ls) ls)) ≡ length (joined ls)
start-end ls = let h : length ls ≤ length ls = omega arith in ap (λ t. length (joined t)) (take_all (length ls) ls h)

-- a place lies before the next line
pub place-before_next : (ls : List (List ℕ)) (n c : ℕ) → n < length ls → c < length (get_or ls n []) → length (joined (take n ls)) + c < length (joined (take (n + 1) ls))
place-before_next ls n c h k = omega (arith, start-more ls n h)

-- lines that are equal have equal offsets
pub length-lines : (text : List ℕ) → length (joined (lines_of text)) ≡ length text
length-lines text = ap length (joined-lines_of text)

-- a place is before the end
pub offset-below : (text : List ℕ) (at : Coord) → IsPlace text at → offset text at < length text
offset-below text at h =
    omega (arith, place-before_next (lines_of text) at.line at.column h.on_line h.in_line, start-le (lines_of text) (at.line + 1) (length (lines_of text)) (omega arith), start-end (lines_of text), length-lines text)

pub offset-end : (text : List ℕ) → offset text (end_coord text) ≡ length text
offset-end text = omega (arith, start-end (lines_of text), length-lines text)

-- a place on an earlier line is before
pub offset-earlier_line : (text : List ℕ) (a b : Coord) → IsPlace text a → a.line < b.line → offset text a < offset text b
offset-earlier_line text a b h lt =
    omega (arith, place-before_next (lines_of text) a.line a.column h.on_line h.in_line, start-le (lines_of text) (a.line + 1) b.line (omega arith))

-- what stands at a place
pub char-at : (text : List ℕ) (at : Coord) (d : ℕ) → IsPlace text at → get_or text (offset text at) d ≡ get_or (get_or (lines_of text) at.line []) at.column d
char-at text at d h =
    let ls : List (List ℕ) = lines_of text in
    let front : List ℕ = joined (take at.line ls) in
    let line : List ℕ = get_or ls at.line [] in
    let rest : List ℕ = joined (drop (at.line + 1) ls) in
    ap (λ t. get_or t (offset text at) d) (sym (joined-lines_of text) ∙ joined-split ls at.line h.on_line) ∙ get_or-append-add front (line ++ rest) at.column d ∙ get_or_append_left line rest d at.column h.in_line

-- what stands before a place, and from it on
pub take-offset : (text : List ℕ) (at : Coord) → IsPlace text at → take (offset text at) text ≡ joined (take at.line (lines_of text)) ++ take at.column (get_or (lines_of text) at.line [])
take-offset text at h =
    let ls : List (List ℕ) = lines_of text in
    let front : List ℕ = joined (take at.line ls) in
    let line : List ℕ = get_or ls at.line [] in
    let rest : List ℕ = joined (drop (at.line + 1) ls) in
    let k : at.column ≤ length line = omega (arith, h.in_line) in
    ap (take (offset text at)) (sym (joined-lines_of text) ∙ joined-split ls at.line h.on_line) ∙ take-append-add front (line ++ rest) at.column ∙ ap (λ t. front ++ t) (take-append-le at.column line rest k)

pub drop-offset : (text : List ℕ) (at : Coord) → IsPlace text at → drop (offset text at) text ≡ drop at.column (get_or (lines_of text) at.line []) ++ joined (drop (at.line + 1) (lines_of text))
drop-offset text at h =
    let ls : List (List ℕ) = lines_of text in
    let front : List ℕ = joined (take at.line ls) in
    let line : List ℕ = get_or ls at.line [] in
    let rest : List ℕ = joined (drop (at.line + 1) ls) in
    let k : at.column ≤ length line = omega (arith, h.in_line) in
    ap (drop (offset text at)) (sym (joined-lines_of text) ∙ joined-split ls at.line h.on_line) ∙ sym (drop-drop at.column (length front) (front ++ (line ++ rest))) ∙ ap (drop at.column) (drop_at front (line ++ rest) (length front) refl) ∙ drop-append-le at.column line rest k

-- the coordinates of a text with one more character before it
pub further_by_newline : (at : Coord) → further (after origin 10) at ≡ record { line = suc at.line; column = at.column }
further_by_newline at =
    elim (zero_or_suc at.line) [
      | inl z ↦ further-same_line (after origin 10) at z ∙ same_coord _ _ (ap (λ n. suc n) (sym z)) (omega arith)
      | inr n ↦ further-below (after origin 10) at n.0 n.1 ∙ same_coord _ _ (omega arith) refl
    ]

pub further_by_character : (at : Coord) → further (record { line = 0; column = 1 }) at ≡ (if eqb at.line 0 then record { line = 0; column = suc at.column } else at)
further_by_character at =
    let one : Coord = record { line = 0; column = 1 } in
    let P : Bool → Coord = λ v. cond v (record { line = 0; column = suc at.column }) at in
    elim (zero_or_suc at.line) [
      | inl z ↦ further-same_line one at z ∙ same_coord _ _ refl (omega arith) ∙ ap P (sym (eq-eqb at.line 0 z))
      | inr n ↦ further-below one at n.0 n.1 ∙ same_coord _ _ (omega arith) refl ∙ ap P (sym (ap (λ m. eqb m 0) n.1 ∙ eqb-suc-zero n.0))
    ]

lines_newline : (c : ℕ) (cs : List ℕ) → eqb c 10 ≡ true → lines_of (c ∷ cs) ≡ (c ∷ []) ∷ lines_of cs
lines_newline c cs e = let P : Bool → List (List ℕ) = λ v. cond v ((c ∷ []) ∷ lines_of cs) (onto_first c (lines_of cs)) in ap P e

lines_other : (c : ℕ) (cs : List ℕ) → eqb c 10 ≡ false → lines_of (c ∷ cs) ≡ onto_first c (lines_of cs)
lines_other c cs e = let P : Bool → List (List ℕ) = λ v. cond v ((c ∷ []) ∷ lines_of cs) (onto_first c (lines_of cs)) in ap P e

-- the offset of a coordinate among lines
abbrev pub offset_in : List (List ℕ) → Coord → ℕ
offset_in ls at = length (joined (take at.line ls)) + at.column

abbrev pub right : Coord → Coord
right at = if eqb at.line 0 then record { line = 0; column = suc at.column } else at

right-zero : (at : Coord) → at.line ≡ 0 → right at ≡ record { line = 0; column = suc at.column }
right-zero at z = let P : Bool → Coord = λ v. cond v (record { line = 0; column = suc at.column }) at in ap P (eq-eqb at.line 0 z)

right-suc : (at : Coord) (n : ℕ) → at.line ≡ suc n → right at ≡ at
right-suc at n e = let P : Bool → Coord = λ v. cond v (record { line = 0; column = suc at.column }) at in ap P (ap (λ m. eqb m 0) e ∙ eqb-suc-zero n)

offset-onto_first : (c : ℕ) (ls : List (List ℕ)) (at : Coord) → offset_in (onto_first c ls) (right at) ≡ suc (offset_in ls at)
offset-onto_first c ls at =
    elim (zero_or_suc at.line) [
      | inl z ↦ ap (offset_in (onto_first c ls)) (right-zero at z) ∙ at_first c ls at z
      | inr n ↦ ap (offset_in (onto_first c ls)) (right-suc at n.0 n.1) ∙ at_later c ls at n.0 n.1
    ]
  where
    at_first : (c : ℕ) (ls : List (List ℕ)) (at : Coord) → at.line ≡ 0 → offset_in (onto_first c ls) (record { line = 0; column = suc at.column }) ≡ suc (offset_in ls at)
    at_first c ls at z = let e : offset_in ls at ≡ 0 + at.column = ap (λ n. length (joined (take n ls)) + at.column) z in omega (arith, e)

    at_later : (c : ℕ) (ls : List (List ℕ)) (at : Coord) (n : ℕ) → at.line ≡ suc n → offset_in (onto_first c ls) at ≡ suc (offset_in ls at)
    at_later c [] at n e =
        ap (λ m. length (joined (take m ((c ∷ []) ∷ []))) + at.column) e ∙ ap (λ t. length ((c ∷ []) ++ joined t) + at.column) (take-nil n) ∙ omega arith ∙ ap (λ m. suc (length (joined (take m [])) + at.column)) (sym e)
    at_later c (l ∷ ls) at n e =
        ap (λ m. length (joined (take m ((c ∷ l) ∷ ls))) + at.column) e ∙ omega arith ∙ ap (λ m. suc (length (joined (take m (l ∷ ls))) + at.column)) (sym e)

pub offset-coord_at : (text : List ℕ) (o : ℕ) → o ≤ length text → offset text (coord_at text o) ≡ o
offset-coord_at text zero h = omega arith
offset-coord_at [] (suc o) h = absurd (omega arith)
offset-coord_at (c ∷ cs) (suc o) h =
    let at : Coord = coord_at cs o in
    let before : offset cs at ≡ o = offset-coord_at cs o (omega arith) in
    let further_on : coord_at (c ∷ cs) (suc o) ≡ further (after origin c) at = reached-from (after origin c) (take o cs) in
    elim (test_cases (eqb c 10)) [
      | inl e ↦ let down : further (after origin c) at ≡ record { line = suc at.line; column = at.column } = ap (λ t. further t at) (after-newline origin c e) ∙ further_by_newline at in
          ap (offset (c ∷ cs)) (further_on ∙ down) ∙ ap (λ ls. length (joined (take (suc at.line) ls)) + at.column) (lines_newline c cs e) ∙ omega (arith, before)
      | inr e ↦ let aside : further (after origin c) at ≡ right at = ap (λ t. further t at) (after-other origin c e) ∙ further_by_character at in
          ap (offset (c ∷ cs)) (further_on ∙ aside) ∙ ap (λ ls. offset_in ls (right at)) (lines_other c cs e) ∙ offset-onto_first c (lines_of cs) at ∙ ap (λ n. suc n) before
    ]

-- a coordinate that stands in one of the lines
abbrev pub StandsIn : List (List ℕ) → Coord → Type 0
StandsIn ls at = (at.line < length ls) × (at.column < length (get_or ls at.line []))

stands_onto_first : (c : ℕ) (ls : List (List ℕ)) (at : Coord) → StandsIn ls at → StandsIn (onto_first c ls) (right at)
stands_onto_first c [] at h = absurd (omega arith)
stands_onto_first c (l ∷ ls) at h =
    elim (zero_or_suc at.line) [
      | inl z ↦ let P : Coord → Type 0 = StandsIn ((c ∷ l) ∷ ls) in
          let k : at.column < length l = (let Q : ℕ → Type 0 = λ n. at.column < length (get_or (l ∷ ls) n []) in subst Q z h.1) in
          subst P (sym (right-zero at z)) (omega arith, omega arith)
      | inr n ↦ let P : Coord → Type 0 = StandsIn ((c ∷ l) ∷ ls) in
          let k : at.column < length (get_or ls n.0 []) = (let Q : ℕ → Type 0 = λ n. at.column < length (get_or (l ∷ ls) n []) in subst Q n.1 h.1) in
          let Q : ℕ → Type 0 = λ n. at.column < length (get_or ((c ∷ l) ∷ ls) n []) in
          subst P (sym (right-suc at n.0 n.1)) (omega arith, subst Q (sym n.1) k)
    ]

stands_first : (c : ℕ) (cs : List ℕ) → StandsIn (lines_of (c ∷ cs)) origin
stands_first c cs =
    elim (eqb c 10) as (λ v. StandsIn (cond v ((c ∷ []) ∷ lines_of cs) (onto_first c (lines_of cs))) origin) [
      | true ↦ (omega arith, omega arith)
      | false ↦ first_onto c (lines_of cs)
    ]
  where
    first_onto : (c : ℕ) (ls : List (List ℕ)) → StandsIn (onto_first c ls) origin
    first_onto c [] = (omega arith, omega arith)
    first_onto c (l ∷ ls) = (omega arith, omega arith)

-- the coordinate of an offset stands in the lines
pub coord_at_stands : (text : List ℕ) (o : ℕ) → o < length text → StandsIn (lines_of text) (coord_at text o)
coord_at_stands [] o h = absurd (omega arith)
coord_at_stands (c ∷ cs) zero h = stands_first c cs
coord_at_stands (c ∷ cs) (suc o) h =
    let at : Coord = coord_at cs o in
    let before : StandsIn (lines_of cs) at = coord_at_stands cs o (omega arith) in
    let further_on : coord_at (c ∷ cs) (suc o) ≡ further (after origin c) at = reached-from (after origin c) (take o cs) in
    let P : Coord → Type 0 = StandsIn (lines_of (c ∷ cs)) in
    elim (test_cases (eqb c 10)) [
      | inl e ↦ let down : further (after origin c) at ≡ record { line = suc at.line; column = at.column } = ap (λ t. further t at) (after-newline origin c e) ∙ further_by_newline at in
          let Q : List (List ℕ) → Type 0 = λ ls. StandsIn ls (record { line = suc at.line; column = at.column }) in
          subst P (sym (further_on ∙ down)) (subst Q (sym (lines_newline c cs e)) (omega arith, before.1))
      | inr e ↦ let aside : further (after origin c) at ≡ right at = ap (λ t. further t at) (after-other origin c e) ∙ further_by_character at in
          let Q : List (List ℕ) → Type 0 = λ ls. StandsIn ls (right at) in
          subst P (sym (further_on ∙ aside)) (subst Q (sym (lines_other c cs e)) (stands_onto_first c (lines_of cs) at before))
    ]

pub IsPlace-coord_at : (text : List ℕ) (o : ℕ) → o < length text → IsPlace text (coord_at text o)
IsPlace-coord_at text o h = let s : StandsIn (lines_of text) (coord_at text o) = coord_at_stands text o h in record { on_line = s.0; in_line = s.1 }

-- a place or the end on an earlier line than another is a place
pub earlier_is_place : (text : List ℕ) (a b : Coord) → IsPlaceOrEnd text a → IsPlaceOrEnd text b → a.line < b.line → IsPlace text a
earlier_is_place text a b (inl h) k lt = h
earlier_is_place text a b (inr e) (inl k) lt = absurd (let el : a.line ≡ length (lines_of text) = ap (λ (x : Coord). x.line) e in omega (arith, k.on_line))
earlier_is_place text a b (inr e) (inr e') lt = absurd (let el : a.line ≡ length (lines_of text) = ap (λ (x : Coord). x.line) e in let el' : b.line ≡ length (lines_of text) = ap (λ (x : Coord). x.line) e' in omega arith)

-- three ways for two numbers
pub three_ways : (m n : ℕ) → (m < n) ⊎ ((m ≡ n) ⊎ (n < m))
three_ways m n = grind arith

-- a coordinate is determined by its offset
pub offset_determines : (text : List ℕ) (a b : Coord) → IsPlaceOrEnd text a → IsPlaceOrEnd text b → offset text a ≡ offset text b → a ≡ b
offset_determines text a b h k e =
    elim (three_ways a.line b.line) [
      | inl lt ↦ absurd (omega (arith, offset-earlier_line text a b (earlier_is_place text a b h k lt) lt))
      | inr w ↦ elim w [
        | inl same ↦ let s : length (joined (take a.line (lines_of text))) ≡ length (joined (take b.line (lines_of text))) = ap (λ n. length (joined (take n (lines_of text)))) same in same_coord a b same (omega arith)
        | inr gt ↦ absurd (omega (arith, offset-earlier_line text b a (earlier_is_place text b a k h gt) gt))
      ]
    ]

pub coord_at-offset : (text : List ℕ) (at : Coord) → IsPlace text at → coord_at text (offset text at) ≡ at
coord_at-offset text at h =
    let below : offset text at < length text = offset-below text at h in
    offset_determines text (coord_at text (offset text at)) at (inl (IsPlace-coord_at text (offset text at) below)) (inl h) (offset-coord_at text (offset text at) (omega arith))

-- over a line one comes to the begin of the next
pub reached-line : (at : Coord) (l : List ℕ) → IsLine l → reached at l ≡ record { line = at.line + 1; column = 0 }
reached-line at [] h = absurd (omega (arith, h.some))
reached-line at (c ∷ []) h = after-newline at c (eq-eqb c 10 h.ended)
reached-line at (c ∷ d ∷ ds) h =
    ap (λ t. reached t (d ∷ ds)) (after-other at c (ne_eqb c 10 (h.only 0 (omega arith)))) ∙ reached-line (record { line = at.line; column = at.column + 1 }) (d ∷ ds) (tail_is_line c d ds h)

pub reached-lines : (m : ℕ) (ls : List (List ℕ)) → All IsLine ls → reached (record { line = m; column = 0 }) (joined ls) ≡ record { line = m + length ls; column = 0 }
reached-lines m [] h = same_coord _ _ (omega arith) refl
reached-lines m (l ∷ ls) h =
    reached-append (record { line = m; column = 0 }) l (joined ls) ∙ ap (λ t. reached t (joined ls)) (reached-line (record { line = m; column = 0 }) l (All-head IsLine l ls h)) ∙ reached-lines (m + 1) ls (All-tail IsLine l ls h) ∙ same_coord _ _ (omega arith) refl

pub All-lines_of : (text : List ℕ) → IsText text → All IsLine (lines_of text)
All-lines_of text h = lines_are_lines text (λ _. h.ended)

pub nth_line_is_line : (text : List ℕ) (n : ℕ) → IsText text → n < length (lines_of text) → IsLine (get_or (lines_of text) n [])
nth_line_is_line text n h k = All-lines_of text h n [] k

pub coord_at-end : (text : List ℕ) → IsText text → coord_at text (length text) ≡ end_coord text
coord_at-end text h =
    let l : length text ≤ length text = omega arith in
    ap (reached origin) (take_all (length text) text l ∙ sym (joined-lines_of text)) ∙ reached-lines 0 (lines_of text) (All-lines_of text h) ∙ same_coord _ _ (omega arith) refl

-- the coordinate of any offset up to the length is a place or the end
pub IsPlaceOrEnd-coord_at : (text : List ℕ) (o : ℕ) → IsText text → o ≤ length text → IsPlaceOrEnd text (coord_at text o)
IsPlaceOrEnd-coord_at text o h k =
    elim (three_ways o (length text)) [
      | inl lt ↦ inl (IsPlace-coord_at text o lt)
      | inr w ↦ elim w [ inl e ↦ inr (ap (coord_at text) e ∙ coord_at-end text h) | inr gt ↦ absurd (omega arith) ]
    ]

pub coord_at-offset_or_end : (text : List ℕ) (at : Coord) → IsText text → IsPlaceOrEnd text at → coord_at text (offset text at) ≡ at
coord_at-offset_or_end text at h (inl p) = coord_at-offset text at p
coord_at-offset_or_end text at h (inr e) =
    ap (λ t. coord_at text (offset text t)) e ∙ ap (coord_at text) (offset-end text) ∙ coord_at-end text h ∙ sym e

pub offset-le : (text : List ℕ) (at : Coord) → IsPlaceOrEnd text at → offset text at ≤ length text
offset-le text at (inl p) = omega (arith, offset-below text at p)
offset-le text at (inr e) = let e' : offset text at ≡ length text = ap (offset text) e ∙ offset-end text in omega arith

-- a text has a line
pub some_lines : (text : List ℕ) → IsText text → 0 < length (lines_of text)
some_lines text h = let s : StandsIn (lines_of text) (coord_at text 0) = coord_at_stands text 0 h.some in omega arith

-- behind the last character of a line the next begins
pub offset-next_line : (text : List ℕ) (n c : ℕ) → n < length (lines_of text) → c + 1 ≡ length (get_or (lines_of text) n []) → offset text (record { line = n + 1; column = 0 }) ≡ offset text (record { line = n; column = c }) + 1
offset-next_line text n c h e = omega (arith, start-more (lines_of text) n h)

-- the order of coordinates is that of offsets
is_at_most-earlier : (a b : Coord) → a.line < b.line → is_at_most a b ≡ true
is_at_most-earlier a b h = ap (λ v. v || (eqb a.line b.line && leb a.column b.column)) (lt-ltb a.line b.line h)

is_at_most-same : (a b : Coord) → a.line ≡ b.line → is_at_most a b ≡ leb a.column b.column
is_at_most-same a b h =
    ap (λ v. v || (eqb a.line b.line && leb a.column b.column)) (le-ltb a.line b.line (omega arith)) ∙ ap (λ v. v && leb a.column b.column) (eq-eqb a.line b.line h)

is_at_most-later : (a b : Coord) → b.line < a.line → is_at_most a b ≡ false
is_at_most-later a b h =
    ap (λ v. v || (eqb a.line b.line && leb a.column b.column)) (le-ltb a.line b.line (omega arith)) ∙ ap (λ v. v && leb a.column b.column) (ne_eqb a.line b.line (λ e. omega arith))

pub leb_true : (m n : ℕ) → m ≤ n → leb m n ≡ true
leb_true m n h = le-leb m n h

pub leb_false : (m n : ℕ) → n < m → leb m n ≡ false
leb_false m n h = elim (test_cases (leb m n)) [ inl e ↦ absurd (omega (arith, leb-true m n e)) | inr e ↦ e ]

pub is_at_most-offset : (text : List ℕ) (a b : Coord) → IsPlaceOrEnd text a → IsPlaceOrEnd text b → is_at_most a b ≡ leb (offset text a) (offset text b)
is_at_most-offset text a b h k =
    elim (three_ways a.line b.line) [
      | inl lt ↦ is_at_most-earlier a b lt ∙ sym (leb_true (offset text a) (offset text b) (omega (arith, offset-earlier_line text a b (earlier_is_place text a b h k lt) lt)))
      | inr w ↦ elim w [
        | inl same ↦ is_at_most-same a b same ∙ on_one_line same
        | inr gt ↦ is_at_most-later a b gt ∙ sym (leb_false (offset text a) (offset text b) (offset-earlier_line text b a (earlier_is_place text b a k h gt) gt))
      ]
    ]
  where
    on_one_line : a.line ≡ b.line → leb a.column b.column ≡ leb (offset text a) (offset text b)
    on_one_line same =
        let s : length (joined (take a.line (lines_of text))) ≡ length (joined (take b.line (lines_of text))) = ap (λ n. length (joined (take n (lines_of text)))) same in
        elim (test_cases (leb a.column b.column)) [
          | inl e ↦ e ∙ sym (leb_true (offset text a) (offset text b) (omega (arith, leb-true a.column b.column e)))
          | inr e ↦ e ∙ sym (leb_false (offset text a) (offset text b) (omega (arith, leb-false a.column b.column e)))
        ]
