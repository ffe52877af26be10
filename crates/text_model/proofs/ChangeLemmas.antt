-- Lemmas on single changes: they make texts of texts, and each is taken back by its inverse.
use Rattle.std.proofs.Common.{◌≡◌, ℕ, ◌+◌, ◌-◌, ◌<◌, ◌≤◌, Bool, true, false, cond, not, ◌&&◌, eqb, ltb, List, [], ◌∷◌, ◌++◌, length, take, drop, get_or, refl, sym, ap, ap₂, subst, ◌∙◌, arith, append_assoc, append-nil, length-append, length-take-le, length-drop, take_at, drop_at, take-append-drop, get_or-take, get_or-drop, get_or-append-add, eq-eqb, ne_eqb, eqb-true, lt-ltb, ltb-true, ltb-false, inl, inr, ◌⊎◌}
use Rattle.std.proofs.lemmas.Bool.{eqb-false}
use Rattle.std.proofs.lemmas.List.{drop_all, drop_more, drop-drop}
use Rattle.text_model.specs.Texts.{IsText, ends_in_newline}
use Rattle.text_model.specs.Changes.{ended, put_in, inserted, begins_line, taken_end, erased, Change, Insertion, Erasure, changed, inverse, IsChangeInside, all_changed, insertion_of, insertion, erasure, front, exchange, replacement, move_of, IsChange}
use Rattle.text_model.proofs.CoordLemmas.{test_cases}
use Rattle.text_model.proofs.PlaceLemmas.{three_ways}

-- what ends in a text is a text
pub IsText-append : (xs ys : List ℕ) → IsText ys → IsText (xs ++ ys)
IsText-append xs ys h =
    let long : length (xs ++ ys) ≡ length xs + length ys = length-append xs ys in
    let at : length (xs ++ ys) - 1 ≡ length xs + (length ys - 1) = omega (arith, h.some) in
    record {
      some = omega (arith, h.some);
      ended = ap (λ n. get_or (xs ++ ys) n 0) at ∙ get_or-append-add xs ys (length ys - 1) 0 ∙ h.ended;
    }

pub IsText-drop : (text : List ℕ) (p : ℕ) → IsText text → p < length text → IsText (drop p text)
IsText-drop text p h lt =
    let long : length (drop p text) ≡ length text - p = length-drop p text in
    let at : p + (length (drop p text) - 1) ≡ length text - 1 = omega arith in
    record {
      some = omega arith;
      ended = get_or-drop p text (length (drop p text) - 1) 0 ∙ ap (λ n. get_or text n 0) at ∙ h.ended;
    }

-- characters that end in a newline are a text
pub ends_is_text : (s : List ℕ) → ends_in_newline s ≡ true → IsText s
ends_is_text [] h = absurd (omega (arith, eqb-true 0 10 h))
ends_is_text (c ∷ cs) h = record { some = omega arith; ended = eqb-true (get_or (c ∷ cs) (length (c ∷ cs) - 1) 0) 10 h }

pub text_ends : (s : List ℕ) → IsText s → ends_in_newline s ≡ true
text_ends s h = eq-eqb (get_or s (length s - 1) 0) 10 h.ended

newline_is_text : IsText (10 ∷ [])
newline_is_text = record { some = omega arith; ended = refl }

pub ended-text : (s : List ℕ) → ends_in_newline s ≡ true → ended s ≡ s
ended-text s e = ap (λ v. cond v s (s ++ 10 ∷ [])) e

pub ended-other : (s : List ℕ) → ends_in_newline s ≡ false → ended s ≡ s ++ 10 ∷ []
ended-other s e = ap (λ v. cond v s (s ++ 10 ∷ [])) e

pub IsText-ended : (s : List ℕ) → IsText (ended s)
IsText-ended s =
    elim (test_cases (ends_in_newline s)) [
      | inl e ↦ subst IsText (sym (ended-text s e)) (ends_is_text s e)
      | inr e ↦ subst IsText (sym (ended-other s e)) (IsText-append s (10 ∷ []) newline_is_text)
    ]

-- what is put in before the end, and at the end
pub put_in-inside : (text : List ℕ) (p : ℕ) (s : List ℕ) → p < length text → put_in text p s ≡ s
put_in-inside text p [] h = refl
put_in-inside text p (c ∷ cs) h = ap (λ v. cond v (ended (c ∷ cs)) (c ∷ cs)) (ne_eqb p (length text) (λ e. omega arith))

pub put_in-end : (text : List ℕ) (p : ℕ) (c : ℕ) (cs : List ℕ) → p ≡ length text → put_in text p (c ∷ cs) ≡ ended (c ∷ cs)
put_in-end text p c cs h = ap (λ v. cond v (ended (c ∷ cs)) (c ∷ cs)) (eq-eqb p (length text) h)

pub inserted-none : (text : List ℕ) (p : ℕ) → inserted text p [] ≡ text
inserted-none text p = take-append-drop p text

pub length-inserted : (text : List ℕ) (p : ℕ) (s : List ℕ) → p ≤ length text → length (inserted text p s) ≡ length text + length (put_in text p s)
length-inserted text p s h =
    omega (arith, length-append (take p text) (put_in text p s ++ drop p text), length-append (put_in text p s) (drop p text), length-take-le p text h, length-drop p text)

-- an insertion makes a text of a text
pub IsText-inserted : (text : List ℕ) (p : ℕ) (s : List ℕ) → IsText text → p ≤ length text → IsText (inserted text p s)
IsText-inserted text p [] h k = subst IsText (sym (inserted-none text p)) h
IsText-inserted text p (c ∷ cs) h k =
    elim (three_ways p (length text)) [
      | inl lt ↦ IsText-append (take p text) (put_in text p (c ∷ cs) ++ drop p text) (IsText-append (put_in text p (c ∷ cs)) (drop p text) (IsText-drop text p h lt))
      | inr w ↦ elim w [
        | inl e ↦ IsText-append (take p text) (put_in text p (c ∷ cs) ++ drop p text) (at_end e)
        | inr gt ↦ absurd (omega arith)
      ]
    ]
  where
    at_end : p ≡ length text → IsText (put_in text p (c ∷ cs) ++ drop p text)
    at_end e =
        let none : drop p text ≡ [] = drop_all p text (omega arith) in
        let whole : put_in text p (c ∷ cs) ++ drop p text ≡ ended (c ∷ cs) = ap (λ t. put_in text p (c ∷ cs) ++ t) none ∙ append-nil (put_in text p (c ∷ cs)) ∙ put_in-end text p c cs e in
        subst IsText (sym whole) (IsText-ended (c ∷ cs))

-- where a line begins stands a newline before
pub begins_line-newline : (text : List ℕ) (p : ℕ) → begins_line text p ≡ true → (0 < p) × (get_or text (p - 1) 0 ≡ 10)
begins_line-newline text p h =
    elim (test_cases (ltb 0 p)) [
      | inl e ↦ (ltb-true 0 p e, eqb-true (get_or text (p - 1) 0) 10 (sym (ap (λ v. v && eqb (get_or text (p - 1) 0) 10) e) ∙ h))
      | inr e ↦ let both : false ≡ true = sym (ap (λ v. v && eqb (get_or text (p - 1) 0) 10) e) ∙ h in cc
    ]

pub begins_line-end : (text : List ℕ) → IsText text → begins_line text (length text) ≡ true
begins_line-end text h =
    ap (λ v. v && eqb (get_or text (length text - 1) 0) 10) (lt-ltb 0 (length text) h.some) ∙ eq-eqb (get_or text (length text - 1) 0) 10 h.ended

-- the two values of where an erasure ends
pub taken_end_cases : (text : List ℕ) (p q : ℕ) → ((taken_end text p q ≡ q) × ((q ≡ length text) → begins_line text p ≡ true)) ⊎ ((taken_end text p q ≡ q - 1) × (q ≡ length text) × (begins_line text p ≡ false))
taken_end_cases text p q =
    elim (test_cases (eqb q (length text))) [
      | inl e ↦ elim (test_cases (begins_line text p)) [
        | inl b ↦ inl (ap₂ (λ v w. cond (v && not w) (q - 1) q) e b, λ _. b)
        | inr b ↦ inr (ap₂ (λ v w. cond (v && not w) (q - 1) q) e b, eqb-true q (length text) e, b)
      ]
      | inr e ↦ inl (ap (λ v. cond (v && not (begins_line text p)) (q - 1) q) e, λ l. absurd (eqb-false q (length text) e l))
    ]

-- what is taken lies in the range
pub taken_end-within : (text : List ℕ) (p q : ℕ) → IsText text → p ≤ q → q ≤ length text → (p ≤ taken_end text p q) × (taken_end text p q ≤ q)
taken_end-within text p q h k l =
    elim (taken_end_cases text p q) [
      | inl w ↦ (omega (arith, w.0), omega (arith, w.0))
      | inr w ↦ (below w.0 w.1 w.2, omega (arith, w.0))
    ]
  where
    below : taken_end text p q ≡ q - 1 → q ≡ length text → begins_line text p ≡ false → p ≤ taken_end text p q
    below e at b =
        elim (three_ways p q) [
          | inl lt ↦ omega arith
          | inr w ↦ elim w [
            | inl same ↦ absurd (let both : true ≡ false = sym (ap (begins_line text) (same ∙ at) ∙ begins_line-end text h) ∙ b in cc)
            | inr gt ↦ absurd (omega arith)
          ]
        ]

-- an erasure makes a text of a text
pub IsText-erased : (text : List ℕ) (p q : ℕ) → IsText text → p ≤ q → q ≤ length text → IsText (erased text p q)
IsText-erased text p q h k l =
    let within : (p ≤ taken_end text p q) × (taken_end text p q ≤ q) = taken_end-within text p q h k l in
    elim (three_ways (taken_end text p q) (length text)) [
      | inl lt ↦ IsText-append (take p text) (drop (taken_end text p q) text) (IsText-drop text (taken_end text p q) h lt)
      | inr w ↦ elim w [
        | inl e ↦ to_end within e
        | inr gt ↦ absurd (omega arith)
      ]
    ]
  where
    to_end : (p ≤ taken_end text p q) × (taken_end text p q ≤ q) → taken_end text p q ≡ length text → IsText (erased text p q)
    to_end within e =
        elim (taken_end_cases text p q) [
          | inl w ↦ (let at : (0 < p) × (get_or text (p - 1) 0 ≡ 10) = begins_line-newline text p (w.1 (omega (arith, w.0))) in
              let none : drop (taken_end text p q) text ≡ [] = drop_all (taken_end text p q) text (omega arith) in
              let whole : erased text p q ≡ take p text = ap (λ t. take p text ++ t) none ∙ append-nil (take p text) in
              let long : length (take p text) ≡ p = length-take-le p text (omega arith) in
              let text_before : IsText (take p text) = record {
                some = omega arith;
                ended = ap (λ n. get_or (take p text) (n - 1) 0) long ∙ get_or-take p text (p - 1) 0 (omega arith) ∙ at.1;
              } in
              subst IsText (sym whole) text_before)
          | inr w ↦ absurd (omega (arith, w.0, w.1, h.some))
        ]

-- a change and then its inverse give the old text
pub changed-inverse : (text : List ℕ) (c : Change) → IsChangeInside text c → changed (changed text c) (inverse text c) ≡ text
changed-inverse text (Insertion p s) h =
    let long : length (take p text) ≡ p = length-take-le p text h in
    let before : take p (take p text ++ (s ++ drop p text)) ≡ take p text = take_at (take p text) (s ++ drop p text) p long in
    let behind : drop (p + length s) (take p text ++ (s ++ drop p text)) ≡ drop p text =
    ap (drop (p + length s)) (sym (append_assoc (take p text) s (drop p text))) ∙ drop_at (take p text ++ s) (drop p text) (p + length s) (length-append (take p text) s ∙ ap (λ n. n + length s) long) in
    ap₂ (λ x y. x ++ y) before behind ∙ take-append-drop p text
changed-inverse text (Erasure p q) h =
    let short : p ≤ length text = omega (arith, h.0, h.1) in
    let long : length (take p text) ≡ p = length-take-le p text short in
    let before : take p (take p text ++ drop q text) ≡ take p text = take_at (take p text) (drop q text) p long in
    let behind : drop p (take p text ++ drop q text) ≡ drop q text = drop_at (take p text) (drop q text) p long in
    let sum : p + (q - p) ≡ q = omega (arith, h.0) in
    let rest : drop q text ≡ drop (q - p) (drop p text) = ap (λ n. drop n text) (sym sum) ∙ sym (drop-drop (q - p) p text) in
    ap₂ (λ x y. x ++ (take (q - p) (drop p text) ++ y)) before (behind ∙ rest) ∙ ap (λ t. take p text ++ t) (take-append-drop (q - p) (drop p text)) ∙ take-append-drop p text

pub length-changed_insertion : (text : List ℕ) (p : ℕ) (s : List ℕ) → p ≤ length text → length (changed text (Insertion p s)) ≡ length text + length s
length-changed_insertion text p s h =
    omega (arith, length-append (take p text) (s ++ drop p text), length-append s (drop p text), length-take-le p text h, length-drop p text)

pub length-changed_erasure : (text : List ℕ) (p q : ℕ) → p ≤ q → q ≤ length text → length (changed text (Erasure p q)) + (q - p) ≡ length text
length-changed_erasure text p q h k =
    let short : p ≤ length text = omega arith in
    omega (arith, length-append (take p text) (drop q text), length-take-le p text short, length-drop q text)

-- the inverse lies inside the new text
pub IsInside-inverse : (text : List ℕ) (c : Change) → IsChangeInside text c → IsChangeInside (changed text c) (inverse text c)
IsInside-inverse text (Insertion p s) h = (omega arith, omega (arith, length-changed_insertion text p s h))
IsInside-inverse text (Erasure p q) h = omega (arith, length-changed_erasure text p q h.0 h.1, h.0, h.1)

-- the offsets of a change describe it
pub move_of-change : (text : List ℕ) (c : Change) → IsChangeInside text c → IsChange (move_of text c).insert text (changed text c) (move_of text c).begin (move_of text c).end
move_of-change text (Insertion p s) h = record {
  ordered = omega arith;
  within = omega (arith, length-changed_insertion text p s h);
  short_is = sym (changed-inverse text (Insertion p s) h);
}
move_of-change text (Erasure p q) h = record { ordered = h.0; within = h.1; short_is = refl }

-- changes of one list are those of its parts
pub all_changed-append : (text : List ℕ) (cs ds : List Change) → all_changed text (cs ++ ds) ≡ all_changed (all_changed text cs) ds
all_changed-append text [] ds = refl
all_changed-append text (c ∷ cs) ds = all_changed-append (changed text c) cs ds

insertion_of-changes : (text : List ℕ) (p : ℕ) (s : List ℕ) → all_changed text (insertion_of p s) ≡ take p text ++ (s ++ drop p text)
insertion_of-changes text p [] = sym (take-append-drop p text)
insertion_of-changes text p (c ∷ cs) = refl

pub insertion-changes : (text : List ℕ) (p : ℕ) (s : List ℕ) → all_changed text (insertion text p s) ≡ inserted text p s
insertion-changes text p s = insertion_of-changes text p (put_in text p s)

pub erasure-changes : (text : List ℕ) (p q : ℕ) → IsText text → p ≤ q → q ≤ length text → all_changed text (erasure text p q) ≡ erased text p q
erasure-changes text p q h k l =
    let e : ℕ = taken_end text p q in
    let within : (p ≤ e) × (e ≤ q) = taken_end-within text p q h k l in
    let P : Bool → List ℕ = λ v. all_changed text (cond v (Erasure p e ∷ []) []) in
    elim (test_cases (ltb p e)) [
      | inl t ↦ ap P t
      | inr t ↦ let same : p ≡ e = omega (arith, ltb-false p e t) in
          ap P t ∙ sym (take-append-drop p text) ∙ ap (λ n. take p text ++ drop n text) same
    ]

-- an exchange erases, and then inserts at the place
pub exchange-changes : (text : List ℕ) (p q : ℕ) (s : List ℕ) → IsText text → p ≤ q → q ≤ length text → all_changed text (exchange text p q s) ≡ inserted (erased text p q) p s
exchange-changes text p q s h k l =
    all_changed-append text (erasure text p q) (insertion (erased text p q) p s) ∙ ap (λ t. all_changed t (insertion (erased text p q) p s)) (erasure-changes text p q h k l) ∙ insertion-changes (erased text p q) p s

-- an erasure before the end takes the whole range
pub taken_end-inside : (text : List ℕ) (p q : ℕ) → q < length text → taken_end text p q ≡ q
taken_end-inside text p q h = ap (λ v. cond (v && not (begins_line text p)) (q - 1) q) (ne_eqb q (length text) (λ e. omega arith))

-- a replacement is an exchange, except where a newline at the end would be taken and put back
pub replacement-plain : (text : List ℕ) (p q : ℕ) (s : List ℕ) → ltb p q && (eqb q (length text) && ends_in_newline s) ≡ false → replacement text p q s ≡ exchange text p q s
replacement-plain text p q s e = ap (λ v. cond v (exchange text p (q - 1) (front s)) (exchange text p q s)) e

pub replacement-kept : (text : List ℕ) (p q : ℕ) (s : List ℕ) → p < q → q ≡ length text → ends_in_newline s ≡ true → replacement text p q s ≡ exchange text p (q - 1) (front s)
replacement-kept text p q s h e t =
    ap (λ v. cond (v && (eqb q (length text) && ends_in_newline s)) (exchange text p (q - 1) (front s)) (exchange text p q s)) (lt-ltb p q h) ∙ ap₂ (λ v w. cond (v && w) (exchange text p (q - 1) (front s)) (exchange text p q s)) (eq-eqb q (length text) e) t

-- a replacement inside the text has the characters in place of the range
pub replacement-inside : (text : List ℕ) (p q : ℕ) (s : List ℕ) → IsText text → p ≤ q → q < length text → all_changed text (replacement text p q s) ≡ take p text ++ (s ++ drop q text)
replacement-inside text p q s h k l =
    let plain : replacement text p q s ≡ exchange text p q s = replacement-plain text p q s (not_last (test_cases (ltb p q))) in
    let cut : erased text p q ≡ take p text ++ drop q text = ap (λ n. take p text ++ drop n text) (taken_end-inside text p q l) in
    ap (all_changed text) plain ∙ exchange-changes text p q s h k (omega arith) ∙ ap (λ t. inserted t p s) cut ∙ put_before
  where
    not_last : (ltb p q ≡ true) ⊎ (ltb p q ≡ false) → ltb p q && (eqb q (length text) && ends_in_newline s) ≡ false
    not_last (inl e) = ap₂ (λ v w. v && (w && ends_in_newline s)) e (ne_eqb q (length text) (λ e. omega arith))
    not_last (inr e) = ap (λ v. v && (eqb q (length text) && ends_in_newline s)) e

    put_before : inserted (take p text ++ drop q text) p s ≡ take p text ++ (s ++ drop q text)
    put_before =
        let short : p ≤ length text = omega arith in
        let long : length (take p text) ≡ p = length-take-le p text short in
        let inside : p < length (take p text ++ drop q text) = omega (arith, length-append (take p text) (drop q text), length-drop q text) in
        ap₂ (λ x y. x ++ (put_in (take p text ++ drop q text) p s ++ y)) (take_at (take p text) (drop q text) p long) (drop_at (take p text) (drop q text) p long) ∙ ap (λ t. take p text ++ (t ++ drop q text)) (put_in-inside (take p text ++ drop q text) p s inside)

-- a replacement of the text's end by characters that end in a newline has them there
pub replacement-to_end : (text : List ℕ) (p : ℕ) (s : List ℕ) → IsText text → p < length text → ends_in_newline s ≡ true → all_changed text (replacement text p (length text) s) ≡ take p text ++ s
replacement-to_end text p s h lt t =
    let q : ℕ = length text - 1 in
    let k : p ≤ q = omega arith in
    let l : q < length text = omega (arith, h.some) in
    let kept : replacement text p (length text) s ≡ exchange text p q (front s) = replacement-kept text p (length text) s lt refl t in
    let plain : replacement text p q (front s) ≡ exchange text p q (front s) = replacement-plain text p q (front s) (not_last (test_cases (ltb p q))) in
    ap (all_changed text) (kept ∙ sym plain) ∙ replacement-inside text p q (front s) h k l ∙ ap (λ x. take p text ++ x) (ap (λ x. front s ++ x) (last_newline text h) ∙ sym (front_and_newline s (ends_is_text s t)))
  where
    not_last : (ltb p (length text - 1) ≡ true) ⊎ (ltb p (length text - 1) ≡ false) → ltb p (length text - 1) && (eqb (length text - 1) (length text) && ends_in_newline (front s)) ≡ false
    not_last (inl e) = ap₂ (λ v w. v && (w && ends_in_newline (front s))) e (ne_eqb (length text - 1) (length text) (λ e. omega (arith, h.some)))
    not_last (inr e) = ap (λ v. v && (eqb (length text - 1) (length text) && ends_in_newline (front s))) e

    last_newline : (xs : List ℕ) → IsText xs → drop (length xs - 1) xs ≡ 10 ∷ []
    last_newline xs k =
        let below : length xs - 1 < length xs = omega (arith, k.some) in
        let up : length xs - 1 + 1 ≡ length xs = omega (arith, k.some) in
        drop_more xs (length xs - 1) 0 below ∙ ap₂ (λ c ys. c ∷ ys) k.ended (drop_all (length xs - 1 + 1) xs (omega arith))

    front_and_newline : (xs : List ℕ) → IsText xs → xs ≡ front xs ++ 10 ∷ []
    front_and_newline xs k = sym (take-append-drop (length xs - 1) xs) ∙ ap (λ x. front xs ++ x) (last_newline xs k)

-- a change that is an insertion one way is an erasure the other way
pub IsChange-back : (insert : Bool) (old new : List ℕ) (b e : ℕ) → IsChange insert old new b e → IsChange (not insert) new old b e
IsChange-back true old new b e h = h
IsChange-back false old new b e h = h
