-- The parts of a text between newlines, one after another, and texts that are the same.
use Rattle.std.proofs.Common.{◌≡◌, ℕ, suc, ◌+◌, ◌-◌, ◌<◌, ◌≤◌, Bool, true, false, ◌&&◌, eqb, List, [], ◌∷◌, ◌++◌, length, map, take, drop, get_or, slice_range, refl, sym, ap, ap₂, ◌∙◌, arith, append_assoc, append-nil, length-drop, eq-eqb}
use Rattle.std.specs.Prelude.{if◌then◌else◌}
use Rattle.std.specs.Str.{bytes_eq}
use Rattle.std.proofs.Math.Seq.{drop-cons}
use Rattle.std.proofs.lemmas.List.{drop_all, take_more, get_or-drop}
use Rattle.kak_faces.specs.declared.face.Face.{Face}
use Rattle.drawings.specs.declared.drawing.DrawnLine.{DrawnLine}
use Rattle.draw_model.specs.Boxes.{with_first, parts, line_in}

-- characters before the first of some parts
abbrev pub with_front : List ℕ → List (List ℕ) → List (List ℕ)
with_front front [] = front ∷ []
with_front front (p ∷ ps) = (front ++ p) ∷ ps

-- there is always a part
parts-some : (text : List ℕ) → with_front [] (parts text) ≡ parts text
parts-some [] = refl
parts-some (c ∷ cs) = choose (eqb c 10) (parts cs)
  where
    choose : (t : Bool) (ps : List (List ℕ)) → with_front [] (if t then [] ∷ ps else with_first c ps) ≡ (if t then [] ∷ ps else with_first c ps)
    choose true ps = refl
    choose false [] = refl
    choose false (p ∷ ps) = refl

front-first : (front : List ℕ) (c : ℕ) (ps : List (List ℕ)) → with_front front (with_first c ps) ≡ with_front (front ++ c ∷ []) ps
front-first front c [] = refl
front-first front c (p ∷ ps) = ap (λ x. x ∷ ps) (sym (append_assoc front (c ∷ []) p))

-- one more character between two places
slice-one-more : (text : List ℕ) (from i d : ℕ) → from ≤ i → i < length text → slice_range text from (i + 1) ≡ slice_range text from i ++ get_or text i d ∷ []
slice-one-more text from i d h k =
    let n : i + 1 - from ≡ i - from + 1 = omega (arith, h) in
    let at : from + (i - from) ≡ i = omega (arith, h) in
    ap (λ m. take m (drop from text)) n ∙ take_more (drop from text) (i - from) d (omega (arith, length-drop from text, h, k))
    ∙ ap (λ x. slice_range text from i ++ x ∷ []) (get_or-drop from text (i - from) d ∙ ap (λ m. get_or text m d) at)

-- the lines of the parts before a place are made, and the part that is there began at another one
pub record ArePartsMade (face : Face) (text : List ℕ) (lines : List DrawnLine) (from i : ℕ) : Type 0 where
  pub ordered : from ≤ i
  pub inside : i ≤ length text
  pub made : lines ++ map (line_in face) (with_front (slice_range text from i) (parts (drop i text))) ≡ map (line_in face) (parts text)

module _ (face : Face) (text : List ℕ) where
  pub parts-none : (lines : List DrawnLine) → lines ≡ [] → ArePartsMade face text lines 0 0
  parts-none lines e = record {
    ordered = omega arith;
    inside = omega arith;
    made = ap (λ l. l ++ map (line_in face) (with_front [] (parts text))) e ∙ ap (map (line_in face)) (parts-some text);
  }

  -- a newline ends a part
  pub parts-end : (lines new : List DrawnLine) (from i : ℕ) (line : DrawnLine) → ArePartsMade face text lines from i → i < length text → get_or text i 0 ≡ 10 → line ≡ line_in face (slice_range text from i)
      → new ≡ lines ++ line ∷ [] → ArePartsMade face text new (i + 1) (i + 1)
  parts-end lines new from i line p h e s n = record {
    ordered = omega arith;
    inside = omega (arith, h);
    made =
        ap₂ (λ l f. l ++ map (line_in face) (with_front f (parts (drop (i + 1) text)))) n none
        ∙ ap (λ ps. (lines ++ line ∷ []) ++ map (line_in face) ps) (parts-some (drop (i + 1) text))
        ∙ append_assoc lines (line ∷ []) (map (line_in face) (parts (drop (i + 1) text)))
        ∙ ap (λ l. lines ++ l ∷ map (line_in face) (parts (drop (i + 1) text))) (s ∙ ap (line_in face) (sym (append-nil (slice_range text from i))))
        ∙ ap (λ ps. lines ++ map (line_in face) (with_front (slice_range text from i) ps)) (sym here)
        ∙ p.made;
  }
    where
      none : slice_range text (i + 1) (i + 1) ≡ []
      none = let z : i + 1 - (i + 1) ≡ 0 = omega arith in ap (λ k. take k (drop (i + 1) text)) z

      here : parts (drop i text) ≡ [] ∷ parts (drop (i + 1) text)
      here =
          let one : suc i ≡ i + 1 = omega arith in
          ap parts (drop-cons text i 0 h) ∙ ap (λ t. if t then [] ∷ parts (drop (suc i) text) else with_first (get_or text i 0) (parts (drop (suc i) text))) (eq-eqb (get_or text i 0) 10 e)
          ∙ ap (λ k. [] ∷ parts (drop k text)) one

  -- another character belongs to it
  pub parts-more : (lines : List DrawnLine) (from i : ℕ) → ArePartsMade face text lines from i → i < length text → eqb (get_or text i 0) 10 ≡ false → ArePartsMade face text lines from (i + 1)
  parts-more lines from i p h e = record {
    ordered = omega (arith, p.ordered);
    inside = omega (arith, h);
    made = ap (λ ps. lines ++ map (line_in face) ps) (sym same) ∙ p.made;
  }
    where
      here : parts (drop i text) ≡ with_first (get_or text i 0) (parts (drop (i + 1) text))
      here =
          let one : suc i ≡ i + 1 = omega arith in
          ap parts (drop-cons text i 0 h) ∙ ap (λ t. if t then [] ∷ parts (drop (suc i) text) else with_first (get_or text i 0) (parts (drop (suc i) text))) e
          ∙ ap (λ k. with_first (get_or text i 0) (parts (drop k text))) one

      same : with_front (slice_range text from i) (parts (drop i text)) ≡ with_front (slice_range text from (i + 1)) (parts (drop (i + 1) text))
      same =
          ap (with_front (slice_range text from i)) here
          ∙ front-first (slice_range text from i) (get_or text i 0) (parts (drop (i + 1) text))
          ∙ ap (λ f. with_front f (parts (drop (i + 1) text))) (sym (slice-one-more text from i 0 p.ordered h))

  -- the last part
  pub parts-last : (lines new : List DrawnLine) (from i : ℕ) (line : DrawnLine) → ArePartsMade face text lines from i → length text ≤ i → line ≡ line_in face (slice_range text from (length text)) → new ≡ lines ++ line ∷ []
      → new ≡ map (line_in face) (parts text)
  parts-last lines new from i line p h s n =
      let all : i ≡ length text = omega (arith, h, p.inside) in
      n
      ∙ ap (λ l. lines ++ l ∷ []) (s ∙ ap (line_in face) (ap (slice_range text from) (sym all) ∙ sym (append-nil (slice_range text from i))))
      ∙ ap (λ r. lines ++ map (line_in face) (with_front (slice_range text from i) (parts r))) (sym (drop_all i text h))
      ∙ p.made

-- texts of one length are compared from their begins
pub same-more : (a b : List ℕ) (i : ℕ) → i < length a → i < length b → eqb (get_or a i 0) (get_or b i 0) ≡ true → bytes_eq (drop (i + 1) a) (drop (i + 1) b) ≡ bytes_eq (drop i a) (drop i b)
same-more a b i h k e =
    let one : suc i ≡ i + 1 = omega arith in
    sym (ap₂ bytes_eq (drop-cons a i 0 h) (drop-cons b i 0 k) ∙ ap (λ t. t && bytes_eq (drop (suc i) a) (drop (suc i) b)) e ∙ ap (λ n. bytes_eq (drop n a) (drop n b)) one)

pub same-not : (a b : List ℕ) (i : ℕ) → i < length a → i < length b → eqb (get_or a i 0) (get_or b i 0) ≡ false → bytes_eq (drop i a) (drop i b) ≡ false
same-not a b i h k e =
    ap₂ bytes_eq (drop-cons a i 0 h) (drop-cons b i 0 k) ∙ ap (λ t. t && bytes_eq (drop (suc i) a) (drop (suc i) b)) e

pub same-all : (a b : List ℕ) (i : ℕ) → length a ≤ i → length b ≤ i → bytes_eq (drop i a) (drop i b) ≡ true
same-all a b i h k = ap₂ bytes_eq (drop_all i a h) (drop_all i b k)

pub same-length : (a b : List ℕ) → (length a ≡ length b → ⊥) → bytes_eq a b ≡ false
same-length [] [] h = absurd (h refl)
same-length [] (y ∷ b) h = refl
same-length (x ∷ a) [] h = refl
same-length (x ∷ a) (y ∷ b) h = both (eqb x y) (same-length a b (λ e. h (ap suc e)))
  where
    both : (t : Bool) → bytes_eq a b ≡ false → (t && bytes_eq a b) ≡ false
    both true e = e
    both false e = refl
