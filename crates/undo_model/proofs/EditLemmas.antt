-- Lemmas on edits: their single changes are steps.
use Rattle.std.proofs.Common.{◌≡◌, ℕ, ◌+◌, ◌-◌, ◌<◌, ◌≤◌, Bool, true, false, cond, ◌&&◌, ◌||◌, eqb, ltb, List, [], ◌∷◌, ◌++◌, length, take, drop, sym, ap, ap₂, subst, ◌∙◌, arith, inl, inr, ◌⊎◌, ltb-true, ltb-false, length-append, length-take-le}
use Rattle.text_model.specs.declared.TheConstants.{MAX_CHARS}
use Rattle.text_model.specs.Texts.{IsStored, ends_in_newline}
use Rattle.text_model.specs.Changes.{Change, Erasure, all_changed, put_in, inserted, taken_end, erased, insertion_of, insertion, erasure, front, exchange, replacement}
use Rattle.text_model.proofs.CoordLemmas.{test_cases}
use Rattle.text_model.proofs.ChangeLemmas.{IsText-inserted, IsText-erased, taken_end-within, length-changed_erasure, erasure-changes, exchange-changes}
use Rattle.undo_model.specs.Steps.{IsStep, AreSteps}
use Rattle.undo_model.specs.Edits.{Splice, AreInOrder, splice_changes, edit_changes, is_too_long}
use Rattle.undo_model.proofs.StepLemmas.{steps-append, steps-stored}

-- an erasure
erasure-steps : (text : List ℕ) (p q : ℕ) → IsStored text → p ≤ q → q ≤ length text → AreSteps text (erasure text p q)
erasure-steps text p q h k l =
    let e : ℕ = taken_end text p q in
    let within : (p ≤ e) × (e ≤ q) = taken_end-within text p q h.is_text k l in
    let P : Bool → Type 0 = λ v. AreSteps text (cond v (Erasure p e ∷ []) []) in
    elim (test_cases (ltb p e)) [
      | inl t ↦ (let lt : p < e = ltb-true p e t in
          let step : IsStep text (Erasure p e) = record {
            inside = (within.0, omega (arith, within.1));
            some = omega arith;
            stored = record { is_text = IsText-erased text p q h.is_text k l; small = omega (arith, length-changed_erasure text p e within.0 (omega (arith, within.1)), h.small) };
          } in
          subst P (sym t) (step, tt))
      | inr t ↦ subst P (sym t) tt
    ]

-- an insertion of what is really put in
insertion_of-steps : (text : List ℕ) (p : ℕ) (s : List ℕ) → p ≤ length text → IsStored (take p text ++ (s ++ drop p text)) → AreSteps text (insertion_of p s)
insertion_of-steps text p [] h k = tt
insertion_of-steps text p (c ∷ cs) h k = (record { inside = h; some = omega arith; stored = k }, tt)

-- an exchange whose text isn't too long
exchange-steps : (text : List ℕ) (p q : ℕ) (s : List ℕ) → IsStored text → p ≤ q → q ≤ length text → length (all_changed text (exchange text p q s)) ≤ MAX_CHARS → AreSteps text (exchange text p q s)
exchange-steps text p q s h k l small =
    let first : AreSteps text (erasure text p q) = erasure-steps text p q h k l in
    let same : all_changed text (erasure text p q) ≡ erased text p q = erasure-changes text p q h.is_text k l in
    let between : IsStored (erased text p q) = subst IsStored same (steps-stored text (erasure text p q) h first) in
    let within : (p ≤ taken_end text p q) × (taken_end text p q ≤ q) = taken_end-within text p q h.is_text k l in
    let inside : p ≤ length (erased text p q) = omega (arith, length-append (take p text) (drop (taken_end text p q) text), length-take-le p text (omega arith)) in
    let all : all_changed text (exchange text p q s) ≡ inserted (erased text p q) p s = exchange-changes text p q s h.is_text k l in
    let last : IsStored (inserted (erased text p q) p s) = record { is_text = IsText-inserted (erased text p q) p s between.is_text inside; small = omega (arith, ap length all) } in
    let P : List ℕ → Type 0 = λ t. AreSteps t (insertion (erased text p q) p s) in
    steps-append text (erasure text p q) (insertion (erased text p q) p s) first (subst P (sym same) (insertion_of-steps (erased text p q) p (put_in (erased text p q) p s) inside last))

-- a replacement whose text isn't too long
replacement-steps : (text : List ℕ) (p q : ℕ) (s : List ℕ) → IsStored text → p ≤ q → q ≤ length text → length (all_changed text (replacement text p q s)) ≤ MAX_CHARS → AreSteps text (replacement text p q s)
replacement-steps text p q s h k l small =
    let P : List Change → Type 0 = λ cs. AreSteps text cs in
    elim (test_cases (ltb p q)) [
      | inl e ↦ elim (test_cases (eqb q (length text) && ends_in_newline s)) [
        | inl f ↦ (let is : replacement text p q s ≡ exchange text p (q - 1) (front s) = ap₂ (λ v w. cond (v && w) (exchange text p (q - 1) (front s)) (exchange text p q s)) e f in
            let lt : p < q = ltb-true p q e in
            subst P (sym is) (exchange-steps text p (q - 1) (front s) h (omega arith) (omega arith) (omega (arith, ap (λ cs. length (all_changed text cs)) is))))
        | inr f ↦ (let is : replacement text p q s ≡ exchange text p q s = ap₂ (λ v w. cond (v && w) (exchange text p (q - 1) (front s)) (exchange text p q s)) e f in
            subst P (sym is) (exchange-steps text p q s h k l (omega (arith, ap (λ cs. length (all_changed text cs)) is))))
      ]
      | inr e ↦ (let is : replacement text p q s ≡ exchange text p q s = ap (λ v. cond (v && (eqb q (length text) && ends_in_newline s)) (exchange text p (q - 1) (front s)) (exchange text p q s)) e in
          subst P (sym is) (exchange-steps text p q s h k l (omega (arith, ap (λ cs. length (all_changed text cs)) is))))
    ]

-- the replacements that are left of an edit
pub edit-steps : (before : ℕ) (text : List ℕ) (from : ℕ) (splices : List Splice) → IsStored text → AreInOrder from before splices → is_too_long before text splices ≡ false → AreSteps text (edit_changes before text splices)
edit-steps before text from [] h k small = tt
edit-steps before text from (s ∷ ss) h k small =
    let cs : List Change = splice_changes before text s in
    let inside : s.to ≤ before = within s.to ss k.2 in
    let one : AreSteps text cs = replacement-steps text (s.from + length text - before) (s.to + length text - before) s.put h (omega (arith, k.1)) (omega arith) (short (test_cases (ltb MAX_CHARS (length (all_changed text cs))))) in
    steps-append text cs (edit_changes before (all_changed text cs) ss) one (edit-steps before (all_changed text cs) s.to ss (steps-stored text cs h one) k.2 (rest (test_cases (ltb MAX_CHARS (length (all_changed text cs))))))
  where
    within : (from : ℕ) (ss : List Splice) → AreInOrder from before ss → from ≤ before
    within from [] k = k
    within from (t ∷ ts) k = omega (arith, k.0, k.1, within t.to ts k.2)

    short : (ltb MAX_CHARS (length (all_changed text (splice_changes before text s))) ≡ true) ⊎ (ltb MAX_CHARS (length (all_changed text (splice_changes before text s))) ≡ false) → length (all_changed text (splice_changes before text s)) ≤ MAX_CHARS
    short (inl e) = absurd (let both : true ≡ false = sym (ap (λ v. v || is_too_long before (all_changed text (splice_changes before text s)) ss) e) ∙ small in cc)
    short (inr e) = ltb-false MAX_CHARS (length (all_changed text (splice_changes before text s))) e

    rest : (ltb MAX_CHARS (length (all_changed text (splice_changes before text s))) ≡ true) ⊎ (ltb MAX_CHARS (length (all_changed text (splice_changes before text s))) ≡ false) → is_too_long before (all_changed text (splice_changes before text s)) ss ≡ false
    rest (inl e) = absurd (let both : true ≡ false = sym (ap (λ v. v || is_too_long before (all_changed text (splice_changes before text s)) ss) e) ∙ small in cc)
    rest (inr e) = sym (ap (λ v. v || is_too_long before (all_changed text (splice_changes before text s)) ss) e) ∙ small
