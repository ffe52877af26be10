-- How many brackets stand open, and the counts of both kinds.
use Rattle.std.proofs.Common.{◌≡◌, ◌≢◌, ℕ, suc, ◌+◌, ◌-◌, ◌<◌, ◌≤◌, true, false, cond, if◌then◌else◌, eqb, List, [], ◌∷◌, ◌++◌, length, get_or, take, drop, refl, sym, ap, ap₂, subst, subst₂, ◌∙◌, arith, inl, inr, eq-eqb, ne_eqb, eqb-true, add-one}
use Rattle.std.specs.Prelude.{◌==◌, count_by, slice_range}
use Rattle.std.proofs.Math.Seq.{drop-cons}
use Rattle.std.proofs.lemmas.List.{take_more, get_or-drop, length-drop}
use Rattle.std.proofs.lemmas.List.Sums.{sum_by-append}
use Rattle.text_model.proofs.CoordLemmas.{test_cases}
use Rattle.motion_keys.specs.Jumps.{are_even}

-- how many times a character stands in a list
abbrev pub times : ℕ → List ℕ → ℕ
times a xs = count_by (λ c. c == a) xs

-- so many are open: of the one kind there are so many more
abbrev pub IsOpen : ℕ → ℕ → List ℕ → ℕ → Type 0
IsOpen own other xs depth = times other xs + depth ≡ times own xs

-- how many are open after a character
abbrev pub depth_by : ℕ → ℕ → ℕ → ℕ → ℕ
depth_by depth c own other = if c == own then depth + 1 else (if c == other then depth - 1 else depth)

-- how many times it is there as one character
pub one : ℕ → ℕ → ℕ
one a c = cond (eqb c a) 1 0

pub one-same : (a c : ℕ) → eqb c a ≡ true → one a c ≡ 1
unfolding one
one-same a c e = ap (λ b. cond b 1 0) e

pub one-other : (a c : ℕ) → eqb c a ≡ false → one a c ≡ 0
unfolding one
one-other a c e = ap (λ b. cond b 1 0) e

times-behind : (a c : ℕ) (xs : List ℕ) → times a (xs ++ c ∷ []) ≡ times a xs + one a c
unfolding one
times-behind a c xs = sum_by-append (λ x. cond (eqb x a) 1 0) xs (c ∷ []) ∙ omega arith

pub times-before : (a c : ℕ) (xs : List ℕ) → times a (c ∷ xs) ≡ times a xs + one a c
unfolding one
times-before a c xs = sum_by-append (λ x. cond (eqb x a) 1 0) (c ∷ []) xs ∙ omega arith

depth-step : (own other c depth m n : ℕ) → own ≢ other → 0 < depth → m + depth ≡ n → (m + one other c) + depth_by depth c own other ≡ n + one own c
depth-step own other c depth m n apart some h =
    elim (test_cases (eqb c own)) [
      | inl e ↦ (let is : c ≡ own = eqb-true c own e in
          let d : depth_by depth c own other ≡ depth + 1 = ap (λ b. if b then depth + 1 else (if eqb c other then depth - 1 else depth)) e in
          let k : one other c ≡ 0 = one-other other c (ne_eqb c other (λ f. apart (sym is ∙ f))) in
          omega (arith, one-same own c e))
      | inr e ↦ elim (test_cases (eqb c other)) [
        | inl f ↦ (let d : depth_by depth c own other ≡ depth - 1 = ap (λ b. if b then depth + 1 else (if eqb c other then depth - 1 else depth)) e ∙ ap (λ b. if b then depth - 1 else depth) f in
            omega (arith, one-other own c e, one-same other c f))
        | inr f ↦ (let d : depth_by depth c own other ≡ depth = ap (λ b. if b then depth + 1 else (if eqb c other then depth - 1 else depth)) e ∙ ap (λ b. if b then depth - 1 else depth) f in
            omega (arith, one-other own c e, one-other other c f))
      ]
    ]

-- one character more, behind or before
pub open-behind : (own other c depth : ℕ) (xs : List ℕ) → own ≢ other → 0 < depth → IsOpen own other xs depth → IsOpen own other (xs ++ c ∷ []) (depth_by depth c own other)
open-behind own other c depth xs apart some h =
    ap (λ n. n + depth_by depth c own other) (times-behind other c xs) ∙ depth-step own other c depth (times other xs) (times own xs) apart some h ∙ sym (times-behind own c xs)

pub open-before : (own other c depth : ℕ) (xs : List ℕ) → own ≢ other → 0 < depth → IsOpen own other xs depth → IsOpen own other (c ∷ xs) (depth_by depth c own other)
open-before own other c depth xs apart some h =
    ap (λ n. n + depth_by depth c own other) (times-before other c xs) ∙ depth-step own other c depth (times other xs) (times own xs) apart some h ∙ sym (times-before own c xs)

-- the bracket itself is the first that is open
pub open-first : (own other : ℕ) → own ≢ other → IsOpen own other (own ∷ []) 1
open-first own other apart =
    let a : times other (own ∷ []) ≡ times other [] + one other own = times-before other own [] in
    let b : times own (own ∷ []) ≡ times own [] + one own own = times-before own own [] in
    let c : one other own ≡ 0 = one-other other own (ne_eqb own other apart) in
    let d : one own own ≡ 1 = one-same own own (eq-eqb own own refl) in
    omega arith

-- a range with one character more
pub range-behind : (text : List ℕ) (from b : ℕ) → from < b → b < length text → slice_range text from (b + 1) ≡ slice_range text from b ++ get_or text b 0 ∷ []
range-behind text from b h l =
    let n : b + 1 - from ≡ (b - from) + 1 = omega arith in
    let inside : b - from < length (drop from text) = omega (arith, length-drop from text) in
    let at : from + (b - from) ≡ b = omega arith in
    ap (λ k. take k (drop from text)) n ∙ take_more (drop from text) (b - from) 0 inside ∙ ap (λ x. take (b - from) (drop from text) ++ x ∷ []) (get_or-drop from text (b - from) 0 ∙ ap (λ k. get_or text k 0) at)

pub range-before : (text : List ℕ) (b to : ℕ) → b < to → b < length text → slice_range text b to ≡ get_or text b 0 ∷ slice_range text (b + 1) to
range-before text b to h l =
    let n : to - b ≡ suc (to - (b + 1)) = omega arith in
    ap₂ (λ k xs. take k xs) n (drop-cons text b 0 l) ∙ ap (λ k. get_or text b 0 ∷ take (to - (b + 1)) (drop k text)) (sym (add-one b))

pub range-one : (text : List ℕ) (o : ℕ) → o < length text → slice_range text o (o + 1) ≡ get_or text o 0 ∷ []
range-one text o l =
    range-before text o (o + 1) (omega arith) l ∙ ap (λ k. get_or text o 0 ∷ take k (drop (o + 1) text)) (let e : o + 1 - (o + 1) ≡ 0 = omega arith in e)

-- they are as many where none is open
pub even-closed : (own other : ℕ) (text : List ℕ) (from to depth : ℕ) → IsOpen own other (slice_range text from (to + 1)) depth → depth ≡ 0 → are_even text own other from to ≡ true
even-closed own other text from to depth h z =
    eq-eqb (times own (slice_range text from (to + 1))) (times other (slice_range text from (to + 1))) (omega arith)

pub even-open : (own other : ℕ) (text : List ℕ) (from to depth : ℕ) → IsOpen own other (slice_range text from (to + 1)) depth → 0 < depth → are_even text own other from to ≡ false
even-open own other text from to depth h p =
    ne_eqb (times own (slice_range text from (to + 1))) (times other (slice_range text from (to + 1))) (λ e. omega arith)

-- the steps of the searches for a match
pub open-start : (own other : ℕ) (text : List ℕ) (o : ℕ) → own ≢ other → o < length text → get_or text o 0 ≡ own → IsOpen own other (slice_range text o (o + 1)) 1
open-start own other text o apart l e =
    subst (λ xs. IsOpen own other xs 1) (sym (range-one text o l ∙ ap (λ c. c ∷ []) e)) (open-first own other apart)

pub open-next : (own other : ℕ) (text : List ℕ) (from at b c depth deeper : ℕ) → own ≢ other → 0 < depth → from ≤ at → b ≡ at + 1 → b < length text → c ≡ get_or text b 0 → deeper ≡ depth_by depth c own other → IsOpen own other (slice_range text from (at + 1)) depth → IsOpen own other (slice_range text from (b + 1)) deeper
open-next own other text from at b c depth deeper apart some le e l r d h =
    let P : List ℕ → ℕ → Type 0 = λ xs n. IsOpen own other xs n in
    let before : IsOpen own other (slice_range text from b) depth = subst (λ n. P (slice_range text from n) depth) (sym e) h in
    subst₂ P (ap (λ x. slice_range text from b ++ x ∷ []) r ∙ sym (range-behind text from b (omega arith) l)) (sym d) (open-behind own other c depth (slice_range text from b) apart some before)

pub open-last : (own other : ℕ) (text : List ℕ) (at b to c depth deeper : ℕ) → own ≢ other → 0 < depth → b + 1 ≡ at → at ≤ to → b < length text → c ≡ get_or text b 0 → deeper ≡ depth_by depth c own other → IsOpen own other (slice_range text at (to + 1)) depth → IsOpen own other (slice_range text b (to + 1)) deeper
open-last own other text at b to c depth deeper apart some e le l r d h =
    let P : List ℕ → ℕ → Type 0 = λ xs n. IsOpen own other xs n in
    let behind : IsOpen own other (slice_range text (b + 1) (to + 1)) depth = subst (λ n. P (slice_range text n (to + 1)) depth) (sym e) h in
    subst₂ P (ap (λ x. x ∷ slice_range text (b + 1) (to + 1)) r ∙ sym (range-before text b (to + 1) (omega arith) l)) (sym d) (open-before own other c depth (slice_range text (b + 1) (to + 1)) apart some behind)

pub depth-le : (own other c depth : ℕ) → depth_by depth c own other ≤ depth + 1
depth-le own other c depth =
    elim (test_cases (eqb c own)) [
      | inl e ↦ (let d : depth_by depth c own other ≡ depth + 1 = ap (λ b. if b then depth + 1 else (if eqb c other then depth - 1 else depth)) e in omega arith)
      | inr e ↦ elim (test_cases (eqb c other)) [
        | inl f ↦ (let d : depth_by depth c own other ≡ depth - 1 = ap (λ b. if b then depth + 1 else (if eqb c other then depth - 1 else depth)) e ∙ ap (λ b. if b then depth - 1 else depth) f in omega arith)
        | inr f ↦ (let d : depth_by depth c own other ≡ depth = ap (λ b. if b then depth + 1 else (if eqb c other then depth - 1 else depth)) e ∙ ap (λ b. if b then depth - 1 else depth) f in omega arith)
      ]
    ]
