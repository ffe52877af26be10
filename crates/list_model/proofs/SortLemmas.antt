-- The list in order has the same selections, in order, with the same first at each low; so what settles it settles the list.
use Rattle.std.proofs.Common.{◌≡◌, ◌≢◌, ℕ, zero, suc, ◌<◌, ◌≤◌, true, false, cond, eqb, leb, ltb, List, [], ◌∷◌, Some, refl, sym, ap, subst, subst₂, ◌∙◌, arith, inl, inr, ◌⊎◌, leb-true, leb-false, eqb-true, lt-ltb, le-ltb, ltb-true, ltb-false}
use Rattle.std.proofs.lemmas.Bool.{eqb-false}
use Rattle.std.specs.List.{AllByRecursion}
use Rattle.text_model.proofs.CoordLemmas.{test_cases}
use Rattle.list_model.specs.Ranges.{Range, Selected, IsRange}
use Rattle.list_model.specs.Settling.{placed, sorted, slot, past_slot, sorted_place, settled}
use Rattle.list_model.specs.Settled.{SomeOf, HoldsAtPlace, Holds, Reaches, IsBridged, BeginsWithFirst, IsSettled}
use Rattle.list_model.proofs.ListLemmas.{all_weaker}
use Rattle.list_model.proofs.SettledLemmas.{IsOrdered, first_at, first_at-here, first_at-later, swept_is_settled}

pub placed-before : (r s : Range) (ss : List Range) → leb r.low s.low ≡ true → placed r (s ∷ ss) ≡ r ∷ s ∷ ss
placed-before r s ss e = ap (λ v. cond v (r ∷ s ∷ ss) (s ∷ placed r ss)) e

pub placed-behind : (r s : Range) (ss : List Range) → leb r.low s.low ≡ false → placed r (s ∷ ss) ≡ s ∷ placed r ss
placed-behind r s ss e = ap (λ v. cond v (r ∷ s ∷ ss) (s ∷ placed r ss)) e

slot-before : (r s : Range) (ss : List Range) → leb r.low s.low ≡ true → slot r (s ∷ ss) ≡ 0
slot-before r s ss e = ap (λ v. cond v 0 (suc (slot r ss))) e

slot-behind : (r s : Range) (ss : List Range) → leb r.low s.low ≡ false → slot r (s ∷ ss) ≡ suc (slot r ss)
slot-behind r s ss e = ap (λ v. cond v 0 (suc (slot r ss))) e

-- induction along the placing
pub along_placed : (r : Range) (P : List Range → List Range → Type 0) → P [] (r ∷ []) → ((s : Range) (ss : List Range) → r.low ≤ s.low → P (s ∷ ss) (r ∷ s ∷ ss)) → ((s : Range) (ss ys : List Range) → s.low < r.low → P ss ys → P (s ∷ ss) (s ∷ ys)) → (ss : List Range) → P ss (placed r ss)
along_placed r P none before behind [] = none
along_placed r P none before behind (s ∷ ss) =
    elim (test_cases (leb r.low s.low)) [
      | inl e ↦ subst (P (s ∷ ss)) (sym (placed-before r s ss e)) (before s ss (leb-true r.low s.low e))
      | inr e ↦ subst (P (s ∷ ss)) (sym (placed-behind r s ss e)) (behind s ss (placed r ss) (leb-false r.low s.low e) (along_placed r P none before behind ss))
    ]

pub all_placed : (P : Range → Type 0) (r : Range) (ss : List Range) → P r → AllByRecursion P ss → AllByRecursion P (placed r ss)
all_placed P r ss h =
    along_placed r (λ ss ys. AllByRecursion P ss → AllByRecursion P ys) (λ k. (h, k)) (λ s ss l k. (h, k)) (λ s ss ys l f k. (k.0, f k.1)) ss

pub all_of_placed : (P : Range → Type 0) (r : Range) (ss : List Range) → AllByRecursion P (placed r ss) → P r × AllByRecursion P ss
all_of_placed P r ss =
    along_placed r (λ ss ys. AllByRecursion P ys → P r × AllByRecursion P ss) (λ k. (k.0, k.1)) (λ s ss l k. (k.0, k.1)) (λ s ss ys l f k. let w : P r × AllByRecursion P ss = f k.1 in (w.0, (k.0, w.1))) ss

pub some_of_placed : (P : Range → Type 0) (r : Range) (ss : List Range) → SomeOf P (placed r ss) → SomeOf P (r ∷ ss)
some_of_placed P r ss =
    along_placed r (λ ss ys. SomeOf P ys → SomeOf P (r ∷ ss)) (λ k. k) (λ s ss l k. k) (λ s ss ys l f k. swapped s ss ys f k) ss
  where
    swapped : (s : Range) (ss ys : List Range) → (SomeOf P ys → SomeOf P (r ∷ ss)) → SomeOf P (s ∷ ys) → SomeOf P (r ∷ s ∷ ss)
    swapped s ss ys f (inl h) = inr (inl h)
    swapped s ss ys f (inr h) = elim (f h) [ inl k ↦ inl k | inr k ↦ inr (inr k) ]

pub ordered_placed : (r : Range) (ss : List Range) → IsOrdered ss → IsOrdered (placed r ss) × ((m : ℕ) → m ≤ r.low → AllByRecursion (λ s. m ≤ s.low) ss → AllByRecursion (λ s. m ≤ s.low) (placed r ss))
ordered_placed r =
    along_placed r (λ ss ys. IsOrdered ss → IsOrdered ys × ((m : ℕ) → m ≤ r.low → AllByRecursion (λ s. m ≤ s.low) ss → AllByRecursion (λ s. m ≤ s.low) ys))
    (λ o. ((tt, tt), λ m l k. (l, k)))
    (λ s ss l o. (((l, all_weaker (λ t. s.low ≤ t.low) (λ t. r.low ≤ t.low) (λ t k. omega arith) ss o.0), o), λ m b k. (b, k)))
    (λ s ss ys l f o. let w : IsOrdered ys × ((m : ℕ) → m ≤ r.low → AllByRecursion (λ t. m ≤ t.low) ss → AllByRecursion (λ t. m ≤ t.low) ys) = f o.1 in
    ((w.1 s.low (omega arith) o.0, w.0), λ m b k. (k.0, w.1 m b k.1)))

-- the first one at a low is the same
pub first_of_placed : (low : ℕ) (r : Range) (ss : List Range) → first_at low (placed r ss) ≡ first_at low (r ∷ ss)
first_of_placed low r =
    along_placed r (λ ss ys. first_at low ys ≡ first_at low (r ∷ ss)) refl (λ s ss l. refl) (λ s ss ys l f. passed s ss ys l f (test_cases (eqb s.low low)))
  where
    passed : (s : Range) (ss ys : List Range) → s.low < r.low → first_at low ys ≡ first_at low (r ∷ ss) → (eqb s.low low ≡ true) ⊎ (eqb s.low low ≡ false) → first_at low (s ∷ ys) ≡ first_at low (r ∷ s ∷ ss)
    passed s ss ys l f (inl e) =
        let at : s.low ≡ low = eqb-true s.low low e in
        let ne : r.low ≢ low = (λ k. omega arith) in
        first_at-here low s ys at ∙ sym (first_at-later low r (s ∷ ss) ne ∙ first_at-here low s ss at)
    passed s ss ys l f (inr e) =
        let ne : s.low ≢ low = eqb-false s.low low e in
        first_at-later low s ys ne ∙ f ∙ sym (ap (λ t. cond (eqb r.low low) (Some r) t) (first_at-later low s ss ne))

-- the element that was placed, and the others at their new places
pub to_slot : (P : Range → Type 0) (r : Range) (ss : List Range) → P r → HoldsAtPlace P (placed r ss) (slot r ss)
to_slot P r [] h = h
to_slot P r (s ∷ ss) h =
    elim (test_cases (leb r.low s.low)) [
      | inl e ↦ subst₂ (λ t m. HoldsAtPlace P t m) (sym (placed-before r s ss e)) (sym (slot-before r s ss e)) h
      | inr e ↦ subst₂ (λ t m. HoldsAtPlace P t m) (sym (placed-behind r s ss e)) (sym (slot-behind r s ss e)) (to_slot P r ss h)
    ]

pub of_slot : (P : Range → Type 0) (r : Range) (ss : List Range) → HoldsAtPlace P (placed r ss) (slot r ss) → P r
of_slot P r [] h = h
of_slot P r (s ∷ ss) h =
    elim (test_cases (leb r.low s.low)) [
      | inl e ↦ subst₂ (λ t m. HoldsAtPlace P t m) (placed-before r s ss e) (slot-before r s ss e) h
      | inr e ↦ of_slot P r ss (subst₂ (λ t m. HoldsAtPlace P t m) (placed-behind r s ss e) (slot-behind r s ss e) h)
    ]

past_slot-first : (n : ℕ) → past_slot 0 n ≡ suc n
past_slot-first n = ap (λ v. cond v n (suc n)) (le-ltb n 0 (omega arith))

past_slot-suc : (k n : ℕ) → past_slot (suc k) (suc n) ≡ suc (past_slot k n)
past_slot-suc k n =
    elim (test_cases (ltb n k)) [
      | inl e ↦ ap (λ v. cond v (suc n) (suc (suc n))) (lt-ltb (suc n) (suc k) (omega (arith, ltb-true n k e))) ∙ ap (λ m. suc m) (sym (ap (λ v. cond v n (suc n)) e))
      | inr e ↦ ap (λ v. cond v (suc n) (suc (suc n))) (le-ltb (suc n) (suc k) (omega (arith, ltb-false n k e))) ∙ ap (λ m. suc m) (sym (ap (λ v. cond v n (suc n)) e))
    ]

past_slot-zero : (k : ℕ) → past_slot (suc k) 0 ≡ 0
past_slot-zero k = ap (λ v. cond v 0 1) (lt-ltb 0 (suc k) (omega arith))

pub to_past_slot : (P : Range → Type 0) (r : Range) (ss : List Range) (n : ℕ) → HoldsAtPlace P ss n → HoldsAtPlace P (placed r ss) (past_slot (slot r ss) n)
to_past_slot P r [] n h = absurd h
to_past_slot P r (s ∷ ss) n h =
    elim (test_cases (leb r.low s.low)) [
      | inl e ↦ subst₂ (λ t m. HoldsAtPlace P t m) (sym (placed-before r s ss e)) (sym (ap (λ k. past_slot k n) (slot-before r s ss e) ∙ past_slot-first n)) h
      | inr e ↦ subst₂ (λ t m. HoldsAtPlace P t m) (sym (placed-behind r s ss e)) (sym (ap (λ k. past_slot k n) (slot-behind r s ss e))) (behind n h (λ k. to_past_slot P r ss k))
    ]
  where
    behind : (n : ℕ) → HoldsAtPlace P (s ∷ ss) n → ((k : ℕ) → HoldsAtPlace P ss k → HoldsAtPlace P (placed r ss) (past_slot (slot r ss) k)) → HoldsAtPlace P (s ∷ placed r ss) (past_slot (suc (slot r ss)) n)
    behind zero h again = subst (λ m. HoldsAtPlace P (s ∷ placed r ss) m) (sym (past_slot-zero (slot r ss))) h
    behind (suc n) h again = subst (λ m. HoldsAtPlace P (s ∷ placed r ss) m) (sym (past_slot-suc (slot r ss) n)) (again n h)

pub of_past_slot : (P : Range → Type 0) (r : Range) (ss : List Range) (n : ℕ) → HoldsAtPlace P (placed r ss) (past_slot (slot r ss) n) → HoldsAtPlace P ss n
of_past_slot P r [] n h = subst (λ m. HoldsAtPlace P (r ∷ []) m) (past_slot-first n) h
of_past_slot P r (s ∷ ss) n h =
    elim (test_cases (leb r.low s.low)) [
      | inl e ↦ subst₂ (λ t m. HoldsAtPlace P t m) (placed-before r s ss e) (ap (λ k. past_slot k n) (slot-before r s ss e) ∙ past_slot-first n) h
      | inr e ↦ behind n (subst₂ (λ t m. HoldsAtPlace P t m) (placed-behind r s ss e) (ap (λ k. past_slot k n) (slot-behind r s ss e)) h) (λ k. of_past_slot P r ss k)
    ]
  where
    behind : (n : ℕ) → HoldsAtPlace P (s ∷ placed r ss) (past_slot (suc (slot r ss)) n) → ((k : ℕ) → HoldsAtPlace P (placed r ss) (past_slot (slot r ss) k) → HoldsAtPlace P ss k) → HoldsAtPlace P (s ∷ ss) n
    behind zero h again = subst (λ m. HoldsAtPlace P (s ∷ placed r ss) m) (past_slot-zero (slot r ss)) h
    behind (suc n) h again = again n (subst (λ m. HoldsAtPlace P (s ∷ placed r ss) m) (past_slot-suc (slot r ss) n) h)

-- the same for the whole list
pub all_sorted : (P : Range → Type 0) (xs : List Range) → AllByRecursion P xs → AllByRecursion P (sorted xs)
all_sorted P [] h = h
all_sorted P (r ∷ rs) h = all_placed P r (sorted rs) h.0 (all_sorted P rs h.1)

pub all_of_sorted : (P : Range → Type 0) (xs : List Range) → AllByRecursion P (sorted xs) → AllByRecursion P xs
all_of_sorted P [] h = h
all_of_sorted P (r ∷ rs) h = let w : P r × AllByRecursion P (sorted rs) = all_of_placed P r (sorted rs) h in (w.0, all_of_sorted P rs w.1)

pub some_of_sorted : (P : Range → Type 0) (xs : List Range) → SomeOf P (sorted xs) → SomeOf P xs
some_of_sorted P [] h = h
some_of_sorted P (r ∷ rs) h = elim (some_of_placed P r (sorted rs) h) [ inl k ↦ inl k | inr k ↦ inr (some_of_sorted P rs k) ]

pub ordered_sorted : (xs : List Range) → IsOrdered (sorted xs)
ordered_sorted [] = tt
ordered_sorted (r ∷ rs) = (ordered_placed r (sorted rs) (ordered_sorted rs)).0

pub first_of_sorted : (low : ℕ) (xs : List Range) → first_at low (sorted xs) ≡ first_at low xs
first_of_sorted low [] = refl
first_of_sorted low (r ∷ rs) = first_of_placed low r (sorted rs) ∙ ap (λ t. cond (eqb r.low low) (Some r) t) (first_of_sorted low rs)

pub to_sorted_place : (P : Range → Type 0) (xs : List Range) (n : ℕ) → HoldsAtPlace P xs n → HoldsAtPlace P (sorted xs) (sorted_place xs n)
to_sorted_place P [] n h = absurd h
to_sorted_place P (r ∷ rs) zero h = to_slot P r (sorted rs) h
to_sorted_place P (r ∷ rs) (suc n) h = to_past_slot P r (sorted rs) (sorted_place rs n) (to_sorted_place P rs n h)

pub of_sorted_place : (P : Range → Type 0) (xs : List Range) (n : ℕ) → HoldsAtPlace (λ _. Unit {0}) xs n → HoldsAtPlace P (sorted xs) (sorted_place xs n) → HoldsAtPlace P xs n
of_sorted_place P [] n in' h = absurd in'
of_sorted_place P (r ∷ rs) zero in' h = of_slot P r (sorted rs) h
of_sorted_place P (r ∷ rs) (suc n) in' h = of_sorted_place P rs n in' (of_past_slot P r (sorted rs) (sorted_place rs n) h)

-- what settles the list in order settles the list
pub settled_of_sorted : (xs : List Range) (n : ℕ) (ys : List Range) (place : ℕ) → HoldsAtPlace (λ _. Unit {0}) xs n → IsSettled (sorted xs) (sorted_place xs n) ys place → IsSettled xs n ys place
settled_of_sorted xs n ys place in' h = record {
  some = h.some;
  apart = h.apart;
  covers = all_of_sorted (λ s. SomeOf (λ r. Holds r s) ys) xs h.covers;
  bridged = all_weaker (IsBridged (sorted xs)) (IsBridged xs) (λ r b o low high. some_of_sorted (Reaches o) xs (b o low high)) ys h.bridged;
  first = all_weaker (BeginsWithFirst (sorted xs)) (BeginsWithFirst xs) (λ r b. (b.0, sym (first_of_sorted r.low xs) ∙ b.1, b.2)) ys h.first;
  holds_main = of_sorted_place (λ s. HoldsAtPlace (λ r. Holds r s) ys place) xs n in' h.holds_main;
}

-- the settled list of any list of ranges is settled
pub settled-settles : (s : Selected) → AllByRecursion IsRange s.list → HoldsAtPlace (λ _. Unit {0}) s.list s.main → IsSettled s.list s.main (settled s).list (settled s).main
settled-settles s h in' =
    settled_of_sorted s.list s.main (settled s).list (settled s).main in' (swept_is_settled (sorted s.list) (sorted_place s.list s.main) (all_sorted IsRange s.list h) (ordered_sorted s.list) (to_sorted_place (λ _. Unit {0}) s.list s.main in'))
