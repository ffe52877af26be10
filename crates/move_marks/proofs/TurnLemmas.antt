-- Plain ranges in reverse order settle to the same list.
use Rattle.std.proofs.Common.{◌≡◌, ℕ, suc, ◌-◌, List, [], ◌∷◌, length, map, reverse, refl, subst, arith, inl, inr, ◌⊎◌}
use Rattle.std.specs.List.{AllByRecursion}
use Rattle.list_model.specs.Ranges.{Range}
use Rattle.list_model.specs.Settled.{SomeOf, HoldsAtPlace, Holds, Reaches, IsBridged}
use Rattle.list_model.proofs.ListLemmas.{all_weaker}
use Rattle.move_marks.proofs.PlainLemmas.{BeginsWith, IsSpan}
use mathlib.Core.List.{reverse_aux}

-- what holds of all, of some and of one element of a list in reverse order

all-onto : {X : Type 0} (P : X → Type 0) (xs acc : List X) → AllByRecursion P xs → AllByRecursion P acc → AllByRecursion P (reverse_aux xs acc)
all-onto P [] acc h k = k
all-onto P (x ∷ xs) acc h k = all-onto P xs (x ∷ acc) h.1 (h.0, k)

pub all-turned : {X : Type 0} (P : X → Type 0) (xs : List X) → AllByRecursion P xs → AllByRecursion P (reverse xs)
all-turned P xs h = all-onto P xs [] h tt

all-from : {X : Type 0} (P : X → Type 0) (xs acc : List X) → AllByRecursion P (reverse_aux xs acc) → AllByRecursion P xs × AllByRecursion P acc
all-from P [] acc h = (tt, h)
all-from P (x ∷ xs) acc h =
    let k : AllByRecursion P xs × AllByRecursion P (x ∷ acc) = all-from P xs (x ∷ acc) h in
    ((k.1.0, k.0), k.1.1)

some-from : {X : Type 0} (P : X → Type 0) (xs acc : List X) → SomeOf P (reverse_aux xs acc) → SomeOf P xs ⊎ SomeOf P acc
some-from P [] acc h = inr h
some-from P (x ∷ xs) acc h = sorted (some-from P xs (x ∷ acc) h)
  where
    sorted : SomeOf P xs ⊎ SomeOf P (x ∷ acc) → SomeOf P (x ∷ xs) ⊎ SomeOf P acc
    sorted (inl k) = inl (inr k)
    sorted (inr (inl k)) = inl (inl k)
    sorted (inr (inr k)) = inr k

some-back : {X : Type 0} (P : X → Type 0) (xs : List X) → SomeOf P (reverse xs) → SomeOf P xs
some-back P xs h = elim (some-from P xs [] h) [ inl k ↦ k | inr k ↦ absurd k ]

-- the first of them is the last
first-from : {X : Type 0} (P : X → Type 0) (x : X) (xs acc : List X) → HoldsAtPlace P (reverse_aux (x ∷ xs) acc) 0 → HoldsAtPlace P (x ∷ xs) (length xs)
first-from P x [] acc h = h
first-from P x (y ∷ ys) acc h = first-from P y ys (x ∷ acc) h

first-last : {X : Type 0} (P : X → Type 0) (xs : List X) → HoldsAtPlace P (reverse xs) 0 → HoldsAtPlace P xs (length xs - 1)
first-last P [] h = absurd h
first-last P (x ∷ xs) h = let e : length xs ≡ suc (length xs) - 1 = omega arith in subst (HoldsAtPlace P (x ∷ xs)) e (first-from P x xs [] h)

map-onto : {X Y : Type 0} (f : X → Y) (xs acc : List X) → map f (reverse_aux xs acc) ≡ reverse_aux (map f xs) (map f acc)
map-onto f [] acc = refl
map-onto f (x ∷ xs) acc = map-onto f xs (x ∷ acc)

pub map-turned : {X Y : Type 0} (f : X → Y) (xs : List X) → map f (reverse xs) ≡ reverse (map f xs)
map-turned f xs = map-onto f xs []

-- what they are settled to in reverse order
pub span-turned : (xs ys : List Range) (p : ℕ) → IsSpan (reverse xs) 0 ys p → IsSpan xs (length xs - 1) ys p
span-turned xs ys p h = record {
  plain = h.plain;
  apart = h.apart;
  covers = (all-from (λ s. SomeOf (λ r. Holds r s) ys) xs [] h.covers).0;
  bridged = all_weaker (IsBridged (reverse xs)) (IsBridged xs) (λ r b o low high. some-back (Reaches o) xs (b o low high)) ys h.bridged;
  begins = all_weaker (BeginsWith (reverse xs)) (BeginsWith xs) (λ r b. some-back (λ s. s.low ≡ r.low) xs b) ys h.begins;
  holds_main = first-last (λ s. HoldsAtPlace (λ r. Holds r s) ys p) xs h.holds_main;
}
