-- Lemmas on what holds of all, of some and of one element.
use Rattle.std.proofs.Common.{ℕ, zero, suc, List, [], ◌∷◌, map, inl, inr, ◌<◌, length, arith}
use Rattle.std.specs.List.{AllByRecursion}
use Rattle.list_model.specs.Settled.{SomeOf, HoldsAtPlace}

pub all_weaker : {X : Type 0} (P Q : X → Type 0) → ((x : X) → P x → Q x) → (xs : List X) → AllByRecursion P xs → AllByRecursion Q xs
all_weaker P Q f [] h = h
all_weaker P Q f (x ∷ xs) h = (f x h.0, all_weaker P Q f xs h.1)

pub all_both : {X : Type 0} (P Q R : X → Type 0) → ((x : X) → P x → Q x → R x) → (xs : List X) → AllByRecursion P xs → AllByRecursion Q xs → AllByRecursion R xs
all_both P Q R f [] h k = h
all_both P Q R f (x ∷ xs) h k = (f x h.0 k.0, all_both P Q R f xs h.1 k.1)

pub some_weaker : {X : Type 0} (P Q : X → Type 0) → ((x : X) → P x → Q x) → (xs : List X) → SomeOf P xs → SomeOf Q xs
some_weaker P Q f [] h = absurd h
some_weaker P Q f (x ∷ xs) (inl h) = inl (f x h)
some_weaker P Q f (x ∷ xs) (inr h) = inr (some_weaker P Q f xs h)

pub some_with_all : {X : Type 0} (P Q R : X → Type 0) → ((x : X) → P x → Q x → R x) → (xs : List X) → AllByRecursion P xs → SomeOf Q xs → SomeOf R xs
some_with_all P Q R f [] h k = absurd k
some_with_all P Q R f (x ∷ xs) h (inl k) = inl (f x h.0 k)
some_with_all P Q R f (x ∷ xs) h (inr k) = inr (some_with_all P Q R f xs h.1 k)

-- what some element has, taken out
pub some_taken : {X Y : Type 0} (P : X → Type 0) → ((x : X) → P x → Y) → (xs : List X) → SomeOf P xs → Y
some_taken P f [] h = absurd h
some_taken P f (x ∷ xs) (inl h) = f x h
some_taken P f (x ∷ xs) (inr h) = some_taken P f xs h

pub place_weaker : {X : Type 0} (P Q : X → Type 0) → ((x : X) → P x → Q x) → (xs : List X) (n : ℕ) → HoldsAtPlace P xs n → HoldsAtPlace Q xs n
place_weaker P Q f [] n h = absurd h
place_weaker P Q f (x ∷ xs) zero h = f x h
place_weaker P Q f (x ∷ xs) (suc n) h = place_weaker P Q f xs n h

pub place_with_all : {X : Type 0} (P Q R : X → Type 0) → ((x : X) → P x → Q x → R x) → (xs : List X) (n : ℕ) → AllByRecursion P xs → HoldsAtPlace Q xs n → HoldsAtPlace R xs n
place_with_all P Q R f [] n h k = absurd k
place_with_all P Q R f (x ∷ xs) zero h k = f x h.0 k
place_with_all P Q R f (x ∷ xs) (suc n) h k = place_with_all P Q R f xs n h.1 k

pub place_is_some : {X : Type 0} (P : X → Type 0) → (xs : List X) (n : ℕ) → HoldsAtPlace P xs n → SomeOf P xs
place_is_some P [] n h = absurd h
place_is_some P (x ∷ xs) zero h = inl h
place_is_some P (x ∷ xs) (suc n) h = inr (place_is_some P xs n h)

pub all_map : {X Y : Type 0} (P : Y → Type 0) (f : X → Y) → (xs : List X) → AllByRecursion (λ x. P (f x)) xs → AllByRecursion P (map f xs)
all_map P f [] h = h
all_map P f (x ∷ xs) h = (h.0, all_map P f xs h.1)

pub place_map : {X Y : Type 0} (P : Y → Type 0) (f : X → Y) → (xs : List X) (n : ℕ) → HoldsAtPlace (λ x. P (f x)) xs n → HoldsAtPlace P (map f xs) n
place_map P f [] n h = absurd h
place_map P f (x ∷ xs) zero h = h
place_map P f (x ∷ xs) (suc n) h = place_map P f xs n h

-- a number below the length is a place of the list
pub place_of_below : {X : Type 0} (xs : List X) (n : ℕ) → n < length xs → HoldsAtPlace (λ _. Unit {0}) xs n
place_of_below [] n h = absurd (omega arith)
place_of_below (x ∷ xs) zero h = tt
place_of_below (x ∷ xs) (suc n) h = place_of_below xs n (omega arith)

pub below_of_place : {X : Type 0} (xs : List X) (n : ℕ) → HoldsAtPlace (λ _. Unit {0}) xs n → n < length xs
below_of_place [] n h = absurd h
below_of_place (x ∷ xs) zero h = omega arith
below_of_place (x ∷ xs) (suc n) h = omega (arith, below_of_place xs n h)
