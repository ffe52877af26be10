-- A list whose elements are mapped one after another, from the first on.
use Rattle.std.proofs.Common.{◌≡◌, ℕ, zero, suc, ◌+◌, ◌-◌, ◌<◌, ◌≤◌, List, [], ◌∷◌, ◌++◌, length, take, drop, map, get_or, set, refl, sym, ap, ap₂, ◌∙◌, arith, take-append-drop}
use Rattle.std.proofs.lemmas.List.{map-append, append_assoc, drop-drop}

-- the first n elements mapped, the rest as it was
abbrev pub mapped_front : {X : Type 0} → ℕ → (X → X) → List X → List X
mapped_front zero f xs = xs
mapped_front (suc n) f [] = []
mapped_front (suc n) f (x ∷ xs) = f x ∷ mapped_front n f xs

pub front-length : {X : Type 0} (n : ℕ) (f : X → X) (xs : List X) → length (mapped_front n f xs) ≡ length xs
front-length zero f xs = refl
front-length (suc n) f [] = refl
front-length (suc n) f (x ∷ xs) = ap suc (front-length n f xs)

pub front-at : {X : Type 0} (n : ℕ) (f : X → X) (xs : List X) (d : X) → get_or (mapped_front n f xs) n d ≡ get_or xs n d
front-at zero f xs d = refl
front-at (suc n) f [] d = refl
front-at (suc n) f (x ∷ xs) d = front-at n f xs d

pub front-step : {X : Type 0} (n : ℕ) (f : X → X) (xs : List X) (y d : X) → n < length xs → y ≡ f (get_or xs n d) → set (mapped_front n f xs) n y ≡ mapped_front (n + 1) f xs
front-step n f [] y d h e = absurd (omega arith)
front-step zero f (x ∷ xs) y d h e = ap (λ t. t ∷ xs) e
front-step (suc n) f (x ∷ xs) y d h e = let g : suc n + 1 ≡ suc (n + 1) = omega arith in rw g (ap (λ t. f x ∷ t) (front-step n f xs y d (omega arith) e))

pub front-all : {X : Type 0} (n : ℕ) (f : X → X) (xs : List X) → length xs ≤ n → mapped_front n f xs ≡ map f xs
front-all zero f [] h = refl
front-all zero f (x ∷ xs) h = absurd (omega arith)
front-all (suc n) f [] h = refl
front-all (suc n) f (x ∷ xs) h = ap (λ t. f x ∷ t) (front-all n f xs (omega arith))

front-parts : {X : Type 0} (n : ℕ) (f : X → X) (xs : List X) → mapped_front n f xs ≡ map f (take n xs) ++ drop n xs
front-parts zero f xs = refl
front-parts (suc n) f [] = refl
front-parts (suc n) f (x ∷ xs) = ap (λ t. f x ∷ t) (front-parts n f xs)

-- where the first n elements stay
pub front-stays : {X : Type 0} (n : ℕ) (f : X → X) (xs : List X) → map f (take n xs) ≡ take n xs → mapped_front n f xs ≡ xs
front-stays n f xs h = front-parts n f xs ∙ ap (λ t. t ++ drop n xs) h ∙ take-append-drop n xs

-- where the others do
pub front-whole : {X : Type 0} (n : ℕ) (f : X → X) (xs : List X) → map f (drop n xs) ≡ drop n xs → mapped_front n f xs ≡ map f xs
front-whole n f xs h = front-parts n f xs ∙ ap (λ t. map f (take n xs) ++ t) (sym h) ∙ sym (map-append f (take n xs) (drop n xs)) ∙ ap (map f) (take-append-drop n xs)

take-nothing : {X : Type 0} (j : ℕ) → take {A = X} j [] ≡ []
take-nothing zero = refl
take-nothing (suc j) = refl

pub take-parts : {X : Type 0} (n k : ℕ) (xs : List X) → take (n + k) xs ≡ take n xs ++ take k (drop n xs)
take-parts zero k xs = let at : 0 + k ≡ k = omega arith in ap (λ j. take j xs) at
take-parts (suc n) k [] = take-nothing (suc n + k) ∙ sym (take-nothing k)
take-parts (suc n) k (x ∷ xs) = let at : suc n + k ≡ suc (n + k) = omega arith in ap (λ j. take j (x ∷ xs)) at ∙ ap (λ t. x ∷ t) (take-parts n k xs)

-- the others are as they were
pub front-rest : {X : Type 0} (n : ℕ) (f : X → X) (xs : List X) → drop n (mapped_front n f xs) ≡ drop n xs
front-rest zero f xs = refl
front-rest (suc n) f [] = refl
front-rest (suc n) f (x ∷ xs) = front-rest n f xs

-- where those from one on up to before another stay
pub front-gap : {X : Type 0} (n m : ℕ) (f : X → X) (xs : List X) → n ≤ m → map f (take (m - n) (drop n xs)) ≡ take (m - n) (drop n xs) → mapped_front m f xs ≡ mapped_front n f xs
front-gap {X = X} n m f xs le h =
    front-parts m f xs
    ∙ ap (λ t. map f t ++ drop m xs) parts
    ∙ ap (λ t. t ++ drop m xs) (map-append f (take n xs) between ∙ ap (λ t. map f (take n xs) ++ t) h)
    ∙ append_assoc (map f (take n xs)) between (drop m xs)
    ∙ ap (λ t. map f (take n xs) ++ t) rest
    ∙ sym (front-parts n f xs)
  where
    at : n + (m - n) ≡ m
    at = omega arith

    between : List X
    between = take (m - n) (drop n xs)

    parts : take m xs ≡ take n xs ++ take (m - n) (drop n xs)
    parts = ap (λ k. take k xs) (sym at) ∙ take-parts n (m - n) xs

    rest : take (m - n) (drop n xs) ++ drop m xs ≡ drop n xs
    rest = ap (λ t. take (m - n) (drop n xs) ++ t) (sym (drop-drop (m - n) n xs ∙ ap (λ k. drop k xs) at)) ∙ take-append-drop (m - n) (drop n xs)
