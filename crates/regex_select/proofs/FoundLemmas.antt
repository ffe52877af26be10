-- What searches find.
use Rattle.std.proofs.Common.{◌≡◌, ℕ, ◌+◌, ◌-◌, ◌<◌, inl, inr, List, [], ◌∷◌, ◌++◌, length, filter, refl, sym, ap, ap₂, ◌∙◌, arith, take_all}
use Rattle.std.specs.Prelude.{slice_range}
use Rattle.std.specs.List.{AllByRecursion}
use Rattle.list_model.specs.Ranges.{Range}
use Rattle.list_model.specs.Settled.{SomeOf}
use Rattle.list_model.proofs.ListLemmas.{all_weaker}
use Rattle.directions.specs.declared.direction.Direction.{Direction}
use Rattle.directions.specs.declared.direction.Direction.TheVariants.{Forward, Backward}
use Rattle.regex_select.specs.Rows.{selected_chars, spans_in}
use Rattle.regex_select.specs.Selecting.{selected_by_all, matched_in}
use Rattle.regex_select.specs.Searching.{all_matches, on_the_way, is_ahead, first_or, sought}
use Rattle.regex_select.proofs.SoughtLemmas.{all-reverse, all-filter}
use Rattle.regex_select.proofs.MadeLemmas.{length-way}

pub in-the-whole : (source text : List ℕ) (r : Range) → r.low ≡ 0 → r.high + 1 ≡ length text → all_matches source text ≡ matched_in source text r
in-the-whole source text r l h =
    let same : selected_chars text r ≡ text = ap (λ n. slice_range text n (r.high + 1)) l ∙ take_all (r.high + 1 - 0) text (omega (arith, h)) in
    sym (ap₂ (λ chars low. selected_by_all chars low (spans_in source chars)) same l)

-- an element of a list
abbrev IsIn : {X : Type 0} → List X → X → Type 0
IsIn xs x = SomeOf (λ y. y ≡ x) xs

all-in : {X : Type 0} (xs : List X) → AllByRecursion (IsIn xs) xs
all-in [] = tt
all-in (x ∷ xs) = (inl refl, all_weaker (IsIn xs) (IsIn (x ∷ xs)) (λ y h. inr h) xs (all-in xs))

all-way : {X : Type 0} (P : X → Type 0) (direction : Direction) (xs : List X) → AllByRecursion P xs → AllByRecursion P (on_the_way direction xs)
all-way P Forward xs h = h
all-way P Backward xs h = all-reverse P xs h

first-of : {X : Type 0} (P : X → Type 0) (d : X) (xs ys : List X) → 0 < length ys → AllByRecursion P xs → AllByRecursion P ys → P (first_or d (xs ++ ys))
first-of P d [] [] l h k = absurd (omega arith)
first-of P d [] (y ∷ ys) l h k = k.0
first-of P d (x ∷ xs) ys l h k = h.0

pub is-a-match : (direction : Direction) (ms : List Range) (r : Range) → 0 < length ms → SomeOf (λ m. m ≡ sought direction ms r) ms
is-a-match direction ms r l =
    let there : AllByRecursion (IsIn ms) (on_the_way direction ms) = all-way (IsIn ms) direction ms (all-in ms) in
    first-of (IsIn ms) r (filter (is_ahead direction r) (on_the_way direction ms)) (on_the_way direction ms) (omega (arith, l, length-way direction ms)) (all-filter (IsIn ms) (is_ahead direction r) (on_the_way direction ms) there) there
