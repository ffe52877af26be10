-- Strings that are added one step after another.
use Rattle.std.proofs.Common.{◌≡◌, ℕ, ◌<◌, ◌≤◌, ◌+◌, List, [], ◌∷◌, ◌++◌, length, drop, get_or, Result, Ok, Err, refl, ap, sym, ◌∙◌, append_assoc, append-nil, arith}
use Rattle.std.proofs.lemmas.List.{drop_more, drop_all}
use Rattle.kak_words.specs.Results.{then_with, then_as, all_of}
use Rattle.std.specs.List.{join_with_byte}
use Rattle.kak_words.specs.declared.parts.WordError.{WordError}
use Rattle.kak_words.specs.declared.parts.WordError.TheVariants.{Unclosed, UnknownExpansion, NoMemory}
use Rattle.kak_words.specs.Errors.{IsUnknown}
use Rattle.kak_words.specs.Adding.{AddsElements}

-- strings behind a first one, each after a space
abbrev pub joined_behind : List (List ℕ) → List ℕ
joined_behind [] = []
joined_behind (x ∷ xs) = 32 ∷ (x ++ joined_behind xs)

-- some elements were added, and with what is still to come they are the whole outcome
pub record StillGives {A E : Type 0} (old now : List A) (rest all : Result (List A) E) : Type 0 where
  pub done : List A
  pub after : now ≡ old ++ done
  pub gives : all ≡ then_as (λ more. done ++ more) rest

then_as-nil : {A E : Type 0} (r : Result (List A) E) → r ≡ then_as (λ more. [] ++ more) r
then_as-nil (Ok more) = refl
then_as-nil (Err e) = refl

then_as-append : {A E : Type 0} (xs ys : List A) (r : Result (List A) E) → then_as (λ more. xs ++ more) (then_as (λ more. ys ++ more) r) ≡ then_as (λ more. (xs ++ ys) ++ more) r
then_as-append xs ys (Ok more) = ap Ok (sym (append_assoc xs ys more))
then_as-append xs ys (Err e) = refl

pub still-start : {A E : Type 0} (old now : List A) (all : Result (List A) E) → now ≡ old → StillGives old now all all
still-start old now all same = record { done = []; after = same ∙ sym (append-nil old); gives = then_as-nil all }

module _ {X A E : Type 0} (f : X → Result (List A) E) (xs : List X) (i : ℕ) (x : X) (old now : List A) (all : Result (List A) E) where
  pub still-more : (new : List A) → i < length xs → x ≡ get_or xs i x → AddsElements now new (f x) → StillGives old now (all_of f (drop i xs)) all → StillGives old new (all_of f (drop (i + 1) xs)) all
  still-more new inside here adds still =
      let step = ap (all_of f) (drop_more xs i x inside) ∙ ap (λ y. then_with (λ ys. then_as (λ zs. ys ++ zs) (all_of f (drop (i + 1) xs))) (f y)) (sym here)
      ∙ ap (then_with (λ ys. then_as (λ zs. ys ++ zs) (all_of f (drop (i + 1) xs)))) adds.gives in
      record {
        done = still.done ++ adds.added;
        after = adds.after ∙ ap (λ ys. ys ++ adds.added) still.after ∙ append_assoc old still.done adds.added;
        gives = still.gives ∙ ap (then_as (λ more. still.done ++ more)) step ∙ then_as-append still.done adds.added (all_of f (drop (i + 1) xs));
      }

  pub still-end : length xs ≤ i → StillGives old now (all_of f (drop i xs)) all → AddsElements old now all
  still-end past still = record {
    added = still.done;
    gives = still.gives ∙ ap (λ ys. then_as (λ more. still.done ++ more) (all_of f ys)) (drop_all i xs past) ∙ ap Ok (append-nil still.done);
    after = still.after;
  }

module _ {X A : Type 0} (f : X → Result (List A) (List ℕ)) (xs : List X) (i : ℕ) (x : X) (old now : List A) (all : Result (List A) (List ℕ)) where
  pub still-unknown : (e : WordError) → i < length xs → x ≡ get_or xs i x → IsUnknown e (f x) → StillGives old now (all_of f (drop i xs)) all → IsUnknown e all
  still-unknown (Unclosed at) inside here unknown still = unknown
  still-unknown (UnknownExpansion name) inside here unknown still =
      still.gives ∙ ap (then_as (λ more. still.done ++ more)) (ap (all_of f) (drop_more xs i x inside) ∙ ap (λ y. then_with (λ ys. then_as (λ zs. ys ++ zs) (all_of f (drop (i + 1) xs))) (f y)) (sym here) ∙ ap (then_with (λ ys. then_as (λ zs. ys ++ zs) (all_of f (drop (i + 1) xs)))) unknown)
  still-unknown NoMemory inside here unknown still = tt

-- joining strings by spaces
pub joined-first : (xs : List (List ℕ)) (x : List ℕ) → join_with_byte 32 (x ∷ xs) ≡ x ++ joined_behind xs
joined-first [] x = sym (append-nil x)
joined-first (y ∷ ys) x = ap (λ t. x ++ (32 ∷ t)) (joined-first ys y)

pub joined-more : (xs : List (List ℕ)) (n : ℕ) (old spaced now : List ℕ) (all : List ℕ) → n < length xs → spaced ≡ old ++ 32 ∷ [] → now ≡ spaced ++ get_or xs n [] → old ++ joined_behind (drop n xs) ≡ all → now ++ joined_behind (drop (n + 1) xs) ≡ all
joined-more xs n old spaced now all inside space string h =
    ap (λ t. t ++ joined_behind (drop (n + 1) xs)) (string ∙ ap (λ t. t ++ get_or xs n []) space)
    ∙ append_assoc (old ++ 32 ∷ []) (get_or xs n []) (joined_behind (drop (n + 1) xs))
    ∙ append_assoc old (32 ∷ []) (get_or xs n [] ++ joined_behind (drop (n + 1) xs))
    ∙ ap (λ rest. old ++ joined_behind rest) (sym (drop_more xs n [] inside)) ∙ h

pub joined-begin : (xs : List (List ℕ)) (old now : List ℕ) → 0 < length xs → now ≡ old ++ get_or xs 0 [] → now ++ joined_behind (drop 1 xs) ≡ old ++ join_with_byte 32 xs
joined-begin [] old now some begin = absurd (omega arith)
joined-begin (x ∷ xs) old now some begin =
    ap (λ t. t ++ joined_behind xs) begin ∙ append_assoc old x (joined_behind xs) ∙ ap (λ t. old ++ t) (sym (joined-first xs x))
