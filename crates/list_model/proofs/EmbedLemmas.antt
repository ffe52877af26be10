-- The sweep of a list that stands for another one: neighbours are due where those that they stand for are, and joined as they are.
use Rattle.std.proofs.Common.{◌≡◌, ℕ, zero, suc, ◌<◌, ◌≤◌, List, [], ◌∷◌, length, map, refl, sym, ap, subst, ◌∙◌, arith, inl, inr}
use Rattle.std.specs.List.{AllByRecursion}
use Rattle.text_model.proofs.CoordLemmas.{test_cases}
use Rattle.list_model.specs.Settling.{JoinRule, sweep, sweep_place}
use Rattle.list_model.proofs.SweepLemmas.{sweep-due, sweep-apart, place-due, place-apart, some_swept}

-- what f keeps of those that are such
pub record Embeds {S T : Type 0} (k : JoinRule S) (l : JoinRule T) (f : S → T) (P : S → Type 0) : Type 0 where
  pub due : (a b : S) → P a → P b → k.due a b ≡ l.due (f a) (f b)
  pub join : (a b : S) → P a → P b → f (k.join a b) ≡ l.join (f a) (f b)
  pub stays : (a b : S) → P a → P b → P (k.join a b)

pub all_swept : {S T : Type 0} (k : JoinRule S) (l : JoinRule T) (f : S → T) (P : S → Type 0) → Embeds k l f P → (c : S) (xs : List S) → P c → AllByRecursion P xs → AllByRecursion P (sweep k c xs)
all_swept k l f P e c [] h a = (h, tt)
all_swept k l f P e c (s ∷ ss) h a =
    elim (test_cases (k.due c s)) [
      | inl d ↦ subst (AllByRecursion P) (sym (sweep-due k c s ss d)) (all_swept k l f P e (k.join c s) ss (e.stays c s h a.0) a.1)
      | inr d ↦ subst (AllByRecursion P) (sym (sweep-apart k c s ss d)) (h, all_swept k l f P e s ss a.0 a.1)
    ]

pub swept_embeds : {S T : Type 0} (k : JoinRule S) (l : JoinRule T) (f : S → T) (P : S → Type 0) → Embeds k l f P → (c : S) (xs : List S) → P c → AllByRecursion P xs → map f (sweep k c xs) ≡ sweep l (f c) (map f xs)
swept_embeds k l f P e c [] h a = refl
swept_embeds k l f P e c (s ∷ ss) h a =
    elim (test_cases (k.due c s)) [
      | inl d ↦ ap (map f) (sweep-due k c s ss d) ∙ swept_embeds k l f P e (k.join c s) ss (e.stays c s h a.0) a.1 ∙ ap (λ x. sweep l x (map f ss)) (e.join c s h a.0) ∙ sym (sweep-due l (f c) (f s) (map f ss) (sym (e.due c s h a.0) ∙ d))
      | inr d ↦ ap (map f) (sweep-apart k c s ss d) ∙ ap (λ t. f c ∷ t) (swept_embeds k l f P e s ss a.0 a.1) ∙ sym (sweep-apart l (f c) (f s) (map f ss) (sym (e.due c s h a.0) ∙ d))
    ]

pub place_embeds : {S T : Type 0} (k : JoinRule S) (l : JoinRule T) (f : S → T) (P : S → Type 0) → Embeds k l f P → (c : S) (xs : List S) (n : ℕ) → P c → AllByRecursion P xs → sweep_place k c xs n ≡ sweep_place l (f c) (map f xs) n
place_embeds k l f P e c xs zero h a = refl
place_embeds k l f P e c [] (suc n) h a = refl
place_embeds k l f P e c (s ∷ ss) (suc n) h a =
    elim (test_cases (k.due c s)) [
      | inl d ↦ place-due k c s ss n d ∙ place_embeds k l f P e (k.join c s) ss n (e.stays c s h a.0) a.1 ∙ ap (λ x. sweep_place l x (map f ss) n) (e.join c s h a.0) ∙ sym (place-due l (f c) (f s) (map f ss) n (sym (e.due c s h a.0) ∙ d))
      | inr d ↦ place-apart k c s ss n d ∙ ap (λ m. suc m) (place_embeds k l f P e s ss n a.0 a.1) ∙ sym (place-apart l (f c) (f s) (map f ss) n (sym (e.due c s h a.0) ∙ d))
    ]

-- a sweep makes no list longer, and places are places of it
pub swept_no_longer : {S : Type 0} (k : JoinRule S) (c : S) (xs : List S) → length (sweep k c xs) ≤ length (c ∷ xs)
swept_no_longer k c [] = omega arith
swept_no_longer k c (s ∷ ss) =
    elim (test_cases (k.due c s)) [
      | inl d ↦ omega (arith, ap length (sweep-due k c s ss d), swept_no_longer k (k.join c s) ss)
      | inr d ↦ omega (arith, ap length (sweep-apart k c s ss d), swept_no_longer k s ss)
    ]

pub place_below : {S : Type 0} (k : JoinRule S) (c : S) (xs : List S) (n : ℕ) → sweep_place k c xs n < length (sweep k c xs)
place_below k c xs zero = some_swept k c xs
place_below k c [] (suc n) = omega arith
place_below k c (s ∷ ss) (suc n) =
    elim (test_cases (k.due c s)) [
      | inl d ↦ omega (arith, ap length (sweep-due k c s ss d), place-due k c s ss n d, place_below k (k.join c s) ss n)
      | inr d ↦ omega (arith, ap length (sweep-apart k c s ss d), place-apart k c s ss n d, place_below k s ss n)
    ]
