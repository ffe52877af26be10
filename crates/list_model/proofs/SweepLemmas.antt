-- Lemmas on the sweep, for any kind of neighbours whose joining is well behaved.
use Rattle.std.proofs.Common.{◌≡◌, ℕ, zero, suc, ◌<◌, true, false, cond, List, [], ◌∷◌, length, map, refl, sym, ap, ap₂, ◌∙◌, arith, inl, inr, ◌⊎◌}
use Rattle.std.proofs.lemmas.List.{length-map}
use Rattle.text_model.proofs.CoordLemmas.{test_cases}
use Rattle.list_model.specs.Settling.{JoinRule, sweep, sweep_place}

-- what joining keeps: whether one is due to an earlier one, and to whom a later one is due; the order doesn't matter
pub record JoinsWell {S : Type 0} (k : JoinRule S) : Type 0 where
  pub later : (a b c : S) → k.due a (k.join b c) ≡ k.due a b
  pub longer : (a b c : S) → k.due b c ≡ true → k.due (k.join a b) c ≡ true
  pub assoc : (a b c : S) → k.join (k.join a b) c ≡ k.join a (k.join b c)

-- what a function that goes along with the sweep keeps
pub record GoesAlong {S : Type 0} (k : JoinRule S) (f : S → S) : Type 0 where
  pub due : (a b : S) → k.due a b ≡ true → k.due (f a) (f b) ≡ true
  pub join : (a b : S) → f (k.join a b) ≡ k.join (f a) (f b)

-- a list swept, and the place of its n-th element then
abbrev pub swept_by : {S : Type 0} → JoinRule S → List S → List S
swept_by k [] = []
swept_by k (x ∷ xs) = sweep k x xs

abbrev pub swept_place_by : {S : Type 0} → JoinRule S → List S → ℕ → ℕ
swept_place_by k [] n = 0
swept_place_by k (x ∷ xs) n = sweep_place k x xs n

pub sweep-due : {S : Type 0} (k : JoinRule S) (a s : S) (ss : List S) → k.due a s ≡ true → sweep k a (s ∷ ss) ≡ sweep k (k.join a s) ss
sweep-due k a s ss e = ap (λ v. cond v (sweep k (k.join a s) ss) (a ∷ sweep k s ss)) e

pub sweep-apart : {S : Type 0} (k : JoinRule S) (a s : S) (ss : List S) → k.due a s ≡ false → sweep k a (s ∷ ss) ≡ a ∷ sweep k s ss
sweep-apart k a s ss e = ap (λ v. cond v (sweep k (k.join a s) ss) (a ∷ sweep k s ss)) e

pub place-due : {S : Type 0} (k : JoinRule S) (a s : S) (ss : List S) (n : ℕ) → k.due a s ≡ true → sweep_place k a (s ∷ ss) (suc n) ≡ sweep_place k (k.join a s) ss n
place-due k a s ss n e = ap (λ v. cond v (sweep_place k (k.join a s) ss n) (suc (sweep_place k s ss n))) e

pub place-apart : {S : Type 0} (k : JoinRule S) (a s : S) (ss : List S) (n : ℕ) → k.due a s ≡ false → sweep_place k a (s ∷ ss) (suc n) ≡ suc (sweep_place k s ss n)
place-apart k a s ss n e = ap (λ v. cond v (sweep_place k (k.join a s) ss n) (suc (sweep_place k s ss n))) e

-- what is swept first may be swept again with an earlier one before it
pub resweep : {S : Type 0} (k : JoinRule S) → JoinsWell k → (a y : S) (ys : List S) → sweep k a (sweep k y ys) ≡ sweep k a (y ∷ ys)
resweep k h a y [] = refl
resweep {S} k h a y (z ∷ zs) =
    elim (test_cases (k.due y z)) [
      | inl e ↦ ap (sweep k a) (sweep-due k y z zs e) ∙ resweep k h a (k.join y z) zs ∙ joined_case e (test_cases (k.due a y))
      | inr e ↦ ap (sweep k a) (sweep-apart k y z zs e) ∙ apart_case (λ b w. resweep k h b w zs) (test_cases (k.due a y))
    ]
  where
    joined_case : k.due y z ≡ true → (k.due a y ≡ true) ⊎ (k.due a y ≡ false) → sweep k a (k.join y z ∷ zs) ≡ sweep k a (y ∷ z ∷ zs)
    joined_case e (inl d) =
        sweep-due k a (k.join y z) zs (h.later a y z ∙ d) ∙ ap (λ x. sweep k x zs) (sym (h.assoc a y z)) ∙ sym (sweep-due k (k.join a y) z zs (h.longer a y z e)) ∙ sym (sweep-due k a y (z ∷ zs) d)
    joined_case e (inr d) =
        sweep-apart k a (k.join y z) zs (h.later a y z ∙ d) ∙ ap (λ t. a ∷ t) (sym (sweep-due k y z zs e)) ∙ sym (sweep-apart k a y (z ∷ zs) d)

    apart_case : ((b w : S) → sweep k b (sweep k w zs) ≡ sweep k b (w ∷ zs)) → (k.due a y ≡ true) ⊎ (k.due a y ≡ false) → sweep k a (y ∷ sweep k z zs) ≡ sweep k a (y ∷ z ∷ zs)
    apart_case again (inl d) =
        sweep-due k a y (sweep k z zs) d ∙ again (k.join a y) z ∙ sym (sweep-due k a y (z ∷ zs) d)
    apart_case again (inr d) =
        sweep-apart k a y (sweep k z zs) d ∙ ap (λ t. a ∷ t) (again y z) ∙ sym (sweep-apart k a y (z ∷ zs) d)

pub resweep_list : {S : Type 0} (k : JoinRule S) → JoinsWell k → (a : S) (ys : List S) → sweep k a (swept_by k ys) ≡ sweep k a ys
resweep_list k h a [] = refl
resweep_list k h a (y ∷ ys) = resweep k h a y ys

-- the sweep of a list that was swept and then changed by a function that goes along
pub carry_swept : {S : Type 0} (k : JoinRule S) → JoinsWell k → (f : S → S) → GoesAlong k f → (c : S) (xs : List S) → swept_by k (map f (sweep k c xs)) ≡ sweep k (f c) (map f xs)
carry_swept k h f g c [] = refl
carry_swept k h f g c (s ∷ ss) =
    elim (test_cases (k.due c s)) [
      | inl e ↦ ap (λ t. swept_by k (map f t)) (sweep-due k c s ss e) ∙ carry_swept k h f g (k.join c s) ss ∙ ap (λ x. sweep k x (map f ss)) (g.join c s) ∙ sym (sweep-due k (f c) (f s) (map f ss) (g.due c s e))
      | inr e ↦ ap (λ t. swept_by k (map f t)) (sweep-apart k c s ss e) ∙ sym (resweep_list k h (f c) (map f (sweep k s ss))) ∙ ap (sweep k (f c)) (carry_swept k h f g s ss) ∙ resweep k h (f c) (f s) (map f ss)
    ]

-- the first of a swept list is due to an earlier one just as before
pub swept_head : {S : Type 0} (k : JoinRule S) → JoinsWell k → (a y : S) (ys : List S) → sweep_place k a (sweep k y ys) 1 ≡ sweep_place k a (y ∷ ys) 1
swept_head k h a y [] = refl
swept_head k h a y (z ∷ zs) =
    elim (test_cases (k.due y z)) [
      | inl e ↦ ap (λ t. sweep_place k a t 1) (sweep-due k y z zs e) ∙ swept_head k h a (k.join y z) zs ∙ ap (λ v. cond v 0 1) (h.later a y z)
      | inr e ↦ ap (λ t. sweep_place k a t 1) (sweep-apart k y z zs e)
    ]

pub resweep_place : {S : Type 0} (k : JoinRule S) → JoinsWell k → (a y : S) (ys : List S) (n : ℕ) → sweep_place k a (sweep k y ys) (suc (sweep_place k y ys n)) ≡ sweep_place k a (y ∷ ys) (suc n)
resweep_place k h a y ys zero = swept_head k h a y ys
resweep_place k h a y [] (suc n) = refl
resweep_place {S} k h a y (z ∷ zs) (suc n) =
    elim (test_cases (k.due y z)) [
      | inl e ↦ ap₂ (λ t m. sweep_place k a t (suc m)) (sweep-due k y z zs e) (place-due k y z zs n e) ∙ resweep_place k h a (k.join y z) zs n ∙ joined_case e (test_cases (k.due a y))
      | inr e ↦ ap₂ (λ t m. sweep_place k a t (suc m)) (sweep-apart k y z zs e) (place-apart k y z zs n e) ∙ apart_case (λ b w. resweep_place k h b w zs n) (test_cases (k.due a y))
    ]
  where
    joined_case : k.due y z ≡ true → (k.due a y ≡ true) ⊎ (k.due a y ≡ false) → sweep_place k a (k.join y z ∷ zs) (suc n) ≡ sweep_place k a (y ∷ z ∷ zs) (suc (suc n))
    joined_case e (inl d) =
        place-due k a (k.join y z) zs n (h.later a y z ∙ d) ∙ ap (λ x. sweep_place k x zs n) (sym (h.assoc a y z)) ∙ sym (place-due k (k.join a y) z zs n (h.longer a y z e)) ∙ sym (place-due k a y (z ∷ zs) (suc n) d)
    joined_case e (inr d) =
        place-apart k a (k.join y z) zs n (h.later a y z ∙ d) ∙ ap (λ m. suc m) (sym (place-due k y z zs n e)) ∙ sym (place-apart k a y (z ∷ zs) (suc n) d)

    apart_case : ((b w : S) → sweep_place k b (sweep k w zs) (suc (sweep_place k w zs n)) ≡ sweep_place k b (w ∷ zs) (suc n)) → (k.due a y ≡ true) ⊎ (k.due a y ≡ false) → sweep_place k a (y ∷ sweep k z zs) (suc (suc (sweep_place k z zs n))) ≡ sweep_place k a (y ∷ z ∷ zs) (suc (suc n))
    apart_case again (inl d) =
        place-due k a y (sweep k z zs) (suc (sweep_place k z zs n)) d ∙ again (k.join a y) z ∙ sym (place-due k a y (z ∷ zs) (suc n) d)
    apart_case again (inr d) =
        place-apart k a y (sweep k z zs) (suc (sweep_place k z zs n)) d ∙ ap (λ m. suc m) (again y z) ∙ sym (place-apart k a y (z ∷ zs) (suc n) d)

pub some_swept : {S : Type 0} (k : JoinRule S) (c : S) (xs : List S) → 0 < length (sweep k c xs)
some_swept k c [] = omega arith
some_swept k c (s ∷ ss) =
    elim (test_cases (k.due c s)) [
      | inl e ↦ omega (arith, ap length (sweep-due k c s ss e), some_swept k (k.join c s) ss)
      | inr e ↦ omega (arith, ap length (sweep-apart k c s ss e))
    ]

pub resweep_place_list : {S : Type 0} (k : JoinRule S) → JoinsWell k → (a : S) (ys : List S) (n : ℕ) → 0 < length ys → sweep_place k a (swept_by k ys) (suc (swept_place_by k ys n)) ≡ sweep_place k a ys (suc n)
resweep_place_list k h a [] n some = absurd (omega arith)
resweep_place_list k h a (y ∷ ys) n some = resweep_place k h a y ys n

pub swept_place_first : {S : Type 0} (k : JoinRule S) (ys : List S) → swept_place_by k ys 0 ≡ 0
swept_place_first k [] = refl
swept_place_first k (y ∷ ys) = refl

pub carry_place : {S : Type 0} (k : JoinRule S) → JoinsWell k → (f : S → S) → GoesAlong k f → (c : S) (xs : List S) (n : ℕ) → swept_place_by k (map f (sweep k c xs)) (sweep_place k c xs n) ≡ sweep_place k (f c) (map f xs) n
carry_place k h f g c xs zero = swept_place_first k (map f (sweep k c xs))
carry_place k h f g c [] (suc n) = refl
carry_place k h f g c (s ∷ ss) (suc n) =
    elim (test_cases (k.due c s)) [
      | inl e ↦ ap₂ (λ t m. swept_place_by k (map f t) m) (sweep-due k c s ss e) (place-due k c s ss n e) ∙ carry_place k h f g (k.join c s) ss n ∙ ap (λ x. sweep_place k x (map f ss) n) (g.join c s) ∙ sym (place-due k (f c) (f s) (map f ss) n (g.due c s e))
      | inr e ↦
          ap₂ (λ t m. swept_place_by k (map f t) m) (sweep-apart k c s ss e) (place-apart k c s ss n e) ∙ sym (resweep_place_list k h (f c) (map f (sweep k s ss)) (sweep_place k s ss n) (omega (arith, length-map (sweep k s ss) f, some_swept k s ss))) ∙ ap₂ (λ t m. sweep_place k (f c) t (suc m)) (carry_swept k h f g s ss) (carry_place k h f g s ss n) ∙ resweep_place k h (f c) (f s) (map f ss) n
    ]
