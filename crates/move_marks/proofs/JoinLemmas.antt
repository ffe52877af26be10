-- Two lists that are settled already, put together and settled; and a settled list, carried and settled.
use Rattle.std.proofs.Common.{◌≡◌, ℕ, zero, suc, ◌+◌, ◌-◌, ◌<◌, ◌≤◌, List, [], ◌∷◌, ◌++◌, length, map, sym, ap, subst, ◌∙◌, arith, inl, inr, ◌⊎◌}
use Rattle.std.specs.List.{AllByRecursion}
use Rattle.list_model.specs.Ranges.{Range}
use Rattle.list_model.specs.Settling.{carried}
use Rattle.list_model.specs.Settled.{SomeOf, HoldsAtPlace, Holds, Reaches, IsBridged}
use Rattle.list_model.proofs.ListLemmas.{all_weaker, all_map, some_weaker, place_weaker}
use Rattle.list_model.proofs.UniqueLemmas.{at_one_place}
use Rattle.list_model.proofs.MoveLemmas.{KeepsOrder}
use Rattle.move_marks.specs.Joining.{IsPlain}
use Rattle.move_marks.proofs.PlainLemmas.{BeginsWith, IsSpan}

-- what holds of all, of some and of one element of two lists

pub all-append : {X : Type 0} (P : X → Type 0) (xs ys : List X) → AllByRecursion P xs → AllByRecursion P ys → AllByRecursion P (xs ++ ys)
all-append P [] ys h k = k
all-append P (x ∷ xs) ys h k = (h.0, all-append P xs ys h.1 k)

pub some-left : {X : Type 0} (P : X → Type 0) (xs ys : List X) → SomeOf P xs → SomeOf P (xs ++ ys)
some-left P [] ys h = absurd h
some-left P (x ∷ xs) ys (inl h) = inl h
some-left P (x ∷ xs) ys (inr h) = inr (some-left P xs ys h)

pub some-right : {X : Type 0} (P : X → Type 0) (xs ys : List X) → SomeOf P ys → SomeOf P (xs ++ ys)
some-right P [] ys h = h
some-right P (x ∷ xs) ys h = inr (some-right P xs ys h)

pub place-right : {X : Type 0} (P : X → Type 0) (xs ys : List X) (n : ℕ) → HoldsAtPlace P ys n → HoldsAtPlace P (xs ++ ys) (length xs + n)
place-right P [] ys n h = let e : n ≡ 0 + n = omega arith in subst (HoldsAtPlace P ys) e h
place-right P (x ∷ xs) ys n h = let e : suc (length xs + n) ≡ suc (length xs) + n = omega arith in subst (HoldsAtPlace P (x ∷ xs ++ ys)) e (place-right P xs ys n h)

pub some-map : {X Y : Type 0} (P : Y → Type 0) (f : X → Y) (xs : List X) → SomeOf (λ x. P (f x)) xs → SomeOf P (map f xs)
some-map P f [] h = h
some-map P f (x ∷ xs) (inl h) = inl h
some-map P f (x ∷ xs) (inr h) = inr (some-map P f xs h)

pub some-of-map : {X Y : Type 0} (P : Y → Type 0) (f : X → Y) (xs : List X) → SomeOf P (map f xs) → SomeOf (λ x. P (f x)) xs
some-of-map P f [] h = h
some-of-map P f (x ∷ xs) (inl h) = inl h
some-of-map P f (x ∷ xs) (inr h) = inr (some-of-map P f xs h)

pub all-of-map : {X Y : Type 0} (P : Y → Type 0) (f : X → Y) (xs : List X) → AllByRecursion P (map f xs) → AllByRecursion (λ x. P (f x)) xs
all-of-map P f [] h = h
all-of-map P f (x ∷ xs) h = (h.0, all-of-map P f xs h.1)

pub place-map : {X Y : Type 0} (P : Y → Type 0) (f : X → Y) (xs : List X) (n : ℕ) → HoldsAtPlace (λ x. P (f x)) xs n → HoldsAtPlace P (map f xs) n
place-map P f [] n h = h
place-map P f (x ∷ xs) zero h = h
place-map P f (x ∷ xs) (suc n) h = place-map P f xs n h

pub place-of-map : {X Y : Type 0} (P : Y → Type 0) (f : X → Y) (xs : List X) (n : ℕ) → HoldsAtPlace P (map f xs) n → HoldsAtPlace (λ x. P (f x)) xs n
place-of-map P f [] n h = h
place-of-map P f (x ∷ xs) zero h = h
place-of-map P f (x ∷ xs) (suc n) h = place-of-map P f xs n h

-- what some have that all have in another way
pub met : {X Y : Type 0} (P Q : X → Type 0) → ((x : X) → P x → Q x → Y) → (xs : List X) → AllByRecursion P xs → SomeOf Q xs → Y
met P Q f [] h k = absurd k
met P Q f (x ∷ xs) h (inl k) = f x h.0 k
met P Q f (x ∷ xs) h (inr k) = met P Q f xs h.1 k

-- a list holds the elements of two others, and of the second the one at a place
pub record IsTogether {X : Type 0} (ys zs ms : List X) (q k : ℕ) : Type 1 where
  pub first : (P : X → Type 0) → SomeOf P ys → SomeOf P ms
  pub second : (P : X → Type 0) → SomeOf P zs → SomeOf P ms
  pub back : (P : X → Type 0) → AllByRecursion P ys → AllByRecursion P zs → AllByRecursion P ms
  pub main : (P : X → Type 0) → HoldsAtPlace P ms k → HoldsAtPlace P zs q

pub together-map : {X Y : Type 0} (f : X → Y) (ys zs ms : List X) (q k : ℕ) → IsTogether ys zs ms q k → IsTogether (map f ys) (map f zs) (map f ms) q k
together-map f ys zs ms q k t = record {
  first = λ P h. some-map P f ms (t.first (λ x. P (f x)) (some-of-map P f ys h));
  second = λ P h. some-map P f ms (t.second (λ x. P (f x)) (some-of-map P f zs h));
  back = λ P h l. all_map P f ms (t.back (λ x. P (f x)) (all-of-map P f ys h) (all-of-map P f zs l));
  main = λ P h. place-map P f zs q (t.main (λ x. P (f x)) (place-of-map P f ms k h));
}

pub together-append : (ys zs : List Range) (q : ℕ) → q < length zs → IsTogether ys zs (ys ++ zs) q (length ys + q)
together-append ys zs q l = record {
  first = λ P h. some-left P ys zs h;
  second = λ P h. some-right P ys zs h;
  back = λ P h k. all-append P ys zs h k;
  main = λ P h. place-of-right P ys h;
}
  where
    place-of-right : (P : Range → Type 0) (xs : List Range) → HoldsAtPlace P (xs ++ zs) (length xs + q) → HoldsAtPlace P zs q
    place-of-right P [] h = let e : 0 + q ≡ q = omega arith in subst (HoldsAtPlace P zs) e h
    place-of-right P (x ∷ xs) h = let e : suc (length xs) + q ≡ suc (length xs + q) = omega arith in place-of-right P xs (subst (HoldsAtPlace P (x ∷ xs ++ zs)) e h)

-- one that holds one that holds a range
held : (a : Range) (ys ws : List Range) → AllByRecursion (λ y. SomeOf (λ w. Holds w y) ws) ys → SomeOf (λ y. Holds y a) ys → SomeOf (λ w. Holds w a) ws
held a ys ws h k = met (λ y. SomeOf (λ w. Holds w y) ws) (λ y. Holds y a) (λ y f g. some_weaker (λ w. Holds w y) (λ w. Holds w a) (λ w i. (omega (arith, i.0, g.0), omega (arith, i.1, g.1))) ws f) ys h k

held-there : (a : Range) (zs ws : List Range) (q l : ℕ) → HoldsAtPlace (λ z. HoldsAtPlace (λ w. Holds w z) ws l) zs q → HoldsAtPlace (λ z. Holds z a) zs q → HoldsAtPlace (λ w. Holds w a) ws l
held-there a zs ws q l h k =
    let all : AllByRecursion (λ (_ : Range). Unit {0}) zs = every zs in
    let w : (z : Range) × Unit {0} × Holds z a × HoldsAtPlace (λ w. Holds w z) ws l = at_one_place (λ z. Holds z a) (λ z. HoldsAtPlace (λ w. Holds w z) ws l) (λ _. Unit {0}) zs q all k h in
    place_weaker (λ v. Holds v w.0) (λ v. Holds v a) (λ v i. (omega (arith, i.0, w.2.0), omega (arith, i.1, w.2.1))) ws l w.3
  where
    every : (xs : List Range) → AllByRecursion (λ (_ : Range). Unit {0}) xs
    every [] = tt
    every (x ∷ xs) = (tt, every xs)

-- what two settled lists together are settled to, their ranges together are
pub span-joined : (xs us ys zs ms ws : List Range) (m n p q k l : ℕ) → IsSpan xs m ys p → IsSpan us n zs q → IsTogether ys zs ms q k → IsSpan ms k ws l → IsSpan (xs ++ us) (length xs + n) ws l
span-joined xs us ys zs ms ws m n p q k l h i t s = record {
  plain = s.plain;
  apart = s.apart;
  covers = all-append (λ a. SomeOf (λ w. Holds w a) ws) xs us
      (all_weaker (λ a. SomeOf (λ y. Holds y a) ys) (λ a. SomeOf (λ w. Holds w a) ws) (λ a f. held a ms ws s.covers (t.first (λ y. Holds y a) f)) xs h.covers)
      (all_weaker (λ a. SomeOf (λ y. Holds y a) zs) (λ a. SomeOf (λ w. Holds w a) ws) (λ a f. held a ms ws s.covers (t.second (λ y. Holds y a) f)) us i.covers);
  bridged = all_weaker (IsBridged ms) (IsBridged (xs ++ us)) (λ r b o low high. bridged o (b o low high)) ws s.bridged;
  begins = all_weaker (BeginsWith ms) (BeginsWith (xs ++ us)) (λ r b. begins r.low b) ws s.begins;
  holds_main = place-right (λ b. HoldsAtPlace (λ w. Holds w b) ws l) xs us n
      (place_weaker (λ b. HoldsAtPlace (λ z. Holds z b) zs q) (λ b. HoldsAtPlace (λ w. Holds w b) ws l) (λ b f. held-there b zs ws q l (t.main (λ z. HoldsAtPlace (λ w. Holds w z) ws l) s.holds_main) f) us n i.holds_main);
}
  where
    bridged : (o : ℕ) → SomeOf (Reaches o) ms → SomeOf (Reaches o) (xs ++ us)
    bridged o f =
        let P : Range → Type 0 = λ y. Reaches o y → SomeOf (Reaches o) (xs ++ us) in
        let all : AllByRecursion P ms = t.back P
        (all_weaker (IsBridged xs) P (λ y b g. some-left (Reaches o) xs us (b o g.0 g.1)) ys h.bridged)
        (all_weaker (IsBridged us) P (λ y b g. some-right (Reaches o) xs us (b o g.0 g.1)) zs i.bridged) in
        met P (Reaches o) (λ y g r. g r) ms all f

    begins : (low : ℕ) → SomeOf (λ y. y.low ≡ low) ms → SomeOf (λ x. x.low ≡ low) (xs ++ us)
    begins low f =
        let P : Range → Type 0 = λ y. y.low ≡ low → SomeOf (λ x. x.low ≡ low) (xs ++ us) in
        let all : AllByRecursion P ms = t.back P
        (all_weaker (BeginsWith xs) P (λ y b g. some-left (λ x. x.low ≡ low) xs us (some_weaker (λ x. x.low ≡ y.low) (λ x. x.low ≡ low) (λ x e. e ∙ g) xs b)) ys h.begins)
        (all_weaker (BeginsWith us) P (λ y b g. some-right (λ x. x.low ≡ low) xs us (some_weaker (λ x. x.low ≡ y.low) (λ x. x.low ≡ low) (λ x e. e ∙ g) us b)) zs i.begins) in
        met P (λ y. y.low ≡ low) (λ y g r. g r) ms all f

-- a map goes over an offset between two places that lie one behind the other
record IsStepOver (f : ℕ → ℕ) (a b o : ℕ) : Type 0 where
  pub at : ℕ
  pub low : a ≤ at
  pub high : at < b
  pub before : f at ≤ o
  pub behind : o < f (at + 1)

ways : (a b : ℕ) → (a < b) ⊎ (b ≤ a)
ways a b = grind arith

step-over : (f : ℕ → ℕ) (a o k : ℕ) → f a ≤ o → o < f (a + k) → IsStepOver f a (a + k) o
step-over f a o zero h l = let e : a + 0 ≡ a = omega arith in absurd (omega (arith, h, l, ap f e))
step-over f a o (suc k) h l =
    elim (ways o (f (a + k))) [
      | inl lt ↦ (let w : IsStepOver f a (a + k) o = step-over f a o k h lt in record { at = w.at; low = w.low; high = omega (arith, w.high); before = w.before; behind = w.behind })
      | inr le ↦ (let e : a + suc k ≡ a + k + 1 = omega arith in record { at = a + k; low = omega arith; high = omega arith; before = le; behind = subst (λ n. o < f n) e l })
    ]

-- what a settled list is settled to when it is carried, its ranges are
pub span-carried : (f : ℕ → ℕ) → KeepsOrder f → (xs ys zs : List Range) (n p q : ℕ) → IsSpan xs n ys p → IsSpan (map (carried f) ys) p zs q → IsSpan (map (carried f) xs) n zs q
span-carried f keeps xs ys zs n p q h i = record {
  plain = i.plain;
  apart = i.apart;
  covers = all_map (λ x. SomeOf (λ z. Holds z x) zs) (carried f) xs (all_weaker (λ x. SomeOf (λ y. Holds y x) ys) (λ x. SomeOf (λ z. Holds z (carried f x)) zs) covers xs h.covers);
  bridged = all_weaker (IsBridged (map (carried f) ys)) (IsBridged (map (carried f) xs)) (λ r b o low high. bridged o (b o low high)) zs i.bridged;
  begins = all_weaker (BeginsWith (map (carried f) ys)) (BeginsWith (map (carried f) xs)) (λ r b. begins r.low b) zs i.begins;
  holds_main = place-map (λ x. HoldsAtPlace (λ z. Holds z x) zs q) (carried f) xs n (place_weaker (λ x. HoldsAtPlace (λ y. Holds y x) ys p) (λ x. HoldsAtPlace (λ z. Holds z (carried f x)) zs q) main xs n h.holds_main);
}
  where
    covers : (x : Range) → SomeOf (λ y. Holds y x) ys → SomeOf (λ z. Holds z (carried f x)) zs
    covers x k =
        held (carried f x) (map (carried f) ys) zs i.covers
        (some-map (λ y. Holds y (carried f x)) (carried f) ys (some_weaker (λ y. Holds y x) (λ y. Holds (carried f y) (carried f x)) (λ y g. (keeps y.low x.low g.0, keeps x.high y.high g.1)) ys k))

    crossed : (o : ℕ) (y : Range) → IsPlain y → IsBridged xs y → Reaches o (carried f y) → SomeOf (Reaches o) (map (carried f) xs)
    crossed o y plain b r =
        let e : y.low + (y.high - y.low) ≡ y.high = omega (arith, plain.ordered) in
        let w : IsStepOver f y.low (y.low + (y.high - y.low)) o = step-over f y.low o (y.high - y.low) r.0 (subst (λ k. o < f k) (sym e) r.1) in
        some-map (Reaches o) (carried f) xs (some_weaker (Reaches w.at) (λ x. Reaches o (carried f x)) (λ x g. (omega (arith, w.before, keeps x.low w.at g.0), omega (arith, w.behind, keeps (w.at + 1) x.high (omega (arith, g.1))))) xs (b w.at w.low (omega (arith, w.high, e))))

    bridged : (o : ℕ) → SomeOf (Reaches o) (map (carried f) ys) → SomeOf (Reaches o) (map (carried f) xs)
    bridged o k =
        met (λ y. IsPlain y × IsBridged xs y) (λ y. Reaches o (carried f y)) (λ y g r. crossed o y g.0 g.1 r) ys (both ys h.plain h.bridged) (some-of-map (Reaches o) (carried f) ys k)
      where
        both : (ts : List Range) → AllByRecursion IsPlain ts → AllByRecursion (IsBridged xs) ts → AllByRecursion (λ y. IsPlain y × IsBridged xs y) ts
        both [] a b = tt
        both (t ∷ ts) a b = ((a.0, b.0), both ts a.1 b.1)

    begins : (low : ℕ) → SomeOf (λ y. y.low ≡ low) (map (carried f) ys) → SomeOf (λ x. x.low ≡ low) (map (carried f) xs)
    begins low k =
        met (BeginsWith xs) (λ y. f y.low ≡ low) (λ y b g. some-map (λ x. x.low ≡ low) (carried f) xs (some_weaker (λ x. x.low ≡ y.low) (λ x. f x.low ≡ low) (λ x e. ap f e ∙ g) xs b)) ys h.begins
        (some-of-map (λ y. y.low ≡ low) (carried f) ys k)

    main : (x : Range) → HoldsAtPlace (λ y. Holds y x) ys p → HoldsAtPlace (λ z. Holds z (carried f x)) zs q
    main x k =
        held-there (carried f x) (map (carried f) ys) zs p q i.holds_main
        (place-map (λ y. Holds y (carried f x)) (carried f) ys p (place_weaker (λ y. Holds y x) (λ y. Holds (carried f y) (carried f x)) (λ y g. (keeps y.low x.low g.0, keeps x.high y.high g.1)) ys p k))
