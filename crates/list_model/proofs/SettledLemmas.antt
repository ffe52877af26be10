-- The sweep of a list in order is settled.
use Rattle.std.proofs.Common.{◌≡◌, ◌≢◌, ℕ, zero, suc, ◌<◌, ◌≤◌, cond, eqb, leb, List, [], ◌∷◌, find, Some, Option, refl, sym, ap, subst, ◌∙◌, arith, inl, inr, ◌⊎◌, eq-eqb, ne_eqb, eqb-true, leb-true, leb-false, subst₂}
use Rattle.std.proofs.lemmas.Bool.{eqb-false}
use Rattle.std.specs.List.{AllByRecursion}
use Rattle.text_model.proofs.CoordLemmas.{test_cases}
use Rattle.list_model.specs.Ranges.{Range, IsRange}
use Rattle.list_model.specs.Settling.{sweep, sweep_place, joined_range, ranges, swept, swept_place}
use Rattle.list_model.specs.Settled.{SomeOf, HoldsAtPlace, Holds, AreApart, Reaches, IsBridged, BeginsWithFirst, IsSettled}
use Rattle.list_model.proofs.SweepLemmas.{sweep-due, sweep-apart, place-due, place-apart}
use Rattle.list_model.proofs.ListLemmas.{all_weaker, all_both, some_weaker, place_weaker}

-- the lows don't fall
abbrev pub IsOrdered : List Range → Type 0
IsOrdered [] = Unit {0}
IsOrdered (r ∷ rs) = AllByRecursion (λ s. r.low ≤ s.low) rs × IsOrdered rs

-- the high of two joined
pub joined_cases : (r s : Range) → (((joined_range r s).high ≡ s.high) × (r.high ≤ s.high)) ⊎ (((joined_range r s).high ≡ r.high) × (s.high < r.high))
joined_cases r s =
    elim (test_cases (leb r.high s.high)) [
      | inl e ↦ inl (ap (λ v. cond v s.high r.high) e, leb-true r.high s.high e)
      | inr e ↦ inr (ap (λ v. cond v s.high r.high) e, leb-false r.high s.high e)
    ]

pub joined_holds_first : (r s : Range) → r.high ≤ (joined_range r s).high
joined_holds_first r s = elim (joined_cases r s) [ inl w ↦ omega (arith, w.0, w.1) | inr w ↦ omega (arith, w.0) ]

pub joined_holds_second : (r s : Range) → s.high ≤ (joined_range r s).high
joined_holds_second r s = elim (joined_cases r s) [ inl w ↦ omega (arith, w.0) | inr w ↦ omega (arith, w.0, w.1) ]

-- induction along the sweep
pub along : (P : Range → List Range → List Range → Type 0) → ((c : Range) → P c [] (c ∷ [])) → ((c s : Range) (ss ys : List Range) → s.low ≤ c.high → P (joined_range c s) ss ys → P c (s ∷ ss) ys) → ((c s : Range) (ss ys : List Range) → c.high < s.low → P s ss ys → P c (s ∷ ss) (c ∷ ys)) → (c : Range) (ss : List Range) → P c ss (sweep ranges c ss)
along P last due apart c [] = last c
along P last due apart c (s ∷ ss) =
    elim (test_cases (leb s.low c.high)) [
      | inl e ↦ (let Q : List Range → Type 0 = λ ys. P c (s ∷ ss) ys in
          subst Q (sym (sweep-due ranges c s ss e)) (due c s ss (sweep ranges (joined_range c s) ss) (leb-true s.low c.high e) (along P last due apart (joined_range c s) ss)))
      | inr e ↦ (let Q : List Range → Type 0 = λ ys. P c (s ∷ ss) ys in
          subst Q (sym (sweep-apart ranges c s ss e)) (apart c s ss (sweep ranges s ss) (leb-false s.low c.high e) (along P last due apart s ss)))
    ]

-- what the sweep starts from
pub record Starts (c : Range) (ss : List Range) : Type 0 where
  pub range : IsRange c
  pub ranges_are : AllByRecursion IsRange ss
  pub behind : AllByRecursion (λ s. c.low ≤ s.low) ss
  pub ordered : IsOrdered ss

starts_joined : (c s : Range) (ss : List Range) → Starts c (s ∷ ss) → Starts (joined_range c s) ss
starts_joined c s ss h = record {
  range = omega (arith, joined_holds_first c s, h.range);
  ranges_are = h.ranges_are.1;
  behind = h.behind.1;
  ordered = h.ordered.1;
}

starts_next : (c s : Range) (ss : List Range) → Starts c (s ∷ ss) → Starts s ss
starts_next c s ss h = record { range = h.ranges_are.0; ranges_are = h.ranges_are.1; behind = h.ordered.0; ordered = h.ordered.1 }

-- where a swept one begins: with the first one, or behind it
abbrev pub BeginsBeyond : Range → Range → Type 0
BeginsBeyond c r = (r.low ≡ c.low) ⊎ (c.high < r.low)

beyond_joined : (c s r : Range) → BeginsBeyond (joined_range c s) r → BeginsBeyond c r
beyond_joined c s r (inl e) = inl e
beyond_joined c s r (inr h) = inr (omega (arith, joined_holds_first c s))

beyond_next : (c s r : Range) → c.high < s.low → IsRange s → BeginsBeyond s r → c.high < r.low
beyond_next c s r h k (inl e) = omega arith
beyond_next c s r h k (inr l) = omega arith

pub swept_ranges : (c : Range) (ss : List Range) → Starts c ss → AllByRecursion IsRange (sweep ranges c ss)
swept_ranges =
    along (λ c ss ys. Starts c ss → AllByRecursion IsRange ys)
    (λ c h. (h.range, tt))
    (λ c s ss ys l f h. f (starts_joined c s ss h))
    (λ c s ss ys l f h. (h.range, f (starts_next c s ss h)))

pub swept_beyond : (c : Range) (ss : List Range) → Starts c ss → AllByRecursion (BeginsBeyond c) (sweep ranges c ss)
swept_beyond =
    along (λ c ss ys. Starts c ss → AllByRecursion (BeginsBeyond c) ys)
    (λ c h. (inl refl, tt))
    (λ c s ss ys l f h. all_weaker (BeginsBeyond (joined_range c s)) (BeginsBeyond c) (λ r. beyond_joined c s r) ys (f (starts_joined c s ss h)))
    (λ c s ss ys l f h. (inl refl, all_weaker (BeginsBeyond s) (BeginsBeyond c) (λ r b. inr (beyond_next c s r l h.ranges_are.0 b)) ys (f (starts_next c s ss h))))

pub swept_apart : (c : Range) (ss : List Range) → Starts c ss → AreApart (sweep ranges c ss) × AllByRecursion (BeginsBeyond c) (sweep ranges c ss)
swept_apart =
    along (λ c ss ys. Starts c ss → AreApart ys × AllByRecursion (BeginsBeyond c) ys)
    (λ c h. ((tt, tt), (inl refl, tt)))
    (λ c s ss ys l f h. let w : AreApart ys × AllByRecursion (BeginsBeyond (joined_range c s)) ys = f (starts_joined c s ss h) in
    (w.0, all_weaker (BeginsBeyond (joined_range c s)) (BeginsBeyond c) (λ r. beyond_joined c s r) ys w.1))
    (λ c s ss ys l f h. let w : AreApart ys × AllByRecursion (BeginsBeyond s) ys = f (starts_next c s ss h) in
    let behind : AllByRecursion (λ r. c.high < r.low) ys = all_weaker (BeginsBeyond s) (λ r. c.high < r.low) (λ r. beyond_next c s r l h.ranges_are.0) ys w.1 in
    ((behind, w.0), (inl refl, all_weaker (λ r. c.high < r.low) (BeginsBeyond c) (λ r k. inr k) ys behind)))

holds_first : (c s r : Range) → Holds r (joined_range c s) → Holds r c
holds_first c s r h = (h.0, omega (arith, joined_holds_first c s, h.1))

holds_second : (c s r : Range) → c.low ≤ s.low → Holds r (joined_range c s) → Holds r s
holds_second c s r l h = (omega (arith, h.0), omega (arith, joined_holds_second c s, h.1))

pub swept_covers : (c : Range) (ss : List Range) → Starts c ss → AllByRecursion (λ s. SomeOf (λ r. Holds r s) (sweep ranges c ss)) (c ∷ ss)
swept_covers =
    along (λ c ss ys. Starts c ss → AllByRecursion (λ s. SomeOf (λ r. Holds r s) ys) (c ∷ ss))
    (λ c h. (inl (omega arith, omega arith), tt))
    (λ c s ss ys l f h. let w : AllByRecursion (λ x. SomeOf (λ r. Holds r x) ys) (joined_range c s ∷ ss) = f (starts_joined c s ss h) in
    (some_weaker (λ r. Holds r (joined_range c s)) (λ r. Holds r c) (λ r. holds_first c s r) ys w.0, (some_weaker (λ r. Holds r (joined_range c s)) (λ r. Holds r s) (λ r. holds_second c s r h.behind.0) ys w.0, w.1)))
    (λ c s ss ys l f h. (inl (omega arith, omega arith), all_weaker (λ x. SomeOf (λ r. Holds r x) ys) (λ x. SomeOf (λ r. Holds r x) (c ∷ ys)) (λ x k. inr k) (s ∷ ss) (f (starts_next c s ss h))))

-- wherever the two joined go on, one of them does
reached_by_two : (c s : Range) (ss : List Range) (o : ℕ) → c.low ≤ s.low → s.low ≤ c.high → SomeOf (Reaches o) (joined_range c s ∷ ss) → SomeOf (Reaches o) (c ∷ s ∷ ss)
reached_by_two c s ss o l k (inr h) = inr (inr h)
reached_by_two c s ss o l k (inl h) =
    elim (joined_cases c s) [
      | inl w ↦ elim (below_or_not o c.high) [
        | inl lt ↦ inl (omega (arith, h.0), lt)
        | inr le ↦ inr (inl (omega arith, omega (arith, h.1, w.0)))
      ]
      | inr w ↦ inl (omega (arith, h.0), omega (arith, h.1, w.0))
    ]
  where
    below_or_not : (m n : ℕ) → (m < n) ⊎ (n ≤ m)
    below_or_not m n = grind arith

pub swept_bridged : (c : Range) (ss : List Range) → Starts c ss → AllByRecursion (IsBridged (c ∷ ss)) (sweep ranges c ss)
swept_bridged =
    along (λ c ss ys. Starts c ss → AllByRecursion (IsBridged (c ∷ ss)) ys)
    (λ c h. (λ o l k. inl (l, k), tt))
    (λ c s ss ys l f h. all_weaker (IsBridged (joined_range c s ∷ ss)) (IsBridged (c ∷ s ∷ ss)) (λ r b o low high. reached_by_two c s ss o h.behind.0 l (b o low high)) ys (f (starts_joined c s ss h)))
    (λ c s ss ys l f h. (λ o low high. inl (low, high), all_weaker (IsBridged (s ∷ ss)) (IsBridged (c ∷ s ∷ ss)) (λ r b o low high. inr (b o low high)) ys (f (starts_next c s ss h))))

-- the first that begins at a low
abbrev pub first_at : ℕ → List Range → Option Range
first_at low xs = find (λ t. eqb t.low low) xs

pub first_at-here : (low : ℕ) (c : Range) (ss : List Range) → c.low ≡ low → first_at low (c ∷ ss) ≡ Some c
first_at-here low c ss e = ap (λ v. cond v (Some c) (first_at low ss)) (eq-eqb c.low low e)

pub first_at-later : (low : ℕ) (c : Range) (ss : List Range) → c.low ≢ low → first_at low (c ∷ ss) ≡ first_at low ss
first_at-later low c ss ne = ap (λ v. cond v (Some c) (first_at low ss)) (ne_eqb c.low low ne)

pub some_same : (a b : Range) → Some a ≡ Some b → a ≡ b
some_same a b e = cc

first_of_joined : (c s : Range) (ss : List Range) (r : Range) → s.low ≤ c.high → BeginsBeyond (joined_range c s) r → BeginsWithFirst (joined_range c s ∷ ss) r → BeginsWithFirst (c ∷ s ∷ ss) r
first_of_joined c s ss r l b h =
    elim (test_cases (eqb c.low r.low)) [
      | inl e ↦ (let at : c.low ≡ r.low = eqb-true c.low r.low e in
          let is : joined_range c s ≡ h.0 = some_same (joined_range c s) h.0 (sym (first_at-here r.low (joined_range c s) ss at) ∙ h.1) in
          (c, first_at-here r.low c (s ∷ ss) at, (h.2.0 ∙ ap (λ (x : Range). x.turned) (sym is), h.2.1 ∙ ap (λ (x : Range). x.target) (sym is))))
      | inr e ↦ (let apart : c.low ≢ r.low = eqb-false c.low r.low e in
          let beyond : (joined_range c s).high < r.low = elim b [ inl same ↦ absurd (apart (sym same)) | inr lt ↦ lt ] in
          let later : s.low ≢ r.low = (λ same. omega (arith, joined_holds_first c s)) in
          (h.0, first_at-later r.low c (s ∷ ss) apart ∙ first_at-later r.low s ss later ∙ sym (first_at-later r.low (joined_range c s) ss apart) ∙ h.1, h.2))
    ]

first_of_next : (c s : Range) (ss : List Range) (r : Range) → IsRange c → c.high < r.low → BeginsWithFirst (s ∷ ss) r → BeginsWithFirst (c ∷ s ∷ ss) r
first_of_next c s ss r k lt h =
    let apart : c.low ≢ r.low = (λ same. omega arith) in
    (h.0, first_at-later r.low c (s ∷ ss) apart ∙ h.1, h.2)

pub swept_first : (c : Range) (ss : List Range) → Starts c ss → AllByRecursion (BeginsBeyond c) (sweep ranges c ss) × AllByRecursion (BeginsWithFirst (c ∷ ss)) (sweep ranges c ss)
swept_first =
    along (λ c ss ys. Starts c ss → AllByRecursion (BeginsBeyond c) ys × AllByRecursion (BeginsWithFirst (c ∷ ss)) ys)
    (λ c h. ((inl refl, tt), ((c, first_at-here c.low c [] refl, (refl, refl)), tt)))
    (λ c s ss ys l f h. let w : AllByRecursion (BeginsBeyond (joined_range c s)) ys × AllByRecursion (BeginsWithFirst (joined_range c s ∷ ss)) ys = f (starts_joined c s ss h) in
    (all_weaker (BeginsBeyond (joined_range c s)) (BeginsBeyond c) (λ r. beyond_joined c s r) ys w.0, all_both (BeginsBeyond (joined_range c s)) (BeginsWithFirst (joined_range c s ∷ ss)) (BeginsWithFirst (c ∷ s ∷ ss)) (λ r. first_of_joined c s ss r l) ys w.0 w.1))
    (λ c s ss ys l f h. let w : AllByRecursion (BeginsBeyond s) ys × AllByRecursion (BeginsWithFirst (s ∷ ss)) ys = f (starts_next c s ss h) in
    let behind : AllByRecursion (λ r. c.high < r.low) ys = all_weaker (BeginsBeyond s) (λ r. c.high < r.low) (λ r. beyond_next c s r l h.ranges_are.0) ys w.0 in
    ((inl refl, all_weaker (λ r. c.high < r.low) (BeginsBeyond c) (λ r k. inr k) ys behind), ((c, first_at-here c.low c (s ∷ ss) refl, (refl, refl)), all_both (λ r. c.high < r.low) (BeginsWithFirst (s ∷ ss)) (BeginsWithFirst (c ∷ s ∷ ss)) (λ r. first_of_next c s ss r h.range) ys behind w.1)))

-- the first of the swept holds the first one
pub swept_head_holds : (c : Range) (ss : List Range) → HoldsAtPlace (λ r. Holds r c) (sweep ranges c ss) 0
swept_head_holds =
    along (λ c ss ys. HoldsAtPlace (λ r. Holds r c) ys 0)
    (λ c. (omega arith, omega arith))
    (λ c s ss ys l f. place_weaker (λ r. Holds r (joined_range c s)) (λ r. Holds r c) (λ r. holds_first c s r) ys 0 f)
    (λ c s ss ys l f. (omega arith, omega arith))

abbrev pub HoldsFrom : List Range → ℕ → List Range → ℕ → Type 0
HoldsFrom xs n ys place = HoldsAtPlace (λ s. HoldsAtPlace (λ r. Holds r s) ys place) xs n

held_of_joined : (c s : Range) (ss ys : List Range) (n place : ℕ) → c.low ≤ s.low → HoldsFrom (joined_range c s ∷ ss) n ys place → HoldsFrom (s ∷ ss) n ys place
held_of_joined c s ss ys zero place l h = place_weaker (λ r. Holds r (joined_range c s)) (λ r. Holds r s) (λ r. holds_second c s r l) ys place h
held_of_joined c s ss ys (suc n) place l h = h

in_joined : (c s : Range) (ss : List Range) (n : ℕ) → HoldsAtPlace (λ _. Unit {0}) (s ∷ ss) n → HoldsAtPlace (λ _. Unit {0}) (joined_range c s ∷ ss) n
in_joined c s ss zero h = tt
in_joined c s ss (suc n) h = h

pub swept_holds_main : (c : Range) (ss : List Range) (n : ℕ) → Starts c ss → HoldsAtPlace (λ _. Unit {0}) (c ∷ ss) n → HoldsFrom (c ∷ ss) n (sweep ranges c ss) (sweep_place ranges c ss n)
swept_holds_main c ss zero h in' = swept_head_holds c ss
swept_holds_main c [] (suc n) h in' = absurd in'
swept_holds_main c (s ∷ ss) (suc n) h in' =
    elim (test_cases (leb s.low c.high)) [
      | inl e ↦ (let Q : List Range → ℕ → Type 0 = λ ys m. HoldsFrom (s ∷ ss) n ys m in
          subst₂ Q (sym (sweep-due ranges c s ss e)) (sym (place-due ranges c s ss n e)) (held_of_joined c s ss (sweep ranges (joined_range c s) ss) n (sweep_place ranges (joined_range c s) ss n) h.behind.0 (swept_holds_main (joined_range c s) ss n (starts_joined c s ss h) (in_joined c s ss n in'))))
      | inr e ↦ (let Q : List Range → ℕ → Type 0 = λ ys m. HoldsFrom (s ∷ ss) n ys m in
          subst₂ Q (sym (sweep-apart ranges c s ss e)) (sym (place-apart ranges c s ss n e)) (swept_holds_main s ss n (starts_next c s ss h) in'))
    ]

-- the sweep of a list in order is its settled list
pub swept_is_settled : (xs : List Range) (n : ℕ) → AllByRecursion IsRange xs → IsOrdered xs → HoldsAtPlace (λ _. Unit {0}) xs n → IsSettled xs n (swept xs) (swept_place xs n)
swept_is_settled [] n h o in' = absurd in'
swept_is_settled (c ∷ ss) n h o in' =
    let start : Starts c ss = record { range = h.0; ranges_are = h.1; behind = o.0; ordered = o.1 } in
    record {
      some = swept_ranges c ss start;
      apart = (swept_apart c ss start).0;
      covers = swept_covers c ss start;
      bridged = swept_bridged c ss start;
      first = (swept_first c ss start).1;
      holds_main = swept_holds_main c ss n start in';
    }
