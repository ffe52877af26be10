-- A list put into another order by numbers that go along: what settles it settles the list, where the first at each low is still the first.
use Rattle.std.proofs.Common.{◌≡◌, ◌≢◌, ℕ, zero, suc, ◌+◌, ◌<◌, ◌≤◌, eqb, List, [], ◌∷◌, map, Some, refl, sym, ap, subst, subst₂, ◌∙◌, arith, inl, inr, ◌⊎◌, eqb-true}
use Rattle.std.proofs.lemmas.Bool.{eqb-false}
use Rattle.std.specs.List.{AllByRecursion}
use Rattle.std.specs.List.Sorted.{IsPermutation}
use Rattle.std.proofs.lemmas.List.Elements.{All-from_recursion, recursion_from_All}
use Rattle.std.proofs.lemmas.List.Sorted.{All-permutation}
use Rattle.text_model.proofs.CoordLemmas.{test_cases}
use Rattle.list_model.specs.Ranges.{Range}
use Rattle.list_model.specs.Settled.{SomeOf, HoldsAtPlace, Holds, Reaches, IsBridged, BeginsWithFirst, IsSettled}
use Rattle.list_model.proofs.ListLemmas.{all_weaker, all_map, some_weaker}
use Rattle.list_model.proofs.SettledLemmas.{IsOrdered, first_at, first_at-here, first_at-later, some_same}
use Rattle.list_model.proofs.UniqueLemmas.{IsMember, all_at, some_member, member_some}

-- the same members, the same first at each low, and the same main one
pub record IsReordered (xs : List Range) (n : ℕ) (zs : List Range) (m : ℕ) : Type 1 where
  pub to : (r : Range) → IsMember r xs → IsMember r zs
  pub back : (r : Range) → IsMember r zs → IsMember r xs
  pub firsts : (low : ℕ) (s : Range) → first_at low zs ≡ Some s → first_at low xs ≡ Some s
  pub mains : (P : Range → Type 0) → HoldsAtPlace P zs m → HoldsAtPlace P xs n

pub members_all : (P : Range → Type 0) (xs : List Range) → ((r : Range) → IsMember r xs → P r) → AllByRecursion P xs
members_all P [] f = tt
members_all P (x ∷ xs) f = (f x (inl refl), members_all P xs (λ r m. f r (inr m)))

pub settled-reordered : (xs zs : List Range) (n m : ℕ) (ys : List Range) (place : ℕ) → IsReordered xs n zs m → IsSettled zs m ys place → IsSettled xs n ys place
settled-reordered xs zs n m ys place o h = record {
  some = h.some;
  apart = h.apart;
  covers = members_all (λ s. SomeOf (λ r. Holds r s) ys) xs (λ r k. all_at (λ s. SomeOf (λ r. Holds r s) ys) r zs h.covers (o.to r k));
  bridged = all_weaker (IsBridged zs) (IsBridged xs) (λ r b at low high. some_back (Reaches at) (b at low high)) ys h.bridged;
  first = all_weaker (BeginsWithFirst zs) (BeginsWithFirst xs) (λ r b. (b.0, o.firsts r.low b.0 b.1, b.2)) ys h.first;
  holds_main = o.mains (λ s. HoldsAtPlace (λ r. Holds r s) ys place) h.holds_main;
}
  where
    some_back : (P : Range → Type 0) → SomeOf P zs → SomeOf P xs
    some_back P k = let w : (r : Range) × IsMember r zs × P r = some_member P zs k in member_some P w.0 xs (o.back w.0 w.1) w.2

-- a range with a number
pub record Counted : Type 0 where
  pub range : Range
  pub number : ℕ

abbrev pub count_from : ℕ → List Range → List Counted
count_from k [] = []
count_from k (x ∷ xs) = record { range = x; number = k } ∷ count_from (k + 1) xs

abbrev pub range_alone : Counted → Range
range_alone c = c.range

abbrev pub HasCounted : Range → ℕ → List Counted → Type 0
HasCounted s k cs = SomeOf (λ c. (c.range ≡ s) × (c.number ≡ k)) cs

-- earlier ones begin earlier, or in the same place with a lower number
abbrev pub Precedes : Counted → Counted → Type 0
Precedes a b = (a.range.low < b.range.low) ⊎ ((a.range.low ≡ b.range.low) × (a.number ≤ b.number))

abbrev pub IsRanked : List Counted → Type 0
IsRanked [] = Unit {0}
IsRanked (c ∷ cs) = AllByRecursion (Precedes c) cs × IsRanked cs

-- the one found has the least number of those at its low
pub record IsLeast (low : ℕ) (s : Range) (k : ℕ) (cs : List Counted) : Type 0 where
  pub there : HasCounted s k cs
  pub at : s.low ≡ low
  pub least : (t : Range) (j : ℕ) → HasCounted t j cs → t.low ≡ low → k ≤ j

none_some : (low : ℕ) (s : Range) → first_at low [] ≡ Some s → ⊥
none_some low s e = cc

counted_at : (P : Counted → Type 0) (cs : List Counted) (t : Range) (j : ℕ) → AllByRecursion P cs → HasCounted t j cs → (c : Counted) × P c × (c.range ≡ t) × (c.number ≡ j)
counted_at P [] t j h m = absurd m
counted_at P (c ∷ cs) t j h (inl e) = (c, h.0, e.0, e.1)
counted_at P (c ∷ cs) t j h (inr m) = counted_at P cs t j h.1 m

pub first_of_ranked : (low : ℕ) (cs : List Counted) (s : Range) → IsRanked cs → first_at low (map range_alone cs) ≡ Some s → (k : ℕ) × IsLeast low s k cs
first_of_ranked low [] s h e = absurd (none_some low s e)
first_of_ranked low (c ∷ cs) s h e =
    elim (test_cases (eqb c.range.low low)) [
      | inl t ↦ (let at : c.range.low ≡ low = eqb-true c.range.low low t in
          let is : c.range ≡ s = some_same c.range s (sym (first_at-here low c.range (map range_alone cs) at) ∙ e) in
          (c.number, record { there = inl (is, refl); at = ap (λ (r : Range). r.low) (sym is) ∙ at; least = here at }))
      | inr t ↦ (let apart : c.range.low ≢ low = eqb-false c.range.low low t in
          let w : (k : ℕ) × IsLeast low s k cs = first_of_ranked low cs s h.1 (sym (first_at-later low c.range (map range_alone cs) apart) ∙ e) in
          (w.0, record { there = inr w.1.there; at = w.1.at; least = later apart w.0 w.1 }))
    ]
  where
    here : c.range.low ≡ low → (t : Range) (j : ℕ) → HasCounted t j (c ∷ cs) → t.low ≡ low → c.number ≤ j
    here at t j (inl m) l = omega (arith, m.1)
    here at t j (inr m) l =
        let w : (d : Counted) × Precedes c d × (d.range ≡ t) × (d.number ≡ j) = counted_at (Precedes c) cs t j h.0 m in
        let same : w.0.range.low ≡ t.low = ap (λ (r : Range). r.low) w.2 in
        elim w.1 [ inl lt ↦ absurd (omega arith) | inr le ↦ omega (arith, le.1, w.3) ]

    later : c.range.low ≢ low → (k : ℕ) → IsLeast low s k cs → (t : Range) (j : ℕ) → HasCounted t j (c ∷ cs) → t.low ≡ low → k ≤ j
    later apart k w t j (inl m) l = absurd (apart (ap (λ (r : Range). r.low) m.0 ∙ l))
    later apart k w t j (inr m) l = w.least t j m l

counted_from : (b : ℕ) (xs : List Range) (s : Range) (k : ℕ) → HasCounted s k (count_from b xs) → b ≤ k
counted_from b [] s k m = absurd m
counted_from b (x ∷ xs) s k (inl e) = omega (arith, e.1)
counted_from b (x ∷ xs) s k (inr m) = omega (arith, counted_from (b + 1) xs s k m)

-- the least number at a low is the first in the list
pub least_is_first : (low b : ℕ) (xs : List Range) (s : Range) (k : ℕ) → IsLeast low s k (count_from b xs) → first_at low xs ≡ Some s
least_is_first low b [] s k h = absurd h.there
least_is_first low b (x ∷ xs) s k h =
    elim (test_cases (eqb x.low low)) [
      | inl t ↦ (let at : x.low ≡ low = eqb-true x.low low t in first_at-here low x xs at ∙ ap Some (head_is at h.there))
      | inr t ↦ (let apart : x.low ≢ low = eqb-false x.low low t in first_at-later low x xs apart ∙ least_is_first low (b + 1) xs s k (record { there = in_tail apart h.there; at = h.at; least = λ r j m l. h.least r j (inr m) l }))
    ]
  where
    head_is : x.low ≡ low → HasCounted s k (count_from b (x ∷ xs)) → x ≡ s
    head_is at (inl e) = e.0
    head_is at (inr m) = absurd (omega (arith, h.least x b (inl (refl, refl)) at, counted_from (b + 1) xs s k m))

    in_tail : x.low ≢ low → HasCounted s k (count_from b (x ∷ xs)) → HasCounted s k (count_from (b + 1) xs)
    in_tail apart (inl e) = absurd (apart (ap (λ (r : Range). r.low) e.0 ∙ h.at))
    in_tail apart (inr m) = m

-- the one with a number stands at that place of the list
pub counted_place : (P : Range → Type 0) (b : ℕ) (xs : List Range) (s : Range) (k j : ℕ) → HasCounted s k (count_from b xs) → k ≡ b + j → P s → HoldsAtPlace P xs j
counted_place P b [] s k j m e h = absurd m
counted_place P b (x ∷ xs) s k zero (inl w) e h = subst P (sym w.0) h
counted_place P b (x ∷ xs) s k zero (inr m) e h = absurd (omega (arith, counted_from (b + 1) xs s k m))
counted_place P b (x ∷ xs) s k (suc j) (inl w) e h = absurd (omega (arith, w.1))
counted_place P b (x ∷ xs) s k (suc j) (inr m) e h = counted_place P (b + 1) xs s k j m (omega arith) h

pub member_counted : (b : ℕ) (xs : List Range) (r : Range) → IsMember r xs → (k : ℕ) × HasCounted r k (count_from b xs)
member_counted b [] r m = absurd m
member_counted b (x ∷ xs) r (inl e) = (b, inl (e, refl))
member_counted b (x ∷ xs) r (inr m) = let w : (k : ℕ) × HasCounted r k (count_from (b + 1) xs) = member_counted (b + 1) xs r m in (w.0, inr w.1)

pub counted_member : (cs : List Counted) (s : Range) (k : ℕ) → HasCounted s k cs → IsMember s (map range_alone cs)
counted_member [] s k m = absurd m
counted_member (c ∷ cs) s k (inl e) = inl e.0
counted_member (c ∷ cs) s k (inr m) = inr (counted_member cs s k m)

pub counted_of_member : (cs : List Counted) (s : Range) → IsMember s (map range_alone cs) → (k : ℕ) × HasCounted s k cs
counted_of_member [] s m = absurd m
counted_of_member (c ∷ cs) s (inl e) = (c.number, inl (e, refl))
counted_of_member (c ∷ cs) s (inr m) = let w : (k : ℕ) × HasCounted s k cs = counted_of_member cs s m in (w.0, inr w.1)

pub ranges_counted : (b : ℕ) (xs : List Range) → map range_alone (count_from b xs) ≡ xs
ranges_counted b [] = refl
ranges_counted b (x ∷ xs) = ap (λ t. x ∷ t) (ranges_counted (b + 1) xs)

place_counted : (P : Range → Type 0) (cs : List Counted) (m n : ℕ) → HoldsAtPlace (λ c. c.number ≡ n) cs m → HoldsAtPlace P (map range_alone cs) m → (s : Range) × HasCounted s n cs × P s
place_counted P [] m n h k = absurd h
place_counted P (c ∷ cs) zero n h k = (c.range, inl (refl, h), k)
place_counted P (c ∷ cs) (suc m) n h k = let w : (s : Range) × HasCounted s n cs × P s = place_counted P cs m n h k in (w.0, inr w.1, w.2)

-- a ranked list of the same numbered ranges, with the main one's number at a place
pub ranked-reordered : (xs : List Range) (n : ℕ) (cs : List Counted) (m : ℕ) → IsRanked cs → ((s : Range) (k : ℕ) → HasCounted s k (count_from 0 xs) → HasCounted s k cs) → ((s : Range) (k : ℕ) → HasCounted s k cs → HasCounted s k (count_from 0 xs)) → HoldsAtPlace (λ c. c.number ≡ n) cs m → IsReordered xs n (map range_alone cs) m
ranked-reordered xs n cs m h to back main = record {
  to = λ r k. (let w : (j : ℕ) × HasCounted r j (count_from 0 xs) = member_counted 0 xs r k in counted_member cs r w.0 (to r w.0 w.1));
  back = λ r k. (let w : (j : ℕ) × HasCounted r j cs = counted_of_member cs r k in subst (λ l. IsMember r l) (ranges_counted 0 xs) (counted_member (count_from 0 xs) r w.0 (back r w.0 w.1)));
  firsts = λ low s e. (let w : (k : ℕ) × IsLeast low s k cs = first_of_ranked low cs s h e in
      least_is_first low 0 xs s w.0 (record { there = back s w.0 w.1.there; at = w.1.at; least = λ t j q l. w.1.least t j (to t j q) l }));
  mains = λ P k. (let w : (s : Range) × HasCounted s n cs × P s = place_counted P cs m n main k in counted_place P 0 xs w.0 n n (back w.0 n w.1) (omega arith) w.2);
}

-- a ranked list is in order
pub ranked-ordered : (cs : List Counted) → IsRanked cs → IsOrdered (map range_alone cs)
ranked-ordered [] h = tt
ranked-ordered (c ∷ cs) h = (all_map (λ s. c.range.low ≤ s.low) range_alone cs (all_weaker (Precedes c) (λ d. c.range.low ≤ d.range.low) not_after cs h.0), ranked-ordered cs h.1)
  where
    not_after : (d : Counted) → Precedes c d → c.range.low ≤ d.range.low
    not_after d (inl lt) = omega arith
    not_after d (inr w) = omega (arith, w.0)

-- lists in another order have the same numbered ranges
all_self : (cs ds : List Counted) → ((c : Counted) → SomeOf (λ d. d ≡ c) cs → HasCounted c.range c.number ds) → AllByRecursion (λ c. HasCounted c.range c.number ds) cs
all_self [] ds f = tt
all_self (c ∷ cs) ds f = (f c (inl refl), all_self cs ds (λ d m. f d (inr m)))

itself : (c : Counted) (cs : List Counted) → SomeOf (λ d. d ≡ c) cs → HasCounted c.range c.number cs
itself c cs m = some_weaker (λ d. d ≡ c) (λ d. (d.range ≡ c.range) × (d.number ≡ c.number)) (λ d e. (ap (λ (x : Counted). x.range) e, ap (λ (x : Counted). x.number) e)) cs m

pub has-permuted : (cs ds : List Counted) → IsPermutation cs ds → (s : Range) (k : ℕ) → HasCounted s k ds → HasCounted s k cs
has-permuted cs ds p s k m =
    let P : Counted → Type 0 = λ c. HasCounted c.range c.number cs in
    let all : AllByRecursion P ds = recursion_from_All P ds (All-permutation P cs ds p (All-from_recursion P cs (all_self cs cs (λ c n. itself c cs n)))) in
    let w : (c : Counted) × P c × (c.range ≡ s) × (c.number ≡ k) = counted_at P ds s k all m in
    subst₂ (λ r n. HasCounted r n cs) w.2 w.3 w.1
