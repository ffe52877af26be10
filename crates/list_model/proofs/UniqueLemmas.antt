-- A list has one settled list; and two of its selections are in one range of it exactly where a chain links them.
use Rattle.std.proofs.Common.{◌≡◌, ℕ, zero, suc, ◌+◌, ◌-◌, ◌<◌, ◌≤◌, Bool, cond, eqb, List, [], ◌∷◌, Option, Some, refl, sym, ap, ap₂, subst, ◌∙◌, arith, inl, inr, ◌⊎◌, eqb-true, max}
use Rattle.std.specs.List.{AllByRecursion}
use Rattle.text_model.proofs.CoordLemmas.{test_cases}
use Rattle.list_model.specs.Ranges.{Range, IsRange}
use Rattle.list_model.specs.Settled.{SomeOf, HoldsAtPlace, Holds, AreApart, Reaches, IsBridged, BeginsWithFirst, IsSettled, Shares, IsLinked, same, link}
use Rattle.list_model.proofs.SettledLemmas.{first_at, some_same}

-- an element of a list
abbrev pub IsMember : Range → List Range → Type 0
IsMember r xs = SomeOf (λ x. x ≡ r) xs

pub all_at : (P : Range → Type 0) (r : Range) (xs : List Range) → AllByRecursion P xs → IsMember r xs → P r
all_at P r [] h m = absurd m
all_at P r (x ∷ xs) h (inl e) = subst P e h.0
all_at P r (x ∷ xs) h (inr m) = all_at P r xs h.1 m

pub some_member : (P : Range → Type 0) (xs : List Range) → SomeOf P xs → (r : Range) × IsMember r xs × P r
some_member P [] h = absurd h
some_member P (x ∷ xs) (inl h) = (x, inl refl, h)
some_member P (x ∷ xs) (inr h) = let w : (r : Range) × IsMember r xs × P r = some_member P xs h in (w.0, inr w.1, w.2)

pub member_some : (P : Range → Type 0) (r : Range) (xs : List Range) → IsMember r xs → P r → SomeOf P xs
member_some P r [] m h = absurd m
member_some P r (x ∷ xs) (inl e) h = inl (subst P (sym e) h)
member_some P r (x ∷ xs) (inr m) h = inr (member_some P r xs m h)

pub same_range : (a b : Range) → a.low ≡ b.low → a.high ≡ b.high → a.turned ≡ b.turned → a.target ≡ b.target → a ≡ b
same_range a b l h t g =
    let P : ℕ → ℕ → Bool → Option ℕ → Range = λ v w x y. record { low = v; high = w; turned = x; target = y } in
    ap (λ v. P v a.high a.turned a.target) l ∙ ap (λ w. P b.low w a.turned a.target) h ∙ ap (λ x. P b.low b.high x a.target) t ∙ ap (λ y. P b.low b.high b.turned y) g

-- two that share a character are the same
pub apart_same : (ys : List Range) (a b : Range) (c : ℕ) → AreApart ys → IsMember a ys → IsMember b ys → a.low ≤ c → c ≤ a.high → b.low ≤ c → c ≤ b.high → a ≡ b
apart_same [] a b c h m n al ah bl bh = absurd m
apart_same (y ∷ ys) a b c h (inl e) (inl f) al ah bl bh = sym e ∙ f
apart_same (y ∷ ys) a b c h (inl e) (inr n) al ah bl bh =
    let behind : y.high < b.low = all_at (λ s. y.high < s.low) b ys h.0 n in
    let at : y.high ≡ a.high = ap (λ (x : Range). x.high) e in
    absurd (omega arith)
apart_same (y ∷ ys) a b c h (inr m) (inl f) al ah bl bh =
    let behind : y.high < a.low = all_at (λ s. y.high < s.low) a ys h.0 m in
    let at : y.high ≡ b.high = ap (λ (x : Range). x.high) f in
    absurd (omega arith)
apart_same (y ∷ ys) a b c h (inr m) (inr n) al ah bl bh = apart_same ys a b c h.1 m n al ah bl bh

none_is_some : (low : ℕ) (s : Range) → first_at low [] ≡ Some s → ⊥
none_is_some low s e = cc

-- the first at a low is one of the list, and has that low
pub first_is_member : (low : ℕ) (xs : List Range) (s : Range) → first_at low xs ≡ Some s → IsMember s xs × (s.low ≡ low)
first_is_member low [] s e = absurd (none_is_some low s e)
first_is_member low (x ∷ xs) s e =
    elim (test_cases (eqb x.low low)) [
      | inl t ↦ (let is : x ≡ s = some_same x s (sym (ap (λ v. cond v (Some x) (first_at low xs)) t) ∙ e) in
          (inl is, ap (λ (r : Range). r.low) (sym is) ∙ eqb-true x.low low t))
      | inr t ↦ (let w : IsMember s xs × (s.low ≡ low) = first_is_member low xs s (sym (ap (λ v. cond v (Some x) (first_at low xs)) t) ∙ e) in (inr w.0, w.1))
    ]

-- a range of one settled list has one of the other that begins where it does
pub counterpart : (xs ys zs : List Range) (n p q : ℕ) (r : Range) → AllByRecursion IsRange xs → IsSettled xs n ys p → IsSettled xs n zs q → IsMember r ys → (s : Range) × IsMember s zs × (s.low ≡ r.low)
counterpart xs ys zs n p q r all h k m =
    let begins : BeginsWithFirst xs r = all_at (BeginsWithFirst xs) r ys h.first m in
    let from : IsMember begins.0 xs × (begins.0.low ≡ r.low) = first_is_member r.low xs begins.0 begins.1 in
    let is_range : IsRange begins.0 = all_at IsRange begins.0 xs all from.0 in
    let held : (s : Range) × IsMember s zs × Holds s begins.0 = some_member (λ s. Holds s begins.0) zs (all_at (λ x. SomeOf (λ s. Holds s x) zs) begins.0 xs k.covers from.0) in
    (held.0, held.1, exact begins.0 held.0 (held.1) held.2.0 held.2.1 is_range from.1 (ways held.0.low r.low))
  where
    ways : (a b : ℕ) → (a < b) ⊎ (b ≤ a)
    ways a b = grind arith

    exact : (f s : Range) → IsMember s zs → s.low ≤ f.low → f.high ≤ s.high → IsRange f → f.low ≡ r.low → (s.low < r.low) ⊎ (r.low ≤ s.low) → s.low ≡ r.low
    exact f s member low high range at (inr le) = omega arith
    exact f s member low high range at (inl lt) =
        let before : ℕ = r.low - 1 in
        let bridge : (x : Range) × IsMember x xs × Reaches before x = some_member (Reaches before) xs (all_at (IsBridged xs) s zs k.bridged member before (omega arith) (omega arith)) in
        let over : (t : Range) × IsMember t ys × Holds t bridge.0 = some_member (λ t. Holds t bridge.0) ys (all_at (λ x. SomeOf (λ t. Holds t x) ys) bridge.0 xs h.covers bridge.1) in
        let own : IsRange r = all_at IsRange r ys h.some m in
        let one : over.0 ≡ r = apart_same ys over.0 r r.low h.apart over.1 m (omega (arith, over.2.0, bridge.2.0)) (omega (arith, over.2.1, bridge.2.1)) (omega arith) own in
        absurd (omega (arith, ap (λ (x : Range). x.low) one, over.2.0, bridge.2.0))

-- and does not end before it
pub no_shorter : (xs ys zs : List Range) (n p q : ℕ) (r s : Range) → IsSettled xs n ys p → IsSettled xs n zs q → IsMember r ys → IsMember s zs → s.low ≡ r.low → r.high ≤ s.high
no_shorter xs ys zs n p q r s h k m l at = decided (ways s.high r.high)
  where
    ways : (a b : ℕ) → (a < b) ⊎ (b ≤ a)
    ways a b = grind arith

    decided : (s.high < r.high) ⊎ (r.high ≤ s.high) → r.high ≤ s.high
    decided (inr le) = le
    decided (inl lt) =
        let own : IsRange s = all_at IsRange s zs k.some l in
        let bridge : (x : Range) × IsMember x xs × Reaches s.high x = some_member (Reaches s.high) xs (all_at (IsBridged xs) r ys h.bridged m s.high (omega arith) lt) in
        let over : (t : Range) × IsMember t zs × Holds t bridge.0 = some_member (λ t. Holds t bridge.0) zs (all_at (λ x. SomeOf (λ t. Holds t x) zs) bridge.0 xs k.covers bridge.1) in
        let one : over.0 ≡ s = apart_same zs over.0 s s.high k.apart over.1 l (omega (arith, over.2.0, bridge.2.0)) (omega (arith, over.2.1, bridge.2.1)) own (omega arith) in
        absurd (omega (arith, ap (λ (x : Range). x.high) one, over.2.1, bridge.2.1))

-- a range of one settled list is one of the other
pub member_of_other : (xs ys zs : List Range) (n p q : ℕ) → AllByRecursion IsRange xs → IsSettled xs n ys p → IsSettled xs n zs q → (r : Range) → IsMember r ys → IsMember r zs
member_of_other xs ys zs n p q all h k r m =
    let other : (s : Range) × IsMember s zs × (s.low ≡ r.low) = counterpart xs ys zs n p q r all h k m in
    let high : other.0.high ≡ r.high = omega (arith, no_shorter xs ys zs n p q r other.0 h k m other.1 other.2, no_shorter xs zs ys n q p other.0 r k h other.1 m (sym other.2)) in
    let mine : BeginsWithFirst xs r = all_at (BeginsWithFirst xs) r ys h.first m in
    let its : BeginsWithFirst xs other.0 = all_at (BeginsWithFirst xs) other.0 zs k.first other.1 in
    let firsts : its.0 ≡ mine.0 = some_same its.0 mine.0 (sym its.1 ∙ ap (λ l. first_at l xs) other.2 ∙ mine.1) in
    let is : other.0 ≡ r = same_range other.0 r other.2 high (its.2.0 ∙ ap (λ (x : Range). x.turned) firsts ∙ sym mine.2.0) (its.2.1 ∙ ap (λ (x : Range). x.target) firsts ∙ sym mine.2.1) in
    subst (λ (x : Range). IsMember x zs) is other.1

-- lists of ranges that are apart and have the same members are the same
pub same_members : (ys zs : List Range) → AreApart ys → AllByRecursion IsRange ys → AreApart zs → AllByRecursion IsRange zs → ((r : Range) → IsMember r ys → IsMember r zs) → ((r : Range) → IsMember r zs → IsMember r ys) → ys ≡ zs
same_members [] [] h r k q f g = refl
same_members [] (z ∷ zs) h r k q f g = absurd (g z (inl refl))
same_members (y ∷ ys) [] h r k q f g = absurd (f y (inl refl))
same_members (y ∷ ys) (z ∷ zs) h r k q f g =
    let heads : y ≡ z = same_head (f y (inl refl)) (g z (inl refl)) in
    ap₂ (λ x xs. x ∷ xs) heads (same_members ys zs h.1 r.1 k.1 q.1 (λ x m. into_tail x m (f x (inr m)) heads) (λ x m. out_of_tail x m (g x (inr m)) heads))
  where
    same_head : IsMember y (z ∷ zs) → IsMember z (y ∷ ys) → y ≡ z
    same_head (inl e) n = sym e
    same_head (inr m) (inl e) = e
    same_head (inr m) (inr n) = absurd (omega (arith, all_at (λ s. z.high < s.low) y zs k.0 m, all_at (λ s. y.high < s.low) z ys h.0 n, r.0, q.0))

    into_tail : (x : Range) → IsMember x ys → IsMember x (z ∷ zs) → y ≡ z → IsMember x zs
    into_tail x m (inr n) e = n
    into_tail x m (inl n) e = absurd (omega (arith, all_at (λ s. y.high < s.low) x ys h.0 m, ap (λ (t : Range). t.low) (e ∙ n), r.0))

    out_of_tail : (x : Range) → IsMember x zs → IsMember x (y ∷ ys) → y ≡ z → IsMember x ys
    out_of_tail x m (inr n) e = n
    out_of_tail x m (inl n) e = absurd (omega (arith, all_at (λ s. z.high < s.low) x zs k.0 m, ap (λ (t : Range). t.low) (sym e ∙ n), q.0))

-- one place of a list apart holds a range
pub same_place : (ys : List Range) (s : Range) (p q : ℕ) → AreApart ys → IsRange s → HoldsAtPlace (λ r. Holds r s) ys p → HoldsAtPlace (λ r. Holds r s) ys q → p ≡ q
same_place [] s p q h i a b = absurd a
same_place (y ∷ ys) s zero zero h i a b = refl
same_place (y ∷ ys) s zero (suc q) h i a b = absurd (no_later ys q h.0 b)
  where
    no_later : (ts : List Range) (n : ℕ) → AllByRecursion (λ t. y.high < t.low) ts → HoldsAtPlace (λ r. Holds r s) ts n → ⊥
    no_later [] n f g = g
    no_later (t ∷ ts) zero f g = omega (arith, f.0, g.0, a.1, i)
    no_later (t ∷ ts) (suc n) f g = no_later ts n f.1 g
same_place (y ∷ ys) s (suc p) zero h i a b = absurd (no_later ys p h.0 a)
  where
    no_later : (ts : List Range) (n : ℕ) → AllByRecursion (λ t. y.high < t.low) ts → HoldsAtPlace (λ r. Holds r s) ts n → ⊥
    no_later [] n f g = g
    no_later (t ∷ ts) zero f g = omega (arith, f.0, g.0, b.1, i)
    no_later (t ∷ ts) (suc n) f g = no_later ts n f.1 g
same_place (y ∷ ys) s (suc p) (suc q) h i a b = ap (λ n. suc n) (same_place ys s p q h.1 i a b)

-- what stands at one place
pub at_one_place : (P Q R : Range → Type 0) (xs : List Range) (n : ℕ) → AllByRecursion R xs → HoldsAtPlace P xs n → HoldsAtPlace Q xs n → (s : Range) × R s × P s × Q s
at_one_place P Q R [] n h a b = absurd a
at_one_place P Q R (x ∷ xs) zero h a b = (x, h.0, a, b)
at_one_place P Q R (x ∷ xs) (suc n) h a b = at_one_place P Q R xs n h.1 a b

-- a list has one settled list, with one main selection
pub settled-unique : (xs ys zs : List Range) (n p q : ℕ) → AllByRecursion IsRange xs → IsSettled xs n ys p → IsSettled xs n zs q → (ys ≡ zs) × (p ≡ q)
settled-unique xs ys zs n p q all h k =
    let lists : ys ≡ zs = same_members ys zs h.apart h.some k.apart k.some (member_of_other xs ys zs n p q all h k) (member_of_other xs zs ys n q p all k h) in
    let its : HoldsAtPlace (λ s. HoldsAtPlace (λ r. Holds r s) ys q) xs n = (let P : List Range → Type 0 = λ l. HoldsAtPlace (λ s. HoldsAtPlace (λ r. Holds r s) l q) xs n in subst P (sym lists) k.holds_main) in
    let main : (s : Range) × IsRange s × HoldsAtPlace (λ r. Holds r s) ys p × HoldsAtPlace (λ r. Holds r s) ys q = at_one_place (λ s. HoldsAtPlace (λ r. Holds r s) ys p) (λ s. HoldsAtPlace (λ r. Holds r s) ys q) IsRange xs n all h.holds_main its in
    (lists, same_place ys main.0 p q h.apart main.1 main.2 main.3)

-- selections that share a character are in one range of the settled list
pub sharing-held : (xs ys : List Range) (n p : ℕ) (a b r s : Range) → IsSettled xs n ys p → AllByRecursion IsRange xs → IsMember a xs → IsMember b xs → Shares a b → IsMember r ys → IsMember s ys → Holds r a → Holds s b → r ≡ s
sharing-held xs ys n p a b r s h all ma mb share mr ms ha hb =
    let c : ℕ = max a.low b.low in
    apart_same ys r s c h.apart mr ms (omega (arith, ha.0)) (omega (arith, ha.1, share.0, share.1, all_at IsRange a xs all ma)) (omega (arith, hb.0)) (omega (arith, hb.1, share.0, share.1, all_at IsRange b xs all mb))

-- a chain stays in one range of the settled list
pub linked-held : (xs ys : List Range) (n p : ℕ) (r a b : Range) → IsSettled xs n ys p → AllByRecursion IsRange xs → IsMember r ys → IsMember a xs → Holds r a → IsLinked xs a b → Holds r b
linked-held xs ys n p r a b h all mr ma ha (same c) = ha
linked-held xs ys n p r a b h all mr ma ha (link c s t share ms rest) =
    let over : (x : Range) × IsMember x ys × Holds x s = some_member (λ x. Holds x s) ys (all_at (λ y. SomeOf (λ x. Holds x y) ys) s xs h.covers ms) in
    let one : over.0 ≡ r = sym (sharing-held xs ys n p a s r over.0 h all ma ms share mr over.1 ha over.2) in
    linked-held xs ys n p r s t h all mr ms (subst (λ (x : Range). Holds x s) one over.2) rest

ways : (a b : ℕ) → (a < b) ⊎ (b ≤ a)
ways a b = grind arith

-- two selections in one range of the settled list are linked, from the one that begins first
chain_on : (xs ys : List Range) (n p : ℕ) (r b : Range) → IsSettled xs n ys p → AllByRecursion IsRange xs → IsMember r ys → IsMember b xs → Holds r b → (fuel : ℕ) (a : Range) → IsMember a xs → r.low ≤ a.low → a.low ≤ b.low → b.low ≤ a.high + fuel → IsLinked xs a b
chain_on xs ys n p r b h all mr mb hb zero a ma low before near =
    link a b b (omega (arith, all_at IsRange b xs all mb), omega arith) mb (same b)
chain_on xs ys n p r b h all mr mb hb (suc fuel) a ma low before near =
    elim (ways a.high b.low) [
      | inl apart ↦ (let own : IsRange a = all_at IsRange a xs all ma in
          let bridge : (x : Range) × IsMember x xs × Reaches a.high x = some_member (Reaches a.high) xs (all_at (IsBridged xs) r ys h.bridged mr a.high (omega arith) (omega (arith, all_at IsRange b xs all mb, hb.1))) in
          let over : (t : Range) × IsMember t ys × Holds t bridge.0 = some_member (λ t. Holds t bridge.0) ys (all_at (λ x. SomeOf (λ t. Holds t x) ys) bridge.0 xs h.covers bridge.1) in
          let one : over.0 ≡ r = apart_same ys over.0 r a.high h.apart over.1 mr (omega (arith, over.2.0, bridge.2.0)) (omega (arith, over.2.1, bridge.2.1)) (omega arith) (omega (arith, all_at IsRange b xs all mb, hb.1)) in
          let inside : r.low ≤ bridge.0.low = omega (arith, ap (λ (x : Range). x.low) one, over.2.0) in
          link a bridge.0 b (omega (arith, bridge.2.1), omega (arith, bridge.2.0)) bridge.1 (chain_on xs ys n p r b h all mr mb hb fuel bridge.0 bridge.1 inside (omega (arith, bridge.2.0)) (omega (arith, bridge.2.1))))
      | inr touch ↦ link a b b (omega (arith, all_at IsRange b xs all mb), touch) mb (same b)
    ]

pub held-linked : (xs ys : List Range) (n p : ℕ) (r a b : Range) → IsSettled xs n ys p → AllByRecursion IsRange xs → IsMember r ys → IsMember a xs → IsMember b xs → Holds r a → Holds r b → a.low ≤ b.low → IsLinked xs a b
held-linked xs ys n p r a b h all mr ma mb ha hb before = chain_on xs ys n p r b h all mr mb hb b.low a ma ha.0 before (omega arith)
