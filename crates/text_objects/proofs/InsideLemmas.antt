-- What stands between the two ends of a pair.
use Rattle.std.proofs.Common.{◌≡◌, ℕ, ◌+◌, ◌-◌, ◌<◌, ◌≤◌, true, false, cond, List, Option, None, Some, sym, ap, subst, ◌∙◌, arith, inl, inr, ◌⊎◌, lt-ltb, le-ltb, leb-true}
use Rattle.std.proofs.lemmas.Bool.{false≢true}
use Rattle.text_model.specs.declared.coords.Coord.{Coord}
use Rattle.text_model.specs.Coords.{is_at_most}
use Rattle.text_model.specs.Texts.{offset, IsPlace, last_place}
use Rattle.text_model.proofs.PlaceLemmas.{is_at_most-offset, offset-below, leb_true}
use Rattle.selection_set.specs.declared.sel.Pair.{Pair}
use Rattle.motion_keys.specs.Words.{Ends, ends, EndsAre}
use Rattle.text_objects.specs.Pairs.{inside}

inside-none : (a c : ℕ) → c ≤ a + 1 → inside (ends a c) ≡ None
inside-none a c h = ap (λ b. cond b (Some (ends (a + 1) (c - 1))) None) (le-ltb (a + 1) c h)

inside-some : (a c : ℕ) → a + 1 < c → inside (ends a c) ≡ Some (ends (a + 1) (c - 1))
inside-some a c h = ap (λ b. cond b (Some (ends (a + 1) (c - 1))) None) (lt-ltb (a + 1) c h)

-- nothing follows the first
pub none-behind : (text : List ℕ) (anchor cursor : Coord) → IsPlace text cursor → offset text anchor ≡ last_place text → inside (ends (offset text anchor) (offset text cursor)) ≡ None
none-behind text anchor cursor h e = inside-none (offset text anchor) (offset text cursor) (omega (arith, e, offset-below text cursor h))

-- the next one and the one before, in order
pub ends-inside : (text : List ℕ) (anchor cursor first last : Coord) → IsPlace text first → IsPlace text last → offset text first ≡ offset text anchor + 1 → offset text last + 1 ≡ offset text cursor → is_at_most first last ≡ true
    → EndsAre text (let p : Pair = record { anchor = first; cursor = last } in Some p) (inside (ends (offset text anchor) (offset text cursor)))
ends-inside text anchor cursor first last p q f l t =
    let ordered : offset text first ≤ offset text last = leb-true (offset text first) (offset text last) (sym (is_at_most-offset text first last (inl p) (inl q)) ∙ t) in
    let back : offset text cursor - 1 ≡ offset text last = omega (arith, l) in
    (p, q, inside-some (offset text anchor) (offset text cursor) (omega (arith, ordered, f, l)) ∙ ap (λ n. Some (ends n (offset text cursor - 1))) (sym f) ∙ ap (λ n. Some (ends (offset text first) n)) back)

-- out of order
pub ends-crossed : (text : List ℕ) (anchor cursor first last : Coord) → IsPlace text first → IsPlace text last → offset text first ≡ offset text anchor + 1 → offset text last + 1 ≡ offset text cursor → is_at_most first last ≡ false
    → inside (ends (offset text anchor) (offset text cursor)) ≡ None
ends-crossed text anchor cursor first last p q f l e =
    inside-none (offset text anchor) (offset text cursor) (go (omega-or (offset text cursor) (offset text anchor + 1)))
  where
    omega-or : (m n : ℕ) → (n < m) ⊎ (m ≤ n)
    omega-or m n = grind arith

    go : (offset text anchor + 1 < offset text cursor) ⊎ (offset text cursor ≤ offset text anchor + 1) → offset text cursor ≤ offset text anchor + 1
    go (inl lt) = absurd (false≢true (sym e ∙ is_at_most-offset text first last (inl p) (inl q) ∙ leb_true (offset text first) (offset text last) (omega (arith, lt, f, l))))
    go (inr le) = le

-- both found nothing
pub nothing-ends : (text : List ℕ) (pair : Option Pair) (found : Option Ends) → pair ≡ None → found ≡ None → EndsAre text pair found
nothing-ends text pair found e f = subst (λ (p : Option Pair). EndsAre text p found) (sym e) f
