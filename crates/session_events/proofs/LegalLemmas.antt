-- Histories that are put together.
use Rattle.std.proofs.Common.{◌≡◌, ℕ, zero, suc, ◌+◌, ◌≤◌, Bool, true, false, List, [], ◌∷◌, ◌++◌, length, take, drop, refl, sym, ap, ◌∙◌, subst, arith, length-append, length-take-le}
use Rattle.std.specs.Prelude.{if◌then◌else◌, ◌&&◌, ◌==◌}
use Rattle.std.specs.List.{AllByRecursion}
use Rattle.std.proofs.lemmas.Bool.{eq-eqb}
use Rattle.std.proofs.lemmas.List.{take-append-drop}
use Rattle.session_events.specs.declared.event.Entry.{Entry}
use Rattle.session_events.specs.declared.kind.Kind.{Kind}
use Rattle.session_events.specs.declared.kind.Kind.TheVariants.{Coming, Doing, Drawing, Going}
use Rattle.session_events.specs.Entries.{kind_of, is_going, is_leave, AreOf}
use Rattle.session_events.specs.Legal.{Presence, Away, Gone, presence_after, may_make, presence_from, may_make_all, AreLeavings, IsLegal}

-- where a client is, and what it may make, behind entries put together
pub presence-append : (k : ℕ) (p : Presence) (a b : List Entry) → presence_from k p (a ++ b) ≡ presence_from k (presence_from k p a) b
presence-append k p [] b = refl
presence-append k p (e ∷ a) b = presence-append k (if e.who == k then presence_after (kind_of e.event) p else p) a b

may-both : (x y z : Bool) → (x && y) ≡ true → (y ≡ true → z ≡ true) → (x && z) ≡ true
may-both true y z e f = f e
may-both false y z e f = cc

may-step : (k : ℕ) (e : Entry) (a b : List Entry) (p : Presence) (t : Bool)
    → ((q : Presence) → may_make_all k q a ≡ true → may_make_all k (presence_from k q a) b ≡ true → may_make_all k q (a ++ b) ≡ true)
    → (if t then may_make p (kind_of e.event) && may_make_all k (presence_after (kind_of e.event) p) a else may_make_all k p a) ≡ true
    → may_make_all k (presence_from k (if t then presence_after (kind_of e.event) p else p) a) b ≡ true
    → (if t then may_make p (kind_of e.event) && may_make_all k (presence_after (kind_of e.event) p) (a ++ b) else may_make_all k p (a ++ b)) ≡ true
may-step k e a b p true next l r = may-both (may_make p (kind_of e.event)) (may_make_all k (presence_after (kind_of e.event) p) a) (may_make_all k (presence_after (kind_of e.event) p) (a ++ b)) l (λ m. next (presence_after (kind_of e.event) p) m r)
may-step k e a b p false next l r = next p l r

pub may-append : (k : ℕ) (p : Presence) (a b : List Entry) → may_make_all k p a ≡ true → may_make_all k (presence_from k p a) b ≡ true → may_make_all k p (a ++ b) ≡ true
may-append k p [] b l r = r
may-append k p (e ∷ a) b l r = may-step k e a b p (e.who == k) (λ q m s. may-append k q a b m s) l r

-- and what it may make among the last of them
may-step-behind : (k : ℕ) (e : Entry) (a b : List Entry) (p : Presence) (t : Bool) → ((q : Presence) → may_make_all k q (a ++ b) ≡ true → may_make_all k (presence_from k q a) b ≡ true)
    → (if t then may_make p (kind_of e.event) && may_make_all k (presence_after (kind_of e.event) p) (a ++ b) else may_make_all k p (a ++ b)) ≡ true
    → may_make_all k (presence_from k (if t then presence_after (kind_of e.event) p else p) a) b ≡ true
may-step-behind k e a b p true next m = next (presence_after (kind_of e.event) p) (second (may_make p (kind_of e.event)) (may_make_all k (presence_after (kind_of e.event) p) (a ++ b)) m)
  where
    second : (x y : Bool) → (x && y) ≡ true → y ≡ true
    second true y e = e
    second false y e = cc
may-step-behind k e a b p false next m = next p m

may-behind : (k : ℕ) (p : Presence) (a b : List Entry) → may_make_all k p (a ++ b) ≡ true → may_make_all k (presence_from k p a) b ≡ true
may-behind k p [] b m = m
may-behind k p (e ∷ a) b m = may-step-behind k e a b p (e.who == k) (λ q n. may-behind k q a b n) m

-- nobody makes anything behind its going
gone-last : (k : ℕ) (p : Presence) (e f : Entry) (es : List Entry) → e.who ≡ k → f.who ≡ k → is_leave e.event ≡ true → may_make_all k p (e ∷ f ∷ es) ≡ true → ⊥
gone-last k p e f es x y l m = not-both (may_make p (kind_of e.event)) (may_make_all k (presence_after (kind_of e.event) p) (f ∷ es)) (chosen (e.who == k) (eq-eqb e.who k x) m) (nothing (kind_of e.event) l)
  where
    chosen : (t : Bool) → t ≡ true → (if t then may_make p (kind_of e.event) && may_make_all k (presence_after (kind_of e.event) p) (f ∷ es) else may_make_all k p (f ∷ es)) ≡ true → (may_make p (kind_of e.event) && may_make_all k (presence_after (kind_of e.event) p) (f ∷ es)) ≡ true
    chosen true q m = m
    chosen false q m = cc

    none : (t : Bool) → t ≡ true → (if t then false && may_make_all k (presence_after (kind_of f.event) Gone) es else may_make_all k Gone es) ≡ false
    none true q = refl
    none false q = cc

    nothing : (kind : Kind) → is_going kind ≡ true → may_make_all k (presence_after kind p) (f ∷ es) ≡ false
    nothing Going l = none (f.who == k) (eq-eqb f.who k y)
    nothing Coming l = cc
    nothing Doing l = cc
    nothing Drawing l = cc

    not-both : (a b : Bool) → (a && b) ≡ true → b ≡ false → ⊥
    not-both true true e f = cc
    not-both true false e f = cc
    not-both false b e f = cc

short-rest : (k : ℕ) (p : Presence) (rest : List Entry) → AreOf k rest → AreLeavings rest → may_make_all k p rest ≡ true → length rest ≤ 1
short-rest k p [] o l m = omega arith
short-rest k p (e ∷ []) o l m = omega arith
short-rest k p (e ∷ f ∷ es) o l m = absurd (gone-last k p e f es o.0 o.1.0 l.0 m)

drop-all-of : (k n : ℕ) (h : List Entry) → AreOf k h → AreOf k (drop n h)
drop-all-of k zero h o = o
drop-all-of k (suc n) [] o = tt
drop-all-of k (suc n) (e ∷ h) o = drop-all-of k n h o.1

length-split : (n : ℕ) (h : List Entry) → length h ≤ n + length (drop n h)
length-split zero h = omega arith
length-split (suc n) [] = omega arith
length-split (suc n) (e ∷ h) = omega (arith, length-split n h)

-- a history of one client alone has as many entries as it may have, and its going
pub lone-length : (k limit : ℕ) (h : List Entry) → AreOf k h → IsLegal limit h → length h ≤ limit + 1
lone-length k limit h o l =
    at-most limit (length h) (length (drop limit h)) (length-split limit h) (short-rest k (presence_from k Away (take limit h)) (drop limit h) (drop-all-of k limit h o) l.within
    (may-behind k Away (take limit h) (drop limit h) (subst (λ q. may_make_all k Away q ≡ true) (sym (take-append-drop limit h)) (l.lives k))))
  where
    at-most : (n a b : ℕ) → a ≤ n + b → b ≤ 1 → a ≤ n + 1
    at-most n a b le few = omega (arith, le, few)
