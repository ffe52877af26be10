-- Faces that are laid over others, one behind the other.
use Rattle.std.proofs.Common.{◌≡◌, ℕ, zero, suc, ◌+◌, ◌-◌, ◌<◌, ◌≤◌, Bool, nat_lt, nat_le, List, [], ◌∷◌, ◌++◌, length, take, take_all, drop, get_or, slice_range, length-drop, inl, inr, refl, sym, ap, ◌∙◌, arith, subst}
use Rattle.std.specs.Prelude.{cond, ◌&&◌}
use Rattle.std.specs.List.{AllByRecursion}
use Rattle.std.proofs.Math.Seq.{drop-cons}
use Rattle.std.proofs.lemmas.Bool.{cases_lt, lt-ltb, le-ltb, le-leb, lt-leb, and_left, and_right, and_from}
use Rattle.std.proofs.lemmas.List.{take-append-drop, take_more, get_or-drop}
use Rattle.kak_faces.specs.declared.face.Face.{Face}
use Rattle.kak_faces.specs.Faces.{merged}
use Rattle.kak_faces.specs.Standard.{default_face}
use Rattle.face_grounds.specs.declared.ground.Run.{Run}
use Rattle.face_grounds.specs.declared.ground.Over.{Over}
use Rattle.face_grounds.specs.Grounds.{face_in, over_all}
use Rattle.face_grounds.specs.Laying.{IsDrawn, IsAhead, AreAscending}

-- whether a face lies over a place
holds : Over → ℕ → Bool
holds o n = nat_le o.from n && nat_lt n o.to

not-before : (o : Over) (os : List Over) (n : ℕ) (f : Face) → o.to ≤ n → over_all (o ∷ os) n f ≡ over_all os n f
not-before o os n f h = ap (λ b. over_all os n (cond b (merged f o.face) f)) (and_right (nat_le o.from n) (nat_lt n o.to) (le-ltb n o.to h))

not-behind : (o : Over) (os : List Over) (n : ℕ) (f : Face) → n < o.from → over_all (o ∷ os) n f ≡ over_all os n f
not-behind o os n f h = ap (λ b. over_all os n (cond b (merged f o.face) f)) (and_left (nat_le o.from n) (nat_lt n o.to) (lt-leb o.from n h))

on : (o : Over) (os : List Over) (n : ℕ) (f : Face) → o.from ≤ n → n < o.to → over_all (o ∷ os) n f ≡ over_all os n (merged f o.face)
on o os n f h l = ap (λ b. over_all os n (cond b (merged f o.face) f)) (and_from (nat_le o.from n) (nat_lt n o.to) (le-leb o.from n h) (lt-ltb n o.to l))

pub append : (a b : List Over) (n : ℕ) (f : Face) → over_all (a ++ b) n f ≡ over_all b n (over_all a n f)
append [] b n f = refl
append (o ∷ a) b n f = append a b n (cond (nat_le o.from n && nat_lt n o.to) (merged f o.face) f)

all-before : (os : List Over) (place n : ℕ) (f : Face) → AllByRecursion (λ o. o.to ≤ place) os → place ≤ n → over_all os n f ≡ f
all-before [] place n f a h = refl
all-before (o ∷ os) place n f a h = not-before o os n f (omega (arith, a.0)) ∙ all-before os place n f a.1 h

all-behind : (os : List Over) (place n : ℕ) (f : Face) → AreAscending place os → n < place → over_all os n f ≡ f
all-behind [] place n f a h = refl
all-behind (o ∷ os) place n f a h = not-behind o os n f (omega (arith, a.0)) ∙ all-behind os o.to n f a.2 (omega (arith, a.0, a.1))

-- some of the faces are laid, and the place before which all is done
pub record IsLaid (rs : List Run) (rest : Face) (os : List Over) (j : ℕ) (out : List Run) (place run : ℕ) : Type 0 where
  pub few : j ≤ length os
  pub before : AllByRecursion (λ o. o.to ≤ place) (take j os)
  pub behind : AreAscending place (drop j os)
  pub ahead : IsAhead rs rest run place
  pub drawn : IsDrawn (λ n. over_all os n (face_in rs rest n)) place out

pub laid-none : (rs : List Run) (rest : Face) (os : List Over) (out : List Run) → AreAscending 0 os → out ≡ [] → IsLaid rs rest os 0 out 0 0
laid-none rs rest os out a e = record {
  few = omega arith;
  before = tt;
  behind = a;
  ahead = λ n h. refl;
  drawn = subst (IsDrawn (λ n. over_all os n (face_in rs rest n)) 0) (sym e) (record { ends = tt; faces = λ n d l. absurd (omega arith) });
}

module _ (rs : List Run) (rest : Face) (os : List Over) (j : ℕ) (out : List Run) (place run : ℕ) (d : Over) where
  -- the next face
  pub next-is : IsLaid rs rest os j out place run → j < length os → AreAscending place (get_or os j d ∷ drop (suc j) os)
  next-is i l = subst (AreAscending place) (drop-cons os j d l) i.behind

  -- it isn't there yet
  pub gap-is : IsLaid rs rest os j out place run → j < length os → (n : ℕ) → place ≤ n → n < (get_or os j d).from → face_in rs rest n ≡ over_all os n (face_in rs rest n)
  gap-is i l n h k =
      let f : Face = face_in rs rest n in
      let a = next-is i l in
      sym (ap (λ x. over_all x n f) (sym (take-append-drop j os))
      ∙ append (take j os) (drop j os) n f
      ∙ ap (over_all (drop j os) n) (all-before (take j os) place n f i.before h)
      ∙ ap (λ x. over_all x n f) (drop-cons os j d l)
      ∙ all-behind (get_or os j d ∷ drop (suc j) os) (get_or os j d).from n f (omega arith, a.1, a.2) k)

  -- it is there
  pub on-is : IsLaid rs rest os j out place run → j < length os → (n : ℕ) → (get_or os j d).from ≤ n → n < (get_or os j d).to → merged (face_in rs rest n) (get_or os j d).face ≡ over_all os n (face_in rs rest n)
  on-is i l n h k =
      let f : Face = face_in rs rest n in
      let a = next-is i l in
      sym (ap (λ x. over_all x n f) (sym (take-append-drop j os))
      ∙ append (take j os) (drop j os) n f
      ∙ ap (over_all (drop j os) n) (all-before (take j os) place n f i.before (omega (arith, a.0)))
      ∙ ap (λ x. over_all x n f) (drop-cons os j d l)
      ∙ on (get_or os j d) (drop (suc j) os) n f h k
      ∙ all-behind (drop (suc j) os) (get_or os j d).to n (merged f (get_or os j d).face) a.2 k)

all-more : (os : List Over) (x y : ℕ) → AllByRecursion (λ o. o.to ≤ x) os → x ≤ y → AllByRecursion (λ o. o.to ≤ y) os
all-more [] x y a h = tt
all-more (o ∷ os) x y a h = (omega (arith, a.0), all-more os x y a.1 h)

all-last : (os : List Over) (o : Over) (y : ℕ) → AllByRecursion (λ o. o.to ≤ y) os → o.to ≤ y → AllByRecursion (λ o. o.to ≤ y) (os ++ o ∷ [])
all-last [] o y a h = (h, tt)
all-last (p ∷ os) o y a h = (a.0, all-last os o y a.1 h)

-- one more is laid
pub laid-more : (rs : List Run) (rest : Face) (os : List Over) (j : ℕ) (out new : List Run) (place run next : ℕ) (d : Over) → IsLaid rs rest os j out place run → j < length os
    → IsAhead rs rest next (get_or os j d).to → IsDrawn (λ n. over_all os n (face_in rs rest n)) (get_or os j d).to new → IsLaid rs rest os (j + 1) new (get_or os j d).to next
laid-more rs rest os j out new place run next d i l a n =
    let o = get_or os j d in
    let asc = next-is rs rest os j out place run d i l in
    let one : j + 1 ≡ suc j = omega arith in
    record {
      few = omega arith;
      before = subst (AllByRecursion (λ o. o.to ≤ (get_or os j d).to)) (sym (take_more os j d l)) (all-last (take j os) (get_or os j d) (get_or os j d).to (all-more (take j os) place (get_or os j d).to i.before (omega (arith, asc.0, asc.1))) (omega arith));
      behind = subst (λ k. AreAscending (get_or os j d).to (drop k os)) (sym one) asc.2;
      ahead = a;
      drawn = n;
    }

-- all are laid
pub laid-all : (rs : List Run) (rest : Face) (os : List Over) (j : ℕ) (out : List Run) (place run : ℕ) → IsLaid rs rest os j out place run → length os ≤ j → (n : ℕ) → place ≤ n → face_in rs rest n ≡ over_all os n (face_in rs rest n)
laid-all rs rest os j out place run i h n p =
    sym (all-before os place n (face_in rs rest n) (subst (AllByRecursion (λ o. o.to ≤ place)) (take_all j os h) i.before) p)

-- the place behind the last of some faces, or another where there is none
abbrev pub ends_at : ℕ → List Over → ℕ
ends_at place [] = place
ends_at place (o ∷ os) = ends_at o.to os

ascending-more : (os : List Over) (o : Over) (p : ℕ) → AreAscending p os → ends_at p os ≤ o.from → o.from ≤ o.to → AreAscending p (os ++ o ∷ [])
ascending-more [] o p a h k = (h, k, tt)
ascending-more (q ∷ os) o p a h k = (a.0, a.1, ascending-more os o q.to a.2 h k)

ends-more : (os : List Over) (o : Over) (p : ℕ) → ends_at p (os ++ o ∷ []) ≡ o.to
ends-more [] o p = refl
ends-more (q ∷ os) o p = ends-more os o q.to

slice-more : (os : List Over) (a k : ℕ) (d : Over) → a ≤ k → k < length os → slice_range os a (k + 1) ≡ slice_range os a k ++ get_or os k d ∷ []
slice-more os a k d h l =
    let n : k + 1 - a ≡ k - a + 1 = omega arith in
    let back : a + (k - a) ≡ k = omega arith in
    ap (λ i. take i (drop a os)) n
    ∙ take_more (drop a os) (k - a) d (omega (arith, length-drop a os))
    ∙ ap (λ o. take (k - a) (drop a os) ++ o ∷ []) (get_or-drop a os (k - a) d ∙ ap (λ i. get_or os i d) back)

-- the faces from one on ascend up to another
pub record IsAscent (os : List Over) (a k place : ℕ) : Type 0 where
  pub from : a ≤ k
  pub inside : k ≤ length os
  pub ascending : AreAscending 0 (slice_range os a k)
  pub last : place ≡ ends_at 0 (slice_range os a k)
  pub fresh : k ≡ a → place ≡ 0

pub ascent-none : (os : List Over) (a : ℕ) → a ≤ length os → IsAscent os a a 0
ascent-none os a h =
    let e : slice_range os a a ≡ [] = let z : a - a ≡ 0 = omega arith in ap (λ i. take i (drop a os)) z in
    record { from = omega arith; inside = h; ascending = subst (AreAscending 0) (sym e) tt; last = ap (ends_at 0) (sym e); fresh = λ x. refl }

pub ascent-more : (os : List Over) (a k place : ℕ) (d : Over) → IsAscent os a k place → k < length os → place ≤ (get_or os k d).from → (get_or os k d).from ≤ (get_or os k d).to → IsAscent os a (k + 1) (get_or os k d).to
ascent-more os a k place d i l h t =
    let e = slice-more os a k d i.from l in
    record {
      from = omega (arith, i.from);
      inside = omega arith;
      ascending = subst (AreAscending 0) (sym e) (ascending-more (slice_range os a k) (get_or os k d) 0 i.ascending (omega (arith, i.last)) t);
      last = sym (ap (ends_at 0) e ∙ ends-more (slice_range os a k) (get_or os k d) 0);
      fresh = λ x. absurd (omega (arith, i.from, x));
    }

-- a face that ends before it begins lies nowhere
pub nowhere : (o : Over) (n : ℕ) (f : Face) → o.to < o.from → over_all (o ∷ []) n f ≡ f
nowhere o n f h = elim (cases_lt n o.from) [
  | inl lt ↦ not-behind o [] n f lt
  | inr ge ↦ not-before o [] n f (omega arith)
]

-- faces that were laid, and some more
pub laid-block : (os : List Over) (a b n : ℕ) (f : Face) → a ≤ b → over_all (slice_range os a b) n (over_all (take a os) n f) ≡ over_all (take b os) n f
laid-block os a b n f h = sym (ap (λ x. over_all x n f) (take-slice os a b h) ∙ append (take a os) (slice_range os a b) n f)
  where
    take-slice : (xs : List Over) (a b : ℕ) → a ≤ b → take b xs ≡ take a xs ++ slice_range xs a b
    take-slice xs zero b h = let e : b - 0 ≡ b = omega arith in ap (λ n. take n xs) (sym e)
    take-slice [] (suc a) zero h = absurd (omega arith)
    take-slice [] (suc a) (suc b) h = sym (nothing (suc b - suc a) [] refl)
      where
        nothing : (n : ℕ) (none : List Over) → none ≡ [] → take n none ≡ []
        nothing zero none e = refl
        nothing (suc n) none e = ap (take (suc n)) e
    take-slice (x ∷ xs) (suc a) zero h = absurd (omega arith)
    take-slice (x ∷ xs) (suc a) (suc b) h = let e : b - a ≡ suc b - suc a = omega arith in ap (λ r. x ∷ r) (take-slice xs a b (omega arith) ∙ ap (λ n. take a xs ++ take n (drop a xs)) e)

pub laid-one : (os : List Over) (a n : ℕ) (f : Face) (d : Over) → a < length os → ((f : Face) → over_all (get_or os a d ∷ []) n f ≡ f) → over_all (take a os) n f ≡ over_all (take (a + 1) os) n f
laid-one os a n f d l h = sym (ap (λ x. over_all x n f) (take_more os a d l) ∙ append (take a os) (get_or os a d ∷ []) n f ∙ h (over_all (take a os) n f))

-- some face
abbrev pub some_over : Over
some_over = record { from = 0; to = 0; face = default_face }
