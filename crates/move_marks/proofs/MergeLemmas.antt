-- Two lists of selections as one list in order.
use Rattle.std.proofs.Common.{◌≡◌, ℕ, zero, suc, ◌+◌, ◌-◌, ◌<◌, ◌≤◌, true, false, cond, List, [], ◌∷◌, ◌++◌, length, take, drop, get_or, refl, sym, ap, ap₂, subst, ◌∙◌, arith, inl, inr, ◌⊎◌, leb-true, append-nil, take_all, append_assoc}
use Rattle.std.proofs.Math.Seq.{drop-cons}
use Rattle.std.proofs.lemmas.List.{length-map, length-append, length-drop, drop_all}
use Rattle.std.proofs.lemmas.Bool.{le-leb}
use Rattle.std.specs.List.{AllByRecursion}
use Rattle.text_model.specs.declared.coords.Coord.{Coord}
use Rattle.text_model.specs.Coords.{is_at_most}
use Rattle.text_model.specs.Texts.{offset}
use Rattle.text_model.proofs.CoordLemmas.{test_cases}
use Rattle.text_model.proofs.PlaceLemmas.{is_at_most-offset}
use Rattle.list_model.specs.Ranges.{Range}
use Rattle.list_model.specs.Settled.{SomeOf, HoldsAtPlace}
use Rattle.selection_set.specs.declared.sel.Sel.{Sel}
use Rattle.selection_set.specs.Inside.{range_of, IsInside}
use Rattle.selection_set.specs.Listing.{ranges_of, AreInside, LowsDontFall}
use Rattle.selection_set.proofs.HeldLemmas.{all-at, nth-inside, nth-range}
use Rattle.move_marks.specs.Joining.{in_one, count_ahead}
use Rattle.move_marks.proofs.JoinLemmas.{IsTogether}

-- the two steps

pub first-next : (y z : Sel) (ys zs : List Sel) → is_at_most y.low z.low ≡ true → in_one (y ∷ ys) (z ∷ zs) ≡ y ∷ in_one ys (z ∷ zs)
first-next y z ys zs e = ap (λ b. cond b (y ∷ in_one ys (z ∷ zs)) (z ∷ in_one (y ∷ ys) zs)) e

pub second-next : (y z : Sel) (ys zs : List Sel) → is_at_most y.low z.low ≡ false → in_one (y ∷ ys) (z ∷ zs) ≡ z ∷ in_one (y ∷ ys) zs
second-next y z ys zs e = ap (λ b. cond b (y ∷ in_one ys (z ∷ zs)) (z ∷ in_one (y ∷ ys) zs)) e

pub first-alone : (ys : List Sel) → in_one ys [] ≡ ys
first-alone [] = refl
first-alone (y ∷ ys) = ap (λ t. y ∷ t) (first-alone ys)

-- induction along the two lists
along-one : (P : List Sel → List Sel → List Sel → Type 0) → ((zs : List Sel) → P [] zs zs) → ((y : Sel) (ys : List Sel) → P (y ∷ ys) [] (y ∷ ys))
    → ((y z : Sel) (ys zs ms : List Sel) → is_at_most y.low z.low ≡ true → P ys (z ∷ zs) ms → P (y ∷ ys) (z ∷ zs) (y ∷ ms))
    → ((y z : Sel) (ys zs ms : List Sel) → is_at_most y.low z.low ≡ false → P (y ∷ ys) zs ms → P (y ∷ ys) (z ∷ zs) (z ∷ ms))
    → (ys zs : List Sel) → P ys zs (in_one ys zs)
along-one P none alone first second [] zs = none zs
along-one P none alone first second (y ∷ ys) zs = down zs (λ ts. along-one P none alone first second ys ts)
  where
    down : (ts : List Sel) → ((us : List Sel) → P ys us (in_one ys us)) → P (y ∷ ys) ts (in_one (y ∷ ys) ts)
    down [] rest = subst (P (y ∷ ys) []) (sym (first-alone (y ∷ ys))) (alone y ys)
    down (t ∷ ts) rest =
        elim (test_cases (is_at_most y.low t.low)) [
          | inl e ↦ subst (P (y ∷ ys) (t ∷ ts)) (sym (first-next y t ys ts e)) (first y t ys ts (in_one ys (t ∷ ts)) e (rest (t ∷ ts)))
          | inr e ↦ subst (P (y ∷ ys) (t ∷ ts)) (sym (second-next y t ys ts e)) (second y t ys ts (in_one (y ∷ ys) ts) e (down ts rest))
        ]

some-first : (P : Sel → Type 0) (ys zs : List Sel) → SomeOf P ys → SomeOf P (in_one ys zs)
some-first P =
    along-one (λ ys zs ms. SomeOf P ys → SomeOf P ms) (λ zs h. absurd h) (λ y ys h. h)
    (λ y z ys zs ms e f h. elim h [ inl k ↦ inl k | inr k ↦ inr (f k) ])
    (λ y z ys zs ms e f h. inr (f h))

some-second : (P : Sel → Type 0) (ys zs : List Sel) → SomeOf P zs → SomeOf P (in_one ys zs)
some-second P =
    along-one (λ ys zs ms. SomeOf P zs → SomeOf P ms) (λ zs h. h) (λ y ys h. absurd h)
    (λ y z ys zs ms e f h. inr (f h))
    (λ y z ys zs ms e f h. elim h [ inl k ↦ inl k | inr k ↦ inr (f k) ])

all-one : (P : Sel → Type 0) (ys zs : List Sel) → AllByRecursion P ys → AllByRecursion P zs → AllByRecursion P (in_one ys zs)
all-one P =
    along-one (λ ys zs ms. AllByRecursion P ys → AllByRecursion P zs → AllByRecursion P ms) (λ zs h k. k) (λ y ys h k. h)
    (λ y z ys zs ms e f h k. (h.0, f h.1 k))
    (λ y z ys zs ms e f h k. (k.0, f h k.1))

pub one-length : (ys zs : List Sel) → length (in_one ys zs) ≡ length ys + length zs
one-length =
    along-one (λ ys zs ms. length ms ≡ length ys + length zs) (λ zs. omega arith) (λ y ys. omega arith)
    (λ y z ys zs ms e f. omega (arith, f))
    (λ y z ys zs ms e f. omega (arith, f))

-- what is inside a text, by its coordinates

ahead-more : (low : Coord) (y : Sel) (ys : List Sel) → is_at_most y.low low ≡ true → count_ahead low (y ∷ ys) ≡ suc (count_ahead low ys)
ahead-more low y ys e = ap (λ b. cond b (suc (count_ahead low ys)) 0) e

ahead-none : (low : Coord) (y : Sel) (ys : List Sel) → is_at_most y.low low ≡ false → count_ahead low (y ∷ ys) ≡ 0
ahead-none low y ys e = ap (λ b. cond b (suc (count_ahead low ys)) 0) e

pub ahead-few : (low : Coord) (ys : List Sel) → count_ahead low ys ≤ length ys
ahead-few low [] = omega arith
ahead-few low (y ∷ ys) =
    elim (test_cases (is_at_most y.low low)) [
      | inl e ↦ omega (arith, ahead-more low y ys e, ahead-few low ys)
      | inr e ↦ omega (arith, ahead-none low y ys e)
    ]

-- no selection of a list in order begins before the first one
not-before : (text : List ℕ) (t z : Sel) (ts : List Sel) (q : ℕ) → ((d : Sel) → z ≡ get_or (t ∷ ts) q d) → q < length (t ∷ ts) → LowsDontFall (ranges_of text (t ∷ ts)) → offset text t.low ≤ offset text z.low
not-before text t z ts zero e l o = let same : offset text z.low ≡ offset text t.low = ap (λ (s : Sel). offset text s.low) (e t) in omega (arith, same)
not-before text t z ts (suc q) e l o =
    let d : Range = range_of text z in
    let same : d ≡ get_or (ranges_of text ts) q d = nth-range text ts q z d (omega (arith, l)) e in
    let P : Range → Type 0 = λ r. offset text t.low ≤ r.low in
    subst P (sym same) (all-at P (ranges_of text ts) q d (omega (arith, l, length-map ts (range_of text))) o.0)

ahead-of : (text : List ℕ) (y t z : Sel) → IsInside text y → IsInside text t → IsInside text z → is_at_most y.low t.low ≡ true → offset text t.low ≤ offset text z.low → is_at_most y.low z.low ≡ true
ahead-of text y t z h k l e le =
    let first : offset text y.low ≤ offset text t.low = leb-true (offset text y.low) (offset text t.low) (sym (is_at_most-offset text y.low t.low (inl h.low) (inl k.low)) ∙ e) in
    is_at_most-offset text y.low z.low (inl h.low) (inl l.low) ∙ le-leb (offset text y.low) (offset text z.low) (omega (arith, first, le))

-- the place of the q-th one of the second list
place-one : (text : List ℕ) (P : Sel → Type 0) (z : Sel) (ys zs : List Sel) (q : ℕ) → ((d : Sel) → z ≡ get_or zs q d) → q < length zs → AreInside text ys → AreInside text zs → LowsDontFall (ranges_of text zs)
    → HoldsAtPlace P (in_one ys zs) (q + count_ahead z.low ys) → HoldsAtPlace P zs q
place-one text P z =
    along-one (λ ys zs ms. (q : ℕ) → ((d : Sel) → z ≡ get_or zs q d) → q < length zs → AreInside text ys → AreInside text zs → LowsDontFall (ranges_of text zs) → HoldsAtPlace P ms (q + count_ahead z.low ys) → HoldsAtPlace P zs q)
    (λ zs q e l h k o m. let same : q + 0 ≡ q = omega arith in subst (HoldsAtPlace P zs) same m)
    (λ y ys q e l h k o m. absurd (omega (arith, l)))
    first second
  where
    first : (y t : Sel) (ys ts ms : List Sel) → is_at_most y.low t.low ≡ true
        → ((q : ℕ) → ((d : Sel) → z ≡ get_or (t ∷ ts) q d) → q < length (t ∷ ts) → AreInside text ys → AreInside text (t ∷ ts) → LowsDontFall (ranges_of text (t ∷ ts)) → HoldsAtPlace P ms (q + count_ahead z.low ys) → HoldsAtPlace P (t ∷ ts) q)
        → (q : ℕ) → ((d : Sel) → z ≡ get_or (t ∷ ts) q d) → q < length (t ∷ ts) → AreInside text (y ∷ ys) → AreInside text (t ∷ ts) → LowsDontFall (ranges_of text (t ∷ ts)) → HoldsAtPlace P (y ∷ ms) (q + count_ahead z.low (y ∷ ys)) → HoldsAtPlace P (t ∷ ts) q
    first y t ys ts ms b f q e l h k o m =
        let inside : IsInside text z = nth-inside text (t ∷ ts) q z k l e in
        let ahead : count_ahead z.low (y ∷ ys) ≡ suc (count_ahead z.low ys) = ahead-more z.low y ys (ahead-of text y t z h.0 k.0 inside b (not-before text t z ts q e l o)) in
        let same : q + count_ahead z.low (y ∷ ys) ≡ suc (q + count_ahead z.low ys) = omega (arith, ahead) in
        f q e l h.1 k o (subst (HoldsAtPlace P (y ∷ ms)) same m)

    second : (y t : Sel) (ys ts ms : List Sel) → is_at_most y.low t.low ≡ false
        → ((q : ℕ) → ((d : Sel) → z ≡ get_or ts q d) → q < length ts → AreInside text (y ∷ ys) → AreInside text ts → LowsDontFall (ranges_of text ts) → HoldsAtPlace P ms (q + count_ahead z.low (y ∷ ys)) → HoldsAtPlace P ts q)
        → (q : ℕ) → ((d : Sel) → z ≡ get_or (t ∷ ts) q d) → q < length (t ∷ ts) → AreInside text (y ∷ ys) → AreInside text (t ∷ ts) → LowsDontFall (ranges_of text (t ∷ ts)) → HoldsAtPlace P (t ∷ ms) (q + count_ahead z.low (y ∷ ys)) → HoldsAtPlace P (t ∷ ts) q
    second y t ys ts ms b f zero e l h k o m =
        let none : count_ahead z.low (y ∷ ys) ≡ 0 = ap (λ (s : Sel). count_ahead s.low (y ∷ ys)) (e t) ∙ ahead-none t.low y ys b in
        let same : 0 + count_ahead z.low (y ∷ ys) ≡ 0 = omega (arith, none) in
        subst (HoldsAtPlace P (t ∷ ms)) same m
    second y t ys ts ms b f (suc q) e l h k o m =
        let same : suc q + count_ahead z.low (y ∷ ys) ≡ suc (q + count_ahead z.low (y ∷ ys)) = omega arith in
        f q e (omega (arith, l)) h k.1 o.1 (subst (HoldsAtPlace P (t ∷ ms)) same m)

pub together-one : (text : List ℕ) (ys zs : List Sel) (q : ℕ) (z : Sel) → ((d : Sel) → z ≡ get_or zs q d) → q < length zs → AreInside text ys → AreInside text zs → LowsDontFall (ranges_of text zs)
    → IsTogether ys zs (in_one ys zs) q (q + count_ahead z.low ys)
together-one text ys zs q z e l h k o = record {
  first = λ P m. some-first P ys zs m;
  second = λ P m. some-second P ys zs m;
  back = λ P m n. all-one P ys zs m n;
  main = λ P m. place-one text P z ys zs q e l h k o m;
}

pub inside-one : (text : List ℕ) (ys zs : List Sel) → AreInside text ys → AreInside text zs → AreInside text (in_one ys zs)
inside-one text ys zs h k = all-one (IsInside text) ys zs h k

-- the code's loops

pub record IsJoining (first second : List Sel) (list : List Sel) (i j : ℕ) : Type 0 where
  pub built : list ++ in_one (drop i first) (drop j second) ≡ in_one first second
  pub count : length list ≡ i + j
  pub i_in : i ≤ length first
  pub j_in : j ≤ length second

pub joining-start : (first second : List Sel) → IsJoining first second [] 0 0
joining-start first second = record { built = refl; count = omega arith; i_in = omega arith; j_in = omega arith }

pub joining-first : (first second list : List Sel) (i j : ℕ) (d : Sel) → i < length first → j < length second → is_at_most (get_or first i d).low (get_or second j d).low ≡ true → IsJoining first second list i j → IsJoining first second (list ++ get_or first i d ∷ []) (i + 1) j
joining-first first second list i j d l m e h =
    let more : suc i ≡ i + 1 = omega arith in
    let step : in_one (drop i first) (drop j second) ≡ get_or first i d ∷ in_one (drop (i + 1) first) (drop j second) =
    ap₂ in_one (drop-cons first i d l) (drop-cons second j d m) ∙ first-next (get_or first i d) (get_or second j d) (drop (suc i) first) (drop (suc j) second) e ∙ ap₂ (λ n t. get_or first i d ∷ in_one (drop n first) t) more (sym (drop-cons second j d m)) in
    record {
      built = append_assoc list (get_or first i d ∷ []) (in_one (drop (i + 1) first) (drop j second)) ∙ ap (λ t. list ++ t) (sym step) ∙ h.built;
      count = omega (arith, h.count, length-append list (get_or first i d ∷ []));
      i_in = omega (arith, l);
      j_in = h.j_in;
    }

pub joining-second : (first second list : List Sel) (i j : ℕ) (d : Sel) → i < length first → j < length second → is_at_most (get_or first i d).low (get_or second j d).low ≡ false → IsJoining first second list i j → IsJoining first second (list ++ get_or second j d ∷ []) i (j + 1)
joining-second first second list i j d l m e h =
    let more : suc j ≡ j + 1 = omega arith in
    let step : in_one (drop i first) (drop j second) ≡ get_or second j d ∷ in_one (drop i first) (drop (j + 1) second) =
    ap₂ in_one (drop-cons first i d l) (drop-cons second j d m) ∙ second-next (get_or first i d) (get_or second j d) (drop (suc i) first) (drop (suc j) second) e ∙ ap₂ (λ t n. get_or second j d ∷ in_one t (drop n second)) (sym (drop-cons first i d l)) more in
    record {
      built = append_assoc list (get_or second j d ∷ []) (in_one (drop i first) (drop (j + 1) second)) ∙ ap (λ t. list ++ t) (sym step) ∙ h.built;
      count = omega (arith, h.count, length-append list (get_or second j d ∷ []));
      i_in = h.i_in;
      j_in = omega (arith, m);
    }

pub rest-all : (xs : List Sel) (n : ℕ) → take (length xs - n) (drop n xs) ≡ drop n xs
rest-all xs n = take_all (length xs - n) (drop n xs) (omega (arith, length-drop n xs))

-- one of the two lists is used up: the rest of both follows
pub joining-end : (first second list : List Sel) (i j : ℕ) → (length first ≤ i) ⊎ (length second ≤ j) → IsJoining first second list i j → (list ++ drop i first) ++ drop j second ≡ in_one first second
joining-end first second list i j used h = append_assoc list (drop i first) (drop j second) ∙ ap (λ t. list ++ t) (sym (rest used)) ∙ h.built
  where
    rest : (length first ≤ i) ⊎ (length second ≤ j) → in_one (drop i first) (drop j second) ≡ drop i first ++ drop j second
    rest (inl l) =
        let none : drop i first ≡ [] = drop_all i first l in
        ap (λ t. in_one t (drop j second)) none ∙ ap (λ t. t ++ drop j second) (sym none)
    rest (inr l) =
        let none : drop j second ≡ [] = drop_all j second l in
        ap (in_one (drop i first)) none ∙ first-alone (drop i first) ∙ sym (append-nil (drop i first)) ∙ ap (λ t. drop i first ++ t) (sym none)

-- what the code made of the rests
pub joining-made : (first second list more made : List Sel) (i j : ℕ) → (length first ≤ i) ⊎ (length second ≤ j) → IsJoining first second list i j → more ≡ list ++ take (length first - i) (drop i first) → made ≡ more ++ take (length second - j) (drop j second) → made ≡ in_one first second
joining-made first second list more made i j used h e f =
    f ∙ ap₂ (λ t u. t ++ u) (e ∙ ap (λ t. list ++ t) (rest-all first i)) (rest-all second j) ∙ joining-end first second list i j used h

pub ahead-here : (low : Coord) (list : List Sel) (n : ℕ) (d : Sel) → n < length list → is_at_most (get_or list n d).low low ≡ false → n + count_ahead low (drop n list) ≡ count_ahead low list → n ≡ count_ahead low list
ahead-here low list n d l e h =
    let none : count_ahead low (drop n list) ≡ 0 = ap (count_ahead low) (drop-cons list n d l) ∙ ahead-none low (get_or list n d) (drop (suc n) list) e in
    omega (arith, h, none)

pub ahead-on : (low : Coord) (list : List Sel) (n : ℕ) (d : Sel) → n < length list → is_at_most (get_or list n d).low low ≡ true → n + count_ahead low (drop n list) ≡ count_ahead low list → n + 1 + count_ahead low (drop (n + 1) list) ≡ count_ahead low list
ahead-on low list n d l e h =
    let more : suc n ≡ n + 1 = omega arith in
    let one : count_ahead low (drop n list) ≡ suc (count_ahead low (drop (n + 1) list)) = ap (count_ahead low) (drop-cons list n d l) ∙ ahead-more low (get_or list n d) (drop (suc n) list) e ∙ ap (λ k. suc (count_ahead low (drop k list))) more in
    omega (arith, h, one)

pub ahead-all : (low : Coord) (list : List Sel) (n : ℕ) → length list ≤ n → n + count_ahead low (drop n list) ≡ count_ahead low list → n ≡ count_ahead low list
ahead-all low list n l h =
    let none : count_ahead low (drop n list) ≡ 0 = ap (count_ahead low) (drop_all n list l) in
    omega (arith, h, none)
