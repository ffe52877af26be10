-- Searches from selections on, by coordinates and by offsets.
use Rattle.std.proofs.Common.{◌≡◌, ℕ, zero, suc, ◌+◌, ◌<◌, Bool, true, false, cond, not, leb, ltb, inl, inr, List, [], ◌∷◌, ◌++◌, length, take, get_or, set, map, filter, reverse, flat_map, Option, None, Some, option_to_list, append-nil, refl, sym, ap, ap₂, subst, ◌∙◌, arith}
use Rattle.std.specs.Prelude.{if◌then◌else◌, IfSome}
use Rattle.std.specs.List.{AllByRecursion}
use Rattle.std.proofs.lemmas.Bool.{cases_Bool, lt-ltb, le-ltb, leb-true, leb-false, le-leb}
use Rattle.std.proofs.lemmas.List.{map-append, reverse-append, take_more}
use Rattle.std.proofs.lemmas.List.Concat.{flat_map-append}
use Rattle.text_model.specs.declared.coords.Coord.{Coord}
use Rattle.text_model.specs.Texts.{offset, IsPlace}
use Rattle.text_model.proofs.PlaceLemmas.{is_at_most-offset}
use Rattle.list_model.specs.Ranges.{Range, only}
use Rattle.list_model.specs.Settled.{AreApart}
use Rattle.selection_set.specs.declared.sel.Sel.{Sel}
use Rattle.selection_set.specs.declared.sel.Pair.{Pair}
use Rattle.selection_set.specs.Inside.{range_of, IsInside, anchor_at}
use Rattle.selection_set.specs.Listing.{Listed, ranges_of, AreInside, range_between, IsPairInside}
use Rattle.selection_set.specs.Held.{IsHeld}
use Rattle.selection_set.proofs.PairLemmas.{pairs-inside, pairs-ranges}
use Rattle.selection_set.proofs.CursorLemmas.{cursor-range_of}
use Rattle.regex_ports.specs.declared.pattern.Span.{Span}
use Rattle.directions.specs.declared.direction.Direction.{Direction}
use Rattle.directions.specs.declared.direction.Direction.TheVariants.{Forward, Backward}
use Rattle.regex_select.specs.declared.way.Search.{Search}
use Rattle.regex_select.specs.Searching.{on_the_way, is_ahead, first_or, sought, reached, searched}
use Rattle.regex_select.specs.Ways.{is_ahead_at, IsFurther, GoesAhead, sought_at, reached_at, searched_at}
use Rattle.regex_select.proofs.WayLemmas.{map-way}

-- ---- lists inside a text

pub all-append : {X : Type 0} (P : X → Type 0) (xs ys : List X) → AllByRecursion P xs → AllByRecursion P ys → AllByRecursion P (xs ++ ys)
all-append P [] ys h k = k
all-append P (x ∷ xs) ys h k = (h.0, all-append P xs ys h.1 k)

pub all-reverse : {X : Type 0} (P : X → Type 0) (xs : List X) → AllByRecursion P xs → AllByRecursion P (reverse xs)
all-reverse P [] h = tt
all-reverse P (x ∷ xs) h = subst (AllByRecursion P) (sym (reverse-append (x ∷ []) xs)) (all-append P (reverse xs) (x ∷ []) (all-reverse P xs h.1) (h.0, tt))

pub all-filter : {X : Type 0} (P : X → Type 0) (p : X → Bool) (xs : List X) → AllByRecursion P xs → AllByRecursion P (filter p xs)
all-filter P p [] h = tt
all-filter P p (x ∷ xs) h = by-flag (p x) (all-filter P p xs h.1)
  where
    by-flag : (b : Bool) → AllByRecursion P (filter p xs) → AllByRecursion P (cond b (x ∷ filter p xs) (filter p xs))
    by-flag true k = (h.0, k)
    by-flag false k = k

pub push-inside : (text : List ℕ) (xs : List Sel) (s : Sel) → AreInside text xs → IsInside text s → AreInside text (xs ++ s ∷ [])
push-inside text xs s h k = all-append (IsInside text) xs (s ∷ []) h (k, tt)

pub set-inside : (text : List ℕ) (xs : List Sel) (n : ℕ) (s : Sel) → AreInside text xs → IsInside text s → AreInside text (set xs n s)
set-inside text [] n s h k = h
set-inside text (x ∷ xs) zero s h k = (k, h.1)
set-inside text (x ∷ xs) (suc n) s h k = (h.0, set-inside text xs n s h.1 k)

-- one found more
pub found-inside : (text : List ℕ) (before after : List Sel) (found : Option Sel) → AreInside text before → IfSome found (λ s. IsInside text s) → after ≡ before ++ option_to_list found → AreInside text after
found-inside text before after None h k e = subst (AreInside text) (sym e) (all-append (IsInside text) before [] h tt)
found-inside text before after (Some s) h k e = subst (AreInside text) (sym e) (push-inside text before s h k)

pub selected-more : (text : List ℕ) (f : Span → List Range) (spans : List Span) (n : ℕ) (d : Span) (before after : List Sel) (found : Option Sel) → n < length spans → ranges_of text before ≡ flat_map f (take n spans) → ranges_of text (option_to_list found) ≡ f (get_or spans n d) → after ≡ before ++ option_to_list found
    → ranges_of text after ≡ flat_map f (take (n + 1) spans)
selected-more text f spans n d before after found l b r e =
    ap (ranges_of text) e ∙ map-append (range_of text) before (option_to_list found) ∙ ap₂ (λ xs ys. xs ++ ys) b (r ∙ sym (append-nil (f (get_or spans n d))))
    ∙ sym (ap (flat_map f) (take_more spans n d l) ∙ flat_map-append f (take n spans) (get_or spans n d ∷ []))

pub way-inside : (text : List ℕ) (direction : Direction) (xs ys : List Sel) → ys ≡ on_the_way direction xs → AreInside text xs → AreInside text ys
way-inside text Forward xs ys e h = subst (AreInside text) (sym e) h
way-inside text Backward xs ys e h = subst (AreInside text) (sym e) (all-reverse (IsInside text) xs h)

pub way-ranges : (text : List ℕ) (direction : Direction) (xs ys : List Sel) (rs : List Range) → ys ≡ on_the_way direction xs → ranges_of text xs ≡ rs → ranges_of text ys ≡ on_the_way direction rs
way-ranges text direction xs ys rs e f = ap (ranges_of text) e ∙ map-way (range_of text) direction xs ∙ ap (on_the_way direction) f

-- ---- what is ahead

not-at-most : (a b : ℕ) → not (leb a b) ≡ ltb b a
not-at-most a b = elim (cases_Bool (leb a b)) [ inl e ↦ ap not e ∙ sym (le-ltb b a (leb-true a b e)) | inr e ↦ ap not e ∙ sym (lt-ltb b a (leb-false a b e)) ]

ahead-range : (text : List ℕ) (direction : Direction) (s m : Sel) → IsInside text s → IsInside text m → is_ahead_at direction s m ≡ is_ahead direction (range_of text s) (range_of text m)
ahead-range text Forward s m h k = ap not (is_at_most-offset text m.low s.high (inl k.low) (inl h.high)) ∙ not-at-most (offset text m.low) (offset text s.high)
ahead-range text Backward s m h k = ap not (is_at_most-offset text s.low m.low (inl h.low) (inl k.low)) ∙ not-at-most (offset text s.low) (offset text m.low)

ahead-ranges : (text : List ℕ) (direction : Direction) (s : Sel) (ms : List Sel) → IsInside text s → AreInside text ms → ranges_of text (filter (is_ahead_at direction s) ms) ≡ filter (is_ahead direction (range_of text s)) (ranges_of text ms)
ahead-ranges text direction s [] h k = refl
ahead-ranges text direction s (m ∷ ms) h k =
    ap (λ b. ranges_of text (cond b (m ∷ filter (is_ahead_at direction s) ms) (filter (is_ahead_at direction s) ms))) (ahead-range text direction s m h k.0) ∙ by-flag (is_ahead direction (range_of text s) (range_of text m)) (ahead-ranges text direction s ms h k.1)
  where
    by-flag : (b : Bool) → ranges_of text (filter (is_ahead_at direction s) ms) ≡ filter (is_ahead direction (range_of text s)) (ranges_of text ms)
        → ranges_of text (cond b (m ∷ filter (is_ahead_at direction s) ms) (filter (is_ahead_at direction s) ms)) ≡ cond b (range_of text m ∷ filter (is_ahead direction (range_of text s)) (ranges_of text ms)) (filter (is_ahead direction (range_of text s)) (ranges_of text ms))
    by-flag true e = ap (λ l. range_of text m ∷ l) e
    by-flag false e = e

first-inside : (text : List ℕ) (d : Sel) (ms : List Sel) → IsInside text d → AreInside text ms → IsInside text (first_or d ms)
first-inside text d [] h k = h
first-inside text d (m ∷ ms) h k = k.0

first-range : (text : List ℕ) (d : Sel) (ms : List Sel) → range_of text (first_or d ms) ≡ first_or (range_of text d) (ranges_of text ms)
first-range text d [] = refl
first-range text d (m ∷ ms) = refl

pub sought-inside : (text : List ℕ) (direction : Direction) (ms : List Sel) (s : Sel) → IsInside text s → AreInside text ms → IsInside text (sought_at direction ms s)
sought-inside text direction ms s h k = first-inside text s (filter (is_ahead_at direction s) ms ++ ms) h (all-append (IsInside text) (filter (is_ahead_at direction s) ms) ms (all-filter (IsInside text) (is_ahead_at direction s) ms k) k)

pub sought-range : (text : List ℕ) (direction : Direction) (ms : List Sel) (rs : List Range) (s : Sel) → IsInside text s → AreInside text ms → ranges_of text ms ≡ on_the_way direction rs → range_of text (sought_at direction ms s) ≡ sought direction rs (range_of text s)
sought-range text direction ms rs s h k e =
    first-range text s (filter (is_ahead_at direction s) ms ++ ms)
    ∙ ap (first_or (range_of text s)) (map-append (range_of text) (filter (is_ahead_at direction s) ms) ms ∙ ap₂ (λ xs ys. xs ++ ys) (ahead-ranges text direction s ms h k ∙ ap (filter (is_ahead direction (range_of text s))) e) e)

-- ---- what becomes of a selection

-- with the ends changed over, the anchor is the cursor
abbrev swapped : Sel → Sel
swapped sel = record sel { low = sel.high; high = sel.low }

anchor-place : (text : List ℕ) (t : Bool) (a b : Coord) → IsPlace text a → IsPlace text b → IsPlace text (if t then a else b)
anchor-place text true a b p q = p
anchor-place text false a b p q = q

abbrev stretched : Sel → Sel → Pair
stretched s m = record { anchor = anchor_at s; cursor = m.high }

stretched-inside : (text : List ℕ) (s m : Sel) → IsInside text s → IsInside text m → IsPairInside text (stretched s m)
stretched-inside text s m h k = record { anchor = anchor-place text s.turned s.high s.low h.high h.low; cursor = k.high }

pub reached-inside : (text : List ℕ) (extend : Bool) (s m : Sel) → IsInside text s → IsInside text m → IsInside text (reached_at extend s m)
reached-inside text true s m h k = (pairs-inside text (stretched s m ∷ []) (stretched-inside text s m h k, tt)).0
reached-inside text false s m h k = k

pub reached-range : (text : List ℕ) (extend : Bool) (s m : Sel) → IsInside text s → IsInside text m → range_of text (reached_at extend s m) ≡ reached extend (range_of text s) (range_of text m)
reached-range text true s m h k =
    ap (λ l. get_or l 0 (only 0)) (pairs-ranges text (stretched s m ∷ []) (stretched-inside text s m h k, tt)) ∙ ap (λ a. range_between a (offset text m.high)) (sym (cursor-range_of text (swapped s)))
reached-range text false s m h k = refl

-- ---- what becomes of all

pub each-inside : (text : List ℕ) (search : Search) (ms ss : List Sel) → AreInside text ss → AreInside text ms → AreInside text (map (searched_at search ms) ss)
each-inside text search ms [] h k = tt
each-inside text search ms (s ∷ ss) h k = (reached-inside text search.extend s (sought_at search.direction ms s) h.0 (sought-inside text search.direction ms s h.0 k), each-inside text search ms ss h.1 k)

pub each-ranges : (text : List ℕ) (search : Search) (ms : List Sel) (rs : List Range) (ss : List Sel) → AreInside text ss → AreInside text ms → ranges_of text ms ≡ on_the_way search.direction rs → ranges_of text (map (searched_at search ms) ss) ≡ map (searched search rs) (ranges_of text ss)
each-ranges text search ms rs [] h k e = refl
each-ranges text search ms rs (s ∷ ss) h k e =
    let one : range_of text (searched_at search ms s) ≡ searched search rs (range_of text s) =
    reached-range text search.extend s (sought_at search.direction ms s) h.0 (sought-inside text search.direction ms s h.0 k) ∙ ap (reached search.extend (range_of text s)) (sought-range text search.direction ms rs s h.0 k e) in
    ap₂ (λ x xs. x ∷ xs) one (each-ranges text search ms rs ss h.1 k e)

-- ---- a list that is held goes on, either way

further-forward : (text : List ℕ) (s : Sel) (ss : List Sel) → IsInside text s → AreInside text ss → AllByRecursion (λ r. offset text s.high < r.low) (ranges_of text ss) → AllByRecursion (IsFurther Forward s) ss
further-forward text s [] h k a = tt
further-forward text s (t ∷ ts) h k a =
    (is_at_most-offset text s.high t.high (inl h.high) (inl k.0.high) ∙ le-leb (offset text s.high) (offset text t.high) (omega (arith, a.0, k.0.ordered)), further-forward text s ts h k.1 a.1)

further-backward : (text : List ℕ) (s : Sel) (ss : List Sel) → IsInside text s → AreInside text ss → AllByRecursion (λ r. offset text s.high < r.low) (ranges_of text ss) → AllByRecursion (λ t. IsFurther Backward t s) ss
further-backward text s [] h k a = tt
further-backward text s (t ∷ ts) h k a =
    (is_at_most-offset text s.low t.low (inl h.low) (inl k.0.low) ∙ le-leb (offset text s.low) (offset text t.low) (omega (arith, a.0, h.ordered)), further-backward text s ts h k.1 a.1)

goes-on-push : (direction : Direction) (ss : List Sel) (s : Sel) → GoesAhead direction ss → AllByRecursion (λ t. IsFurther direction t s) ss → GoesAhead direction (ss ++ s ∷ [])
goes-on-push direction [] s g h = (tt, tt)
goes-on-push direction (t ∷ ts) s g h = (all-append (IsFurther direction t) ts (s ∷ []) g.0 (h.0, tt), goes-on-push direction ts s g.1 h.1)

apart-goes-on : (text : List ℕ) (direction : Direction) (ss : List Sel) → AreInside text ss → AreApart (ranges_of text ss) → GoesAhead direction (on_the_way direction ss)
apart-goes-on text Forward [] h a = tt
apart-goes-on text Forward (s ∷ ss) h a = (further-forward text s ss h.0 h.1 a.0, apart-goes-on text Forward ss h.1 a.1)
apart-goes-on text Backward [] h a = tt
apart-goes-on text Backward (s ∷ ss) h a =
    subst (GoesAhead Backward) (sym (reverse-append (s ∷ []) ss))
    (goes-on-push Backward (reverse ss) s (apart-goes-on text Backward ss h.1 a.1) (all-reverse (λ t. IsFurther Backward t s) ss (further-backward text s ss h.0 h.1 a.0)))

pub held-goes-on : (text : List ℕ) (direction : Direction) (s : Listed) (list : List Sel) → IsHeld text s → list ≡ s.list → GoesAhead direction (on_the_way direction list)
held-goes-on text direction s list h e = subst (λ l. GoesAhead direction (on_the_way direction l)) (sym e) (apart-goes-on text direction s.list h.inside h.settled.apart)
