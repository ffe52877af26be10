-- The match that is found by halves among all matches of a text.
use Rattle.std.proofs.Common.{◌≡◌, ℕ, zero, suc, ◌+◌, ◌-◌, ◌<◌, ◌≤◌, ◌⊎◌, inl, inr, Bool, true, false, cond, not, leb, ltb, List, [], ◌∷◌, ◌++◌, length, take, drop, get_or, filter, reverse, refl, sym, ap, ap₂, subst, ◌∙◌, arith, append-nil, take-append-drop, take_all}
use Rattle.std.specs.List.{AllByRecursion}
use Rattle.std.proofs.lemmas.Bool.{ltb-true, ltb-false, leb-true, leb-false, lt-ltb, le-ltb, le-leb, lt-leb}
use Rattle.std.proofs.lemmas.List.{reverse-append, take_more}
use Rattle.std.proofs.lemmas.List.Elements.{filter-append}
use Rattle.text_model.specs.Texts.{offset}
use Rattle.text_model.proofs.PlaceLemmas.{is_at_most-offset}
use Rattle.list_model.proofs.ListLemmas.{all_weaker}
use Rattle.list_model.specs.Ranges.{Range}
use Rattle.selection_set.specs.declared.sel.Sel.{Sel}
use Rattle.selection_set.specs.Inside.{range_of, IsInside}
use Rattle.selection_set.specs.Listing.{AreInside, ranges_of}
use Rattle.directions.specs.declared.direction.Direction.{Direction}
use Rattle.directions.specs.declared.direction.Direction.TheVariants.{Forward, Backward}
use Rattle.regex_select.specs.Known.{stands_before, AreAllMatches}
use Rattle.regex_select.specs.Searching.{all_matches, on_the_way, first_or, sought}
use Rattle.regex_select.specs.Ways.{is_ahead_at, sought_at}
use Rattle.regex_select.proofs.RisingLemmas.{RangesRise, matches-rise}
use Rattle.regex_select.proofs.SoughtLemmas.{sought-inside, sought-range, way-inside, way-ranges}

-- ---- by offsets

-- the offset before which a match stands that stands before
abbrev bound : List ℕ → Direction → Sel → ℕ
bound text Forward s = offset text s.high + 1
bound text Backward s = offset text s.low

module _ (text : List ℕ) (direction : Direction) (s : Sel) (own : IsInside text s) where
  is-before : (m : Sel) → IsInside text m → offset text m.low < bound text direction s → stands_before direction s m ≡ true
  is-before = by-way direction
    where
      by-way : (way : Direction) (m : Sel) → IsInside text m → offset text m.low < bound text way s → stands_before way s m ≡ true
      by-way Forward m k l = is_at_most-offset text m.low s.high (inl k.low) (inl own.high) ∙ le-leb (offset text m.low) (offset text s.high) (omega (arith, l))
      by-way Backward m k l = ap not (is_at_most-offset text s.low m.low (inl own.low) (inl k.low) ∙ lt-leb (offset text s.low) (offset text m.low) l)

  isnt-before : (m : Sel) → IsInside text m → bound text direction s ≤ offset text m.low → stands_before direction s m ≡ false
  isnt-before = by-way direction
    where
      by-way : (way : Direction) (m : Sel) → IsInside text m → bound text way s ≤ offset text m.low → stands_before way s m ≡ false
      by-way Forward m k l = is_at_most-offset text m.low s.high (inl k.low) (inl own.high) ∙ lt-leb (offset text m.low) (offset text s.high) (omega (arith, l))
      by-way Backward m k l = ap not (is_at_most-offset text s.low m.low (inl own.low) (inl k.low) ∙ le-leb (offset text s.low) (offset text m.low) l)

  either-side : (m : Sel) → (offset text m.low < bound text direction s) ⊎ (bound text direction s ≤ offset text m.low)
  either-side m = grind arith

  before-is : (m : Sel) → IsInside text m → stands_before direction s m ≡ true → offset text m.low < bound text direction s
  before-is m k e = elim (either-side m) [ inl l ↦ l | inr l ↦ absurd (let no : true ≡ false = sym e ∙ isnt-before m k l in cc) ]

  behind-is : (m : Sel) → IsInside text m → stands_before direction s m ≡ false → bound text direction s ≤ offset text m.low
  behind-is m k e = elim (either-side m) [ inl l ↦ absurd (let no : true ≡ false = sym (is-before m k l) ∙ e in cc) | inr l ↦ l ]

  -- ---- all before the place, and all behind it

  all-behind : (b : ℕ) (ms : List Sel) → AreInside text ms → RangesRise b (ranges_of text ms) → bound text direction s ≤ b → AllByRecursion (λ m. stands_before direction s m ≡ false) ms
  all-behind b [] i h l = tt
  all-behind b (m ∷ ms) i h l = (isnt-before m i.0 (omega (arith, l, h.0)), all-behind (offset text m.low) ms i.1 h.1 (omega (arith, l, h.0)))

  pub rest-behind : (b n : ℕ) (ms : List Sel) → AreInside text ms → RangesRise b (ranges_of text ms) → (n < length ms → (d : Sel) → stands_before direction s (get_or ms n d) ≡ false) → AllByRecursion (λ m. stands_before direction s m ≡ false) (drop n ms)
  rest-behind b zero [] i h a = tt
  rest-behind b (suc n) [] i h a = tt
  rest-behind b zero (m ∷ ms) i h a = let first = a (omega arith) s in (first, all-behind (offset text m.low) ms i.1 h.1 (behind-is m i.0 first))
  rest-behind b (suc n) (m ∷ ms) i h a = rest-behind (offset text m.low) n ms i.1 h.1 (λ l d. a (omega (arith, l)) d)

  first-before : (m : Sel) (ms : List Sel) (n : ℕ) → AreInside text (m ∷ ms) → RangesRise (offset text m.low) (ranges_of text ms) → suc n ≤ length ms → AllByRecursion (λ x. stands_before direction s x ≡ true) (take (suc n) ms) → stands_before direction s m ≡ true
  first-before m [] n i h l k = absurd (omega (arith, l))
  first-before m (x ∷ ms) n i h l k = is-before m i.0 (omega (arith, h.0, before-is x i.1.0 k.0))

  all-before : (b n : ℕ) (ms : List Sel) → AreInside text ms → RangesRise b (ranges_of text ms) → n ≤ length ms → ((k : ℕ) → n ≡ suc k → (d : Sel) → stands_before direction s (get_or ms k d) ≡ true) → AllByRecursion (λ m. stands_before direction s m ≡ true) (take n ms)
  all-before b zero [] i h l a = tt
  all-before b zero (m ∷ ms) i h l a = tt
  all-before b (suc n) [] i h l a = absurd (omega (arith, l))
  all-before b (suc zero) (m ∷ ms) i h l a = (a zero refl s, tt)
  all-before b (suc (suc n)) (m ∷ ms) i h l a =
      let others = all-before (offset text m.low) (suc n) ms i.1 h.1 (omega (arith, l)) (λ k e d. a (suc k) (ap suc e) d) in
      (first-before m ms n i h.1 (omega (arith, l)) others, others)

  pub part-before : (b n : ℕ) (ms : List Sel) → AreInside text ms → RangesRise b (ranges_of text ms) → n ≤ length ms → (0 < n → (d : Sel) → stands_before direction s (get_or ms (n - 1) d) ≡ true) → AllByRecursion (λ m. stands_before direction s m ≡ true) (take n ms)
  part-before b n ms i h l a = all-before b n ms i h l (λ k e d.
      let there : n - 1 ≡ k = omega (arith, e) in
      subst (λ j. stands_before direction s (get_or ms j d) ≡ true) there (a (omega (arith, e)) d))

-- ---- what is ahead

none-passes : {X : Type 0} (p : X → Bool) (xs : List X) → AllByRecursion (λ x. p x ≡ false) xs → filter p xs ≡ []
none-passes p [] h = refl
none-passes p (x ∷ xs) h = ap (λ b. cond b (x ∷ filter p xs) (filter p xs)) h.0 ∙ none-passes p xs h.1

all-pass : {X : Type 0} (p : X → Bool) (xs : List X) → AllByRecursion (λ x. p x ≡ true) xs → filter p xs ≡ xs
all-pass p [] h = refl
all-pass p (x ∷ xs) h = ap (λ b. cond b (x ∷ filter p xs) (filter p xs)) h.0 ∙ ap (λ l. x ∷ l) (all-pass p xs h.1)

in-parts : {X : Type 0} (p : X → Bool) (xs : List X) (n : ℕ) → filter p xs ≡ filter p (take n xs) ++ filter p (drop n xs)
in-parts p xs n = ap (filter p) (sym (take-append-drop n xs)) ∙ filter-append p (take n xs) (drop n xs)

filter-push : {X : Type 0} (p : X → Bool) (b : Bool) (x : X) (xs : List X) → p x ≡ b → reverse (filter p xs) ++ filter p (x ∷ []) ≡ reverse (cond b (x ∷ filter p xs) (filter p xs))
filter-push p true x xs e = ap (λ b. reverse (filter p xs) ++ cond b (x ∷ []) []) e ∙ sym (reverse-append (x ∷ []) (filter p xs))
filter-push p false x xs e = ap (λ b. reverse (filter p xs) ++ cond b (x ∷ []) []) e ∙ append-nil (reverse (filter p xs))

filter-reverse : {X : Type 0} (p : X → Bool) (xs : List X) → filter p (reverse xs) ≡ reverse (filter p xs)
filter-reverse p [] = refl
filter-reverse p (x ∷ xs) =
    ap (filter p) (reverse-append (x ∷ []) xs) ∙ filter-append p (reverse xs) (x ∷ []) ∙ ap (λ l. l ++ filter p (x ∷ [])) (filter-reverse p xs) ∙ filter-push p (p x) x xs refl

-- the last of the first so many of a list comes first the other way round
pub last-first : {X : Type 0} (xs tail : List X) (n : ℕ) (d e : X) → 0 < n → n ≤ length xs → first_or d (reverse (take n xs) ++ tail) ≡ get_or xs (n - 1) e
last-first xs tail n d e some few =
    let there : n - 1 + 1 ≡ n = omega (arith, some) in
    ap (λ k. first_or d (reverse (take k xs) ++ tail)) (sym there)
    ∙ ap (λ l. first_or d (reverse l ++ tail)) (take_more xs (n - 1) e (omega (arith, some, few)))
    ∙ ap (λ l. first_or d (l ++ tail)) (reverse-append (take (n - 1) xs) (get_or xs (n - 1) e ∷ []))

-- ---- the match that is found

module _ (source text : List ℕ) (s : Sel) (ms : List Sel) (own : IsInside text s) (all : AreAllMatches source text ms) (n : ℕ) (few : n ≤ length ms) where
  rising : RangesRise 0 (ranges_of text ms)
  rising = subst (RangesRise 0) (sym all.ranges) (matches-rise source text)

  pub forward-found : (found : Sel) → (0 < n → (d : Sel) → stands_before Forward s (get_or ms (n - 1) d) ≡ true) → (n < length ms → (d : Sel) → stands_before Forward s (get_or ms n d) ≡ false)
      → ((d : Sel) → found ≡ first_or d (drop n ms ++ ms)) → found ≡ sought_at Forward (on_the_way Forward ms) s
  forward-found found before behind f =
      let passed = all_weaker (λ m. stands_before Forward s m ≡ true) (λ m. is_ahead_at Forward s m ≡ false) (λ m e. ap not e) (take n ms) (part-before text Forward s own 0 n ms all.inside rising few before) in
      let ahead = all_weaker (λ m. stands_before Forward s m ≡ false) (λ m. is_ahead_at Forward s m ≡ true) (λ m e. ap not e) (drop n ms) (rest-behind text Forward s own 0 n ms all.inside rising behind) in
      let parts : filter (is_ahead_at Forward s) ms ≡ drop n ms = in-parts (is_ahead_at Forward s) ms n ∙ ap₂ (λ xs ys. xs ++ ys) (none-passes (is_ahead_at Forward s) (take n ms) passed) (all-pass (is_ahead_at Forward s) (drop n ms) ahead) in
      f s ∙ ap (λ l. first_or s (l ++ ms)) (sym parts)

  pub backward-found : (found : Sel) → 0 < length ms → (0 < n → (d : Sel) → stands_before Backward s (get_or ms (n - 1) d) ≡ true) → (n < length ms → (d : Sel) → stands_before Backward s (get_or ms n d) ≡ false)
      → (0 < n → (d : Sel) → found ≡ get_or ms (n - 1) d) → (n ≡ 0 → (d : Sel) → found ≡ get_or ms (length ms - 1) d) → found ≡ sought_at Backward (on_the_way Backward ms) s
  backward-found found some before behind f g =
      let passed = rest-behind text Backward s own 0 n ms all.inside rising behind in
      let ahead = part-before text Backward s own 0 n ms all.inside rising few before in
      let parts : filter (is_ahead_at Backward s) ms ≡ take n ms =
      in-parts (is_ahead_at Backward s) ms n ∙ ap₂ (λ xs ys. xs ++ ys) (all-pass (is_ahead_at Backward s) (take n ms) ahead) (none-passes (is_ahead_at Backward s) (drop n ms) passed) ∙ append-nil (take n ms) in
      let way : filter (is_ahead_at Backward s) (reverse ms) ≡ reverse (take n ms) = filter-reverse (is_ahead_at Backward s) ms ∙ ap reverse parts in
      go n few f g ∙ ap (λ l. first_or s (l ++ reverse ms)) (sym way)
    where
      go : (k : ℕ) → k ≤ length ms → (0 < k → (d : Sel) → found ≡ get_or ms (k - 1) d) → (k ≡ 0 → (d : Sel) → found ≡ get_or ms (length ms - 1) d) → found ≡ first_or s (reverse (take k ms) ++ reverse ms)
      go zero l f g =
          g refl s ∙ sym (last-first ms [] (length ms) s s some (omega arith))
          ∙ ap (first_or s) (append-nil (reverse (take (length ms) ms)) ∙ ap reverse (take_all (length ms) ms (omega arith)))
      go (suc k) l f g = f (omega arith) s ∙ sym (last-first ms (reverse ms) (suc k) s s (omega arith) l)

pub found-inside : (source text : List ℕ) (direction : Direction) (s found : Sel) (ms : List Sel) → IsInside text s → AreAllMatches source text ms → found ≡ sought_at direction (on_the_way direction ms) s → IsInside text found
found-inside source text direction s found ms own all f = subst (IsInside text) (sym f) (sought-inside text direction (on_the_way direction ms) s own (way-inside text direction ms (on_the_way direction ms) refl all.inside))

pub found-range : (source text : List ℕ) (direction : Direction) (s found : Sel) (ms : List Sel) → IsInside text s → AreAllMatches source text ms → found ≡ sought_at direction (on_the_way direction ms) s → range_of text found ≡ sought direction (all_matches source text) (range_of text s)
found-range source text direction s found ms own all f =
    ap (range_of text) f
    ∙ sought-range text direction (on_the_way direction ms) (all_matches source text) s own (way-inside text direction ms (on_the_way direction ms) refl all.inside) (way-ranges text direction ms (on_the_way direction ms) (all_matches source text) refl all.ranges)

-- whichever way it is
pub forward-sought : (source text : List ℕ) (direction : Direction) (s found : Sel) (ms : List Sel) (n : ℕ) → direction ≡ Forward → IsInside text s → AreAllMatches source text ms → n ≤ length ms
    → (0 < n → (d : Sel) → stands_before direction s (get_or ms (n - 1) d) ≡ true) → (n < length ms → (d : Sel) → stands_before direction s (get_or ms n d) ≡ false)
    → ((d : Sel) → found ≡ first_or d (drop n ms ++ ms)) → found ≡ sought_at direction (on_the_way direction ms) s
forward-sought source text Forward s found ms n is own all few before behind f = forward-found source text s ms own all n few found before behind f
forward-sought source text Backward s found ms n is own all few before behind f = absurd (let no : Backward ≡ Forward = is in cc)

pub backward-sought : (source text : List ℕ) (direction : Direction) (s found : Sel) (ms : List Sel) (n : ℕ) → direction ≡ Backward → IsInside text s → AreAllMatches source text ms → n ≤ length ms → 0 < length ms
    → (0 < n → (d : Sel) → stands_before direction s (get_or ms (n - 1) d) ≡ true) → (n < length ms → (d : Sel) → stands_before direction s (get_or ms n d) ≡ false)
    → (0 < n → (d : Sel) → found ≡ get_or ms (n - 1) d) → (n ≡ 0 → (d : Sel) → found ≡ get_or ms (length ms - 1) d) → found ≡ sought_at direction (on_the_way direction ms) s
backward-sought source text Forward s found ms n is own all few some before behind f g = absurd (let no : Forward ≡ Backward = is in cc)
backward-sought source text Backward s found ms n is own all few some before behind f g = backward-found source text s ms own all n few found some before behind f g
