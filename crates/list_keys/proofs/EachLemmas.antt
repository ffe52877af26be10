-- What is made of the selections of a list, one after another.
use Rattle.std.proofs.Common.{◌≡◌, ℕ, zero, suc, ◌+◌, ◌-◌, ◌<◌, ◌≤◌, Bool, true, false, List, [], ◌∷◌, ◌++◌, length, take, drop, get_or, Option, None, Some, filter_map, flat_map, option_map, option_to_list, is_some, IfSome, refl, sym, ap, ap₂, subst, ◌∙◌, arith, append_assoc, append-nil, length-append, length-drop, add-one}
use Rattle.std.specs.List.{AllByRecursion}
use Rattle.std.proofs.lemmas.Bool.{false≢true}
use Rattle.std.proofs.lemmas.List.{take_more, map-append, length-map}
use Rattle.std.proofs.lemmas.List.Elements.{filter_map-append}
use Rattle.std.proofs.lemmas.List.Concat.{flat_map-append}
use Rattle.std.specs.List.{cons_option}
use Rattle.list_model.specs.Ranges.{Range}
use Rattle.selection_set.specs.declared.sel.Sel.{Sel}
use Rattle.selection_set.specs.Inside.{range_of, IsInside}
use Rattle.selection_set.specs.Listing.{AreInside, ranges_of}
use Rattle.selection_set.proofs.HeldLemmas.{zero_sel}

-- what all elements of two lists have
pub all-append : {X : Type 0} (P : X → Type 0) (xs ys : List X) → AllByRecursion P xs → AllByRecursion P ys → AllByRecursion P (xs ++ ys)
all-append P [] ys h k = k
all-append P (x ∷ xs) ys h k = (h.0, all-append P xs ys h.1 k)

pub inside-more : (text : List ℕ) (list : List Sel) (x : Sel) → AreInside text list → IsInside text x → AreInside text (list ++ x ∷ [])
inside-more text list x h i = all-append (IsInside text) list (x ∷ []) h (i, tt)

pub ranges-more : (text : List ℕ) (list : List Sel) (x : Sel) → ranges_of text (list ++ x ∷ []) ≡ ranges_of text list ++ range_of text x ∷ []
ranges-more text list x = map-append (range_of text) list (x ∷ [])

ranges-taken : (text : List ℕ) (all : List Sel) (n : ℕ) (d : Sel) → n < length all → ranges_of text (take (n + 1) all) ≡ ranges_of text (take n all) ++ range_of text (get_or all n d) ∷ []
ranges-taken text all n d h = ap (ranges_of text) (take_more all n d h) ∙ ranges-more text (take n all) (get_or all n d)

-- what is made of the first ones, and of one more
one-made : (f : Range → Option Range) (r : Range) → filter_map f (r ∷ []) ≡ option_to_list (f r)
one-made f r = listed (f r)
  where
    listed : (o : Option Range) → cons_option o [] ≡ option_to_list o
    listed None = refl
    listed (Some x) = refl

pub made-more : (text : List ℕ) (f : Range → Option Range) (all : List Sel) (n : ℕ) (d x : Sel) → n < length all → x ≡ get_or all n d
    → filter_map f (ranges_of text (take (n + 1) all)) ≡ filter_map f (ranges_of text (take n all)) ++ option_to_list (f (range_of text x))
made-more text f all n d x h e =
    ap (filter_map f) (ranges-taken text all n d h) ∙ filter_map-append f (ranges_of text (take n all)) (range_of text (get_or all n d) ∷ [])
    ∙ ap (λ l. filter_map f (ranges_of text (take n all)) ++ l) (one-made f (range_of text (get_or all n d)) ∙ ap (λ (s : Sel). option_to_list (f (range_of text s))) (sym e))

-- so many more there are
pub count-more : (text : List ℕ) (f : Range → Option Range) (all : List Sel) (n : ℕ) (d x : Sel) (b : Bool) → n < length all → x ≡ get_or all n d → b ≡ is_some (f (range_of text x)) → b ≡ true
    → length (filter_map f (ranges_of text (take (n + 1) all))) ≡ length (filter_map f (ranges_of text (take n all))) + 1
count-more text f all n d x b h e k t =
    omega (arith, ap length (made-more text f all n d x h e), length-append (filter_map f (ranges_of text (take n all))) (option_to_list (f (range_of text x))), one (f (range_of text x)) (sym k ∙ t))
  where
    one : (o : Option Range) → is_some o ≡ true → length (option_to_list o) ≡ 1
    one None i = absurd (false≢true i)
    one (Some y) i = refl

pub count-same : (text : List ℕ) (f : Range → Option Range) (all : List Sel) (n : ℕ) (d x : Sel) (b : Bool) → n < length all → x ≡ get_or all n d → b ≡ is_some (f (range_of text x)) → b ≡ false
    → length (filter_map f (ranges_of text (take (n + 1) all))) ≡ length (filter_map f (ranges_of text (take n all)))
count-same text f all n d x b h e k t =
    omega (arith, ap length (made-more text f all n d x h e), length-append (filter_map f (ranges_of text (take n all))) (option_to_list (f (range_of text x))), none (f (range_of text x)) (sym k ∙ t))
  where
    none : (o : Option Range) → is_some o ≡ false → length (option_to_list o) ≡ 0
    none None i = refl
    none (Some y) i = absurd (false≢true (sym i))

-- what was found, as a list
pub found-ranges : (text : List ℕ) (found : Option Sel) (o : Option Range) → option_map (range_of text) found ≡ o → ranges_of text (option_to_list found) ≡ option_to_list o
found-ranges text found o e = listed found ∙ ap option_to_list e
  where
    listed : (p : Option Sel) → ranges_of text (option_to_list p) ≡ option_to_list (option_map (range_of text) p)
    listed None = refl
    listed (Some s) = refl

pub found-inside : (text : List ℕ) (found : Option Sel) → IfSome found (λ s. IsInside text s) → AreInside text (option_to_list found)
found-inside text None h = tt
found-inside text (Some s) h = (h, tt)

-- the parts of the first ones, and of one more
pub parts-more : (text : List ℕ) (f : Range → List Range) (all : List Sel) (n : ℕ) (d x : Sel) → n < length all → x ≡ get_or all n d
    → flat_map f (ranges_of text (take (n + 1) all)) ≡ flat_map f (ranges_of text (take n all)) ++ f (range_of text x)
parts-more text f all n d x h e =
    ap (flat_map f) (ranges-taken text all n d h) ∙ flat_map-append f (ranges_of text (take n all)) (range_of text (get_or all n d) ∷ [])
    ∙ ap (λ (s : Sel). flat_map f (ranges_of text (take n all)) ++ (f (range_of text s) ++ [])) (sym e)
    ∙ ap (λ l. flat_map f (ranges_of text (take n all)) ++ l) (append-nil (f (range_of text x)))

-- those of the first ones are no more than all
pub made-le : (text : List ℕ) (f : Range → Option Range) (all : List Sel) (n : ℕ) → length (filter_map f (ranges_of text (take n all))) ≤ length (filter_map f (ranges_of text all))
made-le text f all zero = omega arith
made-le text f [] (suc n) = omega arith
made-le text f (s ∷ ss) (suc n) = onto (f (range_of text s)) (filter_map f (ranges_of text (take n ss))) (filter_map f (ranges_of text ss)) (made-le text f ss n)
  where
    onto : (o : Option Range) (xs ys : List Range) → length xs ≤ length ys → length (cons_option o xs) ≤ length (cons_option o ys)
    onto None xs ys h = h
    onto (Some r) xs ys h = omega (arith, h)

pub parts-le : (text : List ℕ) (f : Range → List Range) (all : List Sel) (n : ℕ) → length (flat_map f (ranges_of text (take n all))) ≤ length (flat_map f (ranges_of text all))
parts-le text f all zero = omega arith
parts-le text f [] (suc n) = omega arith
parts-le text f (s ∷ ss) (suc n) = omega (arith, parts-le text f ss n, length-append (f (range_of text s)) (flat_map f (ranges_of text (take n ss))), length-append (f (range_of text s)) (flat_map f (ranges_of text ss)))

-- a list without one of its elements
abbrev pub rest_of : {X : Type 0} → List X → ℕ → List X
rest_of xs n = take n xs ++ drop (n + 1) xs

rest : {X : Type 0} → List X → ℕ → List X
rest xs n = take n xs ++ drop (suc n) xs

rest-is : {X : Type 0} (xs : List X) (n : ℕ) → rest xs n ≡ rest_of xs n
unfolding rest
rest-is xs n = ap (λ k. take n xs ++ drop k xs) (sym (add-one n))

inside-rest : (text : List ℕ) (list : List Sel) (n : ℕ) → AreInside text list → AreInside text (rest list n)
unfolding rest
inside-rest text [] zero h = tt
inside-rest text [] (suc n) h = tt
inside-rest text (s ∷ ss) zero h = h.1
inside-rest text (s ∷ ss) (suc n) h = (h.0, inside-rest text ss n h.1)

ranges-rest : (text : List ℕ) (list : List Sel) (n : ℕ) → ranges_of text (rest list n) ≡ rest (ranges_of text list) n
unfolding rest
ranges-rest text [] zero = refl
ranges-rest text [] (suc n) = refl
ranges-rest text (s ∷ ss) zero = refl
ranges-rest text (s ∷ ss) (suc n) = ap (λ rs. range_of text s ∷ rs) (ranges-rest text ss n)

length-rest : (list : List Sel) (n : ℕ) → n < length list → suc (length (rest list n)) ≡ length list
unfolding rest
length-rest [] n h = absurd (omega arith)
length-rest (s ∷ ss) zero h = refl
length-rest (s ∷ ss) (suc n) h = ap suc (length-rest ss n (omega arith))

pub rest-inside : (text : List ℕ) (list : List Sel) (n : ℕ) → AreInside text list → AreInside text (rest_of list n)
rest-inside text list n h = subst (AreInside text) (rest-is list n) (inside-rest text list n h)

pub rest-ranges : (text : List ℕ) (list : List Sel) (n : ℕ) → ranges_of text (rest_of list n) ≡ rest_of (ranges_of text list) n
rest-ranges text list n = ap (ranges_of text) (sym (rest-is list n)) ∙ ranges-rest text list n ∙ rest-is (ranges_of text list) n

pub rest-length : (list : List Sel) (n : ℕ) → n < length list → length (rest_of list n) + 1 ≡ length list
rest-length list n h = omega (arith, length-rest list n h, ap length (rest-is list n))

-- what is made of one more selection is put behind a list
pub made-step : (text : List ℕ) (f : Range → Option Range) (all : List Sel) (n : ℕ) (found : Option Sel) (old list new : List Sel) → n < length all → option_map (range_of text) found ≡ f (range_of text (get_or all n zero_sel))
    → new ≡ list ++ option_to_list found → ranges_of text list ≡ ranges_of text old ++ filter_map f (ranges_of text (take n all)) → ranges_of text new ≡ ranges_of text old ++ filter_map f (ranges_of text (take (n + 1) all))
made-step text f all n found old list new h g i k =
    let x : Sel = get_or all n zero_sel in
    ap (ranges_of text) i ∙ map-append (range_of text) list (option_to_list found)
    ∙ ap₂ (λ (l m : List Range). l ++ m) k (found-ranges text found (f (range_of text x)) g)
    ∙ append_assoc (ranges_of text old) (filter_map f (ranges_of text (take n all))) (option_to_list (f (range_of text x)))
    ∙ ap (λ l. ranges_of text old ++ l) (sym (made-more text f all n zero_sel x h refl))

pub inside-step : (text : List ℕ) (found : Option Sel) (list new : List Sel) → AreInside text list → IfSome found (λ s. IsInside text s) → new ≡ list ++ option_to_list found → AreInside text new
inside-step text found list new h i e = subst (AreInside text) (sym e) (all-append (IsInside text) list (option_to_list found) h (found-inside text found i))

-- at most one is found
pub found-few : (found : Option Sel) → length (option_to_list found) ≤ 1
found-few None = omega arith
found-few (Some s) = omega arith

-- there is room for it, where there is room for all
pub made-room : (text : List ℕ) (f : Range → Option Range) (all : List Sel) (n : ℕ) (found : Option Sel) (old list : List Sel) (room : ℕ) → n < length all → option_map (range_of text) found ≡ f (range_of text (get_or all n zero_sel))
    → ranges_of text list ≡ ranges_of text old ++ filter_map f (ranges_of text (take n all)) → length old + length (filter_map f (ranges_of text all)) ≤ room → length list + length (option_to_list found) ≤ room
made-room text f all n found old list room h g k l =
    let x : Sel = get_or all n zero_sel in
    omega (
      arith,
      l,
      ap length k,
      length-map list (range_of text),
      length-map old (range_of text),
      length-append (ranges_of text old) (filter_map f (ranges_of text (take n all))),
      ap length (made-more text f all n zero_sel x h refl),
      length-append (filter_map f (ranges_of text (take n all))) (option_to_list (f (range_of text x))),
      ap length (found-ranges text found (f (range_of text x)) g),
      length-map (option_to_list found) (range_of text),
      made-le text f all (n + 1),
    )

-- what is made of all selections is what is made of those before one, of that one, and of those behind it
pub made-parts : (text : List ℕ) (f : Range → Option Range) (all : List Sel) (n : ℕ) (d : Sel) → n < length all
    → filter_map f (ranges_of text (take n all)) ++ (option_to_list (f (range_of text (get_or all n d))) ++ filter_map f (ranges_of text (drop (suc n) all))) ≡ filter_map f (ranges_of text all)
made-parts text f [] n d h = absurd (omega arith)
made-parts text f (s ∷ ss) zero d h = first (f (range_of text s)) (filter_map f (ranges_of text ss))
  where
    first : (o : Option Range) (xs : List Range) → [] ++ (option_to_list o ++ xs) ≡ cons_option o xs
    first None xs = refl
    first (Some r) xs = refl
made-parts text f (s ∷ ss) (suc n) d h = onto (f (range_of text s)) (filter_map f (ranges_of text (take n ss))) (option_to_list (f (range_of text (get_or ss n d))) ++ filter_map f (ranges_of text (drop (suc n) ss))) (filter_map f (ranges_of text ss)) (made-parts text f ss n d (omega arith))
  where
    onto : (o : Option Range) (xs ys zs : List Range) → xs ++ ys ≡ zs → cons_option o xs ++ ys ≡ cons_option o zs
    onto None xs ys zs e = e
    onto (Some r) xs ys zs e = ap (λ l. r ∷ l) e

-- all that stand behind a place
take-all : {X : Type 0} (xs : List X) → take (length xs) xs ≡ xs
take-all [] = refl
take-all (x ∷ xs) = ap (λ l. x ∷ l) (take-all xs)

tail-all : {X : Type 0} (xs : List X) (n : ℕ) → take (length xs - n) (drop n xs) ≡ drop n xs
tail-all xs n = ap (λ m. take m (drop n xs)) (sym (length-drop n xs)) ∙ take-all (drop n xs)

-- the three of them, one behind the other
pub made-whole : (text : List ℕ) (f : Range → Option Range) (all : List Sel) (n : ℕ) (found : Option Sel) (before middle last : List Sel) (old : List Range) → n < length all → option_map (range_of text) found ≡ f (range_of text (get_or all n zero_sel))
    → ranges_of text before ≡ old ++ filter_map f (ranges_of text (take n all)) → middle ≡ before ++ option_to_list found → ranges_of text last ≡ ranges_of text middle ++ filter_map f (ranges_of text (take (length all - (n + 1)) (drop (n + 1) all)))
    → ranges_of text last ≡ old ++ filter_map f (ranges_of text all)
made-whole text f all n found before middle last old h g i j k =
    let own : ranges_of text (option_to_list found) ≡ option_to_list (f (range_of text (get_or all n zero_sel))) = found-ranges text found (f (range_of text (get_or all n zero_sel))) g in
    let tail : List Range = filter_map f (ranges_of text (drop (n + 1) all)) in
    k ∙ ap (λ (l : List Sel). ranges_of text middle ++ filter_map f (ranges_of text l)) (tail-all all (n + 1)) ∙ ap (λ (l : List Sel). ranges_of text l ++ tail) j
    ∙ ap (λ (l : List Range). l ++ tail) (map-append (range_of text) before (option_to_list found) ∙ ap₂ (λ (l m : List Range). l ++ m) i own)
    ∙ append_assoc (old ++ filter_map f (ranges_of text (take n all))) (option_to_list (f (range_of text (get_or all n zero_sel)))) tail
    ∙ append_assoc old (filter_map f (ranges_of text (take n all))) (option_to_list (f (range_of text (get_or all n zero_sel))) ++ tail)
    ∙ ap (λ l. old ++ l) (ap (λ m. filter_map f (ranges_of text (take n all)) ++ (option_to_list (f (range_of text (get_or all n zero_sel))) ++ filter_map f (ranges_of text (drop m all)))) (add-one n) ∙ made-parts text f all n zero_sel h)

-- so many are made with one more selection, by what was found
pub was-found : (text : List ℕ) (found : Option Sel) (o : Option Range) → option_map (range_of text) found ≡ o → is_some found ≡ is_some o
was-found text None o e = ap is_some e
was-found text (Some s) o e = ap is_some e

pub made-counted : (text : List ℕ) (f : Range → Option Range) (all : List Sel) (n : ℕ) (found : Option Sel) (b : Bool) → n < length all → option_map (range_of text) found ≡ f (range_of text (get_or all n zero_sel)) → b ≡ is_some found → b ≡ true
    → length (filter_map f (ranges_of text (take (n + 1) all))) ≡ length (filter_map f (ranges_of text (take n all))) + 1
made-counted text f all n found b h e i k = count-more text f all n zero_sel (get_or all n zero_sel) b h refl (i ∙ was-found text found (f (range_of text (get_or all n zero_sel))) e) k

pub made-uncounted : (text : List ℕ) (f : Range → Option Range) (all : List Sel) (n : ℕ) (found : Option Sel) (b : Bool) → n < length all → option_map (range_of text) found ≡ f (range_of text (get_or all n zero_sel)) → b ≡ is_some found → b ≡ false
    → length (filter_map f (ranges_of text (take (n + 1) all))) ≡ length (filter_map f (ranges_of text (take n all)))
made-uncounted text f all n found b h e i k = count-same text f all n zero_sel (get_or all n zero_sel) b h refl (i ∙ was-found text found (f (range_of text (get_or all n zero_sel))) e) k

-- and room behind it
pub made-room-behind : (text : List ℕ) (f : Range → Option Range) (all : List Sel) (n : ℕ) (found : Option Sel) (old before middle : List Sel) (room : ℕ) → n < length all → option_map (range_of text) found ≡ f (range_of text (get_or all n zero_sel))
    → ranges_of text before ≡ ranges_of text old ++ filter_map f (ranges_of text (take n all)) → middle ≡ before ++ option_to_list found → length old + length (filter_map f (ranges_of text all)) ≤ room → length middle + length (filter_map f (ranges_of text (take (length all - (n + 1)) (drop (n + 1) all)))) ≤ room
made-room-behind text f all n found old before middle room h g i j l =
    let x : Sel = get_or all n zero_sel in
    omega (
      arith,
      l,
      ap length j,
      length-append before (option_to_list found),
      ap length i,
      length-map before (range_of text),
      length-map old (range_of text),
      length-append (ranges_of text old) (filter_map f (ranges_of text (take n all))),
      ap length (found-ranges text found (f (range_of text x)) g),
      length-map (option_to_list found) (range_of text),
      ap length (made-parts text f all n zero_sel h),
      length-append (filter_map f (ranges_of text (take n all))) (option_to_list (f (range_of text x)) ++ filter_map f (ranges_of text (drop (suc n) all))),
      length-append (option_to_list (f (range_of text x))) (filter_map f (ranges_of text (drop (suc n) all))),
      ap (λ m. length (filter_map f (ranges_of text (drop m all)))) (add-one n),
      ap (λ l. length (filter_map f (ranges_of text l))) (tail-all all (n + 1)),
    )
