-- Lists whose selections are in order, by coordinates and by offsets.
use Rattle.std.proofs.Common.{◌≡◌, ℕ, zero, suc, ◌+◌, ◌-◌, ◌<◌, ◌≤◌, Bool, true, false, ◌&&◌, List, [], ◌∷◌, ◌++◌, length, take, drop, map, get_or, set, refl, sym, ap, ap₂, ◌∙◌, arith, inl, leb-true, length-drop, append-nil, take_all}
use Rattle.std.specs.List.{refill}
use Rattle.std.proofs.Math.Seq.{drop-cons, drop-length}
use Rattle.std.proofs.lemmas.Bool.{false≢true, le-leb}
use Rattle.text_model.specs.Coords.{is_at_most}
use Rattle.text_model.specs.Texts.{offset}
use Rattle.text_model.proofs.PlaceLemmas.{is_at_most-offset}
use Rattle.list_model.specs.Ranges.{Range}
use Rattle.list_model.proofs.ListLemmas.{all_weaker}
use Rattle.selection_set.specs.declared.sel.Sel.{Sel}
use Rattle.selection_set.specs.Listing.{ranges_of, AreInside, LowsDontFall}
use Rattle.selection_set.specs.Numbering.{begins_before, in_order}

both : (a b : Bool) → a && b ≡ true → (a ≡ true) × (b ≡ true)
both true b e = (refl, e)
both false b e = absurd (false≢true e)

and-true : (a b : Bool) → a ≡ true → a && b ≡ b
and-true true b e = refl
and-true false b e = absurd (false≢true e)

and-false : (a b : Bool) → a ≡ false → a && b ≡ false
and-false true b e = absurd (false≢true (sym e))
and-false false b e = refl

-- one test of the list, at a place
tested : (list : List Sel) (i : ℕ) (a b d : Sel) → 1 ≤ i → i < length list → a ≡ get_or list (i - 1) d → b ≡ get_or list i d → in_order (drop (i - 1) list) ≡ is_at_most a.low b.low && in_order (drop i list)
tested list i a b d some l e f =
    let before : suc (i - 1) ≡ i = omega arith in
    let first : drop (i - 1) list ≡ a ∷ drop i list = drop-cons list (i - 1) d (omega arith) ∙ ap₂ (λ x n. x ∷ drop n list) (sym e) before in
    let second : drop i list ≡ b ∷ drop (suc i) list = drop-cons list i d l ∙ ap (λ x. x ∷ drop (suc i) list) (sym f) in
    ap in_order first ∙ ap (λ t. begins_before a t && in_order (drop i list)) second

pub order-goes_on : (list : List Sel) (i : ℕ) (a b d : Sel) → 1 ≤ i → i < length list → a ≡ get_or list (i - 1) d → b ≡ get_or list i d → is_at_most a.low b.low ≡ true → in_order (drop (i - 1) list) ≡ in_order list
    → in_order (drop (i + 1 - 1) list) ≡ in_order list
order-goes_on list i a b d some l e f t h =
    let same : i + 1 - 1 ≡ i = omega arith in
    ap (λ n. in_order (drop n list)) same ∙ sym (tested list i a b d some l e f ∙ and-true (is_at_most a.low b.low) (in_order (drop i list)) t) ∙ h

pub order-breaks : (list : List Sel) (i : ℕ) (a b d : Sel) → 1 ≤ i → i < length list → a ≡ get_or list (i - 1) d → b ≡ get_or list i d → is_at_most a.low b.low ≡ false → in_order (drop (i - 1) list) ≡ in_order list
    → false ≡ in_order list
order-breaks list i a b d some l e f t h = sym (tested list i a b d some l e f ∙ and-false (is_at_most a.low b.low) (in_order (drop i list)) t) ∙ h

short : (list : List Sel) → length list ≤ 1 → in_order list ≡ true
short [] h = refl
short (s ∷ []) h = refl
short (s ∷ t ∷ ts) h = absurd (omega (arith, h))

pub order-holds : (list : List Sel) (i : ℕ) → 1 ≤ i → length list ≤ i → in_order (drop (i - 1) list) ≡ in_order list → true ≡ in_order list
order-holds list i some l h = sym (short (drop (i - 1) list) (omega (arith, length-drop (i - 1) list, l, some))) ∙ h

-- what is in order by coordinates is so by offsets
pub ordered-lows : (text : List ℕ) (list : List Sel) → AreInside text list → in_order list ≡ true → LowsDontFall (ranges_of text list)
ordered-lows text [] h e = tt
ordered-lows text (s ∷ []) h e = (tt, tt)
ordered-lows text (s ∷ t ∷ ts) h e =
    let parts : (is_at_most s.low t.low ≡ true) × (in_order (t ∷ ts) ≡ true) = both (is_at_most s.low t.low) (in_order (t ∷ ts)) e in
    let low : offset text s.low ≤ offset text t.low = leb-true (offset text s.low) (offset text t.low) (sym (is_at_most-offset text s.low t.low (inl h.0.low) (inl h.1.0.low)) ∙ parts.0) in
    let rest : LowsDontFall (ranges_of text (t ∷ ts)) = ordered-lows text (t ∷ ts) h.1 parts.1 in
    ((low, all_weaker (λ (r : Range). offset text t.low ≤ r.low) (λ (r : Range). offset text s.low ≤ r.low) (λ r k. omega (arith, k, low)) (ranges_of text ts) rest.0), rest)

-- and the other way round
pub lows-ordered : (text : List ℕ) (list : List Sel) → AreInside text list → LowsDontFall (ranges_of text list) → in_order list ≡ true
lows-ordered text [] h o = refl
lows-ordered text (s ∷ []) h o = refl
lows-ordered text (s ∷ t ∷ ts) h o =
    and-true (is_at_most s.low t.low) (in_order (t ∷ ts)) (is_at_most-offset text s.low t.low (inl h.0.low) (inl h.1.0.low) ∙ le-leb (offset text s.low) (offset text t.low) o.0.0)
    ∙ lows-ordered text (t ∷ ts) h.1 o.1

-- one more selection is put into its place
pub put-more : {X : Type 0} (f : X → Sel) (all : List X) (list now : List Sel) (i : ℕ) (n d : X) → length all ≡ length list → i < length all → n ≡ get_or all i d → now ≡ map f (take i all) ++ drop i list
    → set now i (f n) ≡ map f (take (i + 1) all) ++ drop (i + 1) list
put-more f [] list now i n d e l g h = absurd (omega (arith, l))
put-more f (x ∷ xs) [] now i n d e l g h = absurd (omega (arith, e))
put-more f (x ∷ xs) (s ∷ ss) now zero n d e l g h = ap (λ t. set t 0 (f n)) h ∙ ap (λ y. f y ∷ ss) g
put-more f (x ∷ xs) (s ∷ ss) now (suc i) n d e l g h =
    let same : suc i + 1 ≡ suc (i + 1) = omega arith in
    ap (λ t. set t (suc i) (f n)) h
    ∙ ap (λ t. f x ∷ t) (put-more f xs ss (map f (take i xs) ++ drop i ss) i n d (omega (arith, e)) (omega (arith, l)) g refl)
    ∙ ap (λ k. map f (take k (x ∷ xs)) ++ drop k (s ∷ ss)) (sym same)

pub put-all : {X : Type 0} (f : X → Sel) (all : List X) (list now : List Sel) (i : ℕ) → length all ≡ length list → length all ≤ i → now ≡ map f (take i all) ++ drop i list → now ≡ map f all
put-all f [] [] now zero e l h = h
put-all f [] [] now (suc i) e l h = h
put-all f [] (s ∷ ss) now i e l h = absurd (omega (arith, e))
put-all f (x ∷ xs) [] now i e l h = absurd (omega (arith, e))
put-all f (x ∷ xs) (s ∷ ss) now zero e l h = absurd (omega (arith, l))
put-all f (x ∷ xs) (s ∷ ss) now (suc i) e l h = h ∙ ap (λ t. f x ∷ t) (put-all f xs ss (map f (take i xs) ++ drop i ss) i (omega (arith, e)) (omega (arith, l)) refl)

-- a list into which as many were put back is those
pub refilled : {X : Type 0} (xs ws : List X) → length ws ≡ length xs → refill (length xs) xs ws ≡ ws
refilled xs ws e =
    ap (λ t. take (length xs) (ws ++ t)) (ap (λ n. drop n xs) e ∙ drop-length xs) ∙ ap (take (length xs)) (append-nil ws) ∙ take_all (length xs) ws (omega (arith, e))
