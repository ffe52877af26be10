-- Two lists on one text are alike by coordinates where they are alike by offsets.
use Rattle.std.proofs.Common.{◌≡◌, ℕ, suc, ◌+◌, ◌<◌, ◌≤◌, ◌&&◌, Bool, true, false, not, ◌==◌, List, [], ◌∷◌, length, drop, get_or, cond, refl, sym, ap, ap₂, inl, ◌∙◌, arith}
use Rattle.std.proofs.lemmas.List.{drop_more, drop_all}
use Rattle.std.proofs.lemmas.Bool.{eqb-true, eq-eqb}
use Rattle.tables.proofs.TableLemmas.{by_test}
use Rattle.text_model.specs.declared.coords.Coord.{Coord}
use Rattle.text_model.specs.Texts.{offset, IsPlace}
use Rattle.text_model.proofs.PlaceLemmas.{offset_determines}
use Rattle.list_model.specs.Ranges.{Range, Selected}
use Rattle.selection_set.specs.declared.sel.Sel.{Sel}
use Rattle.selection_set.specs.Inside.{range_of, IsInside}
use Rattle.selection_set.specs.Listing.{Listed, ranges_of, AreInside}
use Rattle.selection_set.specs.Held.{selected, IsHeld}
use Rattle.list_archive.specs.Kept.{is_alike, are_alike, alike}
use Rattle.list_archive.specs.Archives.{is_same_place, is_alike_sel, are_alike_sels, alike_listed}

coord_of : ℕ → ℕ → Coord
coord_of line column = record { line = line; column = column }

eqb-refl : (n : ℕ) → (n == n) ≡ true
eqb-refl n = eq-eqb n n refl

-- a list is like itself

alike-range : (r : Range) → is_alike r r ≡ true
alike-range r =
    ap (λ b. b && (r.high == r.high && cond r.turned r.turned (not r.turned))) (eqb-refl r.low)
    ∙ ap (λ b. b && cond r.turned r.turned (not r.turned)) (eqb-refl r.high)
    ∙ by_test (λ t. cond t t (not t) ≡ true) r.turned (λ _. refl) (λ _. refl)

alike-ranges : (rs : List Range) → are_alike rs rs ≡ true
alike-ranges [] = refl
alike-ranges (r ∷ rs) = ap₂ (λ a b. a && b) (alike-range r) (alike-ranges rs)

pub alike-self : (s : Selected) → alike s s ≡ true
alike-self s = ap₂ (λ a b. a && b) (alike-ranges s.list) (eqb-refl s.main)

-- places

both-true : (a b : Bool) → (a && b) ≡ true → (a ≡ true) × (b ≡ true)
both-true true b h = (refl, h)
both-true false b h = absurd (let no : false ≡ true = h in cc)

same-is : (a b : Coord) → is_same_place a b ≡ true → a ≡ b
unfolding coord_of
same-is a b h =
    let both : ((a.line == b.line) ≡ true) × ((a.column == b.column) ≡ true) = both-true (a.line == b.line) (a.column == b.column) h in
    ap₂ coord_of (eqb-true a.line b.line both.0) (eqb-true a.column b.column both.1)

same-self : (a : Coord) → is_same_place a a ≡ true
same-self a = ap₂ (λ x y. x && y) (eqb-refl a.line) (eqb-refl a.column)

same-place : (text : List ℕ) (a b : Coord) → IsPlace text a → IsPlace text b → (offset text a == offset text b) ≡ is_same_place a b
same-place text a b p q =
    by_test (λ t. t ≡ (offset text a == offset text b) → t ≡ is_same_place a b) (offset text a == offset text b)
    (λ _ e. let is : a ≡ b = offset_determines text a b (inl p) (inl q) (eqb-true (offset text a) (offset text b) (sym e)) in sym (ap (is_same_place a) (sym is) ∙ same-self a))
    (λ _ e.
    by_test (λ t. t ≡ is_same_place a b → false ≡ t) (is_same_place a b)
    (λ _ s. e ∙ ap (λ o. offset text a == offset text o) (sym (same-is a b (sym s))) ∙ eqb-refl (offset text a))
    (λ _ _. refl)
    refl)
    refl

-- selections

alike-sel : (text : List ℕ) (x y : Sel) → IsInside text x → IsInside text y → is_alike (range_of text x) (range_of text y) ≡ is_alike_sel x y
alike-sel text x y i j =
    ap₂ (λ a b. a && (b && cond x.turned y.turned (not y.turned))) (same-place text x.low y.low i.low j.low) (same-place text x.high y.high i.high j.high)

alike-sels : (text : List ℕ) (xs ys : List Sel) → AreInside text xs → AreInside text ys → are_alike (ranges_of text xs) (ranges_of text ys) ≡ are_alike_sels xs ys
alike-sels text [] [] i j = refl
alike-sels text [] (y ∷ ys) i j = refl
alike-sels text (x ∷ xs) [] i j = refl
alike-sels text (x ∷ xs) (y ∷ ys) i j = ap₂ (λ a b. a && b) (alike-sel text x y i.0 j.0) (alike-sels text xs ys i.1 j.1)

pub alike-seen : (text : List ℕ) (s t : Listed) → IsHeld text s → IsHeld text t → alike (selected text s) (selected text t) ≡ alike_listed s t
alike-seen text s t h k = ap (λ b. b && (s.main == t.main)) (alike-sels text s.list t.list h.inside k.inside)

-- one by one

pub alike-lengths : (xs ys : List Sel) → are_alike_sels xs ys ≡ true → length xs ≡ length ys
alike-lengths [] [] h = refl
alike-lengths [] (y ∷ ys) h = absurd (let no : false ≡ true = h in cc)
alike-lengths (x ∷ xs) [] h = absurd (let no : false ≡ true = h in cc)
alike-lengths (x ∷ xs) (y ∷ ys) h = ap suc (alike-lengths xs ys (both-true (is_alike_sel x y) (are_alike_sels xs ys) h).1)

pub alike-apart : (xs ys : List Sel) → (length xs ≡ length ys → ⊥) → are_alike_sels xs ys ≡ false
alike-apart xs ys apart = by_test (λ b. b ≡ are_alike_sels xs ys → b ≡ false) (are_alike_sels xs ys) (λ _ e. absurd (apart (alike-lengths xs ys (sym e)))) (λ _ _. refl) refl

-- the next two
pub alike-next : (xs ys : List Sel) (n : ℕ) (x y : Sel) → n < length xs → n < length ys → x ≡ get_or xs n x → y ≡ get_or ys n y → are_alike_sels (drop n xs) (drop n ys) ≡ (is_alike_sel x y && are_alike_sels (drop (n + 1) xs) (drop (n + 1) ys))
alike-next xs ys n x y h k e f =
    ap₂ are_alike_sels (drop_more xs n x h) (drop_more ys n y k)
    ∙ ap₂ (λ a b. is_alike_sel a b && are_alike_sels (drop (n + 1) xs) (drop (n + 1) ys)) (sym e) (sym f)

pub alike-end : (xs ys : List Sel) (n : ℕ) → length xs ≡ length ys → length xs ≤ n → are_alike_sels (drop n xs) (drop n ys) ≡ true
alike-end xs ys n e h = ap₂ are_alike_sels (drop_all n xs h) (drop_all n ys (omega (arith, e, h)))
