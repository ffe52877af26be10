-- Selections by flags.
use Rattle.std.proofs.Common.{◌≡◌, ℕ, zero, suc, ◌+◌, ◌-◌, ◌<◌, ◌≤◌, Bool, true, false, cond, List, [], ◌∷◌, ◌++◌, length, take, get_or, map, filter, refl, sym, ap, ◌∙◌, arith, add-one}
use Rattle.std.specs.Prelude.{if◌then◌else◌}
use Rattle.std.proofs.lemmas.Bool.{false≢true}
use Rattle.std.proofs.lemmas.List.{take-map, get_or-map, length-map}
use Rattle.list_model.specs.Ranges.{Range, Selected, only}
use Rattle.selection_set.specs.declared.sel.Sel.{Sel}
use Rattle.selection_set.specs.Inside.{range_of}
use Rattle.selection_set.specs.Listing.{AreInside, ranges_of}
use Rattle.selection_set.specs.Held.{main_of}
use Rattle.regex_select.specs.Flags.{flagged, count_set, place_set}
use Rattle.regex_select.specs.Rows.{main_kept}

-- one flag more
set-one : {X : Type 0} (bs : List Bool) (xs : List X) (n : ℕ) (x : X) → n < length bs → n < length xs → get_or bs n false ≡ true → x ≡ get_or xs n x → flagged (take (suc n) bs) (take (suc n) xs) ≡ flagged (take n bs) (take n xs) ++ x ∷ []
set-one [] xs n x h k e f = absurd (omega arith)
set-one (b ∷ bs) [] n x h k e f = absurd (omega arith)
set-one (true ∷ bs) (y ∷ ys) zero x h k e f = ap (λ z. z ∷ []) (sym f)
set-one (false ∷ bs) (y ∷ ys) zero x h k e f = absurd (false≢true e)
set-one (true ∷ bs) (y ∷ ys) (suc n) x h k e f = ap (λ l. y ∷ l) (set-one bs ys n x (omega arith) (omega arith) e f)
set-one (false ∷ bs) (y ∷ ys) (suc n) x h k e f = set-one bs ys n x (omega arith) (omega arith) e f

pub flagged-set : {X : Type 0} (bs : List Bool) (xs : List X) (n : ℕ) (x : X) → n < length bs → n < length xs → get_or bs n false ≡ true → x ≡ get_or xs n x → flagged (take (n + 1) bs) (take (n + 1) xs) ≡ flagged (take n bs) (take n xs) ++ x ∷ []
flagged-set bs xs n x h k e f = ap (λ m. flagged (take m bs) (take m xs)) (add-one n) ∙ set-one bs xs n x h k e f

unset-one : {X : Type 0} (bs : List Bool) (xs : List X) (n : ℕ) → n < length bs → n < length xs → get_or bs n false ≡ false → flagged (take (suc n) bs) (take (suc n) xs) ≡ flagged (take n bs) (take n xs)
unset-one [] xs n h k e = absurd (omega arith)
unset-one (b ∷ bs) [] n h k e = absurd (omega arith)
unset-one (true ∷ bs) (y ∷ ys) zero h k e = absurd (false≢true (sym e))
unset-one (false ∷ bs) (y ∷ ys) zero h k e = refl
unset-one (true ∷ bs) (y ∷ ys) (suc n) h k e = ap (λ l. y ∷ l) (unset-one bs ys n (omega arith) (omega arith) e)
unset-one (false ∷ bs) (y ∷ ys) (suc n) h k e = unset-one bs ys n (omega arith) (omega arith) e

pub flagged-unset : {X : Type 0} (bs : List Bool) (xs : List X) (n : ℕ) → n < length bs → n < length xs → get_or bs n false ≡ false → flagged (take (n + 1) bs) (take (n + 1) xs) ≡ flagged (take n bs) (take n xs)
flagged-unset bs xs n h k e = ap (λ m. flagged (take m bs) (take m xs)) (add-one n) ∙ unset-one bs xs n h k e

-- no more than there are
pub flagged-few : {X : Type 0} (bs : List Bool) (xs : List X) → length (flagged bs xs) ≤ length xs
flagged-few [] xs = omega arith
flagged-few (b ∷ bs) [] = omega arith
flagged-few (true ∷ bs) (x ∷ xs) = omega (arith, flagged-few bs xs)
flagged-few (false ∷ bs) (x ∷ xs) = omega (arith, flagged-few bs xs)

-- the flagged ones are inside a text where all are
pub flagged-inside : (text : List ℕ) (bs : List Bool) (list : List Sel) → AreInside text list → AreInside text (flagged bs list)
flagged-inside text [] list h = tt
flagged-inside text (b ∷ bs) [] h = tt
flagged-inside text (true ∷ bs) (s ∷ ss) h = (h.0, flagged-inside text bs ss h.1)
flagged-inside text (false ∷ bs) (s ∷ ss) h = flagged-inside text bs ss h.1

-- where the flags are those of a test, they are the ones that pass it
pub flagged-ranges : (text : List ℕ) (test : Range → Bool) (list : List Sel) → ranges_of text (flagged (map test (ranges_of text list)) list) ≡ filter test (ranges_of text list)
flagged-ranges text test [] = refl
flagged-ranges text test (s ∷ ss) = by-flag (test (range_of text s)) (flagged-ranges text test ss)
  where
    by-flag : (b : Bool) → ranges_of text (flagged (map test (ranges_of text ss)) ss) ≡ filter test (ranges_of text ss)
        → ranges_of text (if b then s ∷ flagged (map test (ranges_of text ss)) ss else flagged (map test (ranges_of text ss)) ss) ≡ cond b (range_of text s ∷ filter test (ranges_of text ss)) (filter test (ranges_of text ss))
    by-flag true e = ap (λ l. range_of text s ∷ l) e
    by-flag false e = e

-- so many flags are set as there are such elements
pub count-flagged : {X : Type 0} (bs : List Bool) (xs : List X) → length bs ≡ length xs → length (flagged bs xs) ≡ count_set bs
count-flagged [] xs e = refl
count-flagged (b ∷ bs) [] e = absurd (omega (arith, e))
count-flagged (true ∷ bs) (x ∷ xs) e = ap suc (count-flagged bs xs (omega (arith, e)))
count-flagged (false ∷ bs) (x ∷ xs) e = count-flagged bs xs (omega (arith, e))

count-tested : (test : Range → Bool) (rs : List Range) → count_set (map test rs) ≡ length (filter test rs)
count-tested test [] = refl
count-tested test (r ∷ rs) = by-flag (test r) (count-tested test rs)
  where
    by-flag : (b : Bool) → count_set (map test rs) ≡ length (filter test rs) → length (cond b (b ∷ filter (λ c. c) (map test rs)) (filter (λ c. c) (map test rs))) ≡ length (cond b (r ∷ filter test rs) (filter test rs))
    by-flag true e = ap suc e
    by-flag false e = e

-- where one is set, those set before it are fewer than all
pub set-below : (bs : List Bool) (n : ℕ) → n < length bs → get_or bs n false ≡ true → count_set (take n bs) < count_set bs
set-below [] n h e = absurd (omega arith)
set-below (true ∷ bs) zero h e = omega arith
set-below (false ∷ bs) zero h e = absurd (false≢true e)
set-below (true ∷ bs) (suc n) h e = omega (arith, set-below bs n (omega arith) e)
set-below (false ∷ bs) (suc n) h e = set-below bs n (omega arith) e

pub place-here : (bs : List Bool) (n : ℕ) → get_or bs n false ≡ true → place_set bs n ≡ count_set (take n bs)
place-here bs n e = ap (λ b. if b then count_set (take n bs) else count_set bs - 1) e

pub place-last : (bs : List Bool) (n : ℕ) → get_or bs n false ≡ false → place_set bs n ≡ count_set bs - 1
place-last bs n e = ap (λ b. if b then count_set (take n bs) else count_set bs - 1) e

-- the place by flags is that by the test
pub place-kept : (test : Range → Bool) (s : Selected) → s.main < length s.list → place_set (map test s.list) s.main ≡ main_kept test s
place-kept test s h =
    ap (λ b. if b then count_set (take s.main (map test s.list)) else count_set (map test s.list) - 1) (get_or-map test s.list s.main (only 0) false h)
    ∙ ap (λ n. if test (main_of s) then n else count_set (map test s.list) - 1) (ap count_set (take-map test s.main s.list) ∙ count-tested test (take s.main s.list))
    ∙ ap (λ n. if test (main_of s) then length (filter test (take s.main s.list)) else n - 1) (count-tested test s.list)

-- the selections whose flags are those of a test
pub kept-ranges : (text : List ℕ) (test : Range → Bool) (list kept : List Sel) (flags : List Bool) → flags ≡ map test (ranges_of text list) → kept ≡ flagged flags list → ranges_of text kept ≡ filter test (ranges_of text list)
kept-ranges text test list kept flags e k = ap (ranges_of text) (k ∙ ap (λ f. flagged f list) e) ∙ flagged-ranges text test list

pub kept-count : (text : List ℕ) (test : Range → Bool) (list kept : List Sel) (flags : List Bool) → flags ≡ map test (ranges_of text list) → kept ≡ flagged flags list → length kept ≡ count_set flags
kept-count text test list kept flags e k = ap length k ∙ count-flagged flags list (ap length e ∙ length-map (ranges_of text list) test ∙ length-map list (range_of text))
