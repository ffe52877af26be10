-- Lists of which a part alone has moved, and what settles them.
use Rattle.std.proofs.Common.{◌≡◌, ℕ, zero, suc, ◌<◌, ◌≤◌, ◌+◌, ◌-◌, min, max, true, false, inl, List, [], ◌∷◌, length, take, drop, get_or, map, refl, sym, ap, ap₂, subst, ◌∙◌, arith}
use Rattle.std.proofs.lemmas.List.{take-map, take-take, drop-map, drop-drop}
use Rattle.text_model.specs.Coords.{is_at_most}
use Rattle.text_model.specs.Texts.{offset}
use Rattle.text_model.proofs.PlaceLemmas.{leb_false, is_at_most-offset}
use Rattle.list_model.specs.Settled.{AreApart}
use Rattle.list_model.proofs.SweepLemmas.{sweep-apart, place-apart}
use Rattle.selection_set.specs.declared.sel.Sel.{Sel}
use Rattle.selection_set.specs.Listing.{Listed, ranges_of, AreInside, LowsDontFall, IsSettledIn}
use Rattle.selection_set.specs.Sweeping.{by_coords, swept_sels, swept_sels_place, swept_listed}
use Rattle.selection_set.proofs.SettleLemmas.{swept-settles}
use Rattle.list_model.specs.Settling.{sweep, sweep_place}
use Rattle.selection_map.specs.Staying.{EndBeforeNext}

-- the part that hasn't moved yet

take-fewer : {X : Type 0} (m n : ℕ) (xs ys : List X) → m ≤ n → take n xs ≡ take n ys → take m xs ≡ take m ys
take-fewer m n xs ys le e = sym (take-take m n xs le) ∙ ap (take m) e ∙ take-take m n ys le

drop-later : {X : Type 0} (m n : ℕ) (xs ys : List X) → m ≤ n → drop m xs ≡ drop m ys → drop n xs ≡ drop n ys
drop-later m n xs ys le e =
    let at : m + (n - m) ≡ n = omega arith in
    ap (λ k. drop k xs) (sym at) ∙ sym (drop-drop (n - m) m xs) ∙ ap (drop (n - m)) e ∙ drop-drop (n - m) m ys ∙ ap (λ k. drop k ys) at

pub front-kept : {X : Type 0} (f : X → X) (low from : ℕ) (now before : List X) → take low now ≡ take low before → map f (take from now) ≡ take from now → take (min low from) (map f now) ≡ take (min low from) before
front-kept f low from now before e k =
    let moved : take from (map f now) ≡ take from now = take-map f from now ∙ k in
    take-fewer (min low from) from (map f now) now (omega arith) moved ∙ take-fewer (min low from) low now before (omega arith) e

pub rest-kept : {X : Type 0} (f : X → X) (high to : ℕ) (now before : List X) → drop high now ≡ drop high before → map f (drop to now) ≡ drop to now → drop (max high to) (map f now) ≡ drop (max high to) before
rest-kept f high to now before e k =
    let moved : drop to (map f now) ≡ drop to now = drop-map f to now ∙ k in
    drop-later to (max high to) (map f now) now (omega arith) moved ∙ drop-later high (max high to) now before (omega arith) e

-- each selection ends before the next one begins

pub held-apart : (text : List ℕ) (list : List Sel) → AreInside text list → AreApart (ranges_of text list) → EndBeforeNext list
held-apart text [] i a = tt
held-apart text (x ∷ []) i a = tt
held-apart text (x ∷ (y ∷ ys)) i a =
    (is_at_most-offset text y.low x.high (inl i.1.0.low) (inl i.0.high) ∙ leb_false (offset text y.low) (offset text x.high) a.0.0, held-apart text (y ∷ ys) i.1 a.1)

pub apart-take : (n : ℕ) (list : List Sel) → EndBeforeNext list → EndBeforeNext (take n list)
apart-take zero list h = tt
apart-take (suc n) [] h = tt
apart-take (suc n) (x ∷ []) h = one n
  where
    one : (m : ℕ) → EndBeforeNext (x ∷ take m [])
    one zero = tt
    one (suc m) = tt
apart-take (suc zero) (x ∷ (y ∷ ys)) h = tt
apart-take (suc (suc n)) (x ∷ (y ∷ ys)) h = (h.0, apart-take (suc n) (y ∷ ys) h.1)

pub apart-drop : (n : ℕ) (list : List Sel) → EndBeforeNext list → EndBeforeNext (drop n list)
apart-drop zero list h = h
apart-drop (suc n) [] h = tt
apart-drop (suc n) (x ∷ []) h = apart-drop n [] tt
apart-drop (suc n) (x ∷ (y ∷ ys)) h = apart-drop n (y ∷ ys) h.1

-- one that reaches over the begin of the other
pub apart-join : (n m : ℕ) (list : List Sel) → m < n → EndBeforeNext (take n list) → EndBeforeNext (drop m list) → EndBeforeNext list
apart-join n zero list le a b = b
apart-join n (suc m) [] le a b = tt
apart-join n (suc m) (x ∷ []) le a b = tt
apart-join zero (suc m) (x ∷ (y ∷ ys)) le a b = absurd (omega arith)
apart-join (suc zero) (suc m) (x ∷ (y ∷ ys)) le a b = absurd (omega arith)
apart-join (suc (suc n)) (suc m) (x ∷ (y ∷ ys)) le a b = (a.0, apart-join (suc n) m (y ∷ ys) (omega arith) a.1 b)

-- one selection more
pub apart-more : (n : ℕ) (list : List Sel) (d : Sel) → 1 ≤ n → n < length list → EndBeforeNext (take n list) → is_at_most (get_or list n d).low (get_or list (n - 1) d).high ≡ false → EndBeforeNext (take (n + 1) list)
apart-more zero list d some below h e = absurd (omega arith)
apart-more (suc n) [] d some below h e = absurd (omega arith)
apart-more (suc n) (x ∷ []) d some below h e = absurd (omega arith)
apart-more (suc zero) (x ∷ (y ∷ ys)) d some below h e = (e, tt)
apart-more (suc (suc n)) (x ∷ (y ∷ ys)) d some below h e =
    let at : suc (suc n) + 1 ≡ suc (suc (n + 1)) = omega arith in
    let at' : suc n + 1 ≡ suc (n + 1) = omega arith in
    let next : EndBeforeNext (take (suc n + 1) (y ∷ ys)) = apart-more (suc n) (y ∷ ys) d (omega arith) (omega arith) h.1 (before e) in
    subst (λ k. EndBeforeNext (take k (x ∷ (y ∷ ys)))) (sym at) (h.0, subst (λ k. EndBeforeNext (take k (y ∷ ys))) at' next)
  where
    before : is_at_most (get_or (x ∷ (y ∷ ys)) (suc (suc n)) d).low (get_or (x ∷ (y ∷ ys)) (suc (suc n) - 1) d).high ≡ false → is_at_most (get_or (y ∷ ys) (suc n) d).low (get_or (y ∷ ys) (suc n - 1) d).high ≡ false
    before e =
        let one : suc (suc n) - 1 ≡ suc n = omega arith in
        let two : suc n - 1 ≡ n = omega arith in
        ap (λ k. is_at_most (get_or (y ∷ ys) (suc n) d).low (get_or (y ∷ ys) k d).high) two
        ∙ sym (ap (λ k. is_at_most (get_or (y ∷ ys) (suc n) d).low (get_or (x ∷ (y ∷ ys)) k d).high) one)
        ∙ e

-- the first one at least
pub apart-from : (low : ℕ) (list : List Sel) → EndBeforeNext (take low list) → EndBeforeNext (take (max low 1) list)
apart-from zero [] h = tt
apart-from zero (x ∷ xs) h = tt
apart-from (suc n) list h = let at : suc n ≡ max (suc n) 1 = omega arith in subst (λ k. EndBeforeNext (take k list)) at h

-- such a list is settled

swept-same : (x : Sel) (xs : List Sel) → EndBeforeNext (x ∷ xs) → sweep by_coords x xs ≡ x ∷ xs
swept-same x [] h = refl
swept-same x (y ∷ ys) h = sweep-apart by_coords x y ys h.0 ∙ ap (λ t. x ∷ t) (swept-same y ys h.1)

place-same : (x : Sel) (xs : List Sel) (n : ℕ) → EndBeforeNext (x ∷ xs) → n < length (x ∷ xs) → sweep_place by_coords x xs n ≡ n
place-same x xs zero h below = refl
place-same x [] (suc n) h below = absurd (omega arith)
place-same x (y ∷ ys) (suc n) h below = place-apart by_coords x y ys n h.0 ∙ ap (λ m. suc m) (place-same y ys n h.1 (omega arith))

apart-swept : (list : List Sel) (main : ℕ) → main < length list → EndBeforeNext list → swept_listed (record { list = list; main = main }) ≡ record { list = list; main = main }
apart-swept [] main below h = absurd (omega arith)
apart-swept (x ∷ xs) main below h =
    let P : List Sel → ℕ → Listed = λ l n. record { list = l; main = n } in
    ap₂ P (swept-same x xs h) (place-same x xs main h below)

pub apart-settled : (text : List ℕ) (s : Listed) → s.main < length s.list → EndBeforeNext s.list → AreInside text s.list → LowsDontFall (ranges_of text s.list) → IsSettledIn text (ranges_of text s.list) s.main s
apart-settled text s below h inside order = subst (IsSettledIn text (ranges_of text s.list) s.main) (apart-swept s.list s.main below h) (swept-settles text s below inside order)
