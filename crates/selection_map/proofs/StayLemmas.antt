-- Selections in front of all shifts, or on later lines than they, stay where they are.
use Rattle.std.proofs.Common.{◌≡◌, ℕ, zero, suc, ◌<◌, ◌≤◌, ◌+◌, ◌*◌, ◌-◌, Bool, true, false, cond, inl, inr, List, [], ◌∷◌, ◌++◌, length, take, drop, get_or, map, refl, sym, ap, ap₂, subst, ◌∙◌, arith, eq-eqb, ◌&&◌, length-drop, take-append-drop}
use Rattle.std.proofs.lemmas.List.{drop_all, drop_more, drop-drop, take_more, take_rest, get_or-drop}
use Rattle.text_model.specs.declared.coords.Coord.{Coord}
use Rattle.text_model.specs.declared.coords.Shift.{Shift}
use Rattle.text_model.specs.Coords.{is_at_most}
use Rattle.text_model.specs.Texts.{IsStored, IsPlace, offset, coord_at}
use Rattle.text_model.proofs.PlaceLemmas.{offset-below, coord_at-offset, leb_true}
use Rattle.selection_set.specs.declared.sel.Sel.{Sel}
use Rattle.selection_set.specs.Inside.{IsInside}
use Rattle.selection_set.specs.Listing.{ranges_of, AreInside}
use Rattle.selection_map.specs.declared.reach.ShiftReach.{ShiftReach}
use Rattle.selection_map.specs.declared.walking.ShiftWay.{ShiftWay}
use Rattle.selection_map.specs.declared.walking.ShiftWay.TheVariants.{Rising, Falling}
use Rattle.selection_map.specs.declared.walking.Walk.{Walk}
use Rattle.selection_map.specs.Rebasing.{rebased}
use Rattle.selection_map.specs.Reaching.{goes, at_rest, all_mapped, through}
use Rattle.selection_map.specs.Walking.{queue, is_due}
use Rattle.selection_map.specs.Premises.{EndsRise, IsWalkReady, CanWalk, CanWalkOver}
use Rattle.selection_map.specs.Staying.{FirstStay, OthersStay, StayBetween, coord_stays, sel_stays, count_moved}
use Rattle.selection_map.proofs.CarryLemmas.{order-coords, rebased-below}
use Rattle.selection_map.proofs.OrderLemmas.{at_most-later, at_most-lines, not_at_most-before}
use Rattle.selection_map.proofs.TieLemmas.{rest-goes, ways}
use Rattle.selection_map.proofs.FrontLemmas.{take-parts}
use Rattle.selection_map.proofs.RunLemmas.{ready-first}
use Rattle.selection_map.proofs.CatchLemmas.{ends-weaker}
use Rattle.selection_map.proofs.WalkLemmas.{ready-stop, ready-none, queue-length, next-shift}

-- a coordinate stays through shifts
abbrev Stay : List Shift → Coord → Type 0
Stay shifts at = all_mapped shifts at ≡ at

place-stays : (text : List ℕ) (shifts : List Shift) (at : Coord) → IsPlace text at → Stay shifts (coord_at text (offset text at)) → Stay shifts at
place-stays text shifts at p h = subst (Stay shifts) (coord_at-offset text at p) h

both-stay : (shifts : List Shift) (x : Sel) → Stay shifts x.low → Stay shifts x.high → through shifts x ≡ x
both-stay shifts x low high =
    let put : Coord → Coord → Sel = λ a b. record { low = a; high = b; turned = x.turned; target = x.target } in
    ap₂ put low high

-- in front of all shifts

end-in-front : (way : ShiftWay) (text : List ℕ) (first : Shift) (o : ℕ) → IsStored text → o < length text → is_at_most first.begin (coord_at text o) ≡ false → is_due way (coord_at text o) first at_rest ≡ false
end-in-front Rising text first o h below e = ap (is_at_most first.begin) (rest-goes text o h.is_text below) ∙ e
end-in-front Falling text first o h below e = e

coord-in-front : (way : ShiftWay) (text : List ℕ) (shifts : List Shift) (first : Shift) (rest : List Shift) (o : ℕ) → IsStored text → IsWalkReady way text shifts 0 at_rest (first ∷ rest) → o < length text → is_at_most first.begin (coord_at text o) ≡ false
    → Stay shifts (coord_at text o)
coord-in-front way text shifts first rest o h r below e =
    sym (ready-stop way text shifts 0 at_rest first rest o h r (omega arith) below (end-in-front way text first o h below e)) ∙ rest-goes text o h.is_text below

-- the end of the n-th selection isn't in front of the ends before it
end-of : (text : List ℕ) (lower n : ℕ) (list : List Sel) (x d : Sel) → EndsRise lower (ranges_of text list) → n < length list → x ≡ get_or list n d → lower ≤ offset text x.high
end-of text lower n [] x d h below e = absurd (omega arith)
end-of text lower zero (y ∷ ys) x d h below e = subst (λ (z : Sel). lower ≤ offset text z.high) (sym e) (omega (arith, h.0, h.1))
end-of text lower (suc n) (y ∷ ys) x d h below e = omega (arith, h.0, h.1, end-of text (offset text y.high) n ys x d h.2 (omega arith) e)

inside-at : (text : List ℕ) (n : ℕ) (list : List Sel) (x d : Sel) → AreInside text list → n < length list → x ≡ get_or list n d → IsInside text x
inside-at text n [] x d h below e = absurd (omega arith)
inside-at text zero (y ∷ ys) x d h below e = subst (IsInside text) (sym e) h.0
inside-at text (suc n) (y ∷ ys) x d h below e = inside-at text n ys x d h.1 (omega arith) e

front-stays : (text : List ℕ) (shifts : List Shift) (lower n : ℕ) (list : List Sel) (x d : Sel) → ((o : ℕ) → lower ≤ o → o ≤ offset text x.high → Stay shifts (coord_at text o)) → AreInside text list → EndsRise lower (ranges_of text list) → n < length list → x ≡ get_or list n d
    → FirstStay (suc n) shifts list
front-stays text shifts lower n [] x d k i h below e = absurd (omega arith)
front-stays text shifts lower zero (y ∷ ys) x d k i h below e =
    let here : (o : ℕ) → lower ≤ o → o ≤ offset text y.high → Stay shifts (coord_at text o) = subst (λ (z : Sel). (o : ℕ) → lower ≤ o → o ≤ offset text z.high → Stay shifts (coord_at text o)) e k in
    ap (λ z. z ∷ []) (both-stay shifts y (place-stays text shifts y.low i.0.low (here (offset text y.low) h.0 h.1)) (place-stays text shifts y.high i.0.high (here (offset text y.high) (omega (arith, h.0, h.1)) (omega arith))))
front-stays text shifts lower (suc n) (y ∷ ys) x d k i h below e =
    let further : offset text y.high ≤ offset text x.high = end-of text (offset text y.high) n ys x d h.2 (omega arith) e in
    ap₂ (λ z zs. z ∷ zs)
    (both-stay shifts y (place-stays text shifts y.low i.0.low (k (offset text y.low) h.0 (omega (arith, h.1, further)))) (place-stays text shifts y.high i.0.high (k (offset text y.high) (omega (arith, h.0, h.1)) further)))
    (front-stays text shifts (offset text y.high) n ys x d (λ o le. k o (omega (arith, le, h.0, h.1))) i.1 h.2 (omega arith) e)

-- the first selections, up to one that ends in front of the shift that begins first, stay
search-on : (way : ShiftWay) (shifts : List Shift) (list : List Sel) (first : Shift) (x d : Sel) (n : ℕ) → CanWalk way shifts list → 0 < length shifts → ((e : Shift) → first ≡ get_or (queue way shifts) 0 e) → n < length list → x ≡ get_or list n d → is_at_most first.begin x.high ≡ false
    → FirstStay (n + 1) shifts list
search-on way shifts list first x d n c some f below e before =
    let more : suc n ≡ n + 1 = omega arith in
    subst (λ k. FirstStay k shifts list) more (front-stays c.old shifts 0 n list x d stay c.can.inside c.can.ends below e)
  where
    inside : IsInside c.old x
    inside = inside-at c.old n list x d c.can.inside below e

    ready : IsWalkReady way c.old shifts 0 at_rest (first ∷ drop 1 (queue way shifts))
    ready = subst (IsWalkReady way c.old shifts 0 at_rest) (next-shift way shifts 0 first some f) (ready-first way c.old c.steps shifts c.can.stored c.can.leads c.can.shifts_are c.run)

    stay : (o : ℕ) → 0 ≤ o → o ≤ offset c.old x.high → Stay shifts (coord_at c.old o)
    stay o _ le =
        let at : offset c.old x.high < length c.old = offset-below c.old x.high inside.high in
        let order : is_at_most (coord_at c.old o) x.high ≡ true =
        ap (is_at_most (coord_at c.old o)) (sym (coord_at-offset c.old x.high inside.high)) ∙ order-coords c.old o (offset c.old x.high) c.can.stored.is_text (omega arith) (omega arith) ∙ leb_true o (offset c.old x.high) le in
        coord-in-front way c.old shifts first (drop 1 (queue way shifts)) o c.can.stored ready (omega arith) (not_at_most-before first.begin (coord_at c.old o) x.high before order)

pub search-to : (way : ShiftWay) (shifts : List Shift) (list : List Sel) (first : Shift) (d : Sel) (n : ℕ) → CanWalk way shifts list → 0 < length shifts → ((e : Shift) → first ≡ get_or (queue way shifts) 0 e) → n ≤ length list → (0 < n → (e : Sel) → is_at_most first.begin (get_or list (n - 1) e).high ≡ false)
    → FirstStay n shifts list
search-to way shifts list first d zero c some f few before = refl
search-to way shifts list first d (suc n) c some f few before =
    let one : suc n - 1 ≡ n = omega arith in
    let more : n + 1 ≡ suc n = omega arith in
    subst (λ k. FirstStay k shifts list) more (search-on way shifts list first (get_or list n d) d n c some f (omega arith) refl (ap (λ k. is_at_most first.begin (get_or list k d).high) (sym one) ∙ before (omega arith) d))

-- behind the shifts that were passed

-- where as many lines came as went, what lies on a later line stays
level-goes : (w : ShiftReach) (at : Coord) → w.from.line ≡ w.onto.line → w.from.line < at.line → goes w at ≡ at
level-goes w at level later =
    let line : w.onto.line + (at.line - w.from.line) ≡ at.line = omega arith in
    let put : ℕ → Coord = λ l. record { line = l; column = at.column } in
    ap (λ v. cond v w.put (rebased at w.from w.onto)) (at_most-later at w.from later) ∙ rebased-below at w.from w.onto later ∙ ap put line

behind-stays : (text : List ℕ) (shifts : List Shift) (lower : ℕ) (list : List Sel) → ((o : ℕ) → lower ≤ o → o < length text → Stay shifts (coord_at text o)) → AreInside text list → EndsRise lower (ranges_of text list) → map (through shifts) list ≡ list
behind-stays text shifts lower [] k i h = refl
behind-stays text shifts lower (y ∷ ys) k i h =
    let low : offset text y.low < length text = offset-below text y.low i.0.low in
    let high : offset text y.high < length text = offset-below text y.high i.0.high in
    ap₂ (λ z zs. z ∷ zs)
    (both-stay shifts y (place-stays text shifts y.low i.0.low (k (offset text y.low) h.0 low)) (place-stays text shifts y.high i.0.high (k (offset text y.high) (omega (arith, h.0, h.1)) high)))
    (behind-stays text shifts (offset text y.high) ys (λ o le below. k o (omega (arith, le, h.0, h.1)) below) i.1 h.2)

-- what lies behind the first selection of those to come is on no earlier line
behind-line : (way : ShiftWay) (shifts : List Shift) (walk : Walk) (x : Sel) (xs : List Sel) (c : CanWalkOver way shifts walk (x ∷ xs)) (o : ℕ) → offset c.first x.low ≤ o → o < length c.first → x.low.line ≤ (coord_at c.first o).line
behind-line way shifts walk x xs c o le below =
    let order : is_at_most x.low (coord_at c.first o) ≡ true =
    ap (λ y. is_at_most y (coord_at c.first o)) (sym (coord_at-offset c.first x.low c.inside.0.low)) ∙ order-coords c.first (offset c.first x.low) o c.stored.is_text (omega arith) (omega arith) ∙ leb_true (offset c.first x.low) o le in
    at_most-lines x.low (coord_at c.first o) order

others-stay : (way : ShiftWay) (shifts : List Shift) (walk : Walk) (x : Sel) (xs : List Sel) → CanWalkOver way shifts walk (x ∷ xs) → length shifts ≤ walk.passed → walk.reach.from.line ≡ walk.reach.onto.line → walk.reach.from.line < x.low.line
    → map (through shifts) (x ∷ xs) ≡ x ∷ xs
others-stay way shifts walk x xs c all level later =
    behind-stays c.first shifts (offset c.first x.low) (x ∷ xs) stay c.inside (omega arith, c.ends.1, c.ends.2)
  where
    none : drop walk.passed (queue way shifts) ≡ []
    none = drop_all walk.passed (queue way shifts) (omega (arith, all, queue-length way shifts))

    ready : IsWalkReady way c.first shifts c.lower walk.reach []
    ready = subst (IsWalkReady way c.first shifts c.lower walk.reach) none c.walking.ready

    stay : (o : ℕ) → offset c.first x.low ≤ o → o < length c.first → Stay shifts (coord_at c.first o)
    stay o le below =
        sym (ready-none way c.first shifts c.lower walk.reach o c.stored ready (omega (arith, c.ends.0)) below) ∙ level-goes walk.reach (coord_at c.first o) level (omega (arith, later, behind-line way shifts walk x xs c o le below))

-- an end that doesn't move yet isn't due
end-before : (way : ShiftWay) (at : Coord) (w : ShiftReach) (s : Shift) → goes w at ≡ at → is_at_most s.begin at ≡ false → is_due way at s w ≡ false
end-before Rising at w s same e = ap (is_at_most s.begin) same ∙ e
end-before Falling at w s same e = e

gap-front : (way : ShiftWay) (shifts : List Shift) (walk : Walk) (x : Sel) (xs : List Sel) (k : ℕ) (s : Shift) (y d : Sel) → CanWalkOver way shifts walk (x ∷ xs) → walk.passed < length shifts → ((e : Shift) → s ≡ get_or (queue way shifts) walk.passed e)
    → walk.reach.from.line ≡ walk.reach.onto.line → walk.reach.from.line < x.low.line → k < length (x ∷ xs) → y ≡ get_or (x ∷ xs) k d → is_at_most s.begin y.high ≡ false
    → FirstStay (suc k) shifts (x ∷ xs)
gap-front way shifts walk x xs k s y d c left f level later below e before =
    front-stays c.first shifts (offset c.first x.low) k (x ∷ xs) y d stay c.inside (omega arith, c.ends.1, c.ends.2) below e
  where
    inside : IsInside c.first y
    inside = inside-at c.first k (x ∷ xs) y d c.inside below e

    ready : IsWalkReady way c.first shifts c.lower walk.reach (s ∷ drop (walk.passed + 1) (queue way shifts))
    ready = subst (IsWalkReady way c.first shifts c.lower walk.reach) (next-shift way shifts walk.passed s left f) c.walking.ready

    stay : (o : ℕ) → offset c.first x.low ≤ o → o ≤ offset c.first y.high → Stay shifts (coord_at c.first o)
    stay o le ge =
        let at : offset c.first y.high < length c.first = offset-below c.first y.high inside.high in
        let order : is_at_most (coord_at c.first o) y.high ≡ true =
        ap (is_at_most (coord_at c.first o)) (sym (coord_at-offset c.first y.high inside.high)) ∙ order-coords c.first o (offset c.first y.high) c.stored.is_text (omega arith) (omega arith) ∙ leb_true o (offset c.first y.high) ge in
        let same : goes walk.reach (coord_at c.first o) ≡ coord_at c.first o = level-goes walk.reach (coord_at c.first o) level (omega (arith, later, behind-line way shifts walk x xs c o le (omega arith))) in
        let not_yet : is_due way (coord_at c.first o) s walk.reach ≡ false = end-before way (coord_at c.first o) walk.reach s same (not_at_most-before s.begin (coord_at c.first o) y.high before order) in
        sym (ready-stop way c.first shifts c.lower walk.reach s (drop (walk.passed + 1) (queue way shifts)) o c.stored ready (omega (arith, c.ends.0)) (omega arith) not_yet) ∙ same

-- the selections from one on that stay

pub none-between : (n : ℕ) (shifts : List Shift) (list : List Sel) → StayBetween n n shifts list
none-between n shifts list = let none : n - n ≡ 0 = omega arith in subst (λ k. map (through shifts) (take k (drop n list)) ≡ take k (drop n list)) (sym none) refl

pub all-between : (way : ShiftWay) (shifts : List Shift) (walk : Walk) (list : List Sel) (n m : ℕ) (x : Sel) → CanWalkOver way shifts walk (drop n list) → n < length list → ((d : Sel) → x ≡ get_or list n d) → m ≡ length list → length shifts ≤ walk.passed → walk.reach.from.line ≡ walk.reach.onto.line → walk.reach.from.line < x.low.line
    → StayBetween n m shifts list
all-between way shifts walk list n m x c below e g all level later =
    let split : drop n list ≡ x ∷ drop (n + 1) list = drop_more list n x below ∙ ap (λ y. y ∷ drop (n + 1) list) (sym (e x)) in
    let whole : take (m - n) (drop n list) ≡ drop n list = ap (λ k. take (k - n) (drop n list)) g ∙ take_rest list n in
    subst (λ (l : List Sel). map (through shifts) l ≡ l) (sym (whole ∙ split)) (others-stay way shifts walk x (drop (n + 1) list) (subst (CanWalkOver way shifts walk) split c) all level later)

pub gap-between : (way : ShiftWay) (shifts : List Shift) (walk : Walk) (list : List Sel) (n m : ℕ) (s : Shift) (x d : Sel) → CanWalkOver way shifts walk (drop n list) → n < length list → ((e : Sel) → x ≡ get_or list n e) → walk.passed < length shifts → ((e : Shift) → s ≡ get_or (queue way shifts) walk.passed e)
    → walk.reach.from.line ≡ walk.reach.onto.line → walk.reach.from.line < x.low.line → n ≤ m → m ≤ length list → (n < m → (e : Sel) → is_at_most s.begin (get_or list (m - 1) e).high ≡ false)
    → StayBetween n m shifts list
gap-between way shifts walk list n m s x d c below e left f level later le few before =
    elim (ways n m) [
      | inl lt ↦ some lt
      | inr ge ↦ (let same : m ≡ n = omega arith in subst (λ k. StayBetween n k shifts list) (sym same) (none-between n shifts list))
    ]
  where
    split : drop n list ≡ x ∷ drop (n + 1) list
    split = drop_more list n x below ∙ ap (λ y. y ∷ drop (n + 1) list) (sym (e x))

    some : n < m → StayBetween n m shifts list
    some lt =
        let k : ℕ = (m - 1) - n in
        let more : suc k ≡ m - n = omega arith in
        let there : n + k ≡ m - 1 = omega arith in
        let many : length (drop n list) ≡ length list - n = length-drop n list in
        let read : get_or list (m - 1) d ≡ get_or (x ∷ drop (n + 1) list) k d = ap (λ j. get_or list j d) (sym there) ∙ sym (get_or-drop n list k d) ∙ ap (λ l. get_or l k d) split in
        let here : k < length (x ∷ drop (n + 1) list) = subst (λ (l : List Sel). k < length l) split (omega (arith, many)) in
        let front : FirstStay (suc k) shifts (x ∷ drop (n + 1) list) = gap-front way shifts walk x (drop (n + 1) list) k s (get_or list (m - 1) d) d (subst (CanWalkOver way shifts walk) split c) left f level later here read (before lt d) in
        subst (λ j. map (through shifts) (take j (drop n list)) ≡ take j (drop n list)) more (subst (λ (l : List Sel). FirstStay (suc k) shifts l) (sym split) front)

-- the selections from one on

pub inside-from : (text : List ℕ) (n : ℕ) (list : List Sel) → AreInside text list → AreInside text (drop n list)
inside-from text zero list h = h
inside-from text (suc n) [] h = h
inside-from text (suc n) (x ∷ xs) h = inside-from text n xs h.1

pub ends-from : (text : List ℕ) (lower n : ℕ) (list : List Sel) → EndsRise lower (ranges_of text list) → EndsRise lower (ranges_of text (drop n list))
ends-from text lower zero list h = h
ends-from text lower (suc n) [] h = h
ends-from text lower (suc n) (x ∷ xs) h = ends-weaker (offset text x.high) lower (ranges_of text (drop n xs)) (omega (arith, h.0, h.1)) (ends-from text (offset text x.high) n xs h.2)

pub over-later : (way : ShiftWay) (shifts : List Shift) (walk : Walk) (list : List Sel) (n m : ℕ) → n ≤ m → CanWalkOver way shifts walk (drop n list) → CanWalkOver way shifts walk (drop m list)
over-later way shifts walk list n m le c =
    let at : n + (m - n) ≡ m = omega arith in
    let rest : CanWalkOver way shifts walk (drop (m - n) (drop n list)) = record { first = c.first; lower = c.lower; stored = c.stored; walking = c.walking; inside = inside-from c.first (m - n) (drop n list) c.inside; ends = ends-from c.first c.lower (m - n) (drop n list) c.ends } in
    subst (CanWalkOver way shifts walk) (drop-drop (m - n) n list ∙ ap (λ k. drop k list) at) rest

-- how many selections move

same-stays : (shifts : List Shift) (at : Coord) → Stay shifts at → coord_stays shifts at ≡ true
same-stays shifts at e =
    ap₂ (λ a b. a && b) (eq-eqb (all_mapped shifts at).line at.line (ap (λ (p : Coord). p.line) e)) (eq-eqb (all_mapped shifts at).column at.column (ap (λ (p : Coord). p.column) e))

sel-same : (shifts : List Shift) (x : Sel) → through shifts x ≡ x → sel_stays shifts x ≡ true
sel-same shifts x e = ap₂ (λ a b. a && b) (same-stays shifts x.low (ap (λ (s : Sel). s.low) e)) (same-stays shifts x.high (ap (λ (s : Sel). s.high) e))

head_or : Sel → List Sel → Sel
head_or d [] = d
head_or d (x ∷ xs) = x

behind_head : List Sel → List Sel
behind_head [] = []
behind_head (x ∷ xs) = xs

none-moved : (shifts : List Shift) (list : List Sel) → map (through shifts) list ≡ list → count_moved shifts list ≡ 0
unfolding head_or behind_head
none-moved shifts [] e = refl
none-moved shifts (x ∷ xs) e =
    let one : cond (sel_stays shifts x) 0 1 ≤ 0 = at_most_none (sel_stays shifts x) (sel-same shifts x (ap (head_or x) e)) in
    let rest : map (through shifts) xs ≡ xs = ap behind_head e in
    omega (arith, one, none-moved shifts xs rest)
  where
    at_most_none : (b : Bool) → b ≡ true → cond b 0 1 ≤ 0
    at_most_none true e = omega arith
    at_most_none false e = absurd (let no : false ≡ true = e in cc)

count-append : (shifts : List Shift) (xs ys : List Sel) → count_moved shifts (xs ++ ys) ≡ count_moved shifts xs + count_moved shifts ys
count-append shifts [] ys = omega arith
count-append shifts (x ∷ xs) ys = omega (arith, count-append shifts xs ys)

-- of the first selections, and of one more behind some that stay
pub first-moved : (shifts : List Shift) (n : ℕ) (list : List Sel) → FirstStay n shifts list → count_moved shifts (take n list) ≡ 0
first-moved shifts n list h = none-moved shifts (take n list) h

pub all-moved : (shifts : List Shift) (n : ℕ) (list : List Sel) → OthersStay n shifts list → count_moved shifts list ≡ count_moved shifts (take n list)
all-moved shifts n list h = omega (arith, ap (count_moved shifts) (sym (take-append-drop n list)), count-append shifts (take n list) (drop n list), none-moved shifts (drop n list) h)

one-more : (b : Bool) → cond b 0 1 ≤ 1
one-more true = omega arith
one-more false = omega arith

pub next-moved : (shifts : List Shift) (n m : ℕ) (list : List Sel) (d : Sel) → n ≤ m → m < length list → StayBetween n m shifts list → count_moved shifts (take (m + 1) list) ≤ count_moved shifts (take n list) + 1
next-moved shifts n m list d le below h =
    let at : n + (m - n) ≡ m = omega arith in
    let parts : take m list ≡ take n list ++ take (m - n) (drop n list) = ap (λ k. take k list) (sym at) ∙ take-parts n (m - n) list in
    let some : count_moved shifts (take m list) ≡ count_moved shifts (take n list) + count_moved shifts (take (m - n) (drop n list)) = ap (count_moved shifts) parts ∙ count-append shifts (take n list) (take (m - n) (drop n list)) in
    let more : count_moved shifts (take (m + 1) list) ≡ count_moved shifts (take m list) + count_moved shifts (get_or list m d ∷ []) = ap (count_moved shifts) (take_more list m d below) ∙ count-append shifts (take m list) (get_or list m d ∷ []) in
    omega (arith, some, more, none-moved shifts (take (m - n) (drop n list)) h, one-more (sel_stays shifts (get_or list m d)))
