-- The lines that selections reach are those that the walk finds, and they rise.
use Rattle.std.proofs.Common.{◌≡◌, ℕ, zero, suc, ◌+◌, ◌-◌, ◌<◌, ◌≤◌, min, max, Bool, true, false, cond, ◌&&◌, ◌||◌, leb, List, [], ◌∷◌, ◌++◌, length, map, get_or, refl, sym, ap, ap₂, subst, ◌∙◌, arith, inl, le-leb, leb-true, leb-false, append_assoc}
use Rattle.std.proofs.lemmas.Bool.{lt-leb}
use Rattle.std.specs.List.{AllByRecursion, filter, list_any, range_with_len}
use Rattle.std.proofs.lemmas.List.Elements.{filter-append}
use Rattle.text_model.specs.declared.coords.Coord.{Coord}
use Rattle.text_model.proofs.PlaceLemmas.{coord_at-offset}
use Rattle.line_buffer.proofs.FlatLemmas.{ordered_lines}
use Rattle.list_model.specs.Settled.{AreApart}
use Rattle.list_model.specs.Ranges.{Range}
use Rattle.selection_set.specs.declared.sel.Sel.{Sel}
use Rattle.selection_set.specs.Inside.{range_of, IsInside}
use Rattle.selection_set.specs.Listing.{Listed, AreInside, ranges_of}
use Rattle.selection_set.specs.Held.{IsHeld}
use Rattle.edit_ops.specs.declared.spans.LineSpan.{LineSpan}
use Rattle.edit_ops.specs.declared.spans.LineReach.{LineReach}
use Rattle.edit_ops.specs.declared.spans.LineReach.TheVariants.{Touched, Joined}
use Rattle.edit_ops.specs.Spans.{line_span_of, is_in, numbers_in, reachable, lines_reached}
use Rattle.edit_ops.specs.SpanWalk.{span_at, end_below, numbers_between, walked}

-- ---- numbers in a row, and what a test keeps of them

row-split : (a m n : ℕ) → range_with_len a (m + n) ≡ range_with_len a m ++ range_with_len (a + m) n
row-split a zero n =
    let size : zero + n ≡ n = omega arith in
    let begin : a ≡ a + zero = omega arith in
    ap₂ range_with_len begin size
row-split a (suc m) n =
    let size : suc m + n ≡ suc (m + n) = omega arith in
    let begin : a + 1 + m ≡ a + suc m = omega arith in
    ap (range_with_len a) size ∙ ap (λ t. a ∷ t) (row-split (a + 1) m n ∙ ap (λ k. range_with_len (a + 1) m ++ range_with_len k n) begin)

keeps-same : (p q : ℕ → Bool) (a n : ℕ) → ((k : ℕ) → a ≤ k → k < a + n → p k ≡ q k) → filter p (range_with_len a n) ≡ filter q (range_with_len a n)
keeps-same p q a zero h = refl
keeps-same p q a (suc n) h = ap₂ (λ b (t : List ℕ). cond b (a ∷ t) t) (h a (omega arith) (omega arith)) (keeps-same p q (a + 1) n (λ k l u. h k (omega arith) (omega arith)))

keeps-none : (p : ℕ → Bool) (a n : ℕ) → ((k : ℕ) → a ≤ k → k < a + n → p k ≡ false) → filter p (range_with_len a n) ≡ []
keeps-none p a zero h = refl
keeps-none p a (suc n) h = ap₂ (λ b (t : List ℕ). cond b (a ∷ t) t) (h a (omega arith) (omega arith)) (keeps-none p (a + 1) n (λ k l u. h k (omega arith) (omega arith)))

keeps-all : (p : ℕ → Bool) (a n : ℕ) → ((k : ℕ) → a ≤ k → k < a + n → p k ≡ true) → filter p (range_with_len a n) ≡ range_with_len a n
keeps-all p a zero h = refl
keeps-all p a (suc n) h = ap₂ (λ b (t : List ℕ). cond b (a ∷ t) t) (h a (omega arith) (omega arith)) (keeps-all p (a + 1) n (λ k l u. h k (omega arith) (omega arith)))

keeps-split : (p : ℕ → Bool) (a m n : ℕ) → filter p (range_with_len a (m + n)) ≡ filter p (range_with_len a m) ++ filter p (range_with_len (a + m) n)
keeps-split p a m n = ap (filter p) (row-split a m n) ∙ filter-append p (range_with_len a m) (range_with_len (a + m) n)

-- what begins at a number or behind it
keeps-later : (p : ℕ → Bool) (low fails passes : ℕ) → ((k : ℕ) → low ≤ k → k < low + fails → p k ≡ false) → ((k : ℕ) → low + fails ≤ k → k < low + fails + passes → p k ≡ true)
    → filter p (range_with_len low (fails + passes)) ≡ range_with_len (low + fails) passes
keeps-later p low fails passes f t = keeps-split p low fails passes ∙ ap₂ (λ (xs ys : List ℕ). xs ++ ys) (keeps-none p low fails f) (keeps-all p (low + fails) passes t)

-- ---- one span after another

-- spans of which none begins before an earlier one
abbrev pub FirstsDontFall : List LineSpan → Type 0
FirstsDontFall [] = Unit {0}
FirstsDontFall (s ∷ ss) = AllByRecursion (λ (t : LineSpan). s.first ≤ t.first) ss × FirstsDontFall ss

in-none : (k first : ℕ) (ss : List LineSpan) → k < first → AllByRecursion (λ (t : LineSpan). first ≤ t.first) ss → list_any (is_in k) ss ≡ false
in-none k first [] h a = refl
in-none k first (s ∷ ss) h a = ap₂ (λ b c. (b && leb k s.last) || c) (lt-leb s.first k (omega (arith, a.0))) (in-none k first ss h a.1)

before-span : (k : ℕ) (s : LineSpan) (ss : List LineSpan) → k < s.first → AllByRecursion (λ (t : LineSpan). s.first ≤ t.first) ss → list_any (is_in k) (s ∷ ss) ≡ false
before-span k s ss h a = ap₂ (λ b c. (b && leb k s.last) || c) (lt-leb s.first k h) (in-none k s.first ss h a)

in-span : (k : ℕ) (s : LineSpan) (ss : List LineSpan) → s.first ≤ k → k ≤ s.last → list_any (is_in k) (s ∷ ss) ≡ true
in-span k s ss h l = ap₂ (λ b c. (b && c) || list_any (is_in k) ss) (le-leb s.first k h) (le-leb k s.last l)

behind-span : (k : ℕ) (s : LineSpan) (ss : List LineSpan) → s.last < k → list_any (is_in k) (s ∷ ss) ≡ list_any (is_in k) ss
behind-span k s ss h = ap (λ b. b || list_any (is_in k) ss) (ap (λ c. leb s.first k && c) (lt-leb k s.last h) ∙ and-false (leb s.first k))
  where
    and-false : (b : Bool) → (b && false) ≡ false
    and-false true = refl
    and-false false = refl

none-between : (a b : ℕ) → b ≤ a → [] ≡ numbers_between a b
none-between a b h = ap (range_with_len a) (let e : 0 ≡ b - a = omega arith in e)

-- the numbers from a least one to where a span ends that are in it, or in later ones
span-part : (count low : ℕ) (s : LineSpan) (ss : List LineSpan) → AllByRecursion (λ (t : LineSpan). s.first ≤ t.first) ss
    → filter (λ k. list_any (is_in k) (s ∷ ss)) (range_with_len low (max low (end_below count s) - low)) ≡ numbers_between (max low s.first) (end_below count s)
span-part count low s ss a = by_order (leb (end_below count s) (max low s.first)) refl
  where
    p : ℕ → Bool
    p k = list_any (is_in k) (s ∷ ss)

    stop : ℕ
    stop = min (s.last + 1) count

    by_order : (b : Bool) → b ≡ leb stop (max low s.first) → filter p (range_with_len low (max low stop - low)) ≡ numbers_between (max low s.first) stop
    by_order true e =
        let over : stop ≤ max low s.first = leb-true stop (max low s.first) (sym e) in
        keeps-none p low (max low stop - low) (λ k l u. before-span k s ss (omega (arith, over, l, u)) a) ∙ none-between (max low s.first) stop over
    by_order false e =
        let under : max low s.first < stop = leb-false stop (max low s.first) (sym e) in
        let begin : ℕ = max low s.first in
        let size : max low stop - low ≡ (begin - low) + (stop - begin) = omega (arith, under) in
        let back : low + (begin - low) ≡ begin = omega arith in
        ap (λ n. filter p (range_with_len low n)) size
        ∙ keeps-later p low (begin - low) (stop - begin) (λ k l u. before-span k s ss (omega (arith, l, u)) a) (λ k l u. in-span k s ss (omega (arith, l)) (omega (arith, l, u, under)))
        ∙ ap (λ k. range_with_len k (stop - begin)) back

-- the numbers from a least one on that are in some of the spans
found : (count low n : ℕ) (ss : List LineSpan) → low + n ≡ count → FirstsDontFall ss → filter (λ k. list_any (is_in k) ss) (range_with_len low n) ≡ walked count low ss
found count low n [] e f = keeps-none (λ k. false) low n (λ k l u. refl)
found count low n (s ∷ ss) e f =
    let stop : ℕ = end_below count s in
    let more : ℕ = max low stop in
    let p : ℕ → Bool = λ k. list_any (is_in k) (s ∷ ss) in
    let size : n ≡ (more - low) + (count - more) = omega (arith, e) in
    let back : low + (more - low) ≡ more = omega arith in
    let rest : more + (count - more) ≡ count = omega (arith, e) in
    ap (λ j. filter p (range_with_len low j)) size ∙ keeps-split p low (more - low) (count - more)
    ∙ ap₂ (λ (xs ys : List ℕ). xs ++ ys) (span-part count low s ss f.0)
    (ap (λ j. filter p (range_with_len j (count - more))) back
    ∙ keeps-same p (λ k. list_any (is_in k) ss) more (count - more) (λ k l u. behind-span k s ss (omega (arith, l, u, rest)))
    ∙ found count more (count - more) ss rest f.1)

-- ---- the spans of selections

span-of : (text : List ℕ) (reach : LineReach) (sel : Sel) → IsInside text sel → line_span_of text reach (range_of text sel) ≡ span_at reach sel
span-of text Touched sel i = ap₂ (λ (a b : Coord). let s : LineSpan = record { first = a.line; last = b.line } in s) (coord_at-offset text sel.low i.low) (coord_at-offset text sel.high i.high)
span-of text Joined sel i =
    ap₂ (λ (a b : Coord). let s : LineSpan = record { first = a.line; last = max a.line (b.line - 1) } in s) (coord_at-offset text sel.low i.low) (coord_at-offset text sel.high i.high)

spans-of : (text : List ℕ) (reach : LineReach) (sels : List Sel) → AreInside text sels → map (line_span_of text reach) (ranges_of text sels) ≡ map (span_at reach) sels
spans-of text reach [] a = refl
spans-of text reach (x ∷ sels) a = ap₂ (λ (s : LineSpan) ss. s ∷ ss) (span-of text reach x a.0) (spans-of text reach sels a.1)

first-at : (reach : LineReach) (sel : Sel) → (span_at reach sel).first ≡ sel.low.line
first-at Touched sel = refl
first-at Joined sel = refl

later-firsts : (text : List ℕ) (reach : LineReach) (sel : Sel) (sels : List Sel) → IsInside text sel → AreInside text sels → AllByRecursion (λ (s : Range). (range_of text sel).high < s.low) (ranges_of text sels)
    → AllByRecursion (λ (t : LineSpan). (span_at reach sel).first ≤ t.first) (map (span_at reach) sels)
later-firsts text reach sel [] i a b = tt
later-firsts text reach sel (x ∷ sels) i a b = (
  omega (arith, first-at reach sel, first-at reach x, ordered_lines text sel.low x.low (inl i.low) (inl a.0.low) (omega (arith, i.ordered, b.0))),
  later-firsts text reach sel sels i a.1 b.1,
)

firsts-at : (text : List ℕ) (reach : LineReach) (sels : List Sel) → AreInside text sels → AreApart (ranges_of text sels) → FirstsDontFall (map (span_at reach) sels)
firsts-at text reach [] a b = tt
firsts-at text reach (x ∷ sels) a b = (later-firsts text reach x sels a.0 a.1 b.0, firsts-at text reach sels a.1 b.1)

-- the walk finds the lines that the selections of a list reach
pub walk-reaches : (text : List ℕ) (reach : LineReach) (list : Listed) → IsHeld text list → walked (reachable text reach) 0 (map (span_at reach) list.list) ≡ lines_reached text reach (ranges_of text list.list)
walk-reaches text reach list h =
    let count : ℕ = reachable text reach in
    sym (ap (λ ss. numbers_in count ss) (spans-of text reach list.list h.inside) ∙ found count 0 count (map (span_at reach) list.list) (omega arith) (firsts-at text reach list.list h.inside h.settled.apart))

-- ---- numbers that rise

-- numbers from one on that rise, below a count
abbrev pub IsRising : ℕ → ℕ → List ℕ → Type 0
IsRising from count [] = Unit {0}
IsRising from count (n ∷ ns) = (from ≤ n) × (n < count) × IsRising (n + 1) count ns

rising-from : (low from count : ℕ) (ns : List ℕ) → low ≤ from → IsRising from count ns → IsRising low count ns
rising-from low from count [] h r = tt
rising-from low from count (n ∷ ns) h r = (omega (arith, r.0), r.1, r.2)

rising-row : (a n count : ℕ) → a + n ≤ count → IsRising a count (range_with_len a n)
rising-row a zero count h = tt
rising-row a (suc n) count h = (omega arith, omega arith, rising-row (a + 1) n count (omega arith))

rising-test : (b : Bool) (from count n : ℕ) (ns : List ℕ) → from ≤ n → n < count → IsRising (n + 1) count ns → IsRising from count (cond b (n ∷ ns) ns)
rising-test true from count n ns h l r = (h, l, r)
rising-test false from count n ns h l r = rising-from from (n + 1) count ns (omega arith) r

-- those that a test keeps rise
pub rising-kept : (p : ℕ → Bool) (from count : ℕ) (ns : List ℕ) → IsRising from count ns → IsRising from count (filter p ns)
rising-kept p from count [] r = tt
rising-kept p from count (n ∷ ns) r = rising-test (p n) from count n (filter p ns) r.0 r.1 (rising-kept p (n + 1) count ns r.2)

-- and so do the lines that ranges reach
pub reached-rise : (text : List ℕ) (reach : LineReach) (rs : List Range) → IsRising 0 (reachable text reach) (lines_reached text reach rs)
reached-rise text reach rs =
    rising-kept (λ n. list_any (is_in n) (map (line_span_of text reach) rs)) 0 (reachable text reach) (range_with_len 0 (reachable text reach)) (rising-row 0 (reachable text reach) (reachable text reach) (omega arith))

pub rising-below : (from count : ℕ) (ns : List ℕ) (i d : ℕ) → IsRising from count ns → i < length ns → get_or ns i d < count
rising-below from count [] i d r h = absurd (omega arith)
rising-below from count (n ∷ ns) zero d r h = r.1
rising-below from count (n ∷ ns) (suc i) d r h = rising-below (n + 1) count ns i d r.2 (omega arith)

-- so each lies below the count
pub reached-below : (text : List ℕ) (reach : LineReach) (rs : List Range) (ns : List ℕ) (i : ℕ) → ns ≡ lines_reached text reach rs → i < length ns → get_or ns i 0 < reachable text reach
reached-below text reach rs ns i e h = rising-below 0 (reachable text reach) ns i 0 (subst (IsRising 0 (reachable text reach)) (sym e) (reached-rise text reach rs)) h

-- ---- the walk by its steps

-- one number more
pub numbers-more : (from n : ℕ) → from ≤ n → numbers_between from (n + 1) ≡ numbers_between from n ++ n ∷ []
numbers-more from n h =
    let size : n + 1 - from ≡ (n - from) + 1 = omega (arith, h) in
    let begin : from + (n - from) ≡ n = omega (arith, h) in
    ap (range_with_len from) size ∙ row-split from (n - from) 1 ∙ ap (λ k. numbers_between from n ++ k ∷ []) begin

pub numbers-pushed : (old items new : List ℕ) (from n : ℕ) → from ≤ n → items ≡ old ++ numbers_between from n → new ≡ items ++ n ∷ [] → new ≡ old ++ numbers_between from (n + 1)
numbers-pushed old items new from n h e p =
    p ∙ ap (λ (xs : List ℕ). xs ++ n ∷ []) e ∙ append_assoc old (numbers_between from n) (n ∷ []) ∙ ap (λ xs. old ++ xs) (sym (numbers-more from n h))
