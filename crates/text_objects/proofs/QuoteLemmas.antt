-- The quotes of a line, paired from its left.
use Rattle.std.proofs.Common.{◌≡◌, ℕ, ◌+◌, ◌%◌, ◌<◌, ◌≤◌, Bool, true, false, cond, eqb, ◌&&◌, List, length, get_or, Option, None, Some, refl, sym, ap, subst, ◌∙◌, arith, inl, inr, eq-eqb, ne_eqb, le-leb}
use Rattle.std.specs.Prelude.{slice_range, option_map, option_and_then}
use Rattle.std.proofs.lemmas.Bool.{cases_lt}
use Rattle.text_model.specs.declared.coords.Coord.{Coord}
use Rattle.text_model.specs.Texts.{offset, IsPlace, line_count, nth_line}
use Rattle.text_model.proofs.CoordLemmas.{test_cases}
use Rattle.text_model.proofs.PlaceLemmas.{leb_false}
use Rattle.selection_set.specs.declared.sel.Pair.{Pair}
use Rattle.motion_keys.specs.Extremes.{least_between, IsLeastOrNone}
use Rattle.motion_keys.specs.Jumps.{holds, line_end}
use Rattle.motion_keys.specs.Landmarks.{line_begin, line_of}
use Rattle.motion_keys.specs.Words.{ends, EndsAre}
use Rattle.motion_keys.proofs.DepthLemmas.{times, one, one-same, one-other}
use Rattle.motion_keys.proofs.ExtremeLemmas.{least-is, only-least, only-greatest}
use Rattle.text_objects.specs.Pairs.{reaches, innermost_begin, quote_opens, quote_mate, around_quotes}
use Rattle.text_objects.proofs.BracketLemmas.{times-drop, times-split}
use Rattle.text_objects.proofs.LineOfLemmas.{line_begin-le, line_begin-next, line_begin-within, line_of-begin, line_of-is}

-- a test of two that both have to pass
both : (a b : Bool) → a ≡ true → b ≡ true → a && b ≡ true
both a b p q = ap (λ v. v && b) p ∙ q

first-fails : (a b : Bool) → a ≡ false → a && b ≡ false
first-fails a b p = ap (λ v. v && b) p

second-fails : (a b : Bool) → b ≡ false → a && b ≡ false
second-fails true b q = q
second-fails false b q = refl

-- ---- how many quotes stand on a line before an offset

count-none : (quote : ℕ) (text : List ℕ) (s : ℕ) → times quote (slice_range text s s) ≡ 0
count-none quote text s = omega (arith, times-split quote text s s (omega arith))

count-more : (quote : ℕ) (text : List ℕ) (s x : ℕ) → s ≤ x → x < length text → times quote (slice_range text s (x + 1)) ≡ times quote (slice_range text s x) + one quote (get_or text x 0)
count-more quote text s x h l = omega (arith, times-split quote text s x h, times-split quote text s (x + 1) (omega (arith, h)), times-drop quote text x l)

count-quote : (quote : ℕ) (text : List ℕ) (s x : ℕ) → s ≤ x → x < length text → holds text quote x ≡ true → times quote (slice_range text s (x + 1)) ≡ times quote (slice_range text s x) + 1
count-quote quote text s x h l e = omega (arith, count-more quote text s x h l, one-same quote (get_or text x 0) e)

count-other : (quote : ℕ) (text : List ℕ) (s x : ℕ) → s ≤ x → x < length text → holds text quote x ≡ false → times quote (slice_range text s (x + 1)) ≡ times quote (slice_range text s x)
count-other quote text s x h l e = omega (arith, count-more quote text s x h l, one-other quote (get_or text x 0) e)

odd-next : (n m : ℕ) → m ≡ n + 1 → n % 2 ≡ 0 → m % 2 ≡ 1
odd-next n m e h = omega (arith, e, h)

even-next : (n m : ℕ) → m ≡ n + 1 → n % 2 ≡ 1 → m % 2 ≡ 0
even-next n m e h = omega (arith, e, h)

-- ---- where a quote is paired

-- what pairs a quote of a line that begins at one offset and ends before another
abbrev mate_on : ℕ → List ℕ → ℕ → ℕ → ℕ → Option ℕ
mate_on quote text s t a = cond (holds text quote a && eqb (times quote (slice_range text s a) % 2) 0) (least_between (holds text quote) (a + 1) t) None

mate-on : (quote : ℕ) (text : List ℕ) (n a : ℕ) → a < length text → line_begin text n ≤ a → a < line_begin text (n + 1) → quote_mate quote text a ≡ mate_on quote text (line_begin text n) (line_begin text (n + 1)) a
mate-on quote text n a l p q = ap (λ m. mate_on quote text (line_begin text m) (line_begin text (m + 1)) a) (line_of-is text n a l p q)

-- no quote, or one that closes, has none
mate-other : (quote : ℕ) (text : List ℕ) (a : ℕ) → holds text quote a ≡ false → quote_mate quote text a ≡ None
mate-other quote text a f = ap (λ b. cond b (least_between (holds text quote) (a + 1) (line_end text a)) None) (first-fails (holds text quote a) _ f)

mate-closing : (quote : ℕ) (text : List ℕ) (n a : ℕ) → a < length text → line_begin text n ≤ a → a < line_begin text (n + 1) → times quote (slice_range text (line_begin text n) a) % 2 ≡ 1 → quote_mate quote text a ≡ None
mate-closing quote text n a l p q odd =
    let uneven : eqb (times quote (slice_range text (line_begin text n) a) % 2) 0 ≡ false = ne_eqb (times quote (slice_range text (line_begin text n) a) % 2) 0 (λ e. omega (arith, e, odd)) in
    mate-on quote text n a l p q ∙ ap (λ b. cond b (least_between (holds text quote) (a + 1) (line_begin text (n + 1))) None) (second-fails (holds text quote a) _ uneven)

mate-opening : (quote : ℕ) (text : List ℕ) (n a : ℕ) → a < length text → line_begin text n ≤ a → a < line_begin text (n + 1) → holds text quote a ≡ true → times quote (slice_range text (line_begin text n) a) % 2 ≡ 0
    → quote_mate quote text a ≡ least_between (holds text quote) (a + 1) (line_begin text (n + 1))
mate-opening quote text n a l p q h even =
    mate-on quote text n a l p q ∙ ap (λ b. cond b (least_between (holds text quote) (a + 1) (line_begin text (n + 1))) None) (both (holds text quote a) _ h (eq-eqb (times quote (slice_range text (line_begin text n) a) % 2) 0 even))

-- a pair ends on the line that it begins on
mate-before : (quote : ℕ) (text : List ℕ) (a o : ℕ) → line_end text a ≤ o → reaches (quote_mate quote text a) o ≡ false
mate-before quote text a o h =
    elim (test_cases (quote_opens quote text a)) [
      | inl t ↦ ap (λ m. reaches m o) (ap (λ b. cond b (least_between (holds text quote) (a + 1) (line_end text a)) None) t) ∙ go (least_between (holds text quote) (a + 1) (line_end text a)) (least-is (holds text quote) (a + 1) (line_end text a))
      | inr f ↦ ap (λ m. reaches m o) (ap (λ b. cond b (least_between (holds text quote) (a + 1) (line_end text a)) None) f)
    ]
  where
    go : (found : Option ℕ) → IsLeastOrNone (holds text quote) (a + 1) (line_end text a) found → reaches found o ≡ false
    go None k = refl
    go (Some m) k = leb_false o m (omega (arith, k.inside.1, h))

-- ---- going over a line

-- no pair that begins before an offset reaches another one
abbrev pub NoneReaches : ℕ → List ℕ → ℕ → ℕ → Type 0
NoneReaches quote text x o = (k : ℕ) → k < x → reaches (quote_mate quote text k) o ≡ false

-- what is known before an offset of a line: each quote has been paired, or the one at some offset hasn't
pub record AllPaired (quote : ℕ) (text : List ℕ) (s o x : ℕ) : Type 0 where
  pub none : NoneReaches quote text x o
  pub even : times quote (slice_range text s x) % 2 ≡ 0

pub record IsUnpaired (quote : ℕ) (text : List ℕ) (s o x a : ℕ) : Type 0 where
  pub none : NoneReaches quote text a o
  pub even : times quote (slice_range text s a) % 2 ≡ 0
  pub odd : times quote (slice_range text s x) % 2 ≡ 1
  pub marks : holds text quote a ≡ true
  pub after : s ≤ a
  pub before : a < x
  pub cursor : a ≤ o
  pub alone : (k : ℕ) → a < k → k < x → holds text quote k ≡ false

-- the same by the column of the quote
abbrev pub ArePaired : ℕ → List ℕ → ℕ → ℕ → ℕ → Option ℕ → Type 0
ArePaired quote text s o x None = AllPaired quote text s o x
ArePaired quote text s o x (Some column) = IsUnpaired quote text s o x (s + column)

-- the line that is gone over, with an offset of it
pub record IsOn (text : List ℕ) (n s t o : ℕ) : Type 0 where
  pub there : n < line_count text
  pub begins : s ≡ line_begin text n
  pub ends : t ≡ line_begin text (n + 1)
  pub from : s ≤ o
  pub to : o < t

on-text : (text : List ℕ) (n s t o x : ℕ) → IsOn text n s t o → x < t → x < length text
on-text text n s t o x h l = omega (arith, l, h.ends, line_begin-within text (n + 1) (omega (arith, h.there)))

more : (P : ℕ → Type 0) (x : ℕ) → ((k : ℕ) → k < x → P k) → P x → (k : ℕ) → k < x + 1 → P k
more P x h e k l = elim (cases_lt k x) [ inl lt ↦ h k lt | inr ge ↦ (let same : x ≡ k = omega (arith, l, ge) in subst P same e) ]

none-reaches : (quote : ℕ) (text : List ℕ) (o k : ℕ) → quote_mate quote text k ≡ None → reaches (quote_mate quote text k) o ≡ false
none-reaches quote text o k e = ap (λ m. reaches m o) e

pub paired-start : (quote : ℕ) (text : List ℕ) (n s t o : ℕ) → IsOn text n s t o → ArePaired quote text s o s None
paired-start quote text n s t o on = record {
  none = λ k l. (let inside : k < length text = on-text text n s t o k on (omega (arith, l, on.from, on.to)) in
      let earlier : line_of text k + 1 ≤ n = (elim (cases_lt (line_of text k) n) [
        | inl lt ↦ omega (arith, lt)
        | inr ge ↦ absurd (omega (arith, l, on.begins, line_of-begin text k inside, line_begin-le text n (line_of text k) ge))
      ]) in
      mate-before quote text k o (omega (arith, on.begins, on.from, line_begin-le text (line_of text k + 1) n earlier)));
  even = ap (λ m. m % 2) (count-none quote text s);
}

-- another character
pub paired-pass : (quote : ℕ) (text : List ℕ) (n s t o x : ℕ) (unpaired : Option ℕ) → IsOn text n s t o → s ≤ x → x < t → holds text quote x ≡ false → ArePaired quote text s o x unpaired → ArePaired quote text s o (x + 1) unpaired
paired-pass quote text n s t o x None on p q f h = record {
  none = more (λ k. reaches (quote_mate quote text k) o ≡ false) x h.none (none-reaches quote text o x (mate-other quote text x f));
  even = ap (λ m. m % 2) (count-other quote text s x p (on-text text n s t o x on q) f) ∙ h.even;
}
paired-pass quote text n s t o x (Some column) on p q f h = record {
  none = h.none;
  even = h.even;
  odd = ap (λ m. m % 2) (count-other quote text s x p (on-text text n s t o x on q) f) ∙ h.odd;
  marks = h.marks;
  after = h.after;
  before = omega (arith, h.before);
  cursor = h.cursor;
  alone = λ k g l. more (λ m. s + column < m → holds text quote m ≡ false) x (λ m i j. h.alone m j i) (λ _. f) k l g;
}

-- a quote up to the cursor opens
pub paired-open : (quote : ℕ) (text : List ℕ) (n s t o x column : ℕ) → IsOn text n s t o → x ≡ s + column → x < t → holds text quote x ≡ true → x ≤ o → ArePaired quote text s o x None → ArePaired quote text s o (x + 1) (Some column)
paired-open quote text n s t o x column on e q f le h =
    let at : ArePaired quote text s o (x + 1) (Some column) = subst (IsUnpaired quote text s o (x + 1)) e (record {
      none = h.none;
      even = h.even;
      odd = odd-next (times quote (slice_range text s x)) (times quote (slice_range text s (x + 1))) (count-quote quote text s x (omega (arith, e)) (on-text text n s t o x on q) f) h.even;
      marks = f;
      after = omega (arith, e);
      before = omega arith;
      cursor = le;
      alone = λ k g l. absurd (omega (arith, g, l));
    }) in
    at

-- the next one closes the one that isn't paired
closes : (quote : ℕ) (text : List ℕ) (n s t o x a : ℕ) → IsOn text n s t o → x < t → holds text quote x ≡ true → IsUnpaired quote text s o x a → quote_mate quote text a ≡ Some x
closes quote text n s t o x a on q f h =
    mate-opening quote text n a (on-text text n s t o a on (omega (arith, h.before, q))) (omega (arith, on.begins, h.after)) (omega (arith, on.ends, h.before, q)) h.marks (subst (λ y. times quote (slice_range text y a) % 2 ≡ 0) on.begins h.even)
    ∙ sym (only-least (holds text quote) (a + 1) (line_begin text (n + 1)) (Some x) (record { inside = (omega (arith, h.before), omega (arith, on.ends, q)); passes = f; least = λ k g l. h.alone k (omega (arith, g)) l }))

-- and itself has no mate
closed : (quote : ℕ) (text : List ℕ) (n s t o x a : ℕ) → IsOn text n s t o → x < t → IsUnpaired quote text s o x a → quote_mate quote text x ≡ None
closed quote text n s t o x a on q h =
    mate-closing quote text n x (on-text text n s t o x on q) (omega (arith, on.begins, h.after, h.before)) (omega (arith, on.ends, q)) (subst (λ y. times quote (slice_range text y x) % 2 ≡ 1) on.begins h.odd)

-- nothing between the two, nor the second, begins a pair
behind-first : (quote : ℕ) (text : List ℕ) (n s t o x a k : ℕ) → IsOn text n s t o → x < t → IsUnpaired quote text s o x a → a < k → k < x + 1 → reaches (quote_mate quote text k) o ≡ false
behind-first quote text n s t o x a k on q h i j =
    elim (cases_lt k x) [
      | inl m ↦ none-reaches quote text o k (mate-other quote text k (h.alone k i m))
      | inr m ↦ (let same : x ≡ k = omega (arith, j, m) in subst (λ y. reaches (quote_mate quote text y) o ≡ false) same (none-reaches quote text o x (closed quote text n s t o x a on q h)))
    ]

-- the next quote closes before the cursor
pub paired-close : (quote : ℕ) (text : List ℕ) (n s t o x column : ℕ) → IsOn text n s t o → x < t → holds text quote x ≡ true → x < o → ArePaired quote text s o x (Some column) → ArePaired quote text s o (x + 1) None
paired-close quote text n s t o x column on q f lt h =
    let a : ℕ = s + column in
    record {
      none = λ k l. elim (cases_lt k a) [
        | inl i ↦ h.none k i
        | inr i ↦ elim (cases_lt a k) [
          | inl j ↦ behind-first quote text n s t o x a k on q h j l
          | inr j ↦ (let same : a ≡ k = omega (arith, i, j) in subst (λ y. reaches (quote_mate quote text y) o ≡ false) same (ap (λ m. reaches m o) (closes quote text n s t o x a on q f h) ∙ leb_false o x lt))
        ]
      ];
      even = even-next (times quote (slice_range text s x)) (times quote (slice_range text s (x + 1))) (count-quote quote text s x (omega (arith, h.after, h.before)) (on-text text n s t o x on q) f) h.odd;
    }

-- ---- what was found

found-none : (quote : ℕ) (text : List ℕ) (o : ℕ) → NoneReaches quote text (o + 1) o → around_quotes quote text o ≡ None
found-none quote text o h = ap (option_and_then (λ a. option_map (ends a) (quote_mate quote text a))) (sym (only-greatest (λ a. reaches (quote_mate quote text a) o) (o + 1) None h))

-- it closes at the cursor or behind it
pub paired-found : (quote : ℕ) (text : List ℕ) (n s t o x column : ℕ) → IsOn text n s t o → x < t → holds text quote x ≡ true → o ≤ x → ArePaired quote text s o x (Some column) → around_quotes quote text o ≡ Some (ends (s + column) x)
paired-found quote text n s t o x column on q f le h =
    let a : ℕ = s + column in
    let mate : quote_mate quote text a ≡ Some x = closes quote text n s t o x a on q f h in
    let begins : Some a ≡ innermost_begin (quote_mate quote text) o = only-greatest (λ k. reaches (quote_mate quote text k) o) (o + 1) (Some a) (record {
      inside = omega (arith, h.cursor);
      passes = ap (λ m. reaches m o) mate ∙ le-leb o x le;
      greatest = λ k i j. behind-first quote text n s t o x a k on q h i (omega (arith, j, le));
    }) in
    ap (option_and_then (λ k. option_map (ends k) (quote_mate quote text k))) (sym begins) ∙ ap (option_map (ends a)) mate

-- the next quote opens behind the cursor
pub paired-over : (quote : ℕ) (text : List ℕ) (s o x : ℕ) → o < x → ArePaired quote text s o x None → around_quotes quote text o ≡ None
paired-over quote text s o x l h = found-none quote text o (λ k i. h.none k (omega (arith, i, l)))

-- the line is over
pub paired-end : (quote : ℕ) (text : List ℕ) (n s t o x : ℕ) (unpaired : Option ℕ) → IsOn text n s t o → x ≡ t → ArePaired quote text s o x unpaired → around_quotes quote text o ≡ None
paired-end quote text n s t o x None on e h = found-none quote text o (λ k i. h.none k (omega (arith, i, e, on.to)))
paired-end quote text n s t o x (Some column) on e h = found-none quote text o (λ k i. go k i)
  where
    open_end : quote_mate quote text (s + column) ≡ None
    open_end =
        mate-opening quote text n (s + column) (on-text text n s t o (s + column) on (omega (arith, h.before, e))) (omega (arith, on.begins, h.after)) (omega (arith, on.ends, h.before, e)) h.marks (subst (λ y. times quote (slice_range text y (s + column)) % 2 ≡ 0) on.begins h.even)
        ∙ sym (only-least (holds text quote) (s + column + 1) (line_begin text (n + 1)) None (λ k g l. h.alone k (omega (arith, g)) (omega (arith, l, e, on.ends))))

    go : (k : ℕ) → k < o + 1 → reaches (quote_mate quote text k) o ≡ false
    go k i =
        elim (cases_lt k (s + column)) [
          | inl j ↦ h.none k j
          | inr j ↦ elim (cases_lt (s + column) k) [
            | inl m ↦ none-reaches quote text o k (mate-other quote text k (h.alone k m (omega (arith, i, e, on.to))))
            | inr m ↦ (let same : s + column ≡ k = omega (arith, j, m) in subst (λ y. reaches (quote_mate quote text y) o ≡ false) same (none-reaches quote text o (s + column) open_end))
          ]
        ]

-- ---- the same by coordinates

pub on-place : (text : List ℕ) (at : Coord) → IsPlace text at → IsOn text at.line (line_begin text at.line) (line_begin text (at.line + 1)) (offset text at)
on-place text at h = record {
  there = h.on_line;
  begins = refl;
  ends = refl;
  from = omega arith;
  to = omega (arith, line_begin-next text at.line h.on_line, h.in_line);
}

abbrev pub pair_at : ℕ → ℕ → ℕ → Pair
pair_at n first last = record { anchor = record { line = n; column = first }; cursor = record { line = n; column = last } }

pub pair-ends : (quote : ℕ) (text : List ℕ) (at : Coord) (column first : ℕ) (line : List ℕ) → IsPlace text at → line ≡ nth_line text at.line → column < length line → holds text quote (line_begin text at.line + column) ≡ true → at.column ≤ column
    → ArePaired quote text (line_begin text at.line) (offset text at) (line_begin text at.line + column) (Some first) → EndsAre text (Some (pair_at at.line first column)) (around_quotes quote text (offset text at))
pair-ends quote text at column first line p e l f le h =
    let on : IsOn text at.line (line_begin text at.line) (line_begin text (at.line + 1)) (offset text at) = on-place text at p in
    let inside : column < length (nth_line text at.line) = omega (arith, l, ap length e) in
    let found : around_quotes quote text (offset text at) ≡ Some (ends (line_begin text at.line + first) (line_begin text at.line + column)) =
    paired-found quote text at.line (line_begin text at.line) (line_begin text (at.line + 1)) (offset text at) (line_begin text at.line + column) first on (omega (arith, line_begin-next text at.line p.on_line, inside)) f (omega (arith, le)) h in
    let one : line_begin text at.line + first ≡ offset text (record { line = at.line; column = first }) = omega arith in
    let two : line_begin text at.line + column ≡ offset text (record { line = at.line; column = column }) = omega arith in
    (record { on_line = p.on_line; in_line = omega (arith, h.before, inside) }, record { on_line = p.on_line; in_line = inside }, found ∙ ap (λ m. Some (ends m (line_begin text at.line + column))) one ∙ ap (λ m. Some (ends (offset text (let c : Coord = record { line = at.line; column = first } in c)) m)) two)
