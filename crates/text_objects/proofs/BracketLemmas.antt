-- Brackets of a text, by how many of them stand open before each offset.
use Rattle.std.proofs.Common.{◌≡◌, ◌≢◌, ℕ, suc, ◌+◌, ◌-◌, ◌<◌, ◌≤◌, Bool, true, false, cond, eqb, List, length, get_or, drop, Option, None, Some, refl, sym, ap, subst, ◌∙◌, arith, inl, inr, eq-eqb, ne_eqb, eqb-true, add-one, length-drop}
use Rattle.std.specs.Prelude.{slice_range, unwrap_or, option_map, option_and_then}
use Rattle.std.proofs.Math.Seq.{drop-cons}
use Rattle.std.proofs.lemmas.Bool.{false≢true}
use Rattle.std.proofs.lemmas.List.Folds.{drop_split}
use Rattle.std.proofs.lemmas.List.Sums.{sum_by-append, count_by-le-length}
use Rattle.text_model.proofs.CoordLemmas.{test_cases}
use Rattle.motion_keys.specs.Extremes.{least_between, greatest_below, IsLeastOrNone, IsGreatestOrNone}
use Rattle.motion_keys.specs.Jumps.{holds, are_even}
use Rattle.motion_keys.specs.Words.{Ends, ends}
use Rattle.motion_keys.proofs.DepthLemmas.{times, depth_by, one, one-same, one-other, times-before}
use Rattle.motion_keys.proofs.ExtremeLemmas.{least-is, greatest-is}
use Rattle.text_objects.specs.Pairs.{bracket_mate, around_brackets}
use Rattle.text_objects.specs.Unclosed.{opens_one_more, unclosed}
use Rattle.text_objects.proofs.PairLemmas.{IsMatchOrNone, AreBrackets, HasGap, begin-opens, pair-none, pair-found}

-- how many more brackets open than close before an offset, from the length of the text on, so that it is never below 0
pub level_at : ℕ → ℕ → List ℕ → ℕ → ℕ
level_at opening closing text n = times closing (drop n text) + (length text - times opening (drop n text))

-- ---- what a character does to it

pub times-drop : (a : ℕ) (text : List ℕ) (n : ℕ) → n < length text → times a (drop n text) ≡ times a (drop (n + 1) text) + one a (get_or text n 0)
times-drop a text n l = ap (times a) (drop-cons text n 0 l) ∙ times-before a (get_or text n 0) (drop (suc n) text) ∙ ap (λ k. times a (drop k text) + one a (get_or text n 0)) (sym (add-one n))

times-few : (a : ℕ) (text : List ℕ) (n : ℕ) → times a (drop n text) ≤ length text
times-few a text n = omega (arith, count_by-le-length (λ c. eqb c a) (drop n text), length-drop n text)

pub level-opening : (opening closing : ℕ) (text : List ℕ) (n : ℕ) → opening ≢ closing → n < length text → eqb (get_or text n 0) opening ≡ true → level_at opening closing text (n + 1) ≡ level_at opening closing text n + 1
unfolding level_at
level-opening opening closing text n apart l e =
    let c : ℕ = get_or text n 0 in
    let is : c ≡ opening = eqb-true c opening e in
    let other : one closing c ≡ 0 = one-other closing c (ne_eqb c closing (λ f. apart (sym is ∙ f))) in
    omega (arith, times-drop opening text n l, times-drop closing text n l, one-same opening c e, other, times-few opening text n)

pub level-closing : (opening closing : ℕ) (text : List ℕ) (n : ℕ) → opening ≢ closing → n < length text → eqb (get_or text n 0) closing ≡ true → level_at opening closing text n ≡ level_at opening closing text (n + 1) + 1
unfolding level_at
level-closing opening closing text n apart l e =
    let c : ℕ = get_or text n 0 in
    let is : c ≡ closing = eqb-true c closing e in
    let other : one opening c ≡ 0 = one-other opening c (ne_eqb c opening (λ f. apart (sym f ∙ is))) in
    omega (arith, times-drop opening text n l, times-drop closing text n l, one-same closing c e, other)

pub level-other : (opening closing : ℕ) (text : List ℕ) (n : ℕ) → n < length text → eqb (get_or text n 0) opening ≡ false → eqb (get_or text n 0) closing ≡ false → level_at opening closing text (n + 1) ≡ level_at opening closing text n
unfolding level_at
level-other opening closing text n l e f =
    let c : ℕ = get_or text n 0 in
    omega (arith, times-drop opening text n l, times-drop closing text n l, one-other opening c e, one-other closing c f)

-- ---- what equal counts between two offsets say

pub times-split : (a : ℕ) (text : List ℕ) (from to : ℕ) → from ≤ to → times a (drop from text) ≡ times a (slice_range text from to) + times a (drop to text)
times-split a text from to h = ap (times a) (drop_split text from to h) ∙ sum_by-append (λ c. cond (eqb c a) 1 0) (slice_range text from to) (drop to text)

pub even-level : (opening closing : ℕ) (text : List ℕ) (a n : ℕ) → a ≤ n + 1 → are_even text opening closing a n ≡ true → level_at opening closing text (n + 1) ≡ level_at opening closing text a
unfolding level_at
even-level opening closing text a n h e =
    let same : times opening (slice_range text a (n + 1)) ≡ times closing (slice_range text a (n + 1)) = eqb-true (times opening (slice_range text a (n + 1))) (times closing (slice_range text a (n + 1))) e in
    omega (arith, same, times-split opening text a (n + 1) h, times-split closing text a (n + 1) h, times-few opening text a)

pub level-even : (opening closing : ℕ) (text : List ℕ) (a n : ℕ) → a ≤ n + 1 → level_at opening closing text (n + 1) ≡ level_at opening closing text a → are_even text opening closing a n ≡ true
unfolding level_at
level-even opening closing text a n h e =
    eq-eqb (times opening (slice_range text a (n + 1))) (times closing (slice_range text a (n + 1))) (omega (arith, e, times-split opening text a (n + 1) h, times-split closing text a (n + 1) h, times-few opening text a))

pub more-level : (opening closing : ℕ) (text : List ℕ) (end a : ℕ) → a ≤ end → opens_one_more opening closing text end a ≡ true → level_at opening closing text end ≡ level_at opening closing text a + 1
unfolding level_at
more-level opening closing text end a h e =
    let same : times opening (slice_range text a end) ≡ times closing (slice_range text a end) + 1 = eqb-true (times opening (slice_range text a end)) (times closing (slice_range text a end) + 1) e in
    omega (arith, same, times-split opening text a end h, times-split closing text a end h, times-few opening text a)

pub level-more : (opening closing : ℕ) (text : List ℕ) (end a : ℕ) → a ≤ end → level_at opening closing text end ≡ level_at opening closing text a + 1 → opens_one_more opening closing text end a ≡ true
unfolding level_at
level-more opening closing text end a h e =
    eq-eqb (times opening (slice_range text a end)) (times closing (slice_range text a end) + 1) (omega (arith, e, times-split opening text a end h, times-split closing text a end h, times-few opening text a))

-- ---- the brackets of a text

clash : (b : Bool) → b ≡ true → b ≡ false → ⊥
clash b t f = false≢true (sym f ∙ t)

matches : (opening closing : ℕ) (text : List ℕ) (a : ℕ) (found : Option ℕ) → IsLeastOrNone (are_even text opening closing a) (a + 1) (length text) found → IsMatchOrNone (level_at opening closing text) (length text) a found
matches opening closing text a None h = λ n p q e. clash (are_even text opening closing a n) (level-even opening closing text a n (omega (arith, p)) e) (h n p q)
matches opening closing text a (Some m) h = record {
  behind = h.inside.0;
  inside = h.inside.1;
  closed = even-level opening closing text a m (omega (arith, h.inside.0)) h.passes;
  first = λ n p q e. clash (are_even text opening closing a n) (level-even opening closing text a n (omega (arith, p)) e) (h.least n p q);
}

mate-opens : (opening closing : ℕ) (text : List ℕ) (a : ℕ) → holds text opening a ≡ true → bracket_mate opening closing text a ≡ least_between (are_even text opening closing a) (a + 1) (length text)
mate-opens opening closing text a t = ap (λ b. cond b (least_between (are_even text opening closing a) (a + 1) (length text)) None) t

mate-other : (opening closing : ℕ) (text : List ℕ) (a : ℕ) → holds text opening a ≡ false → bracket_mate opening closing text a ≡ None
mate-other opening closing text a f = ap (λ b. cond b (least_between (are_even text opening closing a) (a + 1) (length text)) None) f

-- one character changes the level by one at most
level-up : (opening closing : ℕ) (text : List ℕ) (n : ℕ) → opening ≢ closing → n < length text → level_at opening closing text (n + 1) ≤ level_at opening closing text n + 1
level-up opening closing text n apart l =
    elim (test_cases (eqb (get_or text n 0) opening)) [
      | inl e ↦ omega (arith, level-opening opening closing text n apart l e)
      | inr e ↦ elim (test_cases (eqb (get_or text n 0) closing)) [
        | inl f ↦ omega (arith, level-closing opening closing text n apart l f)
        | inr f ↦ omega (arith, level-other opening closing text n l e f)
      ]
    ]

level-down : (opening closing : ℕ) (text : List ℕ) (n : ℕ) → opening ≢ closing → n < length text → level_at opening closing text n ≤ level_at opening closing text (n + 1) + 1
level-down opening closing text n apart l =
    elim (test_cases (eqb (get_or text n 0) opening)) [
      | inl e ↦ omega (arith, level-opening opening closing text n apart l e)
      | inr e ↦ elim (test_cases (eqb (get_or text n 0) closing)) [
        | inl f ↦ omega (arith, level-closing opening closing text n apart l f)
        | inr f ↦ omega (arith, level-other opening closing text n l e f)
      ]
    ]

level-opened : (opening closing : ℕ) (text : List ℕ) (n : ℕ) → opening ≢ closing → n < length text → level_at opening closing text (n + 1) ≡ level_at opening closing text n + 1 → holds text opening n ≡ true
level-opened opening closing text n apart l h =
    elim (test_cases (eqb (get_or text n 0) opening)) [
      | inl e ↦ e
      | inr e ↦ elim (test_cases (eqb (get_or text n 0) closing)) [
        | inl f ↦ absurd (omega (arith, h, level-closing opening closing text n apart l f))
        | inr f ↦ absurd (omega (arith, h, level-other opening closing text n l e f))
      ]
    ]

brackets-of : (opening closing : ℕ) (text : List ℕ) → opening ≢ closing → AreBrackets (level_at opening closing text) (holds text opening) (bracket_mate opening closing text) (length text)
brackets-of opening closing text apart = record {
  up = λ n l. level-up opening closing text n apart l;
  down = λ n l. level-down opening closing text n apart l;
  opening = λ n l e. level-opening opening closing text n apart l e;
  opened = λ n l e. level-opened opening closing text n apart l e;
  alone = λ n f. mate-other opening closing text n f;
  matched = λ n l t. subst (IsMatchOrNone (level_at opening closing text) (length text) n) (sym (mate-opens opening closing text n t)) (matches opening closing text n (least_between (are_even text opening closing n) (n + 1) (length text)) (least-is (are_even text opening closing n) (n + 1) (length text)));
}

-- ---- the bracket that stands open at an offset begins the innermost pair

gap-below : (opening closing : ℕ) (text : List ℕ) (from o : ℕ) → ((k : ℕ) → from ≤ k → k < o → opens_one_more opening closing text o k ≡ false) → HasGap (level_at opening closing text) from o
gap-below opening closing text from o h = λ k p q e. clash (opens_one_more opening closing text o k) (level-more opening closing text o k (omega (arith, q)) (sym e)) (h k p q)

pub unclosed-here : (opening closing : ℕ) (text : List ℕ) (o : ℕ) → holds text opening o ≡ true → unclosed opening closing text o ≡ Some o
unclosed-here opening closing text o t = ap (λ b. cond b (Some o) (greatest_below (opens_one_more opening closing text o) o)) t

pub unclosed-before : (opening closing : ℕ) (text : List ℕ) (o : ℕ) → holds text opening o ≡ false → unclosed opening closing text o ≡ greatest_below (opens_one_more opening closing text o) o
unclosed-before opening closing text o f = ap (λ b. cond b (Some o) (greatest_below (opens_one_more opening closing text o) o)) f

abbrev pub pair_from : ℕ → ℕ → List ℕ → ℕ → Option Ends
pair_from opening closing text a = option_map (ends a) (bracket_mate opening closing text a)

pub around-is : (opening closing : ℕ) (text : List ℕ) (o : ℕ) → opening ≢ closing → o < length text → around_brackets opening closing text o ≡ option_and_then (pair_from opening closing text) (unclosed opening closing text o)
around-is opening closing text o apart l =
    elim (test_cases (holds text opening o)) [
      | inl t ↦ pair-found (level_at opening closing text) (holds text opening) (bracket_mate opening closing text) (length text) o (o + 1) o brackets l (omega (arith, l)) (inr (refl, t)) (omega arith) (level-opening opening closing text o apart l t) (λ k p q. absurd (omega (arith, p, q))) ∙ ap (option_and_then (pair_from opening closing text)) (sym (unclosed-here opening closing text o t))
      | inr f ↦ go f (greatest_below (opens_one_more opening closing text o) o) (greatest-is (opens_one_more opening closing text o) o) ∙ ap (option_and_then (pair_from opening closing text)) (sym (unclosed-before opening closing text o f))
    ]
  where
    brackets : AreBrackets (level_at opening closing text) (holds text opening) (bracket_mate opening closing text) (length text)
    brackets = brackets-of opening closing text apart

    go : holds text opening o ≡ false → (found : Option ℕ) → IsGreatestOrNone (opens_one_more opening closing text o) o found → around_brackets opening closing text o ≡ option_and_then (pair_from opening closing text) found
    go f None h = pair-none (level_at opening closing text) (holds text opening) (bracket_mate opening closing text) (length text) o o brackets l (omega (arith, l)) (inl (refl, f)) (gap-below opening closing text 0 o (λ k p q. h k q))
    go f (Some a) h = pair-found (level_at opening closing text) (holds text opening) (bracket_mate opening closing text) (length text) o o a brackets l (omega (arith, l)) (inl (refl, f)) h.inside (more-level opening closing text o a (omega (arith, h.inside)) h.passes) (gap-below opening closing text (a + 1) o (λ k p q. h.greatest k (omega (arith, p)) q))

-- a bracket opens there
pub unclosed-opens : (opening closing : ℕ) (text : List ℕ) (o a : ℕ) → opening ≢ closing → o < length text → unclosed opening closing text o ≡ Some a → holds text opening a ≡ true
unclosed-opens opening closing text o a apart l u =
    elim (test_cases (holds text opening o)) [
      | inl t ↦ subst (λ k. holds text opening k ≡ true) (some-same o a (sym (unclosed-here opening closing text o t) ∙ u)) t
      | inr f ↦ go (subst (IsGreatestOrNone (opens_one_more opening closing text o) o) (sym (unclosed-before opening closing text o f) ∙ u) (greatest-is (opens_one_more opening closing text o) o))
    ]
  where
    some-same : (m n : ℕ) → Some m ≡ Some n → m ≡ n
    some-same m n e = ap (λ f. unwrap_or f m) e

    go : IsGreatestOrNone (opens_one_more opening closing text o) o (Some a) → holds text opening a ≡ true
    go h = begin-opens (level_at opening closing text) (holds text opening) (bracket_mate opening closing text) (length text) o a (brackets-of opening closing text apart) (omega (arith, l)) h.inside (more-level opening closing text o a (omega (arith, h.inside)) h.passes) (gap-below opening closing text (a + 1) o (λ k p q. h.greatest k (omega (arith, p)) q))

-- ---- the search for it

-- so many that close wait for one that opens, and the one that is looked for
abbrev pub IsWaiting : ℕ → ℕ → List ℕ → ℕ → ℕ → ℕ → Type 0
IsWaiting opening closing text o at depth = level_at opening closing text o + depth ≡ level_at opening closing text at + 1

pub waiting-step : (opening closing : ℕ) (text : List ℕ) (o at b c depth deeper : ℕ) → opening ≢ closing → 0 < depth → b + 1 ≡ at → b < length text → c ≡ get_or text b 0 → deeper ≡ depth_by depth c closing opening
    → IsWaiting opening closing text o at depth → IsWaiting opening closing text o b deeper
waiting-step opening closing text o at b c depth deeper apart some s l r d h =
    let next : level_at opening closing text (b + 1) ≡ level_at opening closing text at = ap (level_at opening closing text) s in
    elim (test_cases (eqb c closing)) [
      | inl e ↦ (let more : depth_by depth c closing opening ≡ depth + 1 = ap (λ t. cond t (depth + 1) (cond (eqb c opening) (depth - 1) depth)) e in
          omega (arith, h, next, d, more, level-closing opening closing text b apart l (ap (λ k. eqb k closing) (sym r) ∙ e)))
      | inr e ↦ elim (test_cases (eqb c opening)) [
        | inl f ↦ (let less : depth_by depth c closing opening ≡ depth - 1 = ap (λ t. cond t (depth + 1) (cond (eqb c opening) (depth - 1) depth)) e ∙ ap (λ t. cond t (depth - 1) depth) f in
            omega (arith, some, h, next, d, less, level-opening opening closing text b apart l (ap (λ k. eqb k opening) (sym r) ∙ f)))
        | inr f ↦ (let same : depth_by depth c closing opening ≡ depth = ap (λ t. cond t (depth + 1) (cond (eqb c opening) (depth - 1) depth)) e ∙ ap (λ t. cond t (depth - 1) depth) f in
            omega (arith, h, next, d, same, level-other opening closing text b l (ap (λ k. eqb k opening) (sym r) ∙ f) (ap (λ k. eqb k closing) (sym r) ∙ e)))
      ]
    ]

-- none waits: it is the one that is looked for
pub waiting-none : (opening closing : ℕ) (text : List ℕ) (o b depth : ℕ) → b ≤ o → IsWaiting opening closing text o b depth → depth ≡ 0 → opens_one_more opening closing text o b ≡ true
waiting-none opening closing text o b depth le h z = level-more opening closing text o b le (omega (arith, h, z))

pub waiting-some : (opening closing : ℕ) (text : List ℕ) (o b depth : ℕ) → b ≤ o → IsWaiting opening closing text o b depth → 0 < depth → opens_one_more opening closing text o b ≡ false
waiting-some opening closing text o b depth le h p =
    elim (test_cases (opens_one_more opening closing text o b)) [
      | inl t ↦ absurd (omega (arith, p, h, more-level opening closing text o b le t))
      | inr f ↦ f
    ]

-- ---- the pair by its ends

pub pair-is : (opening closing : ℕ) (text : List ℕ) (o a : ℕ) (m : Option ℕ) → opening ≢ closing → o < length text → unclosed opening closing text o ≡ Some a → least_between (are_even text opening closing a) (a + 1) (length text) ≡ m
    → around_brackets opening closing text o ≡ option_map (ends a) m
pair-is opening closing text o a m apart l u e =
    around-is opening closing text o apart l ∙ ap (option_and_then (pair_from opening closing text)) u ∙ ap (option_map (ends a)) (mate-opens opening closing text a (unclosed-opens opening closing text o a apart l u) ∙ e)

pub pair-nowhere : (opening closing : ℕ) (text : List ℕ) (o : ℕ) → opening ≢ closing → o < length text → unclosed opening closing text o ≡ None → around_brackets opening closing text o ≡ None
pair-nowhere opening closing text o apart l u = around-is opening closing text o apart l ∙ ap (option_and_then (pair_from opening closing text)) u
