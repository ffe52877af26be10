-- Settled lists of what was made of selections.
use Rattle.std.proofs.Common.{◌≡◌, ℕ, zero, suc, ◌+◌, ◌-◌, ◌<◌, ◌≤◌, Bool, true, false, is_some, List, [], ◌∷◌, ◌++◌, length, take, get_or, Option, None, Some, Result, Ok, Err, IfOk, filter_map, refl, sym, ap, subst, subst₂, ◌∙◌, arith, inl, inr, length-append}
use Rattle.std.specs.Prelude.{if◌then◌else◌, ◌==◌}
use Rattle.std.specs.List.{AllByRecursion, cons_option}
use Rattle.std.proofs.lemmas.Bool.{false≢true}
use Rattle.std.proofs.lemmas.List.{length-map, get_or_default}
use Rattle.text_model.proofs.CoordLemmas.{test_cases}
use Rattle.list_model.specs.Ranges.{Range, Selected, IsRange, only}
use Rattle.list_model.specs.Settling.{settled}
use Rattle.selection_set.specs.declared.sel.Sel.{Sel}
use Rattle.selection_set.specs.Inside.{range_of}
use Rattle.selection_set.specs.Listing.{Listed, AreInside, ranges_of, IsSettledIn}
use Rattle.selection_set.proofs.SettleLemmas.{ranges-inside}
use Rattle.selection_set.specs.Held.{selected, IsHeld, main_of}
use Rattle.selection_set.proofs.HeldLemmas.{settled-held, selected-is, zero_sel, IsMain, main-sel}
use Rattle.selection_set.specs.declared.making.SelsError.{SelsError}
use Rattle.std.specs.Prelude.{option_map}
use Rattle.list_keys.proofs.EachLemmas.{was-found}
use Rattle.list_keys.specs.Rows.{settled_some, main_left, main_copied, with_copies}

-- what was settled, by the ranges that it is
settled-given : (text : List ℕ) (slice list : List Sel) (main : ℕ) (given : Selected) (s : Listed) → slice ≡ list → AreInside text list → ranges_of text list ≡ given.list → main ≡ given.main
    → ((t : List ℕ) → AreInside t slice → IsSettledIn t (ranges_of t slice) main s) → IsSettledIn text given.list given.main s
settled-given text slice list main given s same i e m settles =
    subst₂ (λ l n. IsSettledIn text l n s) (ap (ranges_of text) same ∙ e) m (settles text (subst (AreInside text) (sym same) i))

-- it is held
pub given-held : (text : List ℕ) (slice list : List Sel) (main : ℕ) (s : Listed) → slice ≡ list → AreInside text list
    → ((t : List ℕ) → AreInside t slice → IsSettledIn t (ranges_of t slice) main s) → IsHeld text s
given-held text slice list main s same i settles = settled-held text (ranges_of text slice) main s (settles text (subst (AreInside text) (sym same) i))

-- and it is the settled list
pub given-selected : (text : List ℕ) (slice list : List Sel) (main : ℕ) (given : Selected) (s : Listed) → slice ≡ list → AreInside text list → ranges_of text list ≡ given.list → main ≡ given.main → main < length slice
    → ((t : List ℕ) → AreInside t slice → IsSettledIn t (ranges_of t slice) main s) → selected text s ≡ settled given
given-selected text slice list main given s same i e m below settles =
    selected-is text given s (subst (AllByRecursion IsRange) e (ranges-inside text list i)) (omega (arith, m, below, ap length same, length-map list (range_of text), ap length e)) (settled-given text slice list main given s same i e m settles)

-- some selections are settled
pub some-settled : (rs : List Range) (main : ℕ) → 0 < length rs → settled_some rs main ≡ Some (settled (record { list = rs; main = main }))
some-settled [] main h = absurd (omega arith)
some-settled (r ∷ rs) main h = refl

-- and none aren't
pub none-settled : (rs : List Range) (main : ℕ) → length rs ≡ 0 → settled_some rs main ≡ None
none-settled [] main h = refl
none-settled (r ∷ rs) main h = absurd (omega arith)

-- where something is made of the one at a place, what is made of those before it is less than all
pub made-below : (f : Range → Option Range) (rs : List Range) (n : ℕ) (d : Range) → n < length rs → is_some (f (get_or rs n d)) ≡ true → length (filter_map f (take n rs)) < length (filter_map f rs)
made-below f [] n d h e = absurd (omega arith)
made-below f (r ∷ rs) zero d h e = first (f r) e (filter_map f rs)
  where
    first : (o : Option Range) → is_some o ≡ true → (xs : List Range) → 0 < length (cons_option o xs)
    first None k xs = absurd (false≢true k)
    first (Some x) k xs = omega arith
made-below f (r ∷ rs) (suc n) d h e = onto (f r) (filter_map f (take n rs)) (filter_map f rs) (made-below f rs n d (omega arith) e)
  where
    onto : (o : Option Range) (xs ys : List Range) → length xs < length ys → length (cons_option o xs) < length (cons_option o ys)
    onto None xs ys k = k
    onto (Some x) xs ys k = omega (arith, k)

-- the first ones, by coordinates and by offsets
pub ranges-take : (text : List ℕ) (list : List Sel) (n : ℕ) → ranges_of text (take n list) ≡ take n (ranges_of text list)
ranges-take text list zero = refl
ranges-take text [] (suc n) = refl
ranges-take text (s ∷ ss) (suc n) = ap (λ rs. range_of text s ∷ rs) (ranges-take text ss n)

-- no more is made than there are selections
pub made-few : (f : Range → Option Range) (rs : List Range) → length (filter_map f rs) ≤ length rs
made-few f [] = omega arith
made-few f (r ∷ rs) = onto (f r) (filter_map f rs) (made-few f rs)
  where
    onto : (o : Option Range) (xs : List Range) → length xs ≤ length rs → length (cons_option o xs) ≤ suc (length rs)
    onto None xs k = omega (arith, k)
    onto (Some x) xs k = omega (arith, k)

-- whether something is made of the main selection, by what was read
pub main-made : (text : List ℕ) (f : Range → Option Range) (s : Listed) (sel : Sel) (flag b : Bool) → IsMain text s sel → flag ≡ is_some (f (range_of text sel)) → flag ≡ b → is_some (f (main_of (selected text s))) ≡ b
main-made text f s sel flag b h e k = ap (λ r. is_some (f r)) (sym h.same) ∙ sym e ∙ k

-- how many stand before what is made of the main selection
pub count-before : (text : List ℕ) (f : Range → Option Range) (s : Listed) (main count : ℕ) → main ≡ s.main → count ≡ length (filter_map f (ranges_of text (take main s.list))) → count ≡ length (filter_map f (take s.main (ranges_of text s.list)))
count-before text f s main count m e = e ∙ ap (λ n. length (filter_map f (ranges_of text (take n s.list)))) m ∙ ap (λ rs. length (filter_map f rs)) (ranges-take text s.list s.main)

pub before-below : (text : List ℕ) (f : Range → Option Range) (s : Listed) → IsHeld text s → is_some (f (main_of (selected text s))) ≡ true → length (filter_map f (take s.main (ranges_of text s.list))) < length (filter_map f (ranges_of text s.list))
before-below text f s h e = made-below f (ranges_of text s.list) s.main (only 0) h.settled.main_is e

-- the place of what is left of it
pub left-place : (f : Range → Option Range) (s : Selected) → is_some (f (main_of s)) ≡ true → main_left f s ≡ length (filter_map f (take s.main s.list))
left-place f s e = ap (λ b. if b then length (filter_map f (take s.main s.list)) else length (filter_map f s.list) - 1) e

pub dropped-place : (f : Range → Option Range) (s : Selected) → is_some (f (main_of s)) ≡ false → main_left f s ≡ length (filter_map f s.list) - 1
dropped-place f s e = ap (λ b. if b then length (filter_map f (take s.main s.list)) else length (filter_map f s.list) - 1) e

-- the place of its copy
pub copied-place : (f : Range → Option Range) (s : Selected) → is_some (f (main_of s)) ≡ true → main_copied f s ≡ length s.list + length (filter_map f (take s.main s.list))
copied-place f s e = ap (λ b. if b then length s.list + length (filter_map f (take s.main s.list)) else s.main) e

pub kept-place : (f : Range → Option Range) (s : Selected) → is_some (f (main_of s)) ≡ false → main_copied f s ≡ s.main
kept-place f s e = ap (λ b. if b then length s.list + length (filter_map f (take s.main s.list)) else s.main) e

-- what holds of a list that was made
pub ok-weaker : (result : Result Listed SelsError) (P Q : Listed → Type 0) → ((s : Listed) → P s → Q s) → IfOk result P → IfOk result Q
ok-weaker (Ok s) P Q f h = f s h
ok-weaker (Err e) P Q f h = h

-- whether something is made of the main selection, by what was found for it
pub main-found : (text : List ℕ) (f : Range → Option Range) (s : Listed) (all : List Sel) (main : ℕ) (found : Option Sel) (flag b : Bool) → IsHeld text s → all ≡ s.list → main ≡ s.main → option_map (range_of text) found ≡ f (range_of text (get_or all main zero_sel)) → flag ≡ is_some found → flag ≡ b
    → is_some (f (main_of (selected text s))) ≡ b
main-found text f s all main found flag b h a m g e k =
    let below : main < length s.list = omega (arith, m, h.settled.main_is, length-map s.list (range_of text)) in
    let here : get_or all main zero_sel ≡ get_or s.list main zero_sel = ap (λ l. get_or l main zero_sel) a in
    main-made text f s (get_or all main zero_sel) flag b (main-sel text s main (get_or all main zero_sel) m (λ d. here ∙ get_or_default s.list main zero_sel d below) h) (e ∙ was-found text found (f (range_of text (get_or all main zero_sel))) g) k

pub main-below : (text : List ℕ) (s : Listed) (all : List Sel) (main : ℕ) → IsHeld text s → all ≡ s.list → main ≡ s.main → main < length all
main-below text s all main h a m = omega (arith, m, ap length a, h.settled.main_is, length-map s.list (range_of text))

-- so many stand before it
pub made-before : (text : List ℕ) (f : Range → Option Range) (s : Listed) (all : List Sel) (main : ℕ) (old before : List Sel) → all ≡ s.list → main ≡ s.main → ranges_of text before ≡ ranges_of text old ++ filter_map f (ranges_of text (take main all))
    → length before ≡ length old + length (filter_map f (take s.main (ranges_of text s.list)))
made-before text f s all main old before a m e =
    omega (
      arith,
      ap length e,
      length-map before (range_of text),
      length-map old (range_of text),
      length-append (ranges_of text old) (filter_map f (ranges_of text (take main all))),
      count-before text f s main (length (filter_map f (ranges_of text (take main all)))) m (ap (λ l. length (filter_map f (ranges_of text (take main l)))) a),
    )

-- the main place of what is left is one of its places, and so is that with the copies
pub left-below : (text : List ℕ) (f : Range → Option Range) (s : Listed) → IsHeld text s → 0 < length (filter_map f (ranges_of text s.list)) → main_left f (selected text s) < length (filter_map f (ranges_of text s.list))
left-below text f s h some =
    elim (test_cases (is_some (f (main_of (selected text s))))) [
      | inl e ↦ omega (arith, left-place f (selected text s) e, before-below text f s h e)
      | inr e ↦ omega (arith, some, dropped-place f (selected text s) e)
    ]

pub copied-below : (text : List ℕ) (f : Range → Option Range) (s : Listed) → IsHeld text s → main_copied f (selected text s) < length (with_copies f (selected text s))
copied-below text f s h =
    elim (test_cases (is_some (f (main_of (selected text s))))) [
      | inl e ↦ omega (arith, copied-place f (selected text s) e, before-below text f s h e, length-append (ranges_of text s.list) (filter_map f (ranges_of text s.list)))
      | inr e ↦ omega (arith, kept-place f (selected text s) e, h.settled.main_is, length-append (ranges_of text s.list) (filter_map f (ranges_of text s.list)))
    ]

-- what isn't empty has some
pub not-empty : (n : ℕ) (b : Bool) → b ≡ (n == 0) → b ≡ false → 0 < n
not-empty zero b e f = absurd (false≢true (sym f ∙ e))
not-empty (suc n) b e f = omega arith
