-- The text of a description is read as the description.
use Rattle.std.proofs.Common.{◌≡◌, ℕ, suc, ◌+◌, ◌<◌, ◌≤◌, ◌^◌, ltb, leb, eqb, min, ◌==◌, ◌&&◌, not, Bool, true, false, cond, List, [], ◌∷◌, ◌++◌, length, Option, Some, None, refl, sym, ap, ap₂, ◌∙◌, append_assoc, arith, leb-true, inl, inr}
use Rattle.std.specs.Prelude.{decimal, position, option_and_then}
use Rattle.std.specs.List.{list_all, prefix_len}
use Rattle.std.proofs.lemmas.Bool.{and_parts, and_from, lt-ltb, eqb-true, eq-eqb, le-leb, false≢true}
use Rattle.std.proofs.lemmas.List.{length-append}
use Rattle.std.proofs.Math.Seq.{take-append_seam, drop-append_seam}
use Rattle.std.proofs.lemmas.Str.Parse.{IsDigitsTest, FoldsDigits, IsNumeralModel, numerals_by_fold}
use Rattle.std.proofs.lemmas.Fmt.{digits_decimal, digits_value-decimal}
use Rattle.text_model.proofs.CoordLemmas.{test_cases}
use Rattle.command_forms.specs.declared.places.ArgumentPlace.{ArgumentPlace}
use Rattle.command_forms.specs.declared.places.Described.{Described}
use Rattle.command_forms.specs.Numbers.{greatest_number, is_digit, value_on, whole_on, whole_number, number_of}
use Rattle.command_forms.specs.Parting.{Parts, parted}
use Rattle.command_forms.specs.Places.{place_by, place_of, described_by, described_of}
use Rattle.command_forms.proofs.WordLemmas.{parted-at}
use Rattle.selection_texts.specs.Telling.{description_text}

abbrev AreDigits : List ℕ → Type 0
AreDigits ds = list_all is_digit ds ≡ true

digits_test : IsDigitsTest AreDigits
digits_test = record {
  empty = refl;
  parts = λ c cs h. let both = and_parts (is_digit c) (list_all is_digit cs) h in
      let ends = and_parts (leb 48 c) (leb c 57) both.0 in
      ((leb-true 48 c ends.0, leb-true c 57 ends.1), both.1);
  more = λ c cs h k. and_from (is_digit c) (list_all is_digit cs) (and_from (leb 48 c) (leb c 57) (le-leb 48 c h.0) (le-leb c 57 h.1)) k;
}

digits_fold : FoldsDigits value_on
digits_fold = record { empty = λ n. refl; more = λ n c cs h. refl }

numerals : IsNumeralModel AreDigits (value_on 0)
numerals = numerals_by_fold AreDigits digits_test value_on digits_fold

-- digits of a number above 0 are there
whole-above : (ds : List ℕ) → 0 < value_on 0 ds → whole_number ds ≡ whole_on 0 ds
whole-above [] h = absurd (omega arith)
whole-above (d ∷ ds) h = refl

-- a number that is written is read
number-read : (n : ℕ) → 0 < n → n ≤ greatest_number → number_of (decimal n) ≡ Some n
number-read n some small =
    let fits : n < 2 ^ 64 = omega arith in
    let value : value_on 0 (decimal n) ≡ n = digits_value-decimal numerals n fits in
    let whole : min n greatest_number ≡ n = omega arith in
    let above : 0 < value_on 0 (decimal n) = omega (arith, value) in
    let read : whole_number (decimal n) ≡ Some n =
    whole-above (decimal n) above
    ∙ ap (λ b. cond b (Some (min (value_on 0 (decimal n)) greatest_number)) None) (digits_decimal numerals n fits)
    ∙ ap (λ v. Some (min v greatest_number)) value ∙ ap (λ v. Some v) whole in
    let from_one : ℕ → Option ℕ = λ m. cond (ltb 0 m) (Some m) None in
    ap (option_and_then from_one) read ∙ ap (λ b. cond b (Some n) None) (lt-ltb 0 n some)

prefix-first : (q : ℕ → Bool) (xs rest : List ℕ) (m : ℕ) → list_all q xs ≡ true → q m ≡ false → prefix_len q (xs ++ m ∷ rest) ≡ length xs
prefix-first q [] rest m all stop = ap (λ b. cond b (1 + prefix_len q rest) 0) stop
prefix-first q (x ∷ xs) rest m all stop =
    let both = and_parts (q x) (list_all q xs) all in
    let further : 1 + prefix_len q (xs ++ m ∷ rest) ≡ suc (length xs) = omega (arith, prefix-first q xs rest m both.1 stop) in
    ap (λ b. cond b (1 + prefix_len q (xs ++ m ∷ rest)) 0) both.0 ∙ further

-- the characters other than a mark
abbrev is_other : ℕ → ℕ → Bool
is_other m c = not (c == m)

eqb-same : (m : ℕ) → eqb m m ≡ true
eqb-same m = eq-eqb m m refl

parted-first : (mark : ℕ) (xs rest : List ℕ) → list_all (is_other mark) xs ≡ true → parted mark (xs ++ mark ∷ rest) ≡ Some (record { before = xs; behind = rest })
parted-first mark xs rest others =
    let text : List ℕ = xs ++ mark ∷ rest in
    let first : prefix_len (is_other mark) text ≡ length xs = prefix-first (is_other mark) xs rest mark others (ap not (eqb-same mark)) in
    let inside : length xs < length text = omega (arith, length-append xs (mark ∷ rest)) in
    let found : position (λ c. c == mark) text ≡ Some (length xs) =
    ap (λ k. cond (ltb k (length text)) (Some k) None) first ∙ ap (λ b. cond b (Some (length xs)) None) (lt-ltb (length xs) (length text) inside) in
    parted-at mark text xs rest (length xs) (mark ∷ rest) found (sym (take-append_seam xs (mark ∷ rest))) (sym (drop-append_seam xs (mark ∷ rest))) refl

other-digit : (m d : ℕ) → is_digit m ≡ false → is_digit d ≡ true → is_other m d ≡ true
other-digit m d apart is_one = elim (test_cases (eqb d m)) [
  | inl e ↦ absurd (false≢true (sym apart ∙ (ap is_digit (sym (eqb-true d m e)) ∙ is_one)))
  | inr e ↦ ap not e
]

others-digits : (m : ℕ) (ds : List ℕ) → is_digit m ≡ false → AreDigits ds → list_all (is_other m) ds ≡ true
others-digits m [] apart all = refl
others-digits m (d ∷ ds) apart all =
    let both = and_parts (is_digit d) (list_all is_digit ds) all in
    and_from (is_other m d) (list_all (is_other m) ds) (other-digit m d apart both.0) (others-digits m ds apart both.1)

all-append : (q : ℕ → Bool) (xs ys : List ℕ) → list_all q xs ≡ true → list_all q ys ≡ true → list_all q (xs ++ ys) ≡ true
all-append q [] ys h k = k
all-append q (x ∷ xs) ys h k = let both = and_parts (q x) (list_all q xs) h in and_from (q x) (list_all q (xs ++ ys)) both.0 (all-append q xs ys both.1 k)

-- the numbers of a place that is told are from 1, and no greater than the greatest one
pub record IsTold (p : ArgumentPlace) : Type 0 where
  pub line : 0 < p.line
  pub line_small : p.line ≤ greatest_number
  pub column : 0 < p.column
  pub column_small : p.column ≤ greatest_number

digits-of : (n : ℕ) → n ≤ greatest_number → AreDigits (decimal n)
digits-of n small = digits_decimal numerals n (omega arith)

place-read : (p : ArgumentPlace) → IsTold p → place_of (decimal p.line ++ 46 ∷ decimal p.column) ≡ Some p
place-read p h =
    let by : Parts → Option ArgumentPlace = λ x. place_by (number_of x.before) (number_of x.behind) in
    ap (option_and_then by) (parted-first 46 (decimal p.line) (decimal p.column) (others-digits 46 (decimal p.line) refl (digits-of p.line h.line_small)))
    ∙ ap₂ place_by (number-read p.line h.line h.line_small) (number-read p.column h.column h.column_small)

pub description-read : (d : Described) → IsTold d.anchor → IsTold d.cursor → described_of (description_text d) ≡ Some d
description-read d h k =
    let anchor_text : List ℕ = decimal d.anchor.line ++ 46 ∷ decimal d.anchor.column in
    let cursor_text : List ℕ = decimal d.cursor.line ++ 46 ∷ decimal d.cursor.column in
    let others : list_all (is_other 44) anchor_text ≡ true =
    all-append (is_other 44) (decimal d.anchor.line) (46 ∷ decimal d.anchor.column) (others-digits 44 (decimal d.anchor.line) refl (digits-of d.anchor.line h.line_small)) (others-digits 44 (decimal d.anchor.column) refl (digits-of d.anchor.column h.column_small)) in
    let by : Parts → Option Described = λ x. described_by (place_of x.before) (place_of x.behind) in
    ap described_of (sym (append_assoc (decimal d.anchor.line) (46 ∷ decimal d.anchor.column) (44 ∷ cursor_text)))
    ∙ ap (option_and_then by) (parted-first 44 anchor_text cursor_text others)
    ∙ ap₂ described_by (place-read d.anchor h) (place-read d.cursor k)
