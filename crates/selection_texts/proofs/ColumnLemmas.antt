-- Columns of lines by bytes, and places by coordinates.
use Rattle.std.proofs.Common.{subst, map, ◌≡◌, ℕ, zero, suc, ◌+◌, ◌-◌, ◌*◌, ◌<◌, ◌≤◌, cond, List, [], ◌∷◌, length, take, refl, sym, ap, ◌∙◌, arith, le-ltb, lt-ltb}
use Rattle.std.specs.Prelude.{sum_by}
use Rattle.std.specs.Char.{len_utf8}
use Rattle.std.proofs.lemmas.Str.{len_utf8_bounds}
use Rattle.std.proofs.lemmas.List.Sums.{sum_by-cons, sum_by-take-le}
use Rattle.std.specs.List.{AllByRecursion}
use Rattle.std.proofs.lemmas.List.{length-map}
use Rattle.list_model.specs.Ranges.{Range, Selected, IsRange}
use Rattle.list_model.specs.Settling.{settled}
use Rattle.selection_set.specs.declared.sel.Pair.{Pair}
use Rattle.selection_set.specs.Listing.{Listed, IsSettledIn, IsPairInside, range_of_pair}
use Rattle.selection_set.specs.Held.{selected}
use Rattle.selection_set.proofs.HeldLemmas.{selected-is}
use Rattle.text_model.specs.declared.coords.Coord.{Coord}
use Rattle.text_model.specs.Texts.{IsPlace, offset, nth_line}
use Rattle.text_model.proofs.PlaceLemmas.{coord_at-offset}
use Rattle.kak_text.specs.Bytes.{bytes_before}
use Rattle.command_forms.specs.declared.places.Columns.{Columns}
use Rattle.command_forms.specs.declared.places.ArgumentPlace.{ArgumentPlace}
use Rattle.selection_texts.specs.Telling.{column_told, place_told}
use Rattle.selection_texts.specs.Meaning.{char_holding}

bytes-next : (c : ℕ) (cs : List ℕ) (n : ℕ) → bytes_before (c ∷ cs) (n + 1) ≡ len_utf8 c + bytes_before cs n
bytes-next c cs n =
    let next : n + 1 ≡ suc n = omega arith in
    ap (λ k. sum_by len_utf8 (take k (c ∷ cs))) next ∙ sum_by-cons len_utf8 c (take n cs)

bytes-suc : (c : ℕ) (cs : List ℕ) (n : ℕ) → bytes_before (c ∷ cs) (suc n) ≡ len_utf8 c + bytes_before cs n
bytes-suc c cs n = sum_by-cons len_utf8 c (take n cs)

one_more : (m : ℕ) → suc m ≡ m + 1
one_more m = omega arith

nothing : (cs : List ℕ) → bytes_before cs 0 ≡ 0
nothing [] = refl
nothing (c ∷ cs) = refl

-- the character that begins at a byte or before it, and ends behind it, holds it
pub holding-is : (line : List ℕ) (n byte : ℕ) → n < length line → bytes_before line n ≤ byte → (n + 1 < length line → byte < bytes_before line (n + 1)) → n ≡ char_holding line byte
holding-is [] n byte there begins ends = absurd (omega arith)
holding-is (c ∷ []) n byte there begins ends = omega arith
holding-is (c ∷ d ∷ cs) zero byte there begins ends =
    let inside : 0 + 1 < length (c ∷ d ∷ cs) = omega arith in
    let below : byte < len_utf8 c = omega (arith, ends inside, bytes-next c (d ∷ cs) 0, nothing (d ∷ cs)) in
    sym (ap (λ t. cond t 0 (suc (char_holding (d ∷ cs) (byte - len_utf8 c)))) (lt-ltb byte (len_utf8 c) below))
holding-is (c ∷ d ∷ cs) (suc m) byte there begins ends =
    let here = bytes-suc c (d ∷ cs) m in
    let past : len_utf8 c ≤ byte = omega (arith, begins, here) in
    let rest : m ≡ char_holding (d ∷ cs) (byte - len_utf8 c) =
    holding-is (d ∷ cs) m (byte - len_utf8 c) (omega (arith, there)) (omega (arith, begins, here)) (λ k. let inside : suc m + 1 < length (c ∷ d ∷ cs) = omega (arith, k) in omega (arith, ends inside, bytes-next c (d ∷ cs) (suc m), ap (bytes_before (d ∷ cs)) (one_more m), past)) in
    ap suc rest ∙ sym (ap (λ t. cond t 0 (suc (char_holding (d ∷ cs) (byte - len_utf8 c)))) (le-ltb byte (len_utf8 c) past))

four-each : (cs : List ℕ) → sum_by len_utf8 cs ≤ 4 * length cs
four-each [] = omega arith
four-each (c ∷ cs) = omega (arith, sum_by-cons len_utf8 c cs, (len_utf8_bounds c).1, four-each cs)

-- each character takes four bytes at most
pub bytes-few : (line : List ℕ) (n : ℕ) → bytes_before line n ≤ 4 * length line
bytes-few line n = omega (arith, sum_by-take-le len_utf8 line n, four-each line)

-- the place of a coordinate
pub place-at : (columns : Columns) (text : List ℕ) (at : Coord) (column : ℕ) → IsPlace text at → column ≡ column_told columns (nth_line text at.line) at.column → (let p : ArgumentPlace = record { line = at.line + 1; column = column + 1 } in p) ≡ place_told columns text (offset text at)
place-at columns text at column h e =
    let by_column : ℕ → ArgumentPlace = λ k. record { line = at.line + 1; column = k + 1 } in
    let by_coord : Coord → ArgumentPlace = λ a. record { line = a.line + 1; column = column_told columns (nth_line text a.line) a.column + 1 } in
    ap by_column e ∙ ap by_coord (sym (coord_at-offset text at h))

first-ranges : (text : List ℕ) (pairs : List Pair) → AllByRecursion IsRange (map (range_of_pair text) pairs)
first-ranges text [] = tt
first-ranges text (p ∷ ps) = (omega arith, first-ranges text ps)

-- the list that was settled of pairs
pub list-of_pairs : (text : List ℕ) (pairs slice : List Pair) (rs : List Range) (s : Listed) → slice ≡ pairs → AllByRecursion (IsPairInside text) pairs → 0 < length pairs → map (range_of_pair text) pairs ≡ rs → ((t : List ℕ) → AllByRecursion (IsPairInside t) slice → IsSettledIn t (map (range_of_pair t) slice) 0 s) → selected text s ≡ settled (record { list = rs; main = 0 })
list-of_pairs text pairs slice rs s same inside some value settles =
    let whole : IsSettledIn text (map (range_of_pair text) pairs) 0 s = subst (λ ps. IsSettledIn text (map (range_of_pair text) ps) 0 s) same (settles text (subst (AllByRecursion (IsPairInside text)) (sym same) inside)) in
    let given : Selected = record { list = map (range_of_pair text) pairs; main = 0 } in
    let there : 0 < length (map (range_of_pair text) pairs) = omega (arith, length-map pairs (range_of_pair text)) in
    let with_main : List Range → Selected = λ list. settled (record { list = list; main = 0 }) in
    selected-is text given s (first-ranges text pairs) there whole ∙ ap with_main value
