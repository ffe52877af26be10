-- What is told is read back.
use Rattle.std.proofs.Common.{◌≡◌, ℕ, suc, ◌+◌, ◌-◌, ◌<◌, ◌≤◌, eqb, Bool, true, false, cond, List, [], ◌∷◌, length, map, get_or, Some, refl, sym, ap, ap₂, ◌∙◌, arith}
use Rattle.std.specs.Char.{len_utf8}
use Rattle.std.specs.List.{AllByRecursion}
use Rattle.std.proofs.lemmas.Str.{len_utf8_bounds}
use Rattle.std.proofs.lemmas.List.Sums.{sum_by_more}
use Rattle.text_model.specs.declared.coords.Coord.{Coord}
use Rattle.text_model.specs.Texts.{IsStored, IsPlace, offset, coord_at, nth_line, lines_of, onto_first}
use Rattle.text_model.proofs.PlaceLemmas.{offset-coord_at, IsPlace-coord_at, start-more, start-le, start-end, length-lines}
use Rattle.list_model.specs.Ranges.{Range, Selected, cursor, anchor}
use Rattle.list_model.specs.Settling.{settled}
use Rattle.kak_text.specs.Bytes.{bytes_before}
use Rattle.selection_set.specs.Listing.{range_between}
use Rattle.command_forms.specs.declared.places.Columns.{Columns}
use Rattle.command_forms.specs.declared.places.Columns.TheVariants.{Bytes, Characters}
use Rattle.selection_texts.specs.Telling.{column_told, place_told, told, told_text}
use Rattle.selection_texts.specs.Meaning.{column_meant, line_meant, offset_meant, meant, list_meant}
use Rattle.selection_texts.proofs.ColumnLemmas.{holding-is, bytes-few}
use Rattle.selection_texts.proofs.TextLemmas.{IsTold, description-read}
use Rattle.command_forms.specs.Places.{described_of}

column-back : (columns : Columns) (line : List ℕ) (n k : ℕ) → n < length line → k ≡ column_told columns line n → column_meant columns line k ≡ n
column-back Bytes line n k there is =
    let ends : n + 1 < length line → k < bytes_before line (n + 1) = λ more. omega (arith, is, sum_by_more len_utf8 line n 0 there, (len_utf8_bounds (get_or line n 0)).0) in
    let begins : bytes_before line n ≤ k = omega (arith, is) in
    sym (holding-is line n k there begins ends)
column-back Characters line n k there is = omega (arith, is)

-- an offset is meant by the place that is told of it
place-back : (columns : Columns) (text : List ℕ) (o : ℕ) → o < length text → offset_meant columns text (place_told columns text o) ≡ o
place-back columns text o inside =
    let at : Coord = coord_at text o in
    let place : IsPlace text at = IsPlace-coord_at text o inside in
    let line_is : line_meant text (at.line + 1) ≡ at.line = omega (arith, place.on_line) in
    let k : ℕ = column_told columns (nth_line text at.line) at.column in
    let same : (k + 1) - 1 ≡ k = omega arith in
    let column_is : column_meant columns (nth_line text at.line) ((k + 1) - 1) ≡ at.column = column-back columns (nth_line text at.line) at.column ((k + 1) - 1) place.in_line same in
    let by_line : ℕ → ℕ = λ l. offset text (record { line = l; column = column_meant columns (nth_line text l) ((k + 1) - 1) }) in
    let by_column : ℕ → ℕ = λ m. offset text (record { line = at.line; column = m }) in
    ap by_line line_is ∙ ap by_column column_is ∙ offset-coord_at text o (omega arith)

end-below : (b : Bool) (low high n : ℕ) → low ≤ high → high < n → cond b low high < n
end-below true low high n h k = omega arith
end-below false low high n h k = k

other-below : (b : Bool) (low high n : ℕ) → low ≤ high → high < n → cond b high low < n
other-below true low high n h k = k
other-below false low high n h k = omega arith

pub told-meant : (columns : Columns) (text : List ℕ) (r : Range) → IsStored text → r.low ≤ r.high → r.high < length text → meant columns text (told columns text r) ≡ range_between (anchor r) (cursor r)
told-meant columns text r stored ordered inside =
    ap₂ range_between (place-back columns text (anchor r) (other-below r.turned r.low r.high (length text) ordered inside))
    (place-back columns text (cursor r) (end-below r.turned r.low r.high (length text) ordered inside))

onto-length : (c : ℕ) (ls : List (List ℕ)) → length (onto_first c ls) ≤ suc (length ls)
onto-length c [] = omega arith
onto-length c (l ∷ ls) = omega arith

onto-some : (c n : ℕ) (ls : List (List ℕ)) → length ls ≤ n → length (onto_first c ls) ≤ suc n
onto-some c n ls h = omega (arith, onto-length c ls)

-- each line has a character
lines-few : (text : List ℕ) → length (lines_of text) ≤ length text
lines-few [] = omega arith
lines-few (c ∷ cs) =
    let P : Bool → Type 0 = λ b. length (cond b ((c ∷ []) ∷ lines_of cs) (onto_first c (lines_of cs))) ≤ suc (length cs) in
    elim (eqb c 10) as P [ true ↦ omega (arith, lines-few cs) | false ↦ onto-some c (length cs) (lines_of cs) (lines-few cs) ]

-- a line is no longer than the text
line-short : (text : List ℕ) (n : ℕ) → n < length (lines_of text) → length (nth_line text n) ≤ length text
line-short text n h = omega (arith, start-more (lines_of text) n h, start-le (lines_of text) (n + 1) (length (lines_of text)) (omega arith), start-end (lines_of text), length-lines text)

place-told : (text : List ℕ) (o : ℕ) → IsStored text → o < length text → IsTold (place_told Bytes text o)
place-told text o stored inside =
    let at : Coord = coord_at text o in
    let place : IsPlace text at = IsPlace-coord_at text o inside in
    record {
      line = omega arith;
      line_small = omega (arith, place.on_line, lines-few text, stored.small);
      column = omega arith;
      column_small = omega (arith, bytes-few (nth_line text at.line) at.column, line-short text at.line place.on_line, stored.small);
    }

pub text-read : (text : List ℕ) (r : Range) → IsStored text → r.low ≤ r.high → r.high < length text → described_of (told_text text r) ≡ Some (told Bytes text r)
text-read text r stored ordered inside =
    description-read (told Bytes text r) (place-told text (anchor r) stored (other-below r.turned r.low r.high (length text) ordered inside))
    (place-told text (cursor r) stored (end-below r.turned r.low r.high (length text) ordered inside))

-- each of a list is inside the text, in order
pub each-meant : (columns : Columns) (text : List ℕ) (rs : List Range) → IsStored text → AllByRecursion (λ (r : Range). (r.low ≤ r.high) × (r.high < length text)) rs → map (meant columns text) (map (told columns text) rs) ≡ map (λ (r : Range). range_between (anchor r) (cursor r)) rs
each-meant columns text [] stored inside = refl
each-meant columns text (r ∷ rs) stored inside =
    ap₂ (λ (x : Range) (xs : List Range). x ∷ xs) (told-meant columns text r stored inside.0.0 inside.0.1) (each-meant columns text rs stored inside.1)

pub list-meant : (columns : Columns) (text : List ℕ) (rs : List Range) → IsStored text → AllByRecursion (λ (r : Range). (r.low ≤ r.high) × (r.high < length text)) rs → list_meant columns text (map (told columns text) rs) ≡ settled (record { list = map (λ (r : Range). range_between (anchor r) (cursor r)) rs; main = 0 })
list-meant columns text rs stored inside =
    let with_first : List Range → Selected = λ list. settled (record { list = list; main = 0 }) in
    ap with_first (each-meant columns text rs stored inside)
