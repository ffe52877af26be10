-- The parts of a selection, line by line.
use Rattle.std.proofs.Common.{◌≡◌, ℕ, zero, suc, ◌+◌, ◌-◌, ◌<◌, ◌≤◌, Bool, true, false, cond, eqb, ◌||◌, List, [], ◌∷◌, ◌++◌, length, filter, None, refl, sym, ap, ap₂, ◌∙◌, arith, append_assoc, length-append, eq-eqb, ne_eqb}
use Rattle.std.specs.List.{range_with_len}
use Rattle.std.proofs.lemmas.List.{length-map}
use Rattle.text_model.specs.declared.coords.Coord.{Coord}
use Rattle.text_model.specs.Texts.{IsText, IsPlace, offset, lines_of}
use Rattle.text_model.proofs.PlaceLemmas.{nth_line_is_line}
use Rattle.line_buffer.proofs.FlatLemmas.{start-le-offset}
use Rattle.list_model.specs.Ranges.{Range}
use Rattle.selection_set.specs.declared.sel.Sel.{Sel}
use Rattle.selection_set.specs.Inside.{range_of, IsInside}
use Rattle.selection_set.specs.Listing.{ranges_of}
use Rattle.motion_keys.specs.Landmarks.{line_begin}
use Rattle.list_keys.specs.Cuts.{ends_line, ends_part, parts_between, parts_of}
use Rattle.list_keys.proofs.EachLemmas.{ranges-more}
use Rattle.list_keys.proofs.LineLemmas.{at_column, line_size, next_start, inner_ends_not, last_ends}

range-more : (from limit : ℕ) → from < limit → range_with_len from (limit - from) ≡ from ∷ range_with_len (from + 1) (limit - (from + 1))
range-more from limit l = let e : limit - from ≡ suc (limit - (from + 1)) = omega arith in ap (range_with_len from) e

-- the first number that passes a test, of those from a number on
filter-first : (test : ℕ → Bool) (gap from e limit : ℕ) → e ≡ from + gap → e < limit → ((k : ℕ) → from ≤ k → k < e → test k ≡ false) → test e ≡ true
    → filter test (range_with_len from (limit - from)) ≡ e ∷ filter test (range_with_len (e + 1) (limit - (e + 1)))
filter-first test zero from e limit eq l h t =
    let same : from ≡ e = omega arith in
    ap (filter test) (range-more from limit (omega arith))
    ∙ ap (λ b. cond b (from ∷ filter test (range_with_len (from + 1) (limit - (from + 1)))) (filter test (range_with_len (from + 1) (limit - (from + 1))))) (ap test same ∙ t)
    ∙ ap (λ o. o ∷ filter test (range_with_len (o + 1) (limit - (o + 1)))) same
filter-first test (suc gap) from e limit eq l h t =
    ap (filter test) (range-more from limit (omega arith))
    ∙ ap (λ b. cond b (from ∷ filter test (range_with_len (from + 1) (limit - (from + 1)))) (filter test (range_with_len (from + 1) (limit - (from + 1))))) (h from (omega arith) (omega arith))
    ∙ filter-first test gap (from + 1) e limit (omega arith) l (λ k f b. h k (omega arith) b) t

-- a part
abbrev pub part_range : Bool → ℕ → ℕ → Range
part_range turned low high = record { low = low; high = high; turned = turned; target = None }

-- the parts from an offset on
abbrev pub parts_from : List ℕ → Bool → ℕ → ℕ → List Range
parts_from text turned high from = parts_between turned from (filter (ends_part text high) (range_with_len from (high + 1 - from)))

first-part : (text : List ℕ) (turned : Bool) (high from e : ℕ) → from ≤ e → e ≤ high → ((k : ℕ) → from ≤ k → k < e → ends_part text high k ≡ false) → ends_part text high e ≡ true
    → parts_from text turned high from ≡ part_range turned from e ∷ parts_from text turned high (e + 1)
first-part text turned high from e l m h t =
    ap (parts_between turned from) (filter-first (ends_part text high) (e - from) from e (high + 1) (omega arith) (omega arith) h t)

none-behind : (text : List ℕ) (turned : Bool) (high from : ℕ) → high < from → parts_from text turned high from ≡ []
none-behind text turned high from l = let e : high + 1 - from ≡ zero = omega arith in ap (λ n. parts_between turned from (filter (ends_part text high) (range_with_len from n))) e

inner-part : (text : List ℕ) (high o : ℕ) → ends_line text o ≡ false → o < high → ends_part text high o ≡ false
inner-part text high o e l = ap₂ (λ a b. a || b) e (ne_eqb o high (λ s. absurd (omega (arith, s))))

or-true : (a b : Bool) → b ≡ true → a || b ≡ true
or-true true b e = refl
or-true false b e = e

-- a line of the selection that isn't its last
pub line-part : (text : List ℕ) (turned : Bool) (from end high : Coord) → IsText text → IsPlace text from → IsPlace text high → from.line < high.line → end.line ≡ from.line → end.column + 1 ≡ line_size text end.line
    → parts_from text turned (offset text high) (offset text from) ≡ part_range turned (offset text from) (offset text end) ∷ parts_from text turned (offset text high) (line_begin text (from.line + 1))
line-part text turned from end high t p q l s e =
    let last : offset text end + 1 ≡ line_begin text (from.line + 1) = omega (arith, next_start text from.line p.on_line, ap (line_begin text) s, ap (line_size text) s) in
    let behind : line_begin text (from.line + 1) ≤ offset text high = start-le-offset text (from.line + 1) high (omega arith) in
    first-part text turned (offset text high) (offset text from) (offset text end) (omega (arith, last, next_start text from.line p.on_line, p.in_line)) (omega (arith, last, behind))
    (λ k f b. inner-part text (offset text high) k (inner_ends_not text from.line k t p.on_line (omega arith) (omega (arith, last))) (omega (arith, last, behind)))
    (ap (λ b. b || eqb (offset text end) (offset text high)) (last_ends text from.line (offset text end) t p.on_line last))
    ∙ ap (λ o. part_range turned (offset text from) (offset text end) ∷ parts_from text turned (offset text high) o) last

-- its last line
pub last-part : (text : List ℕ) (turned : Bool) (from high : Coord) → IsText text → IsPlace text from → IsPlace text high → from.line ≡ high.line → offset text from ≤ offset text high
    → parts_from text turned (offset text high) (offset text from) ≡ part_range turned (offset text from) (offset text high) ∷ []
last-part text turned from high t p q l o =
    let same : line_begin text from.line ≡ line_begin text high.line = ap (line_begin text) l in
    first-part text turned (offset text high) (offset text from) (offset text high) o (omega arith)
    (λ k f b. inner-part text (offset text high) k (inner_ends_not text high.line k t q.on_line (omega (arith, same)) (omega (arith, next_start text high.line q.on_line, q.in_line))) b)
    (or-true (ends_line text (offset text high)) (eqb (offset text high) (offset text high)) (eq-eqb (offset text high) (offset text high) refl))
    ∙ ap (λ rest. part_range turned (offset text from) (offset text high) ∷ rest) (none-behind text turned (offset text high) (offset text high + 1) (omega arith))

parts-length : (text : List ℕ) (turned : Bool) (d : ℕ) (from high : Coord) → IsText text → IsPlace text from → IsPlace text high → high.line ≡ from.line + d → offset text from ≤ offset text high
    → length (parts_from text turned (offset text high) (offset text from)) ≡ d + 1
parts-length text turned zero from high t p q e o = ap length (last-part text turned from high t p q (omega arith) o)
parts-length text turned (suc d) from high t p q e o =
    let some : 0 < line_size text from.line = (nth_line_is_line text from.line t p.on_line).some in
    let there : from.line + 1 < length (lines_of text) = omega (arith, q.on_line) in
    let next : IsPlace text (at_column (from.line + 1) 0) = record { on_line = there; in_line = (nth_line_is_line text (from.line + 1) t there).some } in
    ap length (line-part text turned from (at_column from.line (line_size text from.line - 1)) high t p q (omega arith) refl (omega (arith, some)))
    ∙ ap suc (parts-length text turned d (at_column (from.line + 1) 0) high t next q (omega arith) (start-le-offset text (from.line + 1) high (omega arith)))
    ∙ omega arith

-- how many parts there are
pub parts-count : (text : List ℕ) (sel : Sel) → IsText text → IsInside text sel → sel.low.line ≤ sel.high.line → sel.high.line - sel.low.line + 1 ≡ length (parts_of text (range_of text sel))
parts-count text sel t h l = sym (parts-length text sel.turned (sel.high.line - sel.low.line) sel.low sel.high t h.low h.high (omega arith) h.ordered)

-- a part was put behind a list
pub part-pushed : (text : List ℕ) (list : List Sel) (x : Sel) (r : Range) (rest whole : List Range) → range_of text x ≡ r → ranges_of text list ++ r ∷ rest ≡ whole → ranges_of text (list ++ x ∷ []) ++ rest ≡ whole
part-pushed text list x r rest whole e h =
    ap (λ l. l ++ rest) (ranges-more text list x) ∙ append_assoc (ranges_of text list) (range_of text x ∷ []) rest ∙ ap (λ (q : Range). ranges_of text list ++ q ∷ rest) e ∙ h

-- there was room for it
pub part-room : (text : List ℕ) (list old : List Sel) (r : Range) (rest parts : List Range) (capacity : ℕ) → ranges_of text list ++ r ∷ rest ≡ ranges_of text old ++ parts → length old + length parts ≤ capacity → length list + 1 ≤ capacity
part-room text list old r rest parts capacity h k =
    omega (arith, ap length h, length-append (ranges_of text list) (r ∷ rest), length-append (ranges_of text old) parts, length-map list (range_of text), length-map old (range_of text), k)
