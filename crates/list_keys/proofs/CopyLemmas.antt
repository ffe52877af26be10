-- Copies of selections, by coordinates.
use Rattle.std.proofs.Common.{◌≡◌, ℕ, ◌+◌, ◌-◌, ◌<◌, ◌≤◌, Bool, true, false, ◌&&◌, ltb, List, [], length, Option, None, Some, refl, sym, ap, ap₂, subst, ◌∙◌, arith, inl, inr, le_of_lt, le-leb, le-ltb, ltb-true}
use Rattle.std.specs.Prelude.{option_map}
use Rattle.text_model.specs.declared.coords.Coord.{Coord}
use Rattle.text_model.specs.declared.TheConstants.{MAX_CHARS}
use Rattle.text_model.specs.Texts.{offset, IsPlace, lines_of, nth_line, line_count}
use Rattle.std.proofs.lemmas.List.{get_or_past}
use Rattle.text_model.proofs.PlaceLemmas.{coord_at-offset, offset-earlier_line, three_ways, leb_false}
use Rattle.line_buffer.proofs.FlatLemmas.{ordered_lines}
use Rattle.list_model.specs.Ranges.{Range}
use Rattle.selection_set.specs.declared.sel.Sel.{Sel}
use Rattle.selection_set.specs.Inside.{range_of, IsInside}
use Rattle.motion_keys.specs.Extremes.{least_between}
use Rattle.motion_keys.specs.Landmarks.{line_begin}
use Rattle.motion_keys.proofs.ExtremeLemmas.{least-here, least-later}
use Rattle.directions.specs.declared.direction.Direction.{Direction}
use Rattle.directions.specs.declared.direction.Direction.TheVariants.{Forward, Backward}
use Rattle.list_keys.specs.Copies.{away, is_copy_there, copy_of}
use Rattle.list_keys.proofs.FoundLemmas.{only-least}

-- whether two coordinates have their places so many lines away
abbrev pub has_both : Direction → List ℕ → Coord → Coord → ℕ → Bool
has_both direction text low high d = is_copy_there direction text d low && is_copy_there direction text d high

-- the range between them
abbrev pub range_away : Direction → List ℕ → Coord → Coord → Bool → ℕ → Range
range_away direction text low high turned d = record { low = offset text (away direction d low); high = offset text (away direction d high); turned = turned; target = None }

-- the copy of a selection, where the search goes on from a number
abbrev pub copy_from : Direction → List ℕ → Coord → Coord → Bool → ℕ → Option Range
copy_from direction text low high turned from = option_map (range_away direction text low high turned) (least_between (has_both direction text low high) from (line_count text))

pub copy-start : (text : List ℕ) (direction : Direction) (sel : Sel) → IsInside text sel → copy_of direction text (range_of text sel) ≡ copy_from direction text sel.low sel.high sel.turned (sel.high.line - sel.low.line + 1)
copy-start text direction sel h =
    let P : Coord → Coord → Option Range = λ a b. copy_from direction text a b sel.turned (b.line - a.line + 1) in
    ap₂ P (coord_at-offset text sel.low h.low) (coord_at-offset text sel.high h.high)

-- the first line of a selection isn't below its last
pub spans : (text : List ℕ) (sel : Sel) → IsInside text sel → sel.low.line ≤ sel.high.line
spans text sel h = ordered_lines text sel.low sel.high (inl h.low) (inl h.high) h.ordered

-- so many lines away there are lines
abbrev pub IsNear : List ℕ → Direction → Sel → ℕ → Type 0
IsNear text Forward sel d = (sel.low.line ≤ sel.high.line) × (sel.high.line + d < line_count text)
IsNear text Backward sel d = (sel.low.line ≤ sel.high.line) × (d ≤ sel.low.line) × (sel.high.line < line_count text)

pub near-lines : (text : List ℕ) (direction : Direction) (sel : Sel) (d limit : ℕ) → IsInside text sel → sel.low.line ≤ sel.high.line → (direction ≡ Forward → limit ≡ line_count text - sel.high.line) → (direction ≡ Backward → limit ≡ sel.low.line + 1) → d < limit → IsNear text direction sel d
near-lines text Forward sel d limit h o e f l = (o, omega (arith, e refl))
near-lines text Backward sel d limit h o e f l = (o, omega (arith, f refl), h.high.on_line)

-- these lines have numbers of the code
pub low-fits : (text : List ℕ) (direction : Direction) (sel : Sel) (d : ℕ) → IsNear text direction sel d → line_count text ≤ MAX_CHARS → direction ≡ Forward → sel.low.line + d < 4294967296
low-fits text Forward sel d h m e = omega (arith, h.0, h.1)
low-fits text Backward sel d h m e = cc

pub high-fits : (text : List ℕ) (direction : Direction) (sel : Sel) (d : ℕ) → IsNear text direction sel d → line_count text ≤ MAX_CHARS → direction ≡ Forward → sel.high.line + d < 4294967296
high-fits text Forward sel d h m e = omega (arith, h.1)
high-fits text Backward sel d h m e = cc

pub low-reaches : (text : List ℕ) (direction : Direction) (sel : Sel) (d : ℕ) → IsNear text direction sel d → direction ≡ Backward → d ≤ sel.low.line
low-reaches text Forward sel d h e = cc
low-reaches text Backward sel d h e = h.1

pub high-reaches : (text : List ℕ) (direction : Direction) (sel : Sel) (d : ℕ) → IsNear text direction sel d → direction ≡ Backward → d ≤ sel.high.line
high-reaches text Forward sel d h e = cc
high-reaches text Backward sel d h e = omega (arith, h.0, h.1)

pub low-line : (text : List ℕ) (direction : Direction) (sel : Sel) (d : ℕ) → IsNear text direction sel d → (away direction d sel.low).line < line_count text
low-line text Forward sel d h = omega (arith, h.0, h.1)
low-line text Backward sel d h = omega (arith, h.0, h.1, h.2)

pub high-line : (text : List ℕ) (direction : Direction) (sel : Sel) (d : ℕ) → IsNear text direction sel d → (away direction d sel.high).line < line_count text
high-line text Forward sel d h = h.1
high-line text Backward sel d h = omega (arith, h.2)

near-count : (text : List ℕ) (direction : Direction) (sel : Sel) (d : ℕ) → IsNear text direction sel d → d < line_count text
near-count text Forward sel d h = omega (arith, h.1)
near-count text Backward sel d h = omega (arith, h.0, h.1, h.2)

-- upwards, so many lines are there
abbrev IsUpto : Direction → ℕ → Coord → Type 0
IsUpto Forward d at = Unit {0}
IsUpto Backward d at = d ≤ at.line

-- whether the column is there, once the line is
there-is : (text : List ℕ) (direction : Direction) (at : Coord) (d : ℕ) → IsUpto direction d at → is_copy_there direction text d at ≡ ltb (away direction d at).column (length (nth_line text (away direction d at).line))
there-is text Forward at d h = refl
there-is text Backward at d h = ap (λ b. b && ltb at.column (length (nth_line text (at.line - d)))) (le-leb d at.line h)

upto_low : (text : List ℕ) (direction : Direction) (sel : Sel) (d : ℕ) → IsNear text direction sel d → IsUpto direction d sel.low
upto_low text Forward sel d h = tt
upto_low text Backward sel d h = h.1

upto_high : (text : List ℕ) (direction : Direction) (sel : Sel) (d : ℕ) → IsNear text direction sel d → IsUpto direction d sel.high
upto_high text Forward sel d h = tt
upto_high text Backward sel d h = omega (arith, h.0, h.1)

-- a test of what was read
tested : (text : List ℕ) (direction : Direction) (at moved : Coord) (d : ℕ) (b : Bool) → IsUpto direction d at → moved ≡ away direction d at → ltb moved.column (length (nth_line text moved.line)) ≡ b → is_copy_there direction text d at ≡ b
tested text direction at moved d b h m e = there-is text direction at d h ∙ ap (λ (c : Coord). ltb c.column (length (nth_line text c.line))) (sym m) ∙ e

-- a place so many lines away
place_away : (text : List ℕ) (moved : Coord) → moved.line < length (lines_of text) → ltb moved.column (length (nth_line text moved.line)) ≡ true → IsPlace text moved
place_away text moved l e = record { on_line = l; in_line = ltb-true moved.column (length (nth_line text moved.line)) e }

-- both are there
pub copy-found : (text : List ℕ) (direction : Direction) (sel : Sel) (d : ℕ) (low high : Coord) (whole : Option Range) → IsNear text direction sel d → low ≡ away direction d sel.low → high ≡ away direction d sel.high → ltb low.column (length (nth_line text low.line)) ≡ true → ltb high.column (length (nth_line text high.line)) ≡ true
    → whole ≡ copy_from direction text sel.low sel.high sel.turned d → whole ≡ Some (record { low = offset text low; high = offset text high; turned = sel.turned; target = None })
copy-found text direction sel d low high whole n e f t u w =
    let P : Coord → Coord → Option Range = λ a b. Some (record { low = offset text a; high = offset text b; turned = sel.turned; target = None }) in
    w ∙ ap (option_map (range_away direction text sel.low sel.high sel.turned)) (least-here (has_both direction text sel.low sel.high) d (line_count text) (near-count text direction sel d n)
    (ap₂ (λ a b. a && b) (tested text direction sel.low low d true (upto_low text direction sel d n) e t) (tested text direction sel.high high d true (upto_high text direction sel d n) f u)))
    ∙ ap₂ P (sym e) (sym f)

pub copy-inside : (text : List ℕ) (direction : Direction) (sel : Sel) (d : ℕ) (low high : Coord) → IsInside text sel → IsNear text direction sel d → low ≡ away direction d sel.low → high ≡ away direction d sel.high → ltb low.column (length (nth_line text low.line)) ≡ true → ltb high.column (length (nth_line text high.line)) ≡ true
    → IsInside text (record { low = low; high = high; turned = sel.turned; target = None })
copy-inside text direction sel d low high h n e f t u =
    let p : IsPlace text low = place_away text low (subst (λ (c : Coord). c.line < length (lines_of text)) (sym e) (low-line text direction sel d n)) t in
    let q : IsPlace text high = place_away text high (subst (λ (c : Coord). c.line < length (lines_of text)) (sym f) (high-line text direction sel d n)) u in
    record {
      low = p;
      high = q;
      ordered = elim (three_ways sel.low.line sel.high.line) [
        | inl lt ↦ le_of_lt (offset-earlier_line text low high p (let k : low.line < high.line = apart direction n e f lt in k))
        | inr rest ↦ elim rest [ inl same ↦ level low high (same_line direction e f same) (columns same direction e f) | inr gt ↦ absurd (disordered direction n gt) ]
      ];
    }
  where
    apart : (b : Direction) → IsNear text b sel d → low ≡ away b d sel.low → high ≡ away b d sel.high → sel.low.line < sel.high.line → low.line < high.line
    apart Forward k i j l = omega (arith, ap (λ (c : Coord). c.line) i, ap (λ (c : Coord). c.line) j)
    apart Backward k i j l = omega (arith, k.1, ap (λ (c : Coord). c.line) i, ap (λ (c : Coord). c.line) j)

    disordered : (b : Direction) → IsNear text b sel d → sel.high.line < sel.low.line → ⊥
    disordered Forward k g = omega (arith, k.0)
    disordered Backward k g = omega (arith, k.0)

    same_line : (b : Direction) → low ≡ away b d sel.low → high ≡ away b d sel.high → sel.low.line ≡ sel.high.line → low.line ≡ high.line
    same_line Forward i j s = omega (arith, ap (λ (c : Coord). c.line) i, ap (λ (c : Coord). c.line) j)
    same_line Backward i j s = omega (arith, ap (λ (c : Coord). c.line) i, ap (λ (c : Coord). c.line) j)

    columns : sel.low.line ≡ sel.high.line → (b : Direction) → low ≡ away b d sel.low → high ≡ away b d sel.high → low.column ≤ high.column
    columns s Forward i j = omega (arith, h.ordered, ap (line_begin text) s, ap (λ (c : Coord). c.column) i, ap (λ (c : Coord). c.column) j)
    columns s Backward i j = omega (arith, h.ordered, ap (line_begin text) s, ap (λ (c : Coord). c.column) i, ap (λ (c : Coord). c.column) j)

    level : (a b : Coord) → a.line ≡ b.line → a.column ≤ b.column → offset text a ≤ offset text b
    level a b s c = omega (arith, ap (line_begin text) s)

-- one is not, so the search goes on
pub copy-later-low : (text : List ℕ) (direction : Direction) (sel : Sel) (d : ℕ) (low : Coord) (whole : Option Range) → IsNear text direction sel d → low ≡ away direction d sel.low → ltb low.column (length (nth_line text low.line)) ≡ false
    → whole ≡ copy_from direction text sel.low sel.high sel.turned d → whole ≡ copy_from direction text sel.low sel.high sel.turned (d + 1)
copy-later-low text direction sel d low whole n e t w =
    w ∙ ap (option_map (range_away direction text sel.low sel.high sel.turned)) (least-later (has_both direction text sel.low sel.high) d (line_count text) (near-count text direction sel d n)
    (ap (λ a. a && is_copy_there direction text d sel.high) (tested text direction sel.low low d false (upto_low text direction sel d n) e t)))

and-false : (a b : Bool) → b ≡ false → a && b ≡ false
and-false true b k = k
and-false false b k = refl

pub copy-later-high : (text : List ℕ) (direction : Direction) (sel : Sel) (d : ℕ) (high : Coord) (whole : Option Range) → IsNear text direction sel d → high ≡ away direction d sel.high → ltb high.column (length (nth_line text high.line)) ≡ false
    → whole ≡ copy_from direction text sel.low sel.high sel.turned d → whole ≡ copy_from direction text sel.low sel.high sel.turned (d + 1)
copy-later-high text direction sel d high whole n e t w =
    w ∙ ap (option_map (range_away direction text sel.low sel.high sel.turned)) (least-later (has_both direction text sel.low sel.high) d (line_count text) (near-count text direction sel d n)
    (and-false (is_copy_there direction text d sel.low) (is_copy_there direction text d sel.high) (tested text direction sel.high high d false (upto_high text direction sel d n) e t)))

-- beyond the lines there is none
no_line : (text : List ℕ) (n column : ℕ) → line_count text ≤ n → ltb column (length (nth_line text n)) ≡ false
no_line text n column l = ap (λ (line : List ℕ). ltb column (length line)) (get_or_past (lines_of text) n [] l) ∙ le-ltb column 0 (omega arith)

pub copy-over : (text : List ℕ) (direction : Direction) (sel : Sel) (d limit : ℕ) (whole : Option Range) → (direction ≡ Forward → limit ≡ line_count text - sel.high.line) → (direction ≡ Backward → limit ≡ sel.low.line + 1) → limit ≤ d
    → whole ≡ copy_from direction text sel.low sel.high sel.turned d → whole ≡ None
copy-over text direction sel d limit whole e f l w =
    w ∙ ap (option_map (range_away direction text sel.low sel.high sel.turned)) (only-least (has_both direction text sel.low sel.high) d (line_count text) None (λ k g b. none direction e f k g))
  where
    none : (b : Direction) → (b ≡ Forward → limit ≡ line_count text - sel.high.line) → (b ≡ Backward → limit ≡ sel.low.line + 1) → (k : ℕ) → d ≤ k → has_both b text sel.low sel.high k ≡ false
    none Forward e f k g = and-false (is_copy_there Forward text k sel.low) (is_copy_there Forward text k sel.high) (no_line text (sel.high.line + k) sel.high.column (omega (arith, e refl)))
    none Backward e f k g = ap (λ (b : Bool). (b && ltb sel.low.column (length (nth_line text (sel.low.line - k)))) && is_copy_there Backward text k sel.high) (leb_false k sel.low.line (omega (arith, f refl)))
