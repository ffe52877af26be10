-- The ends that selections are cut to.
use Rattle.std.proofs.Common.{◌≡◌, ℕ, ◌+◌, ◌<◌, ◌≤◌, Bool, true, false, List, length, Option, None, Some, refl, sym, ap, subst, ◌∙◌, arith, inl, leb-true, leb-false}
use Rattle.std.specs.Prelude.{if◌then◌else◌}
use Rattle.text_model.specs.declared.coords.Coord.{Coord}
use Rattle.text_model.specs.Coords.{is_at_most}
use Rattle.text_model.specs.Texts.{IsText, IsPlace, offset, lines_of}
use Rattle.text_model.proofs.PlaceLemmas.{is_at_most-offset, nth_line_is_line, start-le}
use Rattle.line_buffer.proofs.FlatLemmas.{start-le-offset}
use Rattle.list_model.specs.Ranges.{Range}
use Rattle.selection_set.specs.declared.sel.Sel.{Sel}
use Rattle.selection_set.specs.Inside.{range_of, IsInside}
use Rattle.motion_keys.specs.Extremes.{least_between, greatest_below}
use Rattle.motion_keys.proofs.ExtremeLemmas.{least-here, greatest-here}
use Rattle.motion_keys.specs.Landmarks.{line_begin}
use Rattle.list_keys.specs.Cuts.{ends_line, starts_line, cut_to}
use Rattle.list_keys.proofs.FoundLemmas.{only-least, only-greatest}
use Rattle.list_keys.proofs.LineLemmas.{at_column, line_size, next_start, inner_ends_not, last_ends, start_starts, inner_starts_not}

-- a place is on its line
on_its_line : (text : List ℕ) (at : Coord) → IsPlace text at → offset text at < line_begin text (at.line + 1)
on_its_line text at p = omega (arith, next_start text at.line p.on_line, p.in_line)

-- the order of two places, by what was tested
pub not-behind : (text : List ℕ) (a b : Coord) (tested : Bool) → IsPlace text a → IsPlace text b → tested ≡ is_at_most a b → tested ≡ true → offset text a ≤ offset text b
not-behind text a b tested p q e t = leb-true (offset text a) (offset text b) (sym (is_at_most-offset text a b (inl p) (inl q)) ∙ sym e ∙ t)

pub behind : (text : List ℕ) (a b : Coord) (tested : Bool) → IsPlace text a → IsPlace text b → tested ≡ is_at_most a b → tested ≡ false → offset text b < offset text a
behind text a b tested p q e t = leb-false (offset text a) (offset text b) (sym (is_at_most-offset text a b (inl p) (inl q)) ∙ sym e ∙ t)

-- where a selection begins at a line start
pub start-here : (text : List ℕ) (sel : Sel) → IsText text → IsInside text sel → sel.low.column ≡ 0 → least_between (starts_line text) (offset text sel.low) (offset text sel.high + 1) ≡ Some (offset text sel.low)
start-here text sel t h e =
    let same : line_begin text sel.low.line ≡ offset text sel.low = omega arith in
    least-here (starts_line text) (offset text sel.low) (offset text sel.high + 1) (omega (arith, h.ordered)) (subst (λ o. starts_line text o ≡ true) same (start_starts text sel.low.line t h.low.on_line))

-- where it doesn't, and goes on to the next line
pub start-next : (text : List ℕ) (sel : Sel) → IsText text → IsInside text sel → 0 < sel.low.column → sel.low.line < sel.high.line → IsPlace text (at_column (sel.low.line + 1) 0) × (least_between (starts_line text) (offset text sel.low) (offset text sel.high + 1) ≡ Some (line_begin text (sel.low.line + 1)))
start-next text sel t h c l =
    let there : sel.low.line + 1 < length (lines_of text) = omega (arith, h.high.on_line) in
    let behind : line_begin text (sel.low.line + 1) ≤ offset text sel.high = start-le-offset text (sel.low.line + 1) sel.high (omega arith) in (
      record { on_line = there; in_line = some_on (sel.low.line + 1) there },
      only-least (starts_line text) (offset text sel.low) (offset text sel.high + 1) (Some (line_begin text (sel.low.line + 1))) (record {
        inside = (omega (arith, on_its_line text sel.low h.low), omega (arith, behind));
        passes = start_starts text (sel.low.line + 1) t there;
        least = λ k f b. inner_starts_not text sel.low.line k t h.low.on_line (omega arith) b;
      }),
    )
  where
    some_on : (n : ℕ) → n < length (lines_of text) → 0 < line_size text n
    some_on n l = (nth_line_is_line text n t l).some

-- where it doesn't, and ends on the same line
pub start-none : (text : List ℕ) (sel : Sel) → IsText text → IsInside text sel → 0 < sel.low.column → sel.high.line ≤ sel.low.line → least_between (starts_line text) (offset text sel.low) (offset text sel.high + 1) ≡ None
start-none text sel t h c l =
    let end : offset text sel.high < line_begin text (sel.low.line + 1) = omega (arith, on_its_line text sel.high h.high, start-le (lines_of text) (sel.high.line + 1) (sel.low.line + 1) (omega arith)) in
    only-least (starts_line text) (offset text sel.low) (offset text sel.high + 1) None (λ k f b. inner_starts_not text sel.low.line k t h.low.on_line (omega arith) (omega (arith, end)))

-- where a place is a newline's, where it is not and a line goes before, and where none does
pub end-here : (text : List ℕ) (at : Coord) → IsText text → IsPlace text at → at.column + 1 ≡ line_size text at.line → greatest_below (ends_line text) (offset text at + 1) ≡ Some (offset text at)
end-here text at t p e =
    greatest-here (ends_line text) (offset text at) (offset text at + 1) refl (last_ends text at.line (offset text at) t p.on_line (omega (arith, next_start text at.line p.on_line)))

pub end-before : (text : List ℕ) (at before : Coord) → IsText text → IsPlace text at → at.column + 1 < line_size text at.line → before.line + 1 ≡ at.line → before.column + 1 ≡ line_size text before.line → greatest_below (ends_line text) (offset text at + 1) ≡ Some (offset text before)
end-before text at before t p c l e =
    let there : before.line < length (lines_of text) = omega (arith, p.on_line) in
    let same : line_begin text at.line ≡ line_begin text (before.line + 1) = ap (line_begin text) (sym l) in
    let last : offset text before + 1 ≡ line_begin text at.line = omega (arith, next_start text before.line there, same) in
    only-greatest (ends_line text) (offset text at + 1) (Some (offset text before)) (record {
      inside = omega (arith, last);
      passes = last_ends text before.line (offset text before) t there (omega (arith, last, same));
      greatest = λ k f b. inner_ends_not text at.line k t p.on_line (omega (arith, last)) (omega (arith, next_start text at.line p.on_line));
    })

pub end-none : (text : List ℕ) (at : Coord) → IsText text → IsPlace text at → at.column + 1 < line_size text at.line → at.line ≡ 0 → greatest_below (ends_line text) (offset text at + 1) ≡ None
end-none text at t p c z =
    let first : line_begin text at.line ≡ 0 = ap (line_begin text) z in
    only-greatest (ends_line text) (offset text at + 1) None (λ k b. inner_ends_not text at.line k t p.on_line (omega (arith, first)) (omega (arith, next_start text at.line p.on_line)))

-- a selection cut to two ends, by coordinates and by offsets
pub cut-inside : (text : List ℕ) (low high : Coord) (flag : Bool) → IsPlace text low → IsPlace text high → is_at_most low high ≡ true → IsInside text (record { low = low; high = high; turned = flag; target = None })
cut-inside text low high flag l h e = record { low = l; high = h; ordered = leb-true (offset text low) (offset text high) (sym (is_at_most-offset text low high (inl l) (inl h)) ∙ e) }

-- the selection, or none
abbrev pub choice : (text : List ℕ) (sel : Sel) (low high : Coord) → Bool → Option Range
choice text sel low high b = if b then Some (record { low = offset text low; high = offset text high; turned = sel.turned; target = None }) else None

pub cut-is : (text : List ℕ) (sel : Sel) (low high : Coord) → IsPlace text low → IsPlace text high → choice text sel low high (is_at_most low high) ≡ cut_to (range_of text sel) (Some (offset text low)) (Some (offset text high))
cut-is text sel low high l h = ap (choice text sel low high) (is_at_most-offset text low high (inl l) (inl h))
