-- What matches leave of a selection, part after part.
use Rattle.std.proofs.Common.{◌≡◌, ℕ, ◌+◌, ◌-◌, ◌<◌, ◌≤◌, false, List, [], ◌∷◌, ◌++◌, length, get_or, drop, Option, None, option_to_list, sym, ap, ap₂, ◌∙◌, arith, length-append, add-one}
use Rattle.std.proofs.Math.Seq.{drop-cons}
use Rattle.std.proofs.lemmas.List.{length-map}
use Rattle.text_model.specs.declared.coords.Coord.{Coord}
use Rattle.text_model.specs.Texts.{offset}
use Rattle.regex_ports.specs.declared.pattern.Span.{Span}
use Rattle.selection_set.specs.declared.sel.Sel.{Sel}
use Rattle.selection_set.specs.Inside.{range_of, IsInside}
use Rattle.selection_set.specs.Listing.{ranges_of}
use Rattle.regex_select.specs.declared.walking.SelectionWalk.{SelectionWalk}
use Rattle.regex_ports.specs.Matching.{chars_before}
use Rattle.regex_select.specs.Selecting.{part_between, parts_from}
use Rattle.regex_select.specs.Walks.{own_chars, IsWalk}
use Rattle.regex_select.proofs.WalkLemmas.{own-length, walk-place}
use Rattle.regex_select.proofs.MatchedLemmas.{straight, part-some, part-none}

-- what lies between two walks
pub part-range : (text : List ℕ) (sel : Sel) (first end : SelectionWalk) (high : Coord) → IsWalk text sel first → IsWalk text sel end → first.passed < end.passed → offset text high + 1 ≡ offset text end.at
    → straight (offset text first.at) (offset text high) ∷ [] ≡ part_between (offset text sel.low + first.passed) (offset text sel.low + end.passed)
part-range text sel first end high f e h l =
    let low : offset text sel.low + first.passed ≡ offset text first.at = sym f.reached in
    let last : offset text sel.low + end.passed - 1 ≡ offset text high = omega (arith, l, e.reached) in
    sym (part-some (offset text sel.low + first.passed) (offset text sel.low + end.passed) (omega (arith, h)) ∙ ap₂ (λ a b. straight a b ∷ []) low last)

pub no-part : (low first end : ℕ) → end ≤ first → [] ≡ part_between (low + first) (low + end)
no-part low first end h = sym (part-none (low + first) (low + end) (omega (arith, h)))

-- what lies from a walk on
pub rest-range : (text : List ℕ) (sel : Sel) (first : SelectionWalk) → IsInside text sel → IsWalk text sel first → first.passed < length (own_chars text sel)
    → straight (offset text first.at) (offset text sel.high) ∷ [] ≡ part_between (offset text sel.low + first.passed) (offset text sel.low + length (own_chars text sel))
rest-range text sel first i f l =
    let low : offset text sel.low + first.passed ≡ offset text first.at = sym f.reached in
    let last : offset text sel.low + length (own_chars text sel) - 1 ≡ offset text sel.high = omega (arith, own-length text sel i) in
    sym (part-some (offset text sel.low + first.passed) (offset text sel.low + length (own_chars text sel)) (omega (arith, l)) ∙ ap₂ (λ a b. straight a b ∷ []) low last)

pub rest-inside : (text : List ℕ) (sel : Sel) (first : SelectionWalk) → IsInside text sel → IsWalk text sel first → first.passed < length (own_chars text sel) → IsInside text (record { low = first.at; high = sel.high; turned = false; target = None })
rest-inside text sel first i f l = record { low = walk-place text sel first i f l; high = i.high; ordered = omega (arith, f.reached, l, own-length text sel i) }

-- ---- part after part

parts-next : (chars : List ℕ) (low from : ℕ) (spans : List Span) (n : ℕ) (d : Span) → n < length spans
    → parts_from chars low from (drop n spans) ≡ part_between (low + from) (low + chars_before chars (get_or spans n d).start) ++ parts_from chars low (chars_before chars (get_or spans n d).end) (drop (n + 1) spans)
parts-next chars low from spans n d l =
    ap (parts_from chars low from) (drop-cons spans n d l)
    ∙ ap (λ k. part_between (low + from) (low + chars_before chars (get_or spans n d).start) ++ parts_from chars low (chars_before chars (get_or spans n d).end) (drop k spans)) (sym (add-one n))

-- what was pushed, and what is still to come, are all parts
abbrev pub AreToCome : List ℕ → List ℕ → ℕ → List Span → ℕ → List Sel → List Sel → ℕ → Type 0
AreToCome text chars low spans n start list from = ranges_of text list ++ parts_from chars low from (drop n spans) ≡ ranges_of text start ++ parts_from chars low 0 spans

pub parts-within : (text chars : List ℕ) (low : ℕ) (spans : List Span) (n : ℕ) (d : Span) (start before : List Sel) (found : Option Sel) (from to : ℕ) → n < length spans → to ≡ chars_before chars (get_or spans n d).start → ranges_of text (option_to_list found) ≡ part_between (low + from) (low + to)
    → AreToCome text chars low spans n start before from → length before + length (option_to_list found) ≤ length start + length (parts_from chars low 0 spans)
parts-within text chars low spans n d start before found from to l t r h =
    omega (
      arith,
      ap length h,
      length-append (ranges_of text before) (parts_from chars low from (drop n spans)),
      length-append (ranges_of text start) (parts_from chars low 0 spans),
      ap length (parts-next chars low from spans n d l),
      length-append (part_between (low + from) (low + chars_before chars (get_or spans n d).start)) (parts_from chars low (chars_before chars (get_or spans n d).end) (drop (n + 1) spans)),
      ap length (r ∙ ap (λ b. part_between (low + from) (low + b)) t),
      length-map before (range_of text),
      length-map start (range_of text),
      length-map (option_to_list found) (range_of text),
    )
