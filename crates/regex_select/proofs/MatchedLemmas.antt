-- What matches select, as selections.
use Rattle.std.proofs.Common.{◌≡◌, ℕ, zero, suc, ◌+◌, ◌-◌, ◌<◌, ◌≤◌, Bool, true, false, cond, eqb, List, [], ◌∷◌, ◌++◌, length, get_or, take, flat_map, Option, None, option_to_list, refl, sym, ap, ap₂, ◌∙◌, arith, inl, inr, ◌⊎◌, append-nil, length-append, take_all, eq-eqb, lt-ltb, le-ltb, leb-true}
use Rattle.std.specs.Prelude.{min}
use Rattle.std.proofs.lemmas.Bool.{false≢true}
use Rattle.std.proofs.lemmas.List.{take_more, map-append, length-map, take-map, get_or-map}
use Rattle.std.proofs.lemmas.List.Concat.{flat_map-append}
use Rattle.std.proofs.lemmas.List.Folds.{length-flat_map-take}
use Rattle.text_model.specs.declared.coords.Coord.{Coord}
use Rattle.text_model.specs.Coords.{is_at_most}
use Rattle.text_model.specs.Texts.{offset, IsPlace, IsPlaceOrEnd, lines_of, joined, line_count, nth_line}
use Rattle.text_model.proofs.PlaceLemmas.{is_at_most-offset, leb_true}
use Rattle.line_buffer.proofs.StepLemmas.{offset-line_before}
use Rattle.list_model.specs.Ranges.{Range}
use Rattle.selection_set.specs.declared.sel.Sel.{Sel}
use Rattle.selection_set.specs.Inside.{range_of, IsInside}
use Rattle.selection_set.specs.Listing.{ranges_of}
use Rattle.regex_ports.specs.declared.pattern.Span.{Span}
use Rattle.regex_select.specs.declared.error.SelectError.{SelectError}
use Rattle.regex_select.specs.declared.error.SelectError.TheVariants.{NoMatch, TooMany, NoMemory}
use Rattle.regex_select.specs.declared.walking.SelectionWalk.{SelectionWalk}
use Rattle.regex_select.specs.Causes.{IsCause, IsForRoom}
use Rattle.regex_ports.specs.Matching.{chars_before}
use Rattle.regex_select.specs.Selecting.{part_between, match_end, selected_by}
use Rattle.regex_select.specs.Walks.{own_chars, IsWalk}
use Rattle.regex_select.proofs.WalkLemmas.{own-length, walk-place}

-- ---- what a match selects

abbrev pub straight : ℕ → ℕ → Range
straight low high = record { low = low; high = high; turned = false; target = None }

pub part-some : (a b : ℕ) → a < b → part_between a b ≡ straight a (b - 1) ∷ []
part-some a b h = ap (λ t. cond t (straight a (b - 1) ∷ []) []) (lt-ltb a b h)

pub part-none : (a b : ℕ) → b ≤ a → part_between a b ≡ []
part-none a b h = ap (λ t. cond t (straight a (b - 1) ∷ []) []) (le-ltb a b h)

pub end-empty : (chars : List ℕ) (from to : ℕ) → to ≤ from → match_end chars from to ≡ min (from + 1) (length chars)
end-empty chars from to h = ap (λ t. cond t to (min (from + 1) (length chars))) (le-ltb from to h)

pub between-inside : (text : List ℕ) (sel : Sel) (first end : SelectionWalk) (high : Coord) → IsInside text sel → IsWalk text sel first → IsWalk text sel end → first.passed < end.passed → IsPlace text high → offset text high + 1 ≡ offset text end.at
    → IsInside text (record { low = first.at; high = high; turned = false; target = None })
between-inside text sel first end high i f e h p l = record {
  low = walk-place text sel first i f (omega (arith, h, e.few));
  high = p;
  ordered = omega (arith, l, f.reached, e.reached, h);
}

-- a walk that hasn't passed all of a selection stands in it
pub walk-inside : (text : List ℕ) (sel : Sel) (w : SelectionWalk) → IsInside text sel → IsWalk text sel w → is_at_most w.at sel.high ≡ true → w.passed < length (own_chars text sel)
walk-inside text sel w i f t =
    let ordered : offset text w.at ≤ offset text sel.high = leb-true (offset text w.at) (offset text sel.high) (sym (is_at_most-offset text w.at sel.high f.place (inl i.high)) ∙ t) in
    omega (arith, ordered, f.reached, own-length text sel i)

pub walk-over : (text : List ℕ) (sel : Sel) (w : SelectionWalk) → IsInside text sel → IsWalk text sel w → is_at_most w.at sel.high ≡ false → length (own_chars text sel) ≤ w.passed
walk-over text sel w i f n =
    let beyond : offset text sel.high < offset text w.at = go (ways (offset text sel.high) (offset text w.at)) in
    omega (arith, beyond, f.reached, own-length text sel i)
  where
    ways : (a b : ℕ) → (a < b) ⊎ (b ≤ a)
    ways a b = grind arith

    go : (offset text sel.high < offset text w.at) ⊎ (offset text w.at ≤ offset text sel.high) → offset text sel.high < offset text w.at
    go (inl l) = l
    go (inr h) = absurd (false≢true (sym n ∙ is_at_most-offset text w.at sel.high f.place (inl i.high) ∙ leb_true (offset text w.at) (offset text sel.high) h))

-- an empty match selects the character at its place
pub empty-range : (text : List ℕ) (sel : Sel) (first end : SelectionWalk) → IsWalk text sel first → end.passed ≤ first.passed → first.passed < length (own_chars text sel)
    → straight (offset text first.at) (offset text first.at) ∷ [] ≡ part_between (offset text sel.low + first.passed) (offset text sel.low + match_end (own_chars text sel) first.passed end.passed)
empty-range text sel first end f h l =
    let one : match_end (own_chars text sel) first.passed end.passed ≡ first.passed + 1 = end-empty (own_chars text sel) first.passed end.passed h ∙ omega (arith, l) in
    let low : offset text sel.low + first.passed ≡ offset text first.at = sym f.reached in
    let last : offset text sel.low + (first.passed + 1) - 1 ≡ offset text first.at = omega (arith, f.reached) in
    sym (ap (λ m. part_between (offset text sel.low + first.passed) (offset text sel.low + m)) one
    ∙ part-some (offset text sel.low + first.passed) (offset text sel.low + (first.passed + 1)) (omega arith)
    ∙ ap₂ (λ a b. straight a b ∷ []) low last)

-- and nothing at the end
pub nothing-range : (text : List ℕ) (sel : Sel) (first end : SelectionWalk) → end.passed ≤ first.passed → length (own_chars text sel) ≤ first.passed
    → [] ≡ part_between (offset text sel.low + first.passed) (offset text sel.low + match_end (own_chars text sel) first.passed end.passed)
nothing-range text sel first end h l =
    let most : match_end (own_chars text sel) first.passed end.passed ≤ first.passed = omega (arith, end-empty (own_chars text sel) first.passed end.passed h, l) in
    sym (part-none (offset text sel.low + first.passed) (offset text sel.low + match_end (own_chars text sel) first.passed end.passed) (omega (arith, most)))

-- ---- refusals

pub room-more : (e : SelectError) (m n : ℕ) → m ≤ n → IsForRoom e m → IsForRoom e n
room-more NoMatch m n h r = r
room-more TooMany m n h r = omega (arith, h, r)
room-more NoMemory m n h r = r

pub room-cause : (e : SelectError) (n : ℕ) (rs : List Range) → n ≤ length rs → IsForRoom e n → IsCause e rs
room-cause NoMatch n rs h r = absurd r
room-cause TooMany n rs h r = omega (arith, h, r)
room-cause NoMemory n rs h r = r

-- ---- the place before another one

start-of : (text : List ℕ) (at : Coord) (n : ℕ) → n + 1 ≡ at.line → IsPlaceOrEnd text at → n < line_count text
start-of text at n e (inl p) = omega (arith, e, p.on_line)
start-of text at n e (inr w) = omega (arith, e, ap (λ (c : Coord). c.line) w)

some-line : (text : List ℕ) (at : Coord) → at.column ≡ 0 → 0 < offset text at → 0 < at.line
some-line text at z l = go (at.line) refl
  where
    go : (n : ℕ) → at.line ≡ n → 0 < at.line
    go zero e = let none : offset text at ≡ 0 = ap (λ m. length (joined (take m (lines_of text))) + at.column) e ∙ omega (arith, z) in absurd (omega (arith, l, none))
    go (suc n) e = omega (arith, e)

pub first-line : (text : List ℕ) (at b : Coord) → 0 < offset text at → IsPlaceOrEnd text at → at.column ≡ 0 → b.line ≡ at.line - 1 → b.column + 1 ≡ length (nth_line text (at.line - 1)) → offset text b + 1 ≡ offset text at
first-line text at b l h z e last =
    let some : 0 < at.line = some-line text at z l in
    let next : at.line - 1 + 1 ≡ at.line = omega (arith, some) in
    let there : at.line - 1 < line_count text = start-of text at (at.line - 1) next h in
    let begin : offset text (let p : Coord = record { line = b.line; column = 0 } in p) ≡ offset text (let p : Coord = record { line = at.line - 1; column = 0 } in p) = ap (λ m. offset text (let p : Coord = record { line = m; column = 0 } in p)) e in
    omega (arith, begin, z, offset-line_before text (at.line - 1) at.line b.column next there last)

-- ---- one match after another

-- what was found between two walks is what the match selects
pub found-is : (text : List ℕ) (sel : Sel) (spans : List Span) (n : ℕ) (d : Span) (first end : SelectionWalk) (found : Option Sel) → first.passed ≡ chars_before (own_chars text sel) (get_or spans n d).start → end.passed ≡ chars_before (own_chars text sel) (get_or spans n d).end
    → ranges_of text (option_to_list found) ≡ part_between (offset text sel.low + first.passed) (offset text sel.low + match_end (own_chars text sel) first.passed end.passed)
    → ranges_of text (option_to_list found) ≡ selected_by (own_chars text sel) (offset text sel.low) (get_or spans n d)
found-is text sel spans n d first end found f e r = r ∙ ap₂ (λ a b. part_between (offset text sel.low + a) (offset text sel.low + match_end (own_chars text sel) a b)) f e

-- it is among all that is selected
pub found-within : (text : List ℕ) (f : Span → List Range) (spans : List Span) (n : ℕ) (d : Span) (start list : List Sel) (found : Option Sel) → n < length spans → ranges_of text list ≡ ranges_of text start ++ flat_map f (take n spans) → ranges_of text (option_to_list found) ≡ f (get_or spans n d)
    → length list + length (option_to_list found) ≤ length start + length (flat_map f spans)
found-within text f spans n d start list found l h r =
    omega (
      arith,
      ap length h,
      length-append (ranges_of text start) (flat_map f (take n spans)),
      length-map list (range_of text),
      length-map start (range_of text),
      length-map (option_to_list found) (range_of text),
      ap length r,
      length-flat_map-take f spans n d l,
    )

-- ---- one selection after another

pub matched-more : (text : List ℕ) (f : Range → List Range) (all : List Sel) (n : ℕ) (d x : Sel) → n < length all → x ≡ get_or all n d → flat_map f (ranges_of text (take (n + 1) all)) ≡ flat_map f (ranges_of text (take n all)) ++ f (range_of text x)
matched-more text f all n d x h e =
    ap (λ l. flat_map f (ranges_of text l)) (take_more all n d h) ∙ ap (flat_map f) (map-append (range_of text) (take n all) (get_or all n d ∷ [])) ∙ flat_map-append f (ranges_of text (take n all)) (range_of text (get_or all n d) ∷ [])
    ∙ ap (λ l. flat_map f (ranges_of text (take n all)) ++ l) (append-nil (f (range_of text (get_or all n d)))) ∙ ap (λ (s : Sel). flat_map f (ranges_of text (take n all)) ++ f (range_of text s)) (sym e)

pub matched-whole : (text : List ℕ) (f : Range → List Range) (all : List Sel) (n : ℕ) → length all ≤ n → flat_map f (ranges_of text (take n all)) ≡ flat_map f (ranges_of text all)
matched-whole text f all n h = ap (λ l. flat_map f (ranges_of text l)) (take_all n all h)

pub matched-within : (text : List ℕ) (f : Range → List Range) (all : List Sel) (n : ℕ) (d x : Sel) → n < length all → x ≡ get_or all n d → length (flat_map f (ranges_of text (take n all))) + length (f (range_of text x)) ≤ length (flat_map f (ranges_of text all))
matched-within text f all n d x h e =
    let own : length (f (range_of text x)) ≡ length (f (get_or (ranges_of text all) n (range_of text d))) = ap (λ r. length (f r)) (ap (range_of text) e ∙ sym (get_or-map (range_of text) all n d (range_of text d) h)) in
    let before : length (flat_map f (ranges_of text (take n all))) ≡ length (flat_map f (take n (ranges_of text all))) = ap (λ rs. length (flat_map f rs)) (sym (take-map (range_of text) n all)) in
    omega (arith, own, before, length-flat_map-take f (ranges_of text all) n (range_of text d) (omega (arith, h, length-map all (range_of text))))

-- a list that was pushed to, and what was selected in one selection
pub pushed-matched : (text : List ℕ) (f : Range → List Range) (all before after : List Sel) (n : ℕ) (d x : Sel) (own : List Range) → n < length all → x ≡ get_or all n d → own ≡ f (range_of text x) → ranges_of text before ≡ flat_map f (ranges_of text (take n all)) → ranges_of text after ≡ ranges_of text before ++ own
    → ranges_of text after ≡ flat_map f (ranges_of text (take (n + 1) all))
pushed-matched text f all before after n d x own h e o b a = a ∙ ap₂ (λ l m. l ++ m) b o ∙ sym (matched-more text f all n d x h e)

-- a list that isn't empty
pub not-none : (n : ℕ) (b : Bool) → b ≡ eqb n 0 → b ≡ false → 0 < n
not-none zero b e f = absurd (false≢true (sym f ∙ e ∙ eq-eqb 0 0 refl))
not-none (suc n) b e f = omega arith
