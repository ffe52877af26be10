-- Walks over the characters of a selection.
use Rattle.std.proofs.Common.{◌≡◌, ℕ, zero, suc, ◌+◌, ◌-◌, ◌*◌, ◌<◌, ◌≤◌, List, [], ◌∷◌, length, get_or, take, drop, slice_range, refl, sym, ap, ap₂, ◌∙◌, arith, inl, inr, add-one, length-drop}
use Rattle.std.specs.Prelude.{slice_index, encode_utf8, IsAscii}
use Rattle.std.proofs.lemmas.List.{get_or-take, get_or-drop, length-take-le, drop-drop, drop-take, take-append-le, take-take}
use Rattle.std.proofs.lemmas.Str.{encode_ascii}
use Rattle.text_model.specs.declared.coords.Coord.{Coord}
use Rattle.text_model.specs.Texts.{offset, nth_line, lines_of, joined, IsStored, IsPlace, IsPlaceOrEnd}
use Rattle.text_model.proofs.PlaceLemmas.{offset-below, offset-end, offset-earlier_line, drop-offset, start-more, start-le, three_ways}
use Rattle.line_buffer.proofs.StepLemmas.{next_line_place}
use Rattle.selection_set.specs.declared.sel.Sel.{Sel}
use Rattle.selection_set.specs.Inside.{IsInside}
use Rattle.regex_select.specs.declared.walking.SelectionWalk.{SelectionWalk}
use Rattle.regex_ports.specs.Matching.{chars_before}
use Rattle.regex_ports.proofs.CharLemmas.{encode-some, chars-some, chars-step}
use Rattle.regex_select.specs.Walks.{bytes_of_first, own_chars, IsWalk}

-- ---- bytes and characters

bytes-suc : (cs : List ℕ) (k : ℕ) → k < length cs → bytes_of_first cs (suc k) ≡ bytes_of_first cs k + length (encode_utf8 (get_or cs k 0))
bytes-suc [] k h = absurd (omega arith)
bytes-suc (c ∷ cs) zero h = omega arith
bytes-suc (c ∷ cs) (suc k) h = omega (arith, bytes-suc cs k (omega arith))

pub bytes-more : (cs : List ℕ) (k : ℕ) → k < length cs → bytes_of_first cs (k + 1) ≡ bytes_of_first cs k + length (encode_utf8 (get_or cs k 0))
bytes-more cs k h = ap (bytes_of_first cs) (add-one k) ∙ bytes-suc cs k h

pub chars-behind : (cs : List ℕ) (k b : ℕ) → bytes_of_first cs k ≤ b → k ≤ length cs → chars_before cs b ≡ k + chars_before (drop k cs) (b - bytes_of_first cs k)
chars-behind cs zero b h l = let same : b ≡ b - 0 = omega arith in ap (chars_before cs) same ∙ omega arith
chars-behind [] (suc k) b h l = absurd (omega arith)
chars-behind (c ∷ cs) (suc k) b h l =
    let rest : b - length (encode_utf8 c) - bytes_of_first cs k ≡ b - (length (encode_utf8 c) + bytes_of_first cs k) = omega arith in
    let further : chars_before cs (b - length (encode_utf8 c)) ≡ k + chars_before (drop k cs) (b - length (encode_utf8 c) - bytes_of_first cs k) = chars-behind cs k (b - length (encode_utf8 c)) (omega (arith, h)) (omega (arith, l)) in
    let same : chars_before (drop k cs) (b - length (encode_utf8 c) - bytes_of_first cs k) ≡ chars_before (drop k cs) (b - (length (encode_utf8 c) + bytes_of_first cs k)) = ap (chars_before (drop k cs)) rest in
    chars-some c cs b (omega (arith, h, encode-some c)) ∙ omega (arith, further, same)

-- ---- the characters of a selection

pub own-length : (text : List ℕ) (sel : Sel) → IsInside text sel → length (own_chars text sel) + offset text sel.low ≡ offset text sel.high + 1
own-length text sel h =
    let below : offset text sel.high < length text = offset-below text sel.high h.high in
    let taken : length (own_chars text sel) ≡ offset text sel.high + 1 - offset text sel.low = length-take-le (offset text sel.high + 1 - offset text sel.low) (drop (offset text sel.low) text) (omega (arith, below, length-drop (offset text sel.low) text)) in
    omega (arith, taken, h.ordered)

pub own-at : (text : List ℕ) (sel : Sel) (k : ℕ) → IsInside text sel → k < length (own_chars text sel) → get_or (own_chars text sel) k 0 ≡ get_or text (offset text sel.low + k) 0
own-at text sel k h l = get_or-take (offset text sel.high + 1 - offset text sel.low) (drop (offset text sel.low) text) k 0 (omega (arith, l, own-length text sel h)) ∙ get_or-drop (offset text sel.low) text k 0

-- ---- walks

pub walk-start : (text : List ℕ) (sel : Sel) → IsInside text sel → IsWalk text sel (record { at = sel.low; passed = 0; bytes = 0 })
walk-start text sel h = record { place = inl h.low; reached = omega arith; few = omega arith; bytes = refl; small = omega arith }

place-of : (text : List ℕ) (at : Coord) → IsPlaceOrEnd text at → offset text at < length text → IsPlace text at
place-of text at (inl p) l = p
place-of text at (inr e) l = let end : offset text at ≡ length text = ap (offset text) e ∙ offset-end text in absurd (omega (arith, end, l))

pub walk-place : (text : List ℕ) (sel : Sel) (w : SelectionWalk) → IsInside text sel → IsWalk text sel w → w.passed < length (own_chars text sel) → IsPlace text w.at
walk-place text sel w h walk l = place-of text w.at walk.place (omega (arith, walk.reached, l, own-length text sel h, offset-below text sel.high h.high))

pub walk-step : (text : List ℕ) (sel : Sel) (w : SelectionWalk) (b : Coord) (c n : ℕ) → IsInside text sel → IsWalk text sel w → w.passed < length (own_chars text sel) → IsPlaceOrEnd text b → offset text b ≡ offset text w.at + 1
    → c ≡ slice_index text (offset text w.at) → n ≡ length (encode_utf8 c) → n ≤ 4 → IsWalk text sel (record { at = b; passed = w.passed + 1; bytes = w.bytes + n })
walk-step text sel w b c n h walk l place next r e few =
    let own : c ≡ get_or (own_chars text sel) w.passed 0 = r ∙ ap (slice_index text) walk.reached ∙ sym (own-at text sel w.passed h l) in
    let size : n ≡ length (encode_utf8 (get_or (own_chars text sel) w.passed 0)) = e ∙ ap (λ x. length (encode_utf8 x)) own in
    record {
      place = place;
      reached = omega (arith, next, walk.reached);
      few = omega (arith, l);
      bytes = omega (arith, walk.bytes, size, bytes-more (own_chars text sel) w.passed l);
      small = omega (arith, walk.small, few);
    }

-- ---- a line at a time

bytes-split : (cs : List ℕ) (p k : ℕ) → p ≤ length cs → bytes_of_first cs (p + k) ≡ bytes_of_first cs p + bytes_of_first (drop p cs) k
bytes-split cs zero k h = let same : zero + k ≡ k = omega arith in ap (bytes_of_first cs) same ∙ omega arith
bytes-split [] (suc p) k h = absurd (omega arith)
bytes-split (c ∷ cs) (suc p) k h =
    let e : suc p + k ≡ suc (p + k) = omega arith in
    ap (bytes_of_first (c ∷ cs)) e ∙ omega (arith, bytes-split cs p k (omega (arith, h)))

bytes-take : (cs : List ℕ) (m k : ℕ) → k ≤ m → bytes_of_first (take m cs) k ≡ bytes_of_first cs k
bytes-take cs m zero h = refl
bytes-take cs zero (suc k) h = absurd (omega (arith, h))
bytes-take [] (suc m) (suc k) h = refl
bytes-take (c ∷ cs) (suc m) (suc k) h = ap (λ t. length (encode_utf8 c) + t) (bytes-take cs m k (omega (arith, h)))

bytes-ascii-by : (cs : List ℕ) (k : ℕ) → IsAscii cs → k ≤ length cs → bytes_of_first cs k ≡ k
bytes-ascii-by cs zero a h = refl
bytes-ascii-by [] (suc k) a h = absurd (omega (arith, h))
bytes-ascii-by (c ∷ cs) (suc k) a h = omega (arith, ap length (encode_ascii c (a 0)), bytes-ascii-by cs k (λ i. a (suc i)) (omega (arith, h)))

-- ASCII characters are one byte each
pub bytes-ascii : (cs : List ℕ) (k : ℕ) → IsAscii cs → k ≤ length cs → bytes_of_first cs k ≡ k
bytes-ascii cs k a h = bytes-ascii-by cs k a h

-- where the last of some characters begins before a byte
pub chars-begun : (cs : List ℕ) (k b : ℕ) → 0 < k → k ≤ length cs → bytes_of_first cs (k - 1) < b → chars_before cs b ≡ k + chars_before (drop k cs) (b - bytes_of_first cs k)
chars-begun cs k b some few h =
    let j : ℕ = k - 1 in
    let e : j + 1 ≡ k = omega (arith, some) in
    chars-behind cs j b (omega (arith, h)) (omega (arith, few)) ∙ chars-step cs j b (bytes_of_first cs j) (bytes_of_first cs (j + 1)) (omega (arith, few, some)) h (bytes-more cs j (omega (arith, few, some)))
    ∙ ap (λ x. x + chars_before (drop x cs) (b - bytes_of_first cs x)) e

-- behind a newline there is a place, or the end
pub next-begin : (text : List ℕ) (n m : ℕ) → IsStored text → n < length (lines_of text) → m ≡ n + 1 → IsPlaceOrEnd text (record { line = m; column = 0 })
next-begin text n m h l e =
    let P : ℕ → Coord = λ x. record { line = x; column = 0 } in
    elim (three_ways m (length (lines_of text))) [
      | inl lt ↦ inl (next_line_place text m h lt)
      | inr w ↦ elim w [ inl same ↦ inr (ap P same) | inr more ↦ absurd (omega (arith, l, e, more)) ]
    ]

-- a part of a place's line isn't longer than what is left of the selection
part-left : (text : List ℕ) (sel : Sel) (at : Coord) (end : ℕ) → IsInside text sel → IsPlace text at → offset text at ≤ offset text sel.high → at.column ≤ end → end ≤ length (nth_line text at.line) → (at.line ≡ sel.high.line → end ≤ sel.high.column + 1) → offset text at + (end - at.column) ≤ offset text sel.high + 1
part-left text sel at end h place before some line high =
    elim (three_ways at.line sel.high.line) [
      | inl lt ↦ omega (arith, some, line, start-more (lines_of text) at.line place.on_line, start-le (lines_of text) (at.line + 1) sel.high.line (omega (arith, lt)))
      | inr w ↦ elim w [
        | inl same ↦ omega (arith, some, high same, ap (λ n. length (joined (take n (lines_of text)))) same)
        | inr more ↦ absurd (omega (arith, before, offset-earlier_line text sel.high at h.high more))
      ]
    ]

-- it is what is left of the selection, as far as it goes
part-own : (text : List ℕ) (sel : Sel) (w : SelectionWalk) (m : ℕ) → IsInside text sel → IsWalk text sel w → IsPlace text w.at → w.at.column + m ≤ length (nth_line text w.at.line) → w.passed + m ≤ length (own_chars text sel)
    → take m (drop w.at.column (nth_line text w.at.line)) ≡ take m (drop w.passed (own_chars text sel))
part-own text sel w m h walk place line own =
    let low : ℕ = offset text sel.low in
    let n : ℕ = offset text sel.high + 1 - low in
    let left : ℕ = n - w.passed in
    let long : length (own_chars text sel) + low ≡ offset text sel.high + 1 = own-length text sel h in
    let sum : w.passed + left ≡ n = omega (arith, own, long) in
    let rest : drop w.passed (own_chars text sel) ≡ take left (drop (offset text w.at) text) =
    ap (λ k. drop w.passed (take k (drop low text))) (sym sum) ∙ drop-take w.passed left (drop low text)
    ∙ ap (take left) (drop-drop w.passed low text ∙ ap (λ k. drop k text) (sym walk.reached)) in
    let shown : take m (drop (offset text w.at) text) ≡ take m (drop w.at.column (nth_line text w.at.line)) =
    ap (take m) (drop-offset text w.at place) ∙ take-append-le m (drop w.at.column (nth_line text w.at.line)) _ (omega (arith, line, length-drop w.at.column (nth_line text w.at.line))) in
    sym shown ∙ sym (take-take m left (drop (offset text w.at) text) (omega (arith, own, long))) ∙ ap (take m) (sym rest)

-- what is known of a part of a place's line that a walk goes over
pub record IsPart (text : List ℕ) (sel : Sel) (w : SelectionWalk) (run : List ℕ) : Type 0 where
  pub few : w.passed + length run ≤ length (own_chars text sel)
  pub bytes : (k : ℕ) → k ≤ length run → bytes_of_first (own_chars text sel) (w.passed + k) ≡ w.bytes + bytes_of_first run k

pub part-walked : (text : List ℕ) (sel : Sel) (w : SelectionWalk) (line run : List ℕ) (end last : ℕ) → IsInside text sel → IsWalk text sel w → w.passed < length (own_chars text sel) → line ≡ nth_line text w.at.line → run ≡ slice_range line w.at.column end → w.at.column < end → end ≤ last → last ≤ length line → (w.at.line ≡ sel.high.line → last ≤ sel.high.column + 1)
    → IsPart text sel w run
part-walked text sel w line run end last h walk there is cut some before inside high =
    let place : IsPlace text w.at = walk-place text sel w h walk there in
    let m : ℕ = end - w.at.column in
    let own : List ℕ = own_chars text sel in
    let short : end ≤ length (nth_line text w.at.line) = omega (arith, before, inside, ap length is) in
    let here : run ≡ slice_range (nth_line text w.at.line) w.at.column end = cut ∙ ap (λ l. slice_range l w.at.column end) is in
    let long : length run ≡ m = ap length here ∙ length-take-le m (drop w.at.column (nth_line text w.at.line)) (omega (arith, short, length-drop w.at.column (nth_line text w.at.line))) in
    let left : offset text w.at + m ≤ offset text sel.high + 1 = part-left text sel w.at end h place (omega (arith, walk.reached, there, own-length text sel h)) (omega (arith, some)) short (λ same. omega (arith, before, high same)) in
    let few : w.passed + m ≤ length own = omega (arith, left, walk.reached, own-length text sel h) in
    let same : run ≡ take m (drop w.passed own) = here ∙ part-own text sel w m h walk place (omega (arith, some, short)) few in
    record {
      few = omega (arith, long, few);
      bytes = λ k l. bytes-split own w.passed k walk.few ∙ ap₂ (λ x y. x + y) (sym walk.bytes) (sym (bytes-take (drop w.passed own) m k (omega (arith, l, long))) ∙ ap (λ r. bytes_of_first r k) (sym same));
    }

-- a walk over so many of its characters
pub walk-further : (text : List ℕ) (sel : Sel) (w : SelectionWalk) (run : List ℕ) (at : Coord) (count bytes : ℕ) → IsWalk text sel w → IsPart text sel w run → count ≤ length run → IsPlaceOrEnd text at → offset text at ≡ offset text w.at + count → bytes ≡ w.bytes + bytes_of_first run count → bytes ≤ w.bytes + 4 * count
    → IsWalk text sel (record { at = at; passed = w.passed + count; bytes = bytes })
walk-further text sel w run at count bytes walk part inside place next sum small = record {
  place = place;
  reached = omega (arith, next, walk.reached);
  few = omega (arith, inside, part.few);
  bytes = sum ∙ sym (part.bytes count inside);
  small = omega (arith, small, walk.small);
}

pub begun-further : (text : List ℕ) (sel : Sel) (w : SelectionWalk) (run : List ℕ) (count b : ℕ) → IsPart text sel w run → 0 < count → count ≤ length run → w.bytes + bytes_of_first run (count - 1) < b → bytes_of_first (own_chars text sel) (w.passed + count - 1) < b
begun-further text sel w run count b part some inside h =
    let e : w.passed + count - 1 ≡ w.passed + (count - 1) = omega (arith, some) in
    omega (arith, h, ap (bytes_of_first (own_chars text sel)) e, part.bytes (count - 1) (omega (arith, inside)))
