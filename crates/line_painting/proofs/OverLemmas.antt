-- The faces that selections and their cursors lay over a line.
use Rattle.std.proofs.Common.{◌≡◌, ℕ, zero, suc, ◌+◌, ◌-◌, ◌<◌, ◌≤◌, min, Bool, true, false, ◌&&◌, eqb, leb, ltb, List, [], ◌∷◌, ◌++◌, length, take, drop, get_or, refl, sym, ap, ap₂, ◌∙◌, arith, inl, inr, lt-ltb, le-ltb, eq-eqb, ne_eqb, eqb-true, length-take, subst}
use Rattle.std.specs.Prelude.{if◌then◌else◌}
use Rattle.std.specs.List.{AllByRecursion}
use Rattle.std.proofs.lemmas.Bool.{cases_lt}
use Rattle.std.proofs.lemmas.List.{take_more, take-append-drop, length-map, get_or_default}
use Rattle.text_model.specs.declared.coords.Coord.{Coord}
use Rattle.text_model.specs.Texts.{lines_of, line_count, nth_line, offset, IsPlace}
use Rattle.text_model.proofs.CoordLemmas.{test_cases}
use Rattle.text_model.proofs.PlaceLemmas.{leb_true, leb_false, place-before_next, start-le, start-more, offset-earlier_line}
use Rattle.list_model.specs.Ranges.{Range, Selected, cursor, IsRange, only}
use Rattle.list_model.specs.Settled.{AreApart}
use Rattle.list_model.proofs.ListLemmas.{all_weaker}
use Rattle.selection_set.specs.declared.sel.Sel.{Sel}
use Rattle.selection_set.specs.Inside.{range_of, IsInside, cursor_at}
use Rattle.selection_set.specs.Listing.{Listed, AreInside, ranges_of}
use Rattle.selection_set.specs.Held.{selected, IsHeld}
use Rattle.selection_set.proofs.CursorLemmas.{cursor-range_of, cursor-place}
use Rattle.selection_set.proofs.HeldLemmas.{zero_sel, nth-inside, nth-range}
use Rattle.kak_faces.specs.declared.face.Face.{Face}
use Rattle.kak_faces.specs.Faces.{merged}
use Rattle.face_grounds.specs.declared.ground.Over.{Over}
use Rattle.face_grounds.specs.Grounds.{over_all}
use Rattle.face_grounds.proofs.LayLemmas as laying
use Rattle.face_texts.specs.declared.palette.Palette.{Palette}
use Rattle.face_texts.specs.Palettes.{palette_face}
use Rattle.line_painting.specs.Lines.{over, face_on, selection_name, cursor_name, under_selections, under_cursors}
use Rattle.line_painting.specs.Painting.{line_start, EndsBefore, IsLongLine, IsSelectionLaid, IsCursorLaid, AreSelectionsLaid, AreCursorsLaid}

over-if : (t : Bool) (above face : Face) → (if t then merged face above else face) ≡ over t above face
over-if true above face = refl
over-if false above face = refl

over-false : (t : Bool) (above face : Face) → t ≡ false → over t above face ≡ face
over-false t above face e = ap (λ v. over v above face) e

and_false : (a b : Bool) → b ≡ false → (a && b) ≡ false
and_false true b e = e
and_false false b e = refl

-- two tests of order that hold together
leb-same : (a b c d : ℕ) → (a ≤ b → c ≤ d) → (c ≤ d → a ≤ b) → leb a b ≡ leb c d
leb-same a b c d f g =
    elim (cases_lt b a) [
      | inl lt ↦ leb_false a b lt ∙ sym (leb_false c d (elim (cases_lt d c) [
        | inl l ↦ l
        | inr l ↦ absurd (omega (arith, lt, g l))
      ]))
      | inr le ↦ leb_true a b le ∙ sym (leb_true c d (f le))
    ]

ltb-leb : (a b : ℕ) → ltb a b ≡ leb (a + 1) b
ltb-leb a b =
    elim (cases_lt a b) [
      | inl lt ↦ lt-ltb a b lt ∙ sym (leb_true (a + 1) b (omega (arith, lt)))
      | inr le ↦ le-ltb a b le ∙ sym (leb_false (a + 1) b (omega (arith, le)))
    ]

-- one more face over others
pub pushed : (old new : List Over) (from to i : ℕ) (face below : Face) → new ≡ old ++ record { from = from; to = to; face = face } ∷ []
    → over_all new i below ≡ over (leb from i && ltb i to) face (over_all old i below)
pushed old new from to i face below e =
    let o : Over = record { from = from; to = to; face = face } in
    ap (λ os. over_all os i below) e ∙ laying.append old (o ∷ []) i below ∙ over-if (leb from i && ltb i to) face (over_all old i below)

-- the places of a line that stand between two offsets
pub between : (len start low high from to i : ℕ) → from ≡ min len (low - start) → to ≡ min len (high + 1 - start) → i < len
    → (leb from i && ltb i to) ≡ (leb low (start + i) && leb (start + i) high)
between len start low high from to i e f h =
    ap₂ (λ a b. a && b) (leb-same from i low (start + i) (λ l. omega (arith, e, h, l)) (λ l. omega (arith, e, h, l)))
    (ltb-leb i to ∙ leb-same (i + 1) to (start + i) high (λ l. omega (arith, f, h, l)) (λ l. omega (arith, f, h, l)))

-- the place of the line at an offset
pub at_place : (len start place from to i : ℕ) → from ≡ min len (place - start) → to ≡ min len (place + 1 - start) → i < len
    → (leb from i && ltb i to) ≡ eqb place (start + i)
at_place len start place from to i e f h =
    elim (cases_lt place (start + i)) [
      | inl lt ↦ and_false (leb from i) (ltb i to) (le-ltb i to (omega (arith, f, lt))) ∙ sym (ne_eqb place (start + i) (λ s. omega (arith, s, lt)))
      | inr le ↦ elim (cases_lt (start + i) place) [
        | inl gt ↦ ap (λ t. t && ltb i to) (leb_false from i (omega (arith, e, gt, h))) ∙ sym (ne_eqb place (start + i) (λ s. omega (arith, s, gt)))
        | inr ge ↦ ap₂ (λ a b. a && b) (leb_true from i (omega (arith, e, ge, le))) (lt-ltb i to (omega (arith, f, ge, le, h))) ∙ sym (eq-eqb place (start + i) (omega (arith, ge, le)))
      ]
    ]

-- where no place is before a place and the next one, none is at it
pub off_line : (len start place from to i : ℕ) → from ≡ min len (place - start) → to ≡ min len (place + 1 - start) → to ≤ from → i < len → eqb place (start + i) ≡ false
off_line len start place from to i e f g h = ne_eqb place (start + i) (λ s. omega (arith, s, e, f, g, h))

-- a selection is laid
pub selection-laid : (n len : ℕ) (sel : Sel) (face : Face) (old new : List Over) (from to : ℕ) → new ≡ old ++ record { from = from; to = to; face = face } ∷ []
    → ((text : List ℕ) → IsLongLine text n len → IsInside text sel → (from ≡ min len (offset text sel.low - line_start text n)) × (to ≡ min len (offset text sel.high + 1 - line_start text n)))
    → IsSelectionLaid n len sel face old new
selection-laid n len sel face old new from to e spans text i below line inside h =
    let s = spans text line inside in
    pushed old new from to i face below e
    ∙ ap (λ t. over t face (over_all old i below)) (between len (line_start text n) (offset text sel.low) (offset text sel.high) from to i s.0 s.1 h)

-- selections one after another
selections-append : (palette : Palette) (o main n : ℕ) (a b : List Range) (face : Face)
    → under_selections palette o main n (a ++ b) face ≡ under_selections palette o main (n + length a) b (under_selections palette o main n a face)
selections-append palette o main n [] b face = let e : n ≡ n + 0 = omega arith in ap (λ k. under_selections palette o main k b face) e
selections-append palette o main n (r ∷ a) b face =
    let e : n + 1 + length a ≡ n + suc (length a) = omega arith in
    let first : Face = over (leb r.low o && leb o r.high) (palette_face palette (selection_name (eqb n main))) face in
    selections-append palette o main (n + 1) a b first
    ∙ ap (λ k. under_selections palette o main k b (under_selections palette o main (n + 1) a first)) e

cursors-append : (palette : Palette) (o c main n : ℕ) (a b : List Range) (face : Face)
    → under_cursors palette o c main n (a ++ b) face ≡ under_cursors palette o c main (n + length a) b (under_cursors palette o c main n a face)
cursors-append palette o c main n [] b face = let e : n ≡ n + 0 = omega arith in ap (λ k. under_cursors palette o c main k b face) e
cursors-append palette o c main n (r ∷ a) b face =
    let e : n + 1 + length a ≡ n + suc (length a) = omega arith in
    let first : Face = over (eqb (cursor r) o) (palette_face palette (cursor_name (eqb n main) c)) face in
    cursors-append palette o c main (n + 1) a b first
    ∙ ap (λ k. under_cursors palette o c main k b (under_cursors palette o c main (n + 1) a first)) e

take-length : (rs : List Range) (k : ℕ) → k < length rs → 0 + length (take k rs) ≡ k
take-length rs k h = omega (arith, length-take k rs, h)

-- one more selection
selections-more : (palette : Palette) (o main k : ℕ) (rs : List Range) (r d : Range) (face : Face) → k < length rs → r ≡ get_or rs k d
    → under_selections palette o main 0 (take (k + 1) rs) face
    ≡ over (leb r.low o && leb o r.high) (palette_face palette (selection_name (eqb k main))) (under_selections palette o main 0 (take k rs) face)
selections-more palette o main k rs r d face h e =
    ap (λ t. under_selections palette o main 0 t face) (take_more rs k d h ∙ ap (λ x. take k rs ++ x ∷ []) (sym e))
    ∙ selections-append palette o main 0 (take k rs) (r ∷ []) face
    ∙ ap (λ n. over (leb r.low o && leb o r.high) (palette_face palette (selection_name (eqb n main))) (under_selections palette o main 0 (take k rs) face)) (take-length rs k h)

cursors-more : (palette : Palette) (o c main k : ℕ) (rs : List Range) (r d : Range) (face : Face) → k < length rs → r ≡ get_or rs k d
    → under_cursors palette o c main 0 (take (k + 1) rs) face
    ≡ over (eqb (cursor r) o) (palette_face palette (cursor_name (eqb k main) c)) (under_cursors palette o c main 0 (take k rs) face)
cursors-more palette o c main k rs r d face h e =
    ap (λ t. under_cursors palette o c main 0 t face) (take_more rs k d h ∙ ap (λ x. take k rs ++ x ∷ []) (sym e))
    ∙ cursors-append palette o c main 0 (take k rs) (r ∷ []) face
    ∙ ap (λ n. over (eqb (cursor r) o) (palette_face palette (cursor_name (eqb n main) c)) (under_cursors palette o c main 0 (take k rs) face)) (take-length rs k h)

-- a selection doesn't reach an offset
abbrev IsOff : ℕ → Range → Type 0
IsOff o r = ((leb r.low o && leb o r.high) ≡ false) × (eqb (cursor r) o ≡ false)

cursor_between : (r : Range) → IsRange r → (r.low ≤ cursor r) × (cursor r ≤ r.high)
cursor_between r h =
    elim r.turned as (λ v. (r.low ≤ (if v then r.low else r.high)) × ((if v then r.low else r.high) ≤ r.high)) [
      | true ↦ (omega arith, h)
      | false ↦ (h, omega arith)
    ]

off-behind : (r : Range) (o : ℕ) → IsRange r → r.high < o → IsOff o r
off-behind r o h k =
    let b : (r.low ≤ cursor r) × (cursor r ≤ r.high) = cursor_between r h in
    (and_false (leb r.low o) (leb o r.high) (leb_false o r.high k), ne_eqb (cursor r) o (λ e. omega arith))

off-before : (r : Range) (o : ℕ) → IsRange r → o < r.low → IsOff o r
off-before r o h k =
    let b : (r.low ≤ cursor r) × (cursor r ≤ r.high) = cursor_between r h in
    (ap (λ v. v && leb o r.high) (leb_false r.low o k), ne_eqb (cursor r) o (λ e. omega arith))

-- selections that don't reach an offset leave the face there
selections-off : (palette : Palette) (o main n : ℕ) (rs : List Range) (face : Face) → AllByRecursion (IsOff o) rs → under_selections palette o main n rs face ≡ face
selections-off palette o main n [] face h = refl
selections-off palette o main n (r ∷ rs) face h =
    ap (λ f. under_selections palette o main (n + 1) rs f) (over-false (leb r.low o && leb o r.high) (palette_face palette (selection_name (eqb n main))) face h.0.0) ∙ selections-off palette o main (n + 1) rs face h.1

cursors-off : (palette : Palette) (o c main n : ℕ) (rs : List Range) (face : Face) → AllByRecursion (IsOff o) rs → under_cursors palette o c main n rs face ≡ face
cursors-off palette o c main n [] face h = refl
cursors-off palette o c main n (r ∷ rs) face h =
    ap (λ f. under_cursors palette o c main (n + 1) rs f) (over-false (eqb (cursor r) o) (palette_face palette (cursor_name (eqb n main) c)) face h.0.1) ∙ cursors-off palette o c main (n + 1) rs face h.1

-- those behind the first ones don't
selections-end : (palette : Palette) (o main k : ℕ) (rs : List Range) (face : Face) → AllByRecursion (IsOff o) (drop k rs)
    → under_selections palette o main 0 (take k rs) face ≡ under_selections palette o main 0 rs face
selections-end palette o main k rs face h =
    sym (ap (λ t. under_selections palette o main 0 t face) (sym (take-append-drop k rs)) ∙ selections-append palette o main 0 (take k rs) (drop k rs) face
    ∙ selections-off palette o main (0 + length (take k rs)) (drop k rs) (under_selections palette o main 0 (take k rs) face) h)

cursors-end : (palette : Palette) (o c main k : ℕ) (rs : List Range) (face : Face) → AllByRecursion (IsOff o) (drop k rs)
    → under_cursors palette o c main 0 (take k rs) face ≡ under_cursors palette o c main 0 rs face
cursors-end palette o c main k rs face h =
    sym (ap (λ t. under_cursors palette o c main 0 t face) (sym (take-append-drop k rs)) ∙ cursors-append palette o c main 0 (take k rs) (drop k rs) face
    ∙ cursors-off palette o c main (0 + length (take k rs)) (drop k rs) (under_cursors palette o c main 0 (take k rs) face) h)

-- the first selections end before a line, and don't reach it
off-first : (text : List ℕ) (n k o : ℕ) (list : List Sel) → AreInside text list → AllByRecursion (EndsBefore n) (take k list) → line_start text n ≤ o → AllByRecursion (IsOff o) (take k (ranges_of text list))
off-first text n zero o list h a l = tt
off-first text n (suc k) o [] h a l = tt
off-first text n (suc k) o (s ∷ ss) h a l =
    let high : offset text s.high < o = omega (arith, place-before_next (lines_of text) s.high.line s.high.column h.0.high.on_line h.0.high.in_line, start-le (lines_of text) (s.high.line + 1) n (omega (arith, a.0)), l) in
    (off-behind (range_of text s) o h.0.ordered high, off-first text n k o ss h.1 a.1 l)

-- a selection that begins below a line doesn't reach it, nor do those behind it
off-apart : (o : ℕ) (rs : List Range) → AllByRecursion IsRange rs → AllByRecursion (λ (s : Range). o < s.low) rs → AllByRecursion (IsOff o) rs
off-apart o [] h a = tt
off-apart o (r ∷ rs) h a = (off-before r o h.0 a.0, off-apart o rs h.1 a.1)

ahead : (o : ℕ) (rs : List Range) (k : ℕ) (d : Range) → AllByRecursion IsRange rs → AreApart rs → k < length rs → o < (get_or rs k d).low → AllByRecursion (IsOff o) (drop k rs)
ahead o [] k d h a l b = absurd (omega (arith, l))
ahead o (r ∷ rs) zero d h a l b = (off-before r o h.0 b, off-apart o rs h.1 (later rs a.0))
  where
    later : (xs : List Range) → AllByRecursion (λ (s : Range). r.high < s.low) xs → AllByRecursion (λ (s : Range). o < s.low) xs
    later [] c = tt
    later (x ∷ xs) c = (omega (arith, c.0, h.0, b), later xs c.1)
ahead o (r ∷ rs) (suc k) d h a l b = ahead o rs k d h.1 a.1 (omega (arith, l)) b

pub ranges-length : (text : List ℕ) (list : List Sel) → length (ranges_of text list) ≡ length list
ranges-length text list = length-map list (range_of text)

nothing_ahead : (o : ℕ) (rs : List Range) (k : ℕ) → length rs ≤ k → AllByRecursion (IsOff o) (drop k rs)
nothing_ahead o [] zero h = tt
nothing_ahead o [] (suc k) h = tt
nothing_ahead o (r ∷ rs) zero h = absurd (omega (arith, h))
nothing_ahead o (r ∷ rs) (suc k) h = nothing_ahead o rs k (omega (arith, h))

-- the selections from one on don't reach a line: it begins below the line, or there is none
pub record IsBelow (text : List ℕ) (n k : ℕ) (list : List Sel) : Type 0 where
  pub off : (i : ℕ) → i < length (nth_line text n) → AllByRecursion (IsOff (line_start text n + i)) (drop k (ranges_of text list))

pub below-line : (text : List ℕ) (s : Listed) (n k : ℕ) (sel : Sel) → IsHeld text s → n < line_count text → k < length s.list → ((d : Sel) → sel ≡ get_or s.list k d) → n < sel.low.line → IsBelow text n k s.list
below-line text s n k sel h t l g b = record {
  off = λ i x.
      let inside : IsInside text sel = nth-inside text s.list k sel h.inside l g in
      let same : (get_or (ranges_of text s.list) k (only 0)).low ≡ offset text sel.low = ap (λ (r : Range). r.low) (sym (nth-range text s.list k sel (only 0) l g)) in
      ahead (line_start text n + i) (ranges_of text s.list) k (only 0) h.settled.ranges h.settled.apart (omega (arith, ranges-length text s.list, l))
      (omega (arith, same, start-more (lines_of text) n t, start-le (lines_of text) (n + 1) sel.low.line (omega (arith, b)), x));
}

pub below-all : (text : List ℕ) (s : Listed) (n k : ℕ) → length s.list ≤ k → IsBelow text n k s.list
below-all text s n k h = record { off = λ i x. nothing_ahead (line_start text n + i) (ranges_of text s.list) k (omega (arith, ranges-length text s.list, h)) }

-- the first selections of a list, with its main one
abbrev pub first_of : List ℕ → Listed → ℕ → Selected
first_of text s k = record { list = take k (ranges_of text s.list); main = s.main }

module _ (palette : Palette) (text : List ℕ) (s : Listed) (n : ℕ) where
  -- the first selections end before the line: nothing is laid
  pub selections-none : (k : ℕ) (old : List Over) → IsHeld text s → AllByRecursion (EndsBefore n) (take k s.list) → AreSelectionsLaid palette (first_of text s k) (line_start text n) (length (nth_line text n)) old old
  selections-none k old h a i face x =
      sym (selections-off palette (line_start text n + i) s.main 0 (take k (ranges_of text s.list)) (over_all old i face) (off-first text n k (line_start text n + i) s.list h.inside a (omega arith)))

  pub cursors-none : (k : ℕ) (old : List Over) → IsHeld text s → AllByRecursion (EndsBefore n) (take k s.list) → AreCursorsLaid palette (first_of text s k) (line_start text n) (nth_line text n) old old
  cursors-none k old h a i face x =
      sym (cursors-off palette (line_start text n + i) (get_or (nth_line text n) i 0) s.main 0 (take k (ranges_of text s.list)) (over_all old i face) (off-first text n k (line_start text n + i) s.list h.inside a (omega arith)))

  -- one more is laid
  pub selections-one : (k len : ℕ) (sel : Sel) (face : Face) (old mid new : List Over) → IsHeld text s → n < line_count text → len ≡ length (nth_line text n) → k < length s.list → ((d : Sel) → sel ≡ get_or s.list k d)
      → face ≡ palette_face palette (selection_name (eqb k s.main)) → IsSelectionLaid n len sel face mid new
      → AreSelectionsLaid palette (first_of text s k) (line_start text n) (length (nth_line text n)) old mid → AreSelectionsLaid palette (first_of text s (k + 1)) (line_start text n) (length (nth_line text n)) old new
  selections-one k len sel face old mid new h t z l g f p a i below x =
      let o : ℕ = line_start text n + i in
      let inside : IsInside text sel = nth-inside text s.list k sel h.inside l g in
      let r : Range = range_of text sel in
      let test : Bool = leb r.low o && leb o r.high in
      p text i below (record { there = t; long = z }) inside (omega (arith, z, x))
      ∙ ap₂ (λ v w. over (leb r.low o && leb o r.high) v w) f (a i below x)
      ∙ sym (selections-more palette o s.main k (ranges_of text s.list) r (only 0) (over_all old i below) (omega (arith, ranges-length text s.list, l)) (nth-range text s.list k sel (only 0) l g))

  pub cursors-one : (k : ℕ) (line : List ℕ) (sel : Sel) (at : Coord) (old mid new : List Over) → IsHeld text s → n < line_count text → line ≡ nth_line text n → k < length s.list → ((d : Sel) → sel ≡ get_or s.list k d)
      → at ≡ cursor_at sel → IsCursorLaid palette n line at (eqb k s.main) mid new
      → AreCursorsLaid palette (first_of text s k) (line_start text n) (nth_line text n) old mid → AreCursorsLaid palette (first_of text s (k + 1)) (line_start text n) (nth_line text n) old new
  cursors-one k line sel at old mid new h t z l g f p a i below x =
      let o : ℕ = line_start text n + i in
      let inside : IsInside text sel = nth-inside text s.list k sel h.inside l g in
      let r : Range = range_of text sel in
      let same : offset text at ≡ cursor r = ap (offset text) f ∙ sym (cursor-range_of text sel) in
      p text i below (record { there = t; long = ap length z }) (subst (IsPlace text) (sym f) (cursor-place text sel inside)) (omega (arith, ap length z, x))
      ∙ ap₂ (λ v w. over (eqb v o) (palette_face palette (cursor_name (eqb k s.main) (get_or line i 0))) w) same (a i below x)
      ∙ ap (λ t. over (eqb (cursor r) o) (palette_face palette (cursor_name (eqb k s.main) (get_or t i 0))) (under_cursors palette o (get_or (nth_line text n) i 0) s.main 0 (take k (ranges_of text s.list)) (over_all old i below))) z
      ∙ sym (cursors-more palette o (get_or (nth_line text n) i 0) s.main k (ranges_of text s.list) r (only 0) (over_all old i below) (omega (arith, ranges-length text s.list, l)) (nth-range text s.list k sel (only 0) l g))

  -- all are laid, where those that are left don't reach the line
  pub selections-all : (k : ℕ) (old new : List Over) → IsBelow text n k s.list → AreSelectionsLaid palette (first_of text s k) (line_start text n) (length (nth_line text n)) old new
      → AreSelectionsLaid palette (selected text s) (line_start text n) (length (nth_line text n)) old new
  selections-all k old new b a i face x = a i face x ∙ selections-end palette (line_start text n + i) s.main k (ranges_of text s.list) (over_all old i face) (b.off i x)

  pub cursors-all : (k : ℕ) (old new : List Over) → IsBelow text n k s.list → AreCursorsLaid palette (first_of text s k) (line_start text n) (nth_line text n) old new
      → AreCursorsLaid palette (selected text s) (line_start text n) (nth_line text n) old new
  cursors-all k old new b a i face x = a i face x ∙ cursors-end palette (line_start text n + i) (get_or (nth_line text n) i 0) s.main k (ranges_of text s.list) (over_all old i face) (b.off i x)

-- a cursor is laid
pub cursor-laid : (palette : Palette) (n : ℕ) (line : List ℕ) (at : Coord) (main : Bool) (old new : List Over) (from to c : ℕ) (face : Face) → new ≡ old ++ record { from = from; to = to; face = face } ∷ []
    → face ≡ palette_face palette (cursor_name main c) → c ≡ get_or line from 0
    → ((text : List ℕ) → IsLongLine text n (length line) → IsPlace text at → (from ≡ min (length line) (offset text at - line_start text n)) × (to ≡ min (length line) (offset text at + 1 - line_start text n)))
    → IsCursorLaid palette n line at main old new
cursor-laid palette n line at main old new from to c face e f g spans text i below long place h =
    pushed old new from to i face below e
    ∙ ap (λ t. over t face (over_all old i below)) (at_place (length line) (line_start text n) (offset text at) from to i s.0 s.1 h)
    ∙ elim (test_cases (eqb (offset text at) (line_start text n + i))) [
      | inl y ↦
          let here : offset text at ≡ line_start text n + i = eqb-true (offset text at) (line_start text n + i) y in
          let same : from ≡ i = omega (arith, s.0, here, h) in
          ap (λ v. over (eqb (offset text at) (line_start text n + i)) v (over_all old i below)) (f ∙ ap (λ x. palette_face palette (cursor_name main x)) (g ∙ ap (λ k. get_or line k 0) same))
      | inr y ↦ over-false (eqb (offset text at) (line_start text n + i)) face (over_all old i below) y
          ∙ sym (over-false (eqb (offset text at) (line_start text n + i)) (palette_face palette (cursor_name main (get_or line i 0))) (over_all old i below) y)
    ]
  where
    s : (from ≡ min (length line) (offset text at - line_start text n)) × (to ≡ min (length line) (offset text at + 1 - line_start text n))
    s = spans text long place

-- a cursor on another line isn't
pub cursor-off : (palette : Palette) (n : ℕ) (line : List ℕ) (at : Coord) (main : Bool) (old : List Over) (from to : ℕ) → to ≤ from
    → ((text : List ℕ) → IsLongLine text n (length line) → IsPlace text at → (from ≡ min (length line) (offset text at - line_start text n)) × (to ≡ min (length line) (offset text at + 1 - line_start text n)))
    → IsCursorLaid palette n line at main old old
cursor-off palette n line at main old from to e spans text i below long place h =
    let s = spans text long place in
    sym (over-false (eqb (offset text at) (line_start text n + i)) (palette_face palette (cursor_name main (get_or line i 0))) (over_all old i below)
    (off_line (length line) (line_start text n) (offset text at) from to i s.0 s.1 e h))

-- the faces of a line, where selections and cursors are laid over its ground
pub line-laid : (palette : Palette) (sels : Selected) (o : ℕ) (line : List ℕ) (base : ℕ → Face) (none mid overs : List Over) (i : ℕ) → none ≡ [] → AreSelectionsLaid palette sels o (length line) none mid
    → AreCursorsLaid palette sels o line mid overs → i < length line → over_all overs i (base i) ≡ face_on palette sels base o i (get_or line i 0)
line-laid palette sels o line base none mid overs i e a b h =
    b i (base i) h
    ∙ ap (under_cursors palette (o + i) (get_or line i 0) sels.main 0 sels.list)
    (a i (base i) h ∙ ap (λ os. under_selections palette (o + i) sels.main 0 sels.list (over_all os i (base i))) e)

-- no selection reaches a line: its faces are those of its ground
pub line-bare : (palette : Palette) (text : List ℕ) (s : Listed) (n k i : ℕ) (base : ℕ → Face) → IsHeld text s → AllByRecursion (EndsBefore n) (take k s.list) → IsBelow text n k s.list → i < length (nth_line text n)
    → base i ≡ face_on palette (selected text s) base (line_start text n) i (get_or (nth_line text n) i 0)
line-bare palette text s n k i base h a b x =
    line-laid palette (selected text s) (line_start text n) (nth_line text n) base [] [] [] i refl
    (selections-all palette text s n k [] [] b (selections-none palette text s n k [] h a)) (cursors-all palette text s n k [] [] b (cursors-none palette text s n k [] h a)) x

-- the ends of selections don't fall, nor do their lines
ends-rise : (rs : List Range) (i j : ℕ) (d : Range) → AllByRecursion IsRange rs → AreApart rs → i ≤ j → j < length rs → (get_or rs i d).high ≤ (get_or rs j d).high
ends-rise [] i j d r a h l = absurd (omega (arith, l))
ends-rise (x ∷ rs) zero zero d r a h l = omega arith
ends-rise (x ∷ rs) zero (suc j) d r a h l = behind rs j r.1 a.0 (omega (arith, l))
  where
    behind : (xs : List Range) (k : ℕ) → AllByRecursion IsRange xs → AllByRecursion (λ (s : Range). x.high < s.low) xs → k < length xs → x.high ≤ (get_or xs k d).high
    behind [] k b c m = absurd (omega (arith, m))
    behind (y ∷ ys) zero b c m = omega (arith, b.0, c.0)
    behind (y ∷ ys) (suc k) b c m = behind ys k b.1 c.1 (omega (arith, m))
ends-rise (x ∷ rs) (suc i) zero d r a h l = absurd (omega (arith, h))
ends-rise (x ∷ rs) (suc i) (suc j) d r a h l = ends-rise rs i j d r.1 a.1 (omega (arith, h)) (omega (arith, l))

rising : (text : List ℕ) (s : Listed) (i j : ℕ) (a b : Sel) → IsHeld text s → IsInside text a → IsInside text b → j < length s.list → i ≤ j → a ≡ get_or s.list i zero_sel → b ≡ get_or s.list j zero_sel → a.high.line ≤ b.high.line
rising text s i j a b h p q l m e f =
    elim (cases_lt b.high.line a.high.line) [
      | inl lt ↦ absurd (omega (arith, offset-earlier_line text b.high a.high q.high lt, offsets))
      | inr le ↦ le
    ]
  where
    range : (k : ℕ) (x : Sel) → k < length s.list → x ≡ get_or s.list k zero_sel → offset text x.high ≡ (get_or (ranges_of text s.list) k (only 0)).high
    range k x y e = ap (λ (r : Range). r.high) (nth-range text s.list k x (only 0) y (λ d. e ∙ get_or_default s.list k zero_sel d y))

    offsets : offset text a.high ≤ offset text b.high
    offsets = omega (arith, range i a (omega (arith, l, m)) e, range j b l f, ends-rise (ranges_of text s.list) i j (only 0) h.settled.ranges h.settled.apart m (omega (arith, l, ranges-length text s.list)))

-- the first selections end before a line, where the last of them does
pub ends-upto : (text : List ℕ) (s : Listed) (n from to : ℕ) → IsHeld text s → to ≤ length s.list → AllByRecursion (EndsBefore n) (take from s.list) → from ≤ to
    → (from < to → (d : Sel) → (get_or s.list (to - 1) d).high.line < n) → AllByRecursion (EndsBefore n) (take to s.list)
ends-upto text s n from to h l a f b =
    elim (cases_lt from to) [
      | inl lt ↦ all-from (EndsBefore n) s.list to l (λ i d x. earlier i d x (b lt))
      | inr le ↦ let same : from ≡ to = omega (arith, le, f) in subst (λ k. AllByRecursion (EndsBefore n) (take k s.list)) same a
    ]
  where
    all-from : {X : Type 0} (P : X → Type 0) (xs : List X) (k : ℕ) → k ≤ length xs → ((i : ℕ) (d : X) → i < k → P (get_or xs i d)) → AllByRecursion P (take k xs)
    all-from P xs zero h f = tt
    all-from P [] (suc k) h f = absurd (omega (arith, h))
    all-from P (x ∷ xs) (suc k) h f = (f 0 x (omega arith), all-from P xs k (omega (arith, h)) (λ i d y. f (suc i) d (omega (arith, y))))

    earlier : (i : ℕ) (d : Sel) → i < to → ((d : Sel) → (get_or s.list (to - 1) d).high.line < n) → EndsBefore n (get_or s.list i d)
    earlier i d x e =
        let at : Sel = get_or s.list i zero_sel in
        let last : Sel = get_or s.list (to - 1) zero_sel in
        let here : get_or s.list i d ≡ at = get_or_default s.list i d zero_sel (omega (arith, x, l)) in
        let first : IsInside text at = nth-inside text s.list i at h.inside (omega (arith, x, l)) (λ d'. get_or_default s.list i zero_sel d' (omega (arith, x, l))) in
        let second : IsInside text last = nth-inside text s.list (to - 1) last h.inside (omega (arith, x, l)) (λ d'. get_or_default s.list (to - 1) zero_sel d' (omega (arith, x, l))) in
        let lines : at.high.line ≤ last.high.line = rising text s i (to - 1) at last h first second (omega (arith, x, l)) (omega (arith, x)) refl refl in
        let end : last.high.line < n = e zero_sel in
        omega (arith, lines, end, ap (λ (t : Sel). t.high.line) here)

-- a length that was asked
pub long-line : (text : List ℕ) (n len asked : ℕ) → asked ≡ len → IsLongLine text n len → IsLongLine text n asked
long-line text n len asked e h = record { there = h.there; long = e ∙ h.long }

-- a selection that was read in a slice
pub read-sel : (slice list : List Sel) (k : ℕ) (e : Sel) → slice ≡ list → k < length list → (d : Sel) → get_or slice k e ≡ get_or list k d
read-sel slice list k e s h d = ap (λ xs. get_or xs k e) s ∙ get_or_default list k e d h

-- the first selection that doesn't end before a line begins below it, or there is none
pub below-first : (text : List ℕ) (s : Listed) (slice : List Sel) (n k : ℕ) → IsHeld text s → n < line_count text → slice ≡ s.list → (k < length slice → (d : Sel) → n < (get_or slice k d).low.line) → IsBelow text n k s.list
below-first text s slice n k h t e b =
    elim (cases_lt k (length slice)) [
      | inl lt ↦ below-line text s n k (get_or slice k zero_sel) h t (omega (arith, lt, ap length e)) (λ d. ap (λ xs. get_or xs k zero_sel) e ∙ get_or_default s.list k zero_sel d (omega (arith, lt, ap length e))) (b lt zero_sel)
      | inr le ↦ below-all text s n k (omega (arith, le, ap length e))
    ]

-- selections that end before a line end before the next one
pub ends-next : (n k : ℕ) (list : List Sel) → AllByRecursion (EndsBefore n) (take k list) → AllByRecursion (EndsBefore (n + 1)) (take k list)
ends-next n k list a = all_weaker (EndsBefore n) (EndsBefore (n + 1)) (λ s e. omega (arith, e)) (take k list) a
