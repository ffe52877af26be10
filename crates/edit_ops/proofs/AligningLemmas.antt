-- Which selections begin on one line, the display columns of cursors, and the spaces that bring these to one.
use Rattle.std.proofs.Common.{◌≡◌, ◌≢◌, ℕ, ◌+◌, ◌-◌, ◌<◌, ◌≤◌, max, Bool, false, eqb, ltb, ◌||◌, ◌⊎◌, inl, inr, List, [], ◌∷◌, length, map, drop, get_or, refl, sym, ap, ap₂, ◌∙◌, arith, eq-eqb, ne_eqb, eqb-true}
use Rattle.std.specs.List.{AllByRecursion}
use Rattle.std.specs.Ordering.{nat_cmp, ord_max}
use Rattle.std.proofs.lemmas.Bool.{eqb-false}
use Rattle.std.proofs.lemmas.Grind.{common_steps}
use Rattle.std.proofs.lemmas.List.{drop_more, drop_all, length-replicate}
use Rattle.text_model.specs.declared.TheConstants.{MAX_CHARS}
use Rattle.text_model.specs.declared.coords.Coord.{Coord}
use Rattle.text_model.specs.Texts.{coord_at, offset, nth_line}
use Rattle.text_model.proofs.CoordLemmas.{test_cases}
use Rattle.text_model.proofs.PlaceLemmas.{coord_at-offset, offset-below}
use Rattle.list_model.specs.Ranges.{Range}
use Rattle.list_model.specs.Settled.{AreApart}
use Rattle.kak_text.specs.Cells.{display_column}
use Rattle.selection_set.specs.declared.sel.Sel.{Sel}
use Rattle.selection_set.specs.Inside.{range_of, IsInside, cursor_at}
use Rattle.selection_set.specs.Listing.{Listed, AreInside, ranges_of}
use Rattle.selection_set.specs.Held.{IsHeld}
use Rattle.selection_set.proofs.CursorLemmas.{coord_at-cursor}
use Rattle.undo_model.specs.Edits.{AreInOrder}
use Rattle.buffer_store.specs.Buffers.{flat_splices, IsSpliceOf, AreSplicesOf}
use Rattle.edit_ops.specs.Each.{each_from}
use Rattle.edit_ops.specs.Putting.{put_in_at}
use Rattle.edit_ops.specs.Crowding.{put_together}
use Rattle.edit_ops.specs.Aligning.{alignments, begins_on, cursor_column, greatest, lacking, shares_line, shares_with_next, spaced, spaces}
use Rattle.edit_ops.proofs.EachLemmas.{KeepsOrder, each-in_order, held-within, held-splices}
use Rattle.edit_ops.proofs.PuttingLemmas.{lines-rise}

low-line : (text : List ℕ) (sel : Sel) → IsInside text sel → (coord_at text (offset text sel.low)).line ≡ sel.low.line
low-line text sel h = ap (λ (c : Coord). c.line) (coord_at-offset text sel.low h.low)

-- ranges behind one that begins behind a line don't begin on it
none-later : (text : List ℕ) (line low high : ℕ) (sels : List Sel) → line < (coord_at text low).line → low ≤ high → AreInside text sels → AllByRecursion (λ (s : Range). high < s.low) (ranges_of text sels)
    → begins_on text line (ranges_of text sels) ≡ false
none-later text line low high [] l o a b = refl
none-later text line low high (x ∷ sels) l o a b =
    let behind : line < (coord_at text (offset text x.low)).line = omega (arith, lines-rise text low (offset text x.low) (omega (arith, b.0)) (offset-below text x.low a.0.low)) in
    ap₂ (λ v w. v || w) (ne_eqb (coord_at text (offset text x.low)).line line (λ e. omega arith)) (none-later text line low high sels l o a.1 b.1)

neighbours : (text : List ℕ) (sels : List Sel) → AreInside text sels → AreApart (ranges_of text sels) → shares_line text (ranges_of text sels) ≡ shares_with_next sels
neighbours text [] a h = refl
neighbours text (x ∷ []) a h = refl
neighbours text (x ∷ (y ∷ sels)) a h =
    let m : ℕ = (coord_at text (offset text x.low)).line in
    let n : ℕ = (coord_at text (offset text y.low)).line in
    let here : m ≡ x.low.line = low-line text x a.0 in
    let there : n ≡ y.low.line = low-line text y a.1.0 in
    let rise : m ≤ n = lines-rise text (offset text x.low) (offset text y.low) (omega (arith, a.0.ordered, h.0.0)) (offset-below text y.low a.1.0.low) in
    let later : Bool = begins_on text m (ranges_of text sels) in
    let rest : Bool = shares_line text (ranges_of text (y ∷ sels)) in
    elim (test_cases (eqb x.low.line y.low.line)) [
      | inl e ↦ ap (λ v. (v || later) || rest) (eq-eqb n m (omega (arith, eqb-true x.low.line y.low.line e))) ∙ sym (ap (λ v. v || shares_with_next (y ∷ sels)) e)
      | inr e ↦ (let apart : x.low.line ≢ y.low.line = eqb-false x.low.line y.low.line e in
          let less : m < n = omega arith in
          ap₂ (λ v w. (v || w) || rest) (ne_eqb n m (λ same. omega arith)) (none-later text m (offset text y.low) (offset text y.high) sels less a.1.0.ordered a.1.1 h.1.0)
          ∙ neighbours text (y ∷ sels) a.1 h.1 ∙ sym (ap (λ v. v || shares_with_next (y ∷ sels)) e))
    ]

pub neighbours-tell : (text : List ℕ) (list : Listed) → IsHeld text list → shares_line text (ranges_of text list.list) ≡ shares_with_next list.list
neighbours-tell text list h = neighbours text list.list h.inside h.settled.apart

-- one neighbour more
pub shares-next : (sels : List Sel) (n : ℕ) (d : Sel) → n + 1 < length sels
    → shares_with_next (drop n sels) ≡ eqb (get_or sels n d).low.line (get_or sels (n + 1) d).low.line || shares_with_next (drop (n + 1) sels)
shares-next sels n d h =
    let second : drop (n + 1) sels ≡ get_or sels (n + 1) d ∷ drop (n + 1 + 1) sels = drop_more sels (n + 1) d h in
    ap shares_with_next (drop_more sels n d (omega arith) ∙ ap (λ xs. get_or sels n d ∷ xs) second)
    ∙ ap (λ xs. eqb (get_or sels n d).low.line (get_or sels (n + 1) d).low.line || shares_with_next xs) (sym second)

-- the last one has no neighbour
pub shares-last : (sels : List Sel) (n : ℕ) (d : Sel) → length sels ≤ n + 1 → shares_with_next (drop n sels) ≡ false
shares-last sels n d h =
    elim (ways n (length sels)) [
      | inl lt ↦ ap shares_with_next (drop_more sels n d lt ∙ ap (λ xs. get_or sels n d ∷ xs) (drop_all (n + 1) sels h))
      | inr ge ↦ ap shares_with_next (drop_all n sels ge)
    ]
  where
    ways : (a b : ℕ) → (a < b) ⊎ (b ≤ a)
    ways a b = grind arith

-- the display column of a cursor, by its coordinate
pub column-at : (text : List ℕ) (sel : Sel) (at : Coord) (tabstop : ℕ) → IsInside text sel → at ≡ cursor_at sel → display_column (nth_line text at.line) at.column tabstop ≡ cursor_column text tabstop (range_of text sel)
column-at text sel at tabstop h e = ap (λ (c : Coord). display_column (nth_line text c.line) c.column tabstop) (e ∙ sym (coord_at-cursor text sel h))

lacking-from : (text : List ℕ) (tabstop last n : ℕ) (rs : List Range)
    → put_together (each_from (λ n r. put_in_at r.low (spaces (last - cursor_column text tabstop r))) n rs) ≡ lacking last (map (cursor_column text tabstop) rs)
lacking-from text tabstop last n [] = refl
lacking-from text tabstop last n (r ∷ rs) = ap₂ (λ a b. a + b) (length-replicate (last - cursor_column text tabstop r) 32) (lacking-from text tabstop last (n + 1) rs)

-- so many characters go in
pub alignments-together : (text : List ℕ) (tabstop : ℕ) (rs : List Range) → put_together (alignments text tabstop rs) ≡ lacking (greatest (map (cursor_column text tabstop) rs)) (map (cursor_column text tabstop) rs)
alignments-together text tabstop rs = lacking-from text tabstop (greatest (map (cursor_column text tabstop) rs)) 0 rs

spaced-from : (text : List ℕ) (tabstop last n : ℕ) (sels : List Sel)
    → flat_splices text (spaced last (map (cursor_column text tabstop) (ranges_of text sels)) sels) ≡ each_from (λ n r. put_in_at r.low (spaces (last - cursor_column text tabstop r))) n (ranges_of text sels)
spaced-from text tabstop last n [] = refl
spaced-from text tabstop last n (x ∷ sels) = ap (λ ss. put_in_at (offset text x.low) (spaces (last - cursor_column text tabstop (range_of text x))) ∷ ss) (spaced-from text tabstop last (n + 1) sels)

-- by offsets they are those of the definition
pub spaced-flat : (text : List ℕ) (tabstop last : ℕ) (columns : List ℕ) (sels : List Sel) → columns ≡ map (cursor_column text tabstop) (ranges_of text sels) → last ≡ greatest columns
    → flat_splices text (spaced last columns sels) ≡ alignments text tabstop (ranges_of text sels)
spaced-flat text tabstop last columns sels e g =
    ap₂ (λ l cs. flat_splices text (spaced l cs sels)) (g ∙ ap greatest e) e ∙ spaced-from text tabstop (greatest (map (cursor_column text tabstop) (ranges_of text sels))) 0 sels

spaced-ends : (text : List ℕ) (last : ℕ) (columns : List ℕ) (sels : List Sel) → AreInside text sels → AllByRecursion (IsSpliceOf text) (spaced last columns sels)
spaced-ends text last [] sels a = tt
spaced-ends text last (c ∷ columns) [] a = tt
spaced-ends text last (c ∷ columns) (x ∷ sels) a = (record { from = inl a.0.low; «to» = inl a.0.low }, spaced-ends text last columns sels a.1)

-- spaces before ranges keep their order
spaces-keep : (text : List ℕ) (tabstop last : ℕ) → KeepsOrder (length text) (λ n r. put_in_at r.low (spaces (last - cursor_column text tabstop r)))
spaces-keep text tabstop last = record {
  ordered = λ n r o h. omega arith;
  ends = λ n r o h. omega arith;
  apart = λ m n r s o h p l. omega arith;
}

pub spaced-splices : (text : List ℕ) (tabstop last : ℕ) (columns : List ℕ) (list : Listed) → IsHeld text list → columns ≡ map (cursor_column text tabstop) (ranges_of text list.list) → last ≡ greatest columns
    → AreSplicesOf text (spaced last columns list.list)
spaced-splices text tabstop last columns list h e g =
    held-splices (λ n r. put_in_at r.low (spaces (greatest (map (cursor_column text tabstop) (ranges_of text list.list)) - cursor_column text tabstop r))) text list (spaced last columns list.list) h
    (spaces-keep text tabstop (greatest (map (cursor_column text tabstop) (ranges_of text list.list)))) (spaced-flat text tabstop last columns list.list e g) (spaced-ends text last columns list.list h.inside)

-- spaces before the selections from one on
pub spaced-next : (last : ℕ) (columns : List ℕ) (sels : List Sel) (n d : ℕ) (e : Sel) → n < length columns → n < length sels
    → spaced last (drop n columns) (drop n sels)
    ≡ record { from = (get_or sels n e).low; «to» = (get_or sels n e).low; text = spaces (last - get_or columns n d) } ∷ spaced last (drop (n + 1) columns) (drop (n + 1) sels)
spaced-next last columns sels n d e h k = ap₂ (λ cs ss. spaced last cs ss) (drop_more columns n d h) (drop_more sels n e k)

-- what was found of the begins of a list's selections
pub shares-is : (text : List ℕ) (list : Listed) (sels : List Sel) (found : Bool) → IsHeld text list → sels ≡ list.list → found ≡ shares_with_next sels → shares_line text (ranges_of text list.list) ≡ found
shares-is text list sels found h e f = neighbours-tell text list h ∙ ap shares_with_next (sym e) ∙ sym f

-- the display columns of the cursors of selections, and the greatest of them
pub record IsMeasured (text : List ℕ) (tabstop : ℕ) (sels : List Sel) (columns : List ℕ) (last : ℕ) : Type 0 where
  pub columns_are : columns ≡ map (cursor_column text tabstop) (ranges_of text sels)
  pub last_is : last ≡ greatest columns

pub measured : (text : List ℕ) (tabstop : ℕ) (sels given : List Sel) (items columns : List ℕ) (last : ℕ) → given ≡ sels → items ≡ map (cursor_column text tabstop) (ranges_of text given) → columns ≡ items
    → last ≡ greatest (map (cursor_column text tabstop) (ranges_of text given)) → IsMeasured text tabstop sels columns last
measured text tabstop sels given items columns last e f g k = record {
  columns_are = g ∙ f ∙ ap (λ s. map (cursor_column text tabstop) (ranges_of text s)) e;
  last_is = k ∙ ap greatest (sym f ∙ sym g);
}

-- whether the spaces are too many, as it is found of the display columns of the cursors
pub long-is : (text : List ℕ) (tabstop : ℕ) (sels given : List Sel) (last : ℕ) (found : Bool) → given ≡ sels → last ≡ greatest (map (cursor_column text tabstop) (ranges_of text given))
    → found ≡ ltb MAX_CHARS (lacking last (map (cursor_column text tabstop) (ranges_of text given))) → found ≡ ltb MAX_CHARS (put_together (alignments text tabstop (ranges_of text sels)))
long-is text tabstop sels given last found e g f =
    f ∙ ap (λ l. ltb MAX_CHARS (lacking l (map (cursor_column text tabstop) (ranges_of text given)))) g
    ∙ ap (ltb MAX_CHARS) (sym (alignments-together text tabstop (ranges_of text given)) ∙ ap (λ s. put_together (alignments text tabstop (ranges_of text s))) e)

-- the greatest display column of the cursors from one on
pub greatest-next : (text : List ℕ) (tabstop : ℕ) (sels : List Sel) (n : ℕ) (d : Sel) → n < length sels
    → greatest (map (cursor_column text tabstop) (ranges_of text (drop n sels)))
    ≡ max (cursor_column text tabstop (range_of text (get_or sels n d))) (greatest (map (cursor_column text tabstop) (ranges_of text (drop (n + 1) sels))))
greatest-next text tabstop sels n d h = ap (λ s. greatest (map (cursor_column text tabstop) (ranges_of text s))) (drop_more sels n d h)

max-is : (a b most : ℕ) → most ≡ ord_max nat_cmp a b → most ≡ max a b
max-is a b most e = grind (arith, common_steps)

-- the greatest of some numbers and of those that follow
pub greatest-of : (last column rest before most all here : ℕ) → max last before ≡ all → before ≡ max here rest → column ≡ here → most ≡ ord_max nat_cmp last column → max most rest ≡ all
greatest-of last column rest before most all here e f g k = omega (arith, max-is last column most k)

pub greatest-none : (text : List ℕ) (tabstop : ℕ) (sels : List Sel) (n : ℕ) → length sels ≤ n → greatest (map (cursor_column text tabstop) (ranges_of text (drop n sels))) ≡ 0
greatest-none text tabstop sels n h = ap (λ s. greatest (map (cursor_column text tabstop) (ranges_of text s))) (drop_all n sels h)

-- how many spaces bring the cursors from one on to a display column
pub lacking-next : (text : List ℕ) (tabstop last : ℕ) (sels : List Sel) (n : ℕ) (d : Sel) → n < length sels
    → lacking last (map (cursor_column text tabstop) (ranges_of text (drop n sels)))
    ≡ (last - cursor_column text tabstop (range_of text (get_or sels n d))) + lacking last (map (cursor_column text tabstop) (ranges_of text (drop (n + 1) sels)))
lacking-next text tabstop last sels n d h = ap (λ s. lacking last (map (cursor_column text tabstop) (ranges_of text s))) (drop_more sels n d h)

pub lacking-none : (text : List ℕ) (tabstop last : ℕ) (sels : List Sel) (n : ℕ) → length sels ≤ n → lacking last (map (cursor_column text tabstop) (ranges_of text (drop n sels))) ≡ 0
lacking-none text tabstop last sels n h = ap (λ s. lacking last (map (cursor_column text tabstop) (ranges_of text s))) (drop_all n sels h)

-- spaces before selections of a text are put in order
pub alignments-in_order : (text : List ℕ) (tabstop : ℕ) (list : Listed) → IsHeld text list → AreInOrder 0 (length text) (alignments text tabstop (ranges_of text list.list))
alignments-in_order text tabstop list h =
    let last : ℕ = greatest (map (cursor_column text tabstop) (ranges_of text list.list)) in
    each-in_order (length text) (λ n r. put_in_at r.low (spaces (last - cursor_column text tabstop r))) (ranges_of text list.list) (spaces-keep text tabstop last) (held-within text list.list h.inside) h.settled.apart
