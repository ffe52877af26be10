-- Replacements that are made one for each selection, from the first to the last.
use Rattle.std.proofs.Common.{◌≡◌, ℕ, zero, suc, ◌+◌, ◌<◌, ◌≤◌, Bool, true, false, List, [], ◌∷◌, ◌++◌, length, take, get_or, sym, ap, ap₂, subst, ◌∙◌, arith, length-take-le}
use Rattle.std.specs.Prelude.{if◌then◌else◌, None}
use Rattle.std.specs.List.{AllByRecursion}
use Rattle.std.proofs.lemmas.List.{map-append, map_more, length-map}
use Rattle.text_model.proofs.PlaceLemmas.{offset-below}
use Rattle.list_model.specs.Ranges.{Range, cursor}
use Rattle.list_model.specs.Settled.{AreApart}
use Rattle.undo_model.specs.Edits.{Splice, AreInOrder}
use Rattle.buffer_store.specs.declared.edits.Splice.{Splice as CodeSplice}
use Rattle.buffer_store.specs.Buffers.{flat_splice, flat_splices, IsSpliceOf, AreSplicesOf}
use Rattle.selection_set.specs.declared.sel.Sel.{Sel}
use Rattle.selection_set.specs.Inside.{range_of, IsInside}
use Rattle.selection_set.specs.Listing.{Listed, AreInside, ranges_of}
use Rattle.selection_set.specs.Held.{IsHeld}
use Rattle.edit_ops.specs.Each.{each_from}

-- the n-th selection of a list inside a text is inside it
pub inside-at : (text : List ℕ) (sels : List Sel) (n : ℕ) (d : Sel) → AreInside text sels → n < length sels → IsInside text (get_or sels n d)
inside-at text [] n d a h = absurd (omega arith)
inside-at text (x ∷ xs) zero d a h = a.0
inside-at text (x ∷ xs) (suc n) d a h = inside-at text xs n d a.1 (omega arith)

-- the ends of one more replacement
pub ends-more : (text : List ℕ) (ss : List CodeSplice) (s : CodeSplice) → AllByRecursion (IsSpliceOf text) ss → IsSpliceOf text s → AllByRecursion (IsSpliceOf text) (ss ++ s ∷ [])
ends-more text [] s a h = (h, tt)
ends-more text (x ∷ xs) s a h = (a.0, ends-more text xs s a.1 h)

each-append : (f : ℕ → Range → Splice) (n : ℕ) (rs : List Range) (r : Range) → each_from f n (rs ++ r ∷ []) ≡ each_from f n rs ++ f (n + length rs) r ∷ []
each-append f n [] r = ap (λ k. f k r ∷ []) (omega arith)
each-append f n (x ∷ xs) r = ap (λ t. f n x ∷ t) (each-append f (n + 1) xs r ∙ ap (λ k. each_from f (n + 1) xs ++ f k r ∷ []) (omega arith))

-- the replacements for the first selections, by offsets, and one more
pub each-more : (f : ℕ → Range → Splice) (text : List ℕ) (sels : List Sel) (ss : List CodeSplice) (s : CodeSplice) (sel d : Sel) (i : ℕ) → i < length sels → sel ≡ get_or sels i d
    → flat_splices text ss ≡ each_from f 0 (ranges_of text (take i sels)) → flat_splice text s ≡ f i (range_of text sel) → flat_splices text (ss ++ s ∷ []) ≡ each_from f 0 (ranges_of text (take (i + 1) sels))
each-more f text sels ss s sel d i h at e one =
    let count : 0 + length (ranges_of text (take i sels)) ≡ i = omega (arith, length-map (take i sels) (range_of text), length-take-le i sels (omega arith)) in
    map-append (flat_splice text) ss (s ∷ []) ∙ ap₂ (λ xs (x : Splice). xs ++ x ∷ []) e (one ∙ ap (λ x. f i (range_of text x)) at ∙ ap (λ k. f k (range_of text (get_or sels i d))) (sym count))
    ∙ sym (each-append f 0 (ranges_of text (take i sels)) (range_of text (get_or sels i d)))
    ∙ ap (each_from f 0) (sym (map_more (range_of text) sels i d h))

-- ranges of which each lies inside a text of so many characters
abbrev pub AreWithin : ℕ → List Range → Type 0
AreWithin last rs = AllByRecursion (λ (r : Range). (r.low ≤ r.high) × (r.high < last)) rs

pub held-within : (text : List ℕ) (sels : List Sel) → AreInside text sels → AreWithin (length text) (ranges_of text sels)
held-within text [] a = tt
held-within text (x ∷ sels) a = ((a.0.ordered, offset-below text x.high a.0.high), held-within text sels a.1)

-- replacements for ranges of a text of so many characters are ordered and end in it, and those for ranges that are apart are in order
pub record KeepsOrder (last : ℕ) (f : ℕ → Range → Splice) : Type 0 where
  pub ordered : (n : ℕ) (r : Range) → r.low ≤ r.high → r.high < last → (f n r).from ≤ (f n r).to
  pub ends : (n : ℕ) (r : Range) → r.low ≤ r.high → r.high < last → (f n r).to ≤ last
  pub apart : (m n : ℕ) (r s : Range) → r.low ≤ r.high → r.high < s.low → s.low ≤ s.high → s.high < last → (f m r).to ≤ (f n s).from

each-behind : (last : ℕ) (f : ℕ → Range → Splice) (m n : ℕ) (r : Range) (rs : List Range) → KeepsOrder last f → r.low ≤ r.high → r.high < last
    → AllByRecursion (λ (s : Range). r.high < s.low) rs → AreWithin last rs → AreApart rs → AreInOrder (f m r).to last (each_from f n rs)
each-behind last f m n r [] k o h b w a = k.ends m r o h
each-behind last f m n r (s ∷ rs) k o h b w a = (k.apart m n r s o b.0 w.0.0 w.0.1, k.ordered n s w.0.0 w.0.1, each-behind last f n (n + 1) s rs k w.0.0 w.0.1 a.0 w.1 a.1)

pub each-in_order : (last : ℕ) (f : ℕ → Range → Splice) (rs : List Range) → KeepsOrder last f → AreWithin last rs → AreApart rs → AreInOrder 0 last (each_from f 0 rs)
each-in_order last f [] k w a = omega arith
each-in_order last f (r ∷ rs) k w a = (omega arith, k.ordered 0 r w.0.0 w.0.1, each-behind last f 0 1 r rs k w.0.0 w.0.1 a.0 w.1 a.1)

-- so they are replacements of the text
pub held-splices : (f : ℕ → Range → Splice) (text : List ℕ) (list : Listed) (ss : List CodeSplice) → IsHeld text list → KeepsOrder (length text) f
    → flat_splices text ss ≡ each_from f 0 (ranges_of text list.list) → AllByRecursion (IsSpliceOf text) ss → AreSplicesOf text ss
held-splices f text list ss h k e ends = record {
  ends = ends;
  in_order = subst (AreInOrder 0 (length text)) (sym e) (each-in_order (length text) f (ranges_of text list.list) k (held-within text list.list h.inside) h.settled.apart);
}

-- the cursor of a range is in it
pub cursor-in : (r : Range) → r.low ≤ r.high → (r.low ≤ cursor r) × (cursor r ≤ r.high)
cursor-in r o = both r.turned
  where
    both : (t : Bool) → (r.low ≤ (if t then r.low else r.high)) × ((if t then r.low else r.high) ≤ r.high)
    both true = (omega arith, o)
    both false = (o, omega arith)

-- the selection that is at no place of a list
abbrev pub no_sel : Sel
no_sel = record { low = record { line = 0; column = 0 }; high = record { line = 0; column = 0 }; turned = false; target = None }
