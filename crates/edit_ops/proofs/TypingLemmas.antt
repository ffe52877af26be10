-- Where what goes in before cursors goes.
use Rattle.std.proofs.Common.{◌≡◌, ℕ, ◌<◌, ◌≤◌, Bool, true, false, List, [], ◌∷◌, length, map, refl, sym, ap, ap₂, subst, arith, inl}
use Rattle.std.specs.Prelude.{if◌then◌else◌}
use Rattle.std.specs.List.{AllByRecursion}
use Rattle.text_model.proofs.PlaceLemmas.{offset-below}
use Rattle.list_model.specs.Ranges.{Range, cursor}
use Rattle.list_model.specs.Settled.{AreApart}
use Rattle.list_model.proofs.ListLemmas.{all_weaker}
use Rattle.undo_model.specs.Edits.{Splice, AreInOrder}
use Rattle.buffer_store.specs.Buffers.{flat_splices, IsSpliceOf, AreSplicesOf}
use Rattle.selection_set.specs.declared.sel.Sel.{Sel}
use Rattle.selection_set.specs.Listing.{Listed, AreInside, ranges_of}
use Rattle.selection_set.specs.Held.{IsHeld}
use Rattle.selection_set.proofs.CursorLemmas.{cursor-range_of, cursor-place}
use Rattle.edit_ops.specs.Typing.{typed_before, splice_before}

pub by-offsets : (text s : List ℕ) (sels : List Sel) → flat_splices text (map (splice_before s) sels) ≡ map (typed_before s) (ranges_of text sels)
by-offsets text s [] = refl
by-offsets text s (x ∷ sels) =
    ap₂ (λ (a : Splice) xs. a ∷ xs)
    (ap (λ p. let a : Splice = record { from = p; «to» = p; put = s } in a) (sym (cursor-range_of text x)))
    (by-offsets text s sels)

cursor-in : (r : Range) → r.low ≤ r.high → (r.low ≤ cursor r) × (cursor r ≤ r.high)
cursor-in r o = both r.turned
  where
    both : (t : Bool) → (r.low ≤ (if t then r.low else r.high)) × ((if t then r.low else r.high) ≤ r.high)
    both true = (omega arith, o)
    both false = (o, omega arith)

-- ranges of which each lies inside a text of so many characters
abbrev Within : ℕ → List Range → Type 0
Within last rs = AllByRecursion (λ (r : Range). (r.low ≤ r.high) × (r.high < last)) rs

in-order : (s : List ℕ) (from last : ℕ) (rs : List Range) → from ≤ last → AllByRecursion (λ (r : Range). from ≤ r.low) rs → Within last rs → AreApart rs → AreInOrder from last (map (typed_before s) rs)
in-order s from last [] f b w a = f
in-order s from last (r ∷ rs) f b w a =
    let c = cursor-in r w.0.0 in (
      omega (arith, b.0, c.0),
      omega arith,
      in-order s (cursor r) last rs (omega (arith, c.1, w.0.1)) (all_weaker (λ (x : Range). r.high < x.low) (λ (x : Range). cursor r ≤ x.low) (λ x l. omega (arith, c.1, l)) rs a.0) w.1 a.1,
    )

within : (text : List ℕ) (sels : List Sel) → AreInside text sels → Within (length text) (ranges_of text sels)
within text [] a = tt
within text (x ∷ sels) a = ((a.0.ordered, offset-below text x.high a.0.high), within text sels a.1)

all-from : (rs : List Range) → AllByRecursion (λ (r : Range). 0 ≤ r.low) rs
all-from [] = tt
all-from (r ∷ rs) = (omega arith, all-from rs)

ends-are : (text s : List ℕ) (sels : List Sel) → AreInside text sels → AllByRecursion (IsSpliceOf text) (map (splice_before s) sels)
ends-are text s [] a = tt
ends-are text s (x ∷ sels) a = (record { from = inl (cursor-place text x a.0); «to» = inl (cursor-place text x a.0) }, ends-are text s sels a.1)

pub typing-places : (text s : List ℕ) (list : Listed) → IsHeld text list → AreSplicesOf text (map (splice_before s) list.list)
typing-places text s list h = record {
  ends = ends-are text s list.list h.inside;
  in_order = subst (AreInOrder 0 (length text)) (sym (by-offsets text s list.list)) (in-order s 0 (length text) (ranges_of text list.list) (omega arith) (all-from (ranges_of text list.list)) (within text list.list h.inside) h.settled.apart);
}
