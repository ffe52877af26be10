-- The flag of a selection whose cursor goes to its first character.
use Rattle.std.proofs.Common.{◌≡◌, ℕ, Bool, not, List, refl, ap, ◌∙◌, inl, inr}
use Rattle.std.specs.Prelude.{nat_lt}
use Rattle.std.proofs.Math.Dec.{leb, ltb}
use Rattle.std.proofs.lemmas.Bool.{lt-ltb, le-ltb}
use Rattle.std.proofs.lemmas.Bool.Decides.{leb_tells}
use Rattle.text_model.specs.Coords.{is_at_most}
use Rattle.text_model.specs.Texts.{offset}
use Rattle.text_model.proofs.PlaceLemmas.{is_at_most-offset}
use Rattle.list_model.specs.Ranges.{Range}
use Rattle.selection_set.specs.declared.sel.Sel.{Sel}
use Rattle.selection_set.specs.Inside.{range_of, IsInside}
use Rattle.key_rows.specs.declared.shapes.Shape.TheVariants.{AtStart}
use Rattle.key_rows.specs.Each.{reshaped}

not-leb : (a b : ℕ) → not (leb b a) ≡ ltb a b
not-leb a b = elim (leb_tells b a) [ inl h ↦ rw (h.0, le-ltb a b (h.1)) refl | inr h ↦ rw (h.0, lt-ltb a b (h.1)) refl ]

-- the flag by coordinates is the flag by offsets
pub turned-is : (text : List ℕ) (sel : Sel) → IsInside text sel → not (is_at_most sel.high sel.low) ≡ nat_lt (offset text sel.low) (offset text sel.high)
turned-is text sel h = ap not (is_at_most-offset text sel.high sel.low (inl h.high) (inl h.low)) ∙ not-leb (offset text sel.low) (offset text sel.high)

pub turned-range : (text : List ℕ) (sel : Sel) (flag : Bool) → IsInside text sel → flag ≡ is_at_most sel.high sel.low
    → range_of text (record { low = sel.low; high = sel.high; turned = not flag; target = sel.target }) ≡ reshaped AtStart text (range_of text sel)
turned-range text sel flag h e = ap (λ (t : Bool). let r : Range = record { low = offset text sel.low; high = offset text sel.high; turned = t; target = sel.target } in r) (ap not e ∙ turned-is text sel h)
