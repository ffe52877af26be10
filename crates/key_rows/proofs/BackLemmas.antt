-- Selections whose cursor goes back by one, and such as stay.
use Rattle.std.proofs.Common.{◌≡◌, ℕ, ◌+◌, ◌-◌, ◌<◌, Bool, true, false, not, List, None, refl, sym, ap, ap₂, ◌∙◌, arith, inl, inr}
use Rattle.std.specs.Prelude.{◌⊎◌, ◌&&◌, if◌then◌else◌, nat_lt}
use Rattle.std.proofs.lemmas.Bool.Decides.{leb_tells}
use Rattle.std.proofs.lemmas.Bool.{false≢true}
use Rattle.text_model.specs.declared.coords.Coord.{Coord}
use Rattle.text_model.specs.Coords.{is_at_most}
use Rattle.text_model.specs.Texts.{offset, IsPlace}
use Rattle.text_model.proofs.PlaceLemmas.{is_at_most-offset}
use Rattle.list_model.specs.Ranges.{Range}
use Rattle.selection_set.specs.declared.sel.Sel.{Sel}
use Rattle.selection_set.specs.Inside.{range_of, IsInside}
use Rattle.key_rows.specs.declared.shapes.Shape.TheVariants.{OneBack}
use Rattle.key_rows.specs.Each.{reshaped}
use Rattle.key_rows.proofs.TurnedLemmas.{turned-is}

none-behind : (t : Bool) → (t && false) ≡ false
none-behind true = refl
none-behind false = refl

-- turned ones stay, and those of one character
pub back-stays : (text : List ℕ) (sel : Sel) → IsInside text sel → (sel.turned ≡ true) ⊎ (is_at_most sel.high sel.low ≡ true) → range_of text sel ≡ reshaped OneBack text (range_of text sel)
back-stays text sel h (inl t) =
    sym (ap (λ b. if not b && nat_lt (offset text sel.low) (offset text sel.high) then (let r : Range = record { low = offset text sel.low; high = offset text sel.high - 1; turned = false; target = None } in r) else range_of text sel) t)
back-stays text sel h (inr e) =
    let least : nat_lt (offset text sel.low) (offset text sel.high) ≡ false = sym (turned-is text sel h) ∙ ap not e in
    sym (ap (λ b. if b then (let r : Range = record { low = offset text sel.low; high = offset text sel.high - 1; turned = false; target = None } in r) else range_of text sel)
    (ap (λ b. not sel.turned && b) least ∙ none-behind (not sel.turned)))

-- the others don't
pub back-goes : (text : List ℕ) (sel : Sel) (high : Coord) → IsInside text sel → sel.turned ≡ false → is_at_most sel.high sel.low ≡ false → offset text high + 1 ≡ offset text sel.high
    → range_of text (record { low = sel.low; high = high; turned = false; target = None }) ≡ reshaped OneBack text (range_of text sel)
back-goes text sel high h t e one =
    let more : nat_lt (offset text sel.low) (offset text sel.high) ≡ true = sym (turned-is text sel h) ∙ ap not e in
    let at : offset text high ≡ offset text sel.high - 1 = omega (arith, one) in
    ap (λ n. let r : Range = record { low = offset text sel.low; high = n; turned = false; target = None } in r) at
    ∙ sym (ap₂ (λ b d. if not b && d then (let r : Range = record { low = offset text sel.low; high = offset text sel.high - 1; turned = false; target = None } in r) else range_of text sel) t more)

pub back-inside : (text : List ℕ) (sel : Sel) (high : Coord) → IsInside text sel → is_at_most sel.high sel.low ≡ false → IsPlace text high → offset text high + 1 ≡ offset text sel.high → IsInside text (record { low = sel.low; high = high; turned = false; target = None })
back-inside text sel high h e p one = record { low = h.low; high = p; ordered = omega (arith, one, below) }
  where
    below : offset text sel.low < offset text sel.high
    below = elim (leb_tells (offset text sel.high) (offset text sel.low)) [
      | inl t ↦ absurd (false≢true (sym e ∙ is_at_most-offset text sel.high sel.low (inl h.high) (inl h.low) ∙ t.0))
      | inr t ↦ t.1
    ]
