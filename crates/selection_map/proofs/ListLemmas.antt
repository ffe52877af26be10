-- Lists of selections through a change.
use Rattle.std.proofs.Common.{◌≡◌, ℕ, ◌≤◌, List, [], ◌∷◌, map, refl, sym, ap₂, subst, subst₂}
use Rattle.text_model.specs.declared.coords.Shift.{Shift}
use Rattle.text_model.specs.Changes.{Move}
use Rattle.text_model.specs.Mapping.{shifted}
use Rattle.text_model.proofs.MappingLemmas.{shifted-mono}
use Rattle.list_model.specs.Ranges.{Range}
use Rattle.list_model.specs.Settling.{carried}
use Rattle.list_model.proofs.ListLemmas.{all_weaker, all_map}
use Rattle.selection_set.specs.declared.sel.Sel.{Sel}
use Rattle.selection_set.specs.Listing.{Listed, AreInside, ranges_of, LowsDontFall, IsSettledIn}
use Rattle.selection_set.specs.Inside.{IsInside}
use Rattle.selection_map.specs.Carrying.{IsShiftStep, CarriesBoth}
use Rattle.selection_map.specs.Rebasing.{mapped, mapped_sel}
use Rattle.selection_map.proofs.BothLemmas.{carries-both, ordered-by}
use Rattle.selection_map.proofs.CarryLemmas.{carries-mapped}

-- one selection
pub mapped-both : (old new : List ℕ) (s : Shift) (m : Move) (sel : Sel) → IsShiftStep old new s m → IsInside old sel → CarriesBoth old new m sel (mapped_sel s sel)
mapped-both old new s m sel f h = carries-both old new s m sel (mapped s sel.low) (mapped s sel.high) f h (carries-mapped old new s m sel.low f h.low) (carries-mapped old new s m sel.high f h.high)

-- a change keeps the order of first characters
pub lows-mapped : (f : ℕ → ℕ) → ((a b : ℕ) → a ≤ b → f a ≤ f b) → (rs : List Range) → LowsDontFall rs → LowsDontFall (map (carried f) rs)
lows-mapped f k [] h = tt
lows-mapped f k (r ∷ rs) h = (all_map (λ (s : Range). f r.low ≤ s.low) (carried f) rs (all_weaker (λ (s : Range). r.low ≤ s.low) (λ (s : Range). f r.low ≤ f s.low) (λ s e. k r.low s.low e) rs h.0), lows-mapped f k rs h.1)

pub mapped-inside : (old new : List ℕ) (s : Shift) (m : Move) (list : List Sel) → IsShiftStep old new s m → AreInside old list → AreInside new (map (mapped_sel s) list)
mapped-inside old new s m [] f h = tt
mapped-inside old new s m (x ∷ xs) f h = ((mapped-both old new s m x f h.0).inside, mapped-inside old new s m xs f h.1)

pub mapped-ranges : (old new : List ℕ) (s : Shift) (m : Move) (list : List Sel) → IsShiftStep old new s m → AreInside old list → ranges_of new (map (mapped_sel s) list) ≡ map (carried (shifted m)) (ranges_of old list)
mapped-ranges old new s m [] f h = refl
mapped-ranges old new s m (x ∷ xs) f h = ap₂ (λ r rs. r ∷ rs) (mapped-both old new s m x f h.0).goes (mapped-ranges old new s m xs f h.1)

-- what settles the mapped selections settles the list through the change
pub lists-settle : (old new : List ℕ) (s : Shift) (m : Move) (before at now : Listed) → at.list ≡ map (mapped_sel s) before.list → at.main ≡ before.main
    → ((text : List ℕ) → AreInside text at.list → LowsDontFall (ranges_of text at.list) → IsSettledIn text (ranges_of text at.list) at.main now)
    → IsShiftStep old new s m → AreInside old before.list → LowsDontFall (ranges_of old before.list)
    → IsSettledIn new (map (carried (shifted m)) (ranges_of old before.list)) before.main now
lists-settle old new s m before at now e g settles f i o =
    let P : List Sel → ℕ → Type 0 = λ l n. AreInside new l → LowsDontFall (ranges_of new l) → IsSettledIn new (ranges_of new l) n now in
    let same : ranges_of new (map (mapped_sel s) before.list) ≡ map (carried (shifted m)) (ranges_of old before.list) = mapped-ranges old new s m before.list f i in
    let order : LowsDontFall (map (carried (shifted m)) (ranges_of old before.list)) = lows-mapped (shifted m) (λ a b k. shifted-mono m a b (ordered-by m.insert old new m.begin m.end f.shift_is.change) k) (ranges_of old before.list) o in
    subst (λ rs. IsSettledIn new rs before.main now) same (subst₂ P e g (settles new) (mapped-inside old new s m before.list f i) (subst LowsDontFall (sym same) order))
