-- Both ends of a selection through a change.
use Rattle.std.proofs.Common.{ℕ, ◌≤◌, Bool, true, false, List, ap, ◌∙◌}
use Rattle.text_model.specs.declared.coords.Coord.{Coord}
use Rattle.text_model.specs.declared.coords.Shift.{Shift}
use Rattle.text_model.specs.Texts.{offset}
use Rattle.text_model.specs.Changes.{Move, IsChange}
use Rattle.text_model.specs.Mapping.{shifted}
use Rattle.text_model.proofs.MappingLemmas.{shifted-mono}
use Rattle.list_model.specs.Ranges.{Range}
use Rattle.selection_set.specs.declared.sel.Sel.{Sel}
use Rattle.selection_set.specs.Inside.{IsInside}
use Rattle.selection_map.specs.Carrying.{IsShiftStep, Carries, CarriesBoth}

-- the range of a change is in order
pub ordered-by : (insert : Bool) (old new : List ℕ) (b e : ℕ) → IsChange insert old new b e → b ≤ e
ordered-by true old new b e c = c.ordered
ordered-by false old new b e c = c.ordered

pub carries-both : (old new : List ℕ) (s : Shift) (m : Move) (sel : Sel) (low high : Coord) → IsShiftStep old new s m → IsInside old sel
    → Carries old new m sel.low low → Carries old new m sel.high high
    → CarriesBoth old new m sel (record { low = low; high = high; turned = sel.turned; target = sel.target })
carries-both old new s m sel low high f i l h = record {
  inside = record {
    low = l.is_place;
    high = h.is_place;
    ordered = rw (l.goes, h.goes) (shifted-mono m (offset old sel.low) (offset old sel.high) (ordered-by m.insert old new m.begin m.end f.shift_is.change) i.ordered);
  };
  goes = ap (λ (p : ℕ). let r : Range = record { low = p; high = offset new high; turned = sel.turned; target = sel.target } in r) l.goes
      ∙ ap (λ (p : ℕ). let r : Range = record { low = shifted m (offset old sel.low); high = p; turned = sel.turned; target = sel.target } in r) h.goes;
}
