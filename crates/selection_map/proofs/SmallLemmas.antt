-- The coordinates of places of a text are within what a text may have.
use Rattle.std.proofs.Common.{ℕ, ◌≤◌, ◌+◌, Bool, true, false, List, [], ◌∷◌, length, take, sym, arith, subst, length-take, inl, inr}
use Rattle.text_model.specs.declared.TheConstants.{MAX_CHARS}
use Rattle.text_model.specs.declared.coords.Coord.{Coord}
use Rattle.text_model.specs.declared.coords.Shift.{Shift}
use Rattle.text_model.specs.Coords.{origin, after, reached}
use Rattle.text_model.specs.Texts.{IsStored, offset, IsPlace, coord_at}
use Rattle.text_model.specs.Changes.{Move, IsShift, holder}
use Rattle.text_model.proofs.CoordLemmas.{after-newline, after-other, test_cases}
use Rattle.text_model.proofs.PlaceLemmas.{coord_at-offset}
use Rattle.std.proofs.Math.Dec.{eqb}
use Rattle.selection_set.specs.declared.sel.Sel.{Sel}
use Rattle.selection_set.specs.Inside.{IsInside}
use Rattle.selection_map.specs.Carrying.{IsSmall, AreSmall}

-- one character on, a coordinate grows by one at most
pub record GrowsBy (n : ℕ) (a b : Coord) : Type 0 where
  pub lines : b.line ≤ a.line + n
  pub columns : b.column ≤ a.column + n

after-grows : (a : Coord) (c : ℕ) → GrowsBy 1 a (after a c)
after-grows a c = elim (test_cases (eqb c 10)) [ inl e ↦ rw (after-newline a c e) (record { lines = omega arith; columns = omega arith }) | inr e ↦ rw (after-other a c e) (record { lines = omega arith; columns = omega arith }) ]

reached-grows : (a : Coord) (xs : List ℕ) → GrowsBy (length xs) a (reached a xs)
reached-grows a [] = record { lines = omega arith; columns = omega arith }
reached-grows a (c ∷ xs) =
    let f : GrowsBy 1 a (after a c) = after-grows a c in
    let g : GrowsBy (length xs) (after a c) (reached (after a c) xs) = reached-grows (after a c) xs in
    record { lines = omega (arith, f.lines, g.lines); columns = omega (arith, f.columns, g.columns) }

-- the coordinate of an offset
pub coord_at-small : (text : List ℕ) (o : ℕ) → length text ≤ MAX_CHARS → IsSmall (coord_at text o)
coord_at-small text o h =
    let g : GrowsBy (length (take o text)) origin (coord_at text o) = reached-grows origin (take o text) in
    record { lines = omega (arith, g.lines, length-take o text, h); columns = omega (arith, g.columns, length-take o text, h) }

-- a place
pub place-small : (text : List ℕ) (at : Coord) → IsStored text → IsPlace text at → IsSmall at
place-small text at t p = subst IsSmall (coord_at-offset text at p) (coord_at-small text (offset text at) t.small)

holder-small : (insert : Bool) (old new : List ℕ) → IsStored old → IsStored new → length (holder insert old new) ≤ MAX_CHARS
holder-small true old new o n = n.small
holder-small false old new o n = o.small

-- a selection of the old text, and the shift between two texts
pub both-small : (old new : List ℕ) (sel : Sel) (s : Shift) (m : Move) → IsStored old → IsStored new → IsShift old new s m → IsInside old sel → AreSmall sel s
both-small old new sel s m o n f i = record {
  low = place-small old sel.low o i.low;
  high = place-small old sel.high o i.high;
  begin = subst IsSmall (sym f.begin_is) (coord_at-small (holder m.insert old new) m.begin (holder-small m.insert old new o n));
  «end» = subst IsSmall (sym f.end_is) (coord_at-small (holder m.insert old new) m.end (holder-small m.insert old new o n));
}
