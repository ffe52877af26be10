-- Lemmas on the mark of a change by its shift.
use Rattle.std.proofs.Common.{◌≡◌, ℕ, ◌+◌, ◌-◌, ◌<◌, ◌≤◌, min, true, false, None, List, length, sym, ap, ap₂, subst, ◌∙◌, arith, drop, take, take_at, length-take-le}
use Rattle.text_model.specs.declared.coords.Coord.{Coord}
use Rattle.text_model.specs.declared.coords.Shift.{Shift}
use Rattle.text_model.specs.Coords.{origin, reached}
use Rattle.text_model.specs.Texts.{IsPlace, IsPlaceOrEnd, line_count, offset, coord_at, last_place}
use Rattle.text_model.specs.Changes.{Change, Insertion, Erasure, changed}
use Rattle.text_model.proofs.PlaceLemmas.{offset-coord_at, coord_at-offset, offset-end, IsPlaceOrEnd-coord_at}
use Rattle.text_model.proofs.ChangeLemmas.{length-changed_insertion, length-changed_erasure}
use Rattle.line_buffer.proofs.InsertLemmas.{place_by_line, end_by_line}
use Rattle.line_buffer.proofs.FlatLemmas.{line-le-count}
use Rattle.selection_set.specs.declared.sel.Sel.{Sel}
use Rattle.undo_model.specs.Steps.{IsStep}
use Rattle.undo_model.specs.Marks.{mark}
use Rattle.move_marks.specs.Marking.{sel_at}
use Rattle.buffer_store.specs.Traces.{IsRightBehind, IsBehindAStep}

-- the begin and the end of what was put in, by coordinates of the text behind it
pub record IsPutIn (new : List ℕ) (shift : Shift) : Type 0 where
  pub place : IsPlaceOrEnd new shift.end
  pub some : 0 < offset new shift.end

pub put-in : (new : List ℕ) (shift : Shift) → IsBehindAStep new shift → shift.insert ≡ true → IsPutIn new shift
put-in new shift h e = of h.change h.behind
  where
    of : (c : Change) → IsRightBehind h.old c new shift → IsPutIn new shift
    of (Insertion p s) b =
        let text : List ℕ = changed h.old (Insertion p s) in
        let inside : p + length s ≤ length text = omega (arith, b.step.inside, length-changed_insertion h.old p s b.step.inside) in
        let at : shift.end ≡ coord_at text (p + length s) = ap (λ (x : Shift). x.end) b.shift_is in
        let P : List ℕ → Coord → Type 0 = λ t x. IsPlaceOrEnd t x × (0 < offset t x) in
        let both : IsPlaceOrEnd text (coord_at text (p + length s)) × (0 < offset text (coord_at text (p + length s))) = (IsPlaceOrEnd-coord_at text (p + length s) b.step.stored.is_text inside, omega (arith, offset-coord_at text (p + length s) inside, b.step.some)) in
        let there : IsPlaceOrEnd new shift.end × (0 < offset new shift.end) = subst (λ (t : List ℕ). P t shift.end) (sym b.text) (subst (λ (x : Coord). P text x) (sym at) both) in
        record { place = there.0; some = there.1 }
    of (Erasure p q) b = absurd (let both : true ≡ false = sym e ∙ ap (λ (x : Shift). x.insert) b.shift_is in cc)

-- where something was taken out is the same coordinate of the texts before and behind that
begins-erased : (text : List ℕ) (p q : ℕ) → IsStep text (Erasure p q) → (coord_at text p ≡ coord_at (changed text (Erasure p q)) p) × (p ≤ length text) × (p ≤ length (changed text (Erasure p q)))
begins-erased text p q h =
    let short : p ≤ length text = omega (arith, h.inside.0, h.inside.1) in
    (sym (ap (reached origin) (take_at (take p text) (drop q text) p (length-take-le p text short))), short, omega (arith, h.inside.0, h.inside.1, length-changed_erasure text p q h.inside.0 h.inside.1))

-- where something was taken out, by coordinates of the text behind that
pub taken-out : (new : List ℕ) (shift : Shift) → IsBehindAStep new shift → shift.insert ≡ false → IsPlaceOrEnd new shift.begin
taken-out new shift h e = of h.change h.behind
  where
    of : (c : Change) → IsRightBehind h.old c new shift → IsPlaceOrEnd new shift.begin
    of (Insertion p s) b = absurd (let both : true ≡ false = sym (ap (λ (x : Shift). x.insert) b.shift_is) ∙ e in cc)
    of (Erasure p q) b =
        let text : List ℕ = changed h.old (Erasure p q) in
        let same : (coord_at h.old p ≡ coord_at text p) × (p ≤ length h.old) × (p ≤ length text) = begins-erased h.old p q b.step in
        let at : shift.begin ≡ coord_at text p = ap (λ (x : Shift). x.begin) b.shift_is ∙ same.0 in
        let P : List ℕ → Coord → Type 0 = λ t x. IsPlaceOrEnd t x in
        subst (λ (t : List ℕ). P t shift.begin) (sym b.text) (subst (λ (x : Coord). P text x) (sym at) (IsPlaceOrEnd-coord_at text p b.step.stored.is_text same.2))

-- so the mark of what was put in
pub mark-put_in : (old new : List ℕ) (c : Change) (shift : Shift) (high : Coord) → IsRightBehind old c new shift → shift.insert ≡ true → high ≡ coord_at new (offset new shift.end - 1) → (let m : Sel = record { low = shift.begin; high = high; turned = false; target = None } in m) ≡ sel_at new (mark new c)
mark-put_in old new (Insertion p s) shift high b e h =
    let text : List ℕ = changed old (Insertion p s) in
    let inside : p + length s ≤ length text = omega (arith, b.step.inside, length-changed_insertion old p s b.step.inside) in
    let low : shift.begin ≡ coord_at new p = ap (λ (x : Shift). x.begin) b.shift_is ∙ ap (λ t. coord_at t p) (sym b.text) in
    let last : offset new shift.end ≡ p + length s = ap₂ offset b.text (ap (λ (x : Shift). x.end) b.shift_is) ∙ offset-coord_at text (p + length s) inside in
    ap₂ (λ x y. (let m : Sel = record { low = x; high = y; turned = false; target = None } in m)) low (h ∙ ap (λ n. coord_at new (n - 1)) last)
mark-put_in old new (Erasure p q) shift high b e h = absurd (let both : true ≡ false = sym e ∙ ap (λ (x : Shift). x.insert) b.shift_is in cc)

-- and the mark where something was taken out
pub mark-taken_out : (old new : List ℕ) (c : Change) (shift : Shift) (at : Coord) → IsRightBehind old c new shift → shift.insert ≡ false → at ≡ coord_at new (min (offset new shift.begin) (last_place new)) → (let m : Sel = record { low = at; high = at; turned = false; target = None } in m) ≡ sel_at new (mark new c)
mark-taken_out old new (Insertion p s) shift at b e h = absurd (let both : true ≡ false = sym (ap (λ (x : Shift). x.insert) b.shift_is) ∙ e in cc)
mark-taken_out old new (Erasure p q) shift at b e h =
    let text : List ℕ = changed old (Erasure p q) in
    let same : (coord_at old p ≡ coord_at text p) × (p ≤ length old) × (p ≤ length text) = begins-erased old p q b.step in
    let first : offset new shift.begin ≡ p = ap₂ offset b.text (ap (λ (x : Shift). x.begin) b.shift_is ∙ same.0) ∙ offset-coord_at text p same.2 in
    let is : at ≡ coord_at new (min p (last_place new)) = h ∙ ap (λ n. coord_at new (min n (last_place new))) first in
    ap (λ x. (let m : Sel = record { low = x; high = x; turned = false; target = None } in m)) is

-- a place by its offset
pub place-is : (text : List ℕ) (at : Coord) (n : ℕ) → IsPlace text at → offset text at ≡ n → at ≡ coord_at text n
place-is text at n h e = sym (coord_at-offset text at h) ∙ ap (coord_at text) e

-- by its line a place or the end is the end
pub end-offset : (text : List ℕ) (at : Coord) (lines : ℕ) → IsPlaceOrEnd text at → lines ≡ line_count text → at.line ≡ lines → offset text at ≡ length text
end-offset text at lines h e t = ap (offset text) (end_by_line text at h (omega (arith, t, e))) ∙ offset-end text

-- or a place
pub inside-by_line : (text : List ℕ) (at : Coord) (lines : ℕ) → IsPlaceOrEnd text at → lines ≡ line_count text → (at.line ≡ lines → ⊥) → IsPlace text at
inside-by_line text at lines h e t = place_by_line text at h (omega (arith, line-le-count text at h, e, t))
