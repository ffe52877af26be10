-- Where places end through changes that rise.
use Rattle.std.proofs.Common.{◌≡◌, ◌≢◌, ℕ, ◌+◌, ◌<◌, ◌≤◌, true, false, cond, eqb, inl, inr, ◌&&◌, List, [], ◌∷◌, length, refl, sym, ap, ap₂, subst, ◌∙◌, arith, eqb-true, eq-eqb}
use Rattle.text_model.specs.declared.coords.Coord.{Coord}
use Rattle.text_model.specs.declared.coords.Shift.{Shift}
use Rattle.text_model.specs.Texts.{IsStored, offset, coord_at, last_place}
use Rattle.text_model.proofs.PlaceLemmas.{offset-coord_at}
use Rattle.text_model.specs.Changes.{Change, Insertion, Erasure, changed, all_changed, IsChangeInside, move_of}
use Rattle.text_model.specs.Mapping.{shifted}
use Rattle.text_model.proofs.CoordLemmas.{test_cases, same_coord}
use Rattle.text_model.proofs.ChangeLemmas.{move_of-change}
use Rattle.text_model.proofs.MappingLemmas.{shifted-le}
use Rattle.list_model.specs.Ranges.{Range}
use Rattle.list_model.specs.Settling.{carried}
use Rattle.list_model.proofs.ListLemmas.{all_weaker}
use Rattle.undo_model.specs.Steps.{IsStep, AreSteps}
use Rattle.selection_map.specs.Carrying.{IsShiftStep}
use Rattle.selection_map.specs.Rebasing.{mapped}
use Rattle.selection_map.proofs.ShiftLemmas.{IsWayOf, shift-way, mapped-at}
use Rattle.buffer_store.specs.Stored.{shift_of, change_shifts}
use Rattle.edit_ops.specs.Leaving.{gone_through}
use Rattle.edit_ops.specs.Passing.{is_same, ended}
use Rattle.edit_ops.proofs.ShapeLemmas.{begin_of, top_of, AllFrom, Rises, shift-stays, shift-top}

-- where an offset goes through changes, one after another
abbrev pub gone_at : List ℕ → List Change → ℕ → ℕ
gone_at text [] o = o
gone_at text (c ∷ cs) o = gone_at (changed text c) cs (shifted (move_of text c) o)

pub gone_through-at : (text : List ℕ) (cs : List Change) (r : Range) → gone_through text cs r ≡ carried (gone_at text cs) r
gone_through-at text [] r = refl
gone_through-at text (c ∷ cs) r = gone_through-at (changed text c) cs (carried (shifted (move_of text c)) r)

pub move-last : (text : List ℕ) (c : Change) → (move_of text c).last ≡ last_place (changed text c)
move-last text (Insertion p s) = refl
move-last text (Erasure p q) = refl

pub move-begin : (text : List ℕ) (c : Change) → (move_of text c).begin ≡ begin_of c
move-begin text (Insertion p s) = refl
move-begin text (Erasure p q) = refl

-- the shift of a step, as the crates below know it
pub shift-step : (text : List ℕ) (c : Change) → IsStored text → IsStep text c → IsShiftStep text (changed text c) (shift_of text c) (move_of text c)
shift-step text c h s = record {
  old_text = h.is_text;
  new_text = s.stored.is_text;
  shift_is = record {
    insert_is = refl;
    change = move_of-change text c s.inside;
    begin_is = refl;
    end_is = refl;
    last_offset = move-last text c;
    last_is = refl;
  };
}

inside-begin : (text : List ℕ) (c : Change) → IsChangeInside text c → begin_of c ≤ length text
inside-begin text (Insertion p s) h = h
inside-begin text (Erasure p q) h = omega (arith, h.0, h.1)

-- what is before the begins of changes has the same coordinates behind them
pub coords-stay : (text : List ℕ) (cs : List Change) (o : ℕ) → IsStored text → AreSteps text cs → AllFrom o cs → coord_at (all_changed text cs) o ≡ coord_at text o
coords-stay text [] o h a f = refl
coords-stay text (c ∷ cs) o h a f =
    let w : IsWayOf text (changed text c) (shift_of text c) (move_of text c) = shift-way text (changed text c) (shift_of text c) (move_of text c) (shift-step text c h a.0) in
    coords-stay (changed text c) cs o a.0.stored a.1 f.1 ∙ w.same_before o (omega (arith, move-begin text c, f.0))

pub gone-stays : (text : List ℕ) (cs : List Change) (o : ℕ) → AreSteps text cs → AllFrom (o + 1) cs → gone_at text cs o ≡ o
gone-stays text [] o a f = refl
gone-stays text (c ∷ cs) o a f = ap (gone_at (changed text c) cs) (shift-stays text c o a.0.inside f.0) ∙ gone-stays (changed text c) cs o a.1 f.1

pub gone-inside : (text : List ℕ) (cs : List Change) (o : ℕ) → AreSteps text cs → o < length text → gone_at text cs o < length (all_changed text cs)
gone-inside text [] o a h = h
gone-inside text (c ∷ cs) o a h =
    gone-inside (changed text c) cs (shifted (move_of text c) o) a.1 (omega (arith, shifted-le (move_of text c) o, move-last text c, a.0.stored.is_text.some))

-- the test of coordinates
pub same-true : (a b : Coord) → is_same a b ≡ true → a ≡ b
same-true a b h =
    elim (test_cases (eqb a.line b.line)) [
      | inl e ↦ same_coord a b (eqb-true a.line b.line e) (eqb-true a.column b.column (sym (ap (λ v. v && eqb a.column b.column) e) ∙ h))
      | inr e ↦ absurd (let n : false ≡ true = sym (ap (λ v. v && eqb a.column b.column) e) ∙ h in cc)
    ]

pub same-refl : (a b : Coord) → a ≡ b → is_same a b ≡ true
same-refl a b e = ap₂ (λ v w. v && w) (eq-eqb a.line b.line (ap (λ (x : Coord). x.line) e)) (eq-eqb a.column b.column (ap (λ (x : Coord). x.column) e))

pub from-weaker : (m n : ℕ) (cs : List Change) → m ≤ n → AllFrom n cs → AllFrom m cs
from-weaker m n cs h f = all_weaker (λ (c : Change). n ≤ begin_of c) (λ (c : Change). m ≤ begin_of c) (λ c k. omega arith) cs f

begin-le_top : (c : Change) → begin_of c ≤ top_of c
begin-le_top (Insertion p s) = omega arith
begin-le_top (Erasure p q) = omega arith

-- where a place that no change begins before ends
pub ended-is : (text : List ℕ) (cs : List Change) (o : ℕ) → IsStored text → AreSteps text cs → Rises cs → AllFrom o cs → o < length text
    → ended (change_shifts text cs) (coord_at text o) ≡ coord_at (all_changed text cs) (gone_at text cs o)
ended-is text [] o h a r f b = refl
ended-is text (c ∷ cs) o h a r f b =
    let s : Shift = shift_of text c in
    let at : Coord = coord_at text o in
    let ss : List Shift = change_shifts (changed text c) cs in
    let step : IsShiftStep text (changed text c) s (move_of text c) = shift-step text c h a.0 in
    let w : IsWayOf text (changed text c) s (move_of text c) = shift-way text (changed text c) s (move_of text c) step in
    let begin : s.begin ≡ coord_at text (begin_of c) = w.begin_old ∙ ap (coord_at text) (move-begin text c) in
    elim (test_cases (is_same s.begin at)) [
      | inl e ↦
          (let same : begin_of c ≡ o = sym (offset-coord_at text (begin_of c) (inside-begin text c a.0.inside)) ∙ ap (offset text) (sym begin ∙ same-true s.begin at e) ∙ offset-coord_at text o (omega arith) in
          let goes : shifted (move_of text c) o ≤ top_of c = subst (λ n. shifted (move_of text c) n ≤ top_of c) same (shift-top text c a.0.inside) in
          ap (λ v. cond v (ended ss (mapped s s.begin)) at) e
          ∙ ap (ended ss) (ap (mapped s) (same-true s.begin at e) ∙ mapped-at text (changed text c) s (move_of text c) o step b)
          ∙ ended-is (changed text c) cs (shifted (move_of text c) o) a.0.stored a.1 r.1 (from-weaker (shifted (move_of text c) o) (top_of c) cs goes r.0) (omega (arith, shifted-le (move_of text c) o, move-last text c, a.0.stored.is_text.some)))
      | inr e ↦
          (let other : o ≢ begin_of c = λ k. (let n : true ≡ false = sym (same-refl s.begin at (begin ∙ ap (coord_at text) (sym k))) ∙ e in cc) in
          let before : AllFrom (o + 1) (c ∷ cs) = (omega (arith, f.0), from-weaker (o + 1) (top_of c) cs (omega (arith, f.0, begin-le_top c)) r.0) in
          ap (λ v. cond v (ended ss (mapped s s.begin)) at) e ∙ sym (coords-stay text (c ∷ cs) o h a f) ∙ ap (coord_at (all_changed text (c ∷ cs))) (sym (gone-stays text (c ∷ cs) o a before)))
    ]
