-- Walks through rising shifts.
use Rattle.std.proofs.Common.{◌≡◌, ℕ, ◌<◌, ◌≤◌, ◌+◌, ◌-◌, true, false, List, [], ◌∷◌, length, refl, sym, ap, ap₂, subst, ◌∙◌, arith}
use Rattle.text_model.specs.declared.coords.Coord.{Coord}
use Rattle.text_model.specs.declared.coords.Shift.{Shift}
use Rattle.text_model.specs.Coords.{origin, is_at_most}
use Rattle.text_model.specs.Texts.{IsStored, coord_at}
use Rattle.selection_map.specs.declared.reach.ShiftReach.{ShiftReach}
use Rattle.selection_map.specs.declared.walking.ShiftWay.TheVariants.{Rising}
use Rattle.selection_map.specs.Carrying.{IsShiftStep}
use Rattle.selection_map.specs.Rebasing.{mapped}
use Rattle.selection_map.specs.Reaching.{goes, at_rest, reach_of, then_on, all_mapped}
use Rattle.selection_map.specs.Catching.{Step, LeadsOn, Lead, shifts_of}
use Rattle.selection_map.specs.Premises.{ReachStands, spot, IsQueue, IsRising}
use Rattle.selection_map.proofs.OrderLemmas.{not_at_most-behind}
use Rattle.selection_map.proofs.TieLemmas.{goes-spot, then-stands, goes-then, rest-stands, rest-goes}
use Rattle.selection_map.proofs.ShiftLemmas.{IsWayOf, shift-way, mapped-way, Stays, stays-before, begins-by}

-- a step from a text that can be kept
pub step-of : (old : List ℕ) (st : Step) → IsStored old → LeadsOn old st → IsShiftStep old st.text st.shift st.move
step-of old st h l = record { old_text = h.is_text; new_text = l.stored.is_text; shift_is = l.shift_is }

-- a place before the begins of all shifts stays
pub stays-ahead : (text : List ℕ) (steps : List Step) (at : Coord) (o : ℕ) → IsStored text → Lead text steps → IsQueue Rising at (shifts_of steps) → o < length text → is_at_most at (coord_at text o) ≡ false → all_mapped (shifts_of steps) (coord_at text o) ≡ coord_at text o
stays-ahead text [] at o h l q below e = refl
stays-ahead text (st ∷ sts) at o h l q below e =
    let ahead : is_at_most st.shift.begin (coord_at text o) ≡ false = not_at_most-behind at st.shift.begin (coord_at text o) e q.0 in
    let s : Stays text st.text st.shift o = stays-before text st.text st.shift st.move o (step-of text st h l.0) below ahead in
    ap (all_mapped (shifts_of sts)) (s.kept ∙ sym s.same)
    ∙ stays-ahead st.text sts st.shift.begin o l.0.stored l.1 q.1 s.inside (ap (is_at_most st.shift.begin) s.same ∙ ahead)
    ∙ s.same

-- where it has gone, a place that isn't due for the next shift stays
pub rising-stop : (first : List ℕ) (all : List Shift) (lower : ℕ) (w : ShiftReach) (s : Shift) (ss : List Shift) (o : ℕ) → IsStored first → IsRising first all lower w (s ∷ ss) → lower ≤ o → o < length first → is_at_most s.begin (goes w (coord_at first o)) ≡ false
    → goes w (coord_at first o) ≡ all_mapped all (coord_at first o)
rising-stop first all lower w s ss o h r le below e =
    sym (by_steps r.steps r.leads r.rest_is) ∙ r.right o le below
  where
    at : goes w (coord_at first o) ≡ coord_at r.text (spot r.text r.f r.t o)
    at = goes-spot first r.text w r.f r.t o h.is_text r.stands below

    by_steps : (steps : List Step) → Lead r.text steps → s ∷ ss ≡ shifts_of steps → all_mapped (s ∷ ss) (goes w (coord_at first o)) ≡ goes w (coord_at first o)
    by_steps [] l k = absurd (nothing k)
      where
        nothing : s ∷ ss ≡ [] → ⊥
        nothing k = cc
    by_steps (st ∷ sts) l k =
        let head : s ≡ st.shift = cc in
        let q : IsQueue Rising r.behind (shifts_of (st ∷ sts)) = subst (IsQueue Rising r.behind) k r.rise in
        let apart : is_at_most st.shift.begin (coord_at r.text (spot r.text r.f r.t o)) ≡ false = ap₂ (λ (x : Shift) y. is_at_most x.begin y) (sym head) (sym at) ∙ e in
        let x : Stays r.text st.text st.shift (spot r.text r.f r.t o) = stays-before r.text st.text st.shift st.move (spot r.text r.f r.t o) (step-of r.text st r.stored l.0) (omega (arith, r.stored.is_text.some)) apart in
        ap₂ all_mapped k at
        ∙ ap (all_mapped (shifts_of sts)) (x.kept ∙ sym x.same)
        ∙ stays-ahead st.text sts st.shift.begin (spot r.text r.f r.t o) l.0.stored l.1 q.1 x.inside (ap (is_at_most st.shift.begin) x.same ∙ apart)
        ∙ x.same
        ∙ sym at

-- a shift that is due is passed
rising-on : (first : List ℕ) (all : List Shift) (lower : ℕ) (w : ShiftReach) (st : Step) (sts : List Step) (o : ℕ) (text : List ℕ) (f t : ℕ) (behind : Coord)
    → IsStored first → IsStored text → ReachStands first text w f t → Lead text (st ∷ sts) → IsQueue Rising behind (shifts_of (st ∷ sts))
    → ((p : ℕ) → lower ≤ p → p < length first → all_mapped (shifts_of (st ∷ sts)) (goes w (coord_at first p)) ≡ all_mapped all (coord_at first p))
    → lower ≤ o → o < length first → is_at_most st.shift.begin (goes w (coord_at first o)) ≡ true
    → IsRising first all o (then_on w (reach_of st.shift)) (shifts_of sts)
rising-on first all lower w st sts o text f t behind h k s l q right le below e = record {
  text = st.text;
  steps = sts;
  f = f + (way.f - t);
  t = way.t + (t - way.f);
  behind = st.shift.begin;
  stored = l.0.stored;
  stands = then-stands first text st.text w (reach_of st.shift) f t way.f way.t k.is_text s way.stands;
  leads = l.1;
  rest_is = refl;
  rise = q.1;
  right = λ p up in_first. ap (all_mapped (shifts_of sts)) (onward p up in_first) ∙ right p (omega arith) in_first;
}
  where
    step : IsShiftStep text st.text st.shift st.move
    step = step-of text st k l.0

    way : IsWayOf text st.text st.shift st.move
    way = shift-way text st.text st.shift st.move step

    begins : st.move.begin ≤ spot text f t o
    begins = begins-by text st.text st.shift st.move (spot text f t o) step (omega (arith, k.is_text.some)) (ap (is_at_most st.shift.begin) (sym (goes-spot first text w f t o h.is_text s below)) ∙ e)

    onward : (p : ℕ) → o ≤ p → p < length first → goes (then_on w (reach_of st.shift)) (coord_at first p) ≡ mapped st.shift (goes w (coord_at first p))
    onward p up in_first =
        let at : goes w (coord_at first p) ≡ coord_at text (spot text f t p) = goes-spot first text w f t p h.is_text s in_first in
        goes-then first text st.text w (reach_of st.shift) f t way.f way.t p h.is_text k.is_text s way.stands in_first
        ∙ ap (goes (reach_of st.shift)) at
        ∙ sym (mapped-way text st.text st.shift st.move (spot text f t p) step (omega (arith, begins)) (omega (arith, k.is_text.some)))
        ∙ ap (mapped st.shift) (sym at)

pub rising-step : (first : List ℕ) (all : List Shift) (lower : ℕ) (w : ShiftReach) (s : Shift) (ss : List Shift) (o : ℕ) → IsStored first → IsRising first all lower w (s ∷ ss) → lower ≤ o → o < length first → is_at_most s.begin (goes w (coord_at first o)) ≡ true
    → IsRising first all o (then_on w (reach_of s)) ss
rising-step first all lower w s ss o h r le below e = by_steps r.steps r.leads r.rest_is
  where
    by_steps : (steps : List Step) → Lead r.text steps → s ∷ ss ≡ shifts_of steps → IsRising first all o (then_on w (reach_of s)) ss
    by_steps [] l k = absurd (nothing k)
      where
        nothing : s ∷ ss ≡ [] → ⊥
        nothing k = cc
    by_steps (st ∷ sts) l k =
        let head : s ≡ st.shift = cc in
        let tail : ss ≡ shifts_of sts = cc in
        let q : IsQueue Rising r.behind (shifts_of (st ∷ sts)) = subst (IsQueue Rising r.behind) k r.rise in
        let P : List Shift → Type 0 = λ l'. (p : ℕ) → lower ≤ p → p < length first → all_mapped l' (goes w (coord_at first p)) ≡ all_mapped all (coord_at first p) in
        let next : IsRising first all o (then_on w (reach_of st.shift)) (shifts_of sts) =
        rising-on first all lower w st sts o r.text r.f r.t r.behind h r.stored r.stands l q (subst P k r.right) le below (ap (λ (x : Shift). is_at_most x.begin (goes w (coord_at first o))) (sym head) ∙ e) in
        subst (λ x. IsRising first all o (then_on w (reach_of x)) ss) (sym head) (subst (λ l'. IsRising first all o (then_on w (reach_of st.shift)) l') (sym tail) next)

pub rising-none : (first : List ℕ) (all : List Shift) (lower : ℕ) (w : ShiftReach) (o : ℕ) → IsRising first all lower w [] → lower ≤ o → o < length first → goes w (coord_at first o) ≡ all_mapped all (coord_at first o)
rising-none first all lower w o r le below = r.right o le below

pub rising-later : (first : List ℕ) (all : List Shift) (lower o : ℕ) (w : ShiftReach) (rest : List Shift) → IsRising first all lower w rest → lower ≤ o → IsRising first all o w rest
rising-later first all lower o w rest r le = record {
  text = r.text;
  steps = r.steps;
  f = r.f;
  t = r.t;
  behind = r.behind;
  stored = r.stored;
  stands = r.stands;
  leads = r.leads;
  rest_is = r.rest_is;
  rise = r.rise;
  right = λ p up below. r.right p (omega arith) below;
}

pub rising-first : (old : List ℕ) (steps : List Step) (shifts : List Shift) → IsStored old → Lead old steps → shifts ≡ shifts_of steps → IsQueue Rising origin shifts → IsRising old shifts 0 at_rest shifts
rising-first old steps shifts h l e q = record {
  text = old;
  steps = steps;
  f = 0;
  t = 0;
  behind = origin;
  stored = h;
  stands = rest-stands old;
  leads = l;
  rest_is = e;
  rise = q;
  right = λ o up below. ap (all_mapped shifts) (rest-goes old o h.is_text below);
}
