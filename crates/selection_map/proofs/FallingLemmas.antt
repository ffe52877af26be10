-- Walks through falling shifts.
use Rattle.std.proofs.Common.{◌≡◌, ℕ, ◌<◌, ◌≤◌, ◌+◌, ◌-◌, min, true, false, List, [], ◌∷◌, length, refl, sym, ap, ap₂, subst, ◌∙◌, arith, leb-true}
use Rattle.text_model.specs.declared.coords.Coord.{Coord}
use Rattle.text_model.specs.declared.coords.Shift.{Shift}
use Rattle.text_model.specs.Coords.{origin, is_at_most}
use Rattle.text_model.specs.Texts.{IsStored, coord_at, last_place}
use Rattle.text_model.specs.Mapping.{shifted}
use Rattle.text_model.proofs.PlaceLemmas.{leb_true}
use Rattle.selection_map.specs.declared.reach.ShiftReach.{ShiftReach}
use Rattle.selection_map.specs.declared.walking.ShiftWay.TheVariants.{Falling}
use Rattle.selection_map.specs.Carrying.{IsShiftStep}
use Rattle.selection_map.specs.Rebasing.{earlier, mapped}
use Rattle.selection_map.specs.Reaching.{goes, at_rest, reach_of, then_on, all_mapped}
use Rattle.selection_map.specs.Catching.{Step, shifts_of}
use Rattle.selection_map.specs.Premises.{ReachStands, IsQueue, text_behind, LeadBack, mapped_back, IsFalling}
use Rattle.selection_map.proofs.CarryLemmas.{order-coords, earlier-min}
use Rattle.selection_map.proofs.OrderLemmas.{at_most-trans, not_at_most-behind, origin-first, earlier-first}
use Rattle.selection_map.proofs.TieLemmas.{then-stands, goes-then, rest-stands, rest-goes}
use Rattle.selection_map.proofs.ShiftLemmas.{IsWayOf, shift-way, mapped-at, mapped-way, Stays, stays-before}
use Rattle.selection_map.proofs.RisingLemmas.{step-of}

pub stored-behind : (first : List ℕ) (steps : List Step) → IsStored first → LeadBack first steps → IsStored (text_behind first steps)
stored-behind first [] h l = h
stored-behind first (st ∷ sts) h l = l.0.stored

-- a place before the begins of all shifts stays
record StaysBack (first : List ℕ) (steps : List Step) (o : ℕ) : Type 0 where
  pub same : coord_at (text_behind first steps) o ≡ coord_at first o
  pub inside : o < length (text_behind first steps)
  pub kept : mapped_back (shifts_of steps) (coord_at first o) ≡ coord_at first o

stays-back : (first : List ℕ) (steps : List Step) (at : Coord) (o : ℕ) → IsStored first → LeadBack first steps → IsQueue Falling at (shifts_of steps) → o < length first → is_at_most at (coord_at first o) ≡ false → StaysBack first steps o
stays-back first [] at o h l q below e = record { same = refl; inside = below; kept = refl }
stays-back first (st ∷ sts) at o h l q below e =
    let ahead : is_at_most st.shift.begin (coord_at first o) ≡ false = not_at_most-behind at st.shift.begin (coord_at first o) e (at_most-trans at (earlier st.shift.begin st.shift.last) st.shift.begin q.0 (earlier-first st.shift.begin st.shift.last)) in
    let b : StaysBack first sts o = stays-back first sts st.shift.begin o h l.1 q.1 below ahead in
    let s : Stays (text_behind first sts) st.text st.shift o = stays-before (text_behind first sts) st.text st.shift st.move o (step-of (text_behind first sts) st (stored-behind first sts h l.1) l.0) b.inside (ap (is_at_most st.shift.begin) b.same ∙ ahead) in
    record {
      same = s.same ∙ b.same;
      inside = s.inside;
      kept = ap (mapped st.shift) (b.kept ∙ sym b.same) ∙ s.kept ∙ b.same;
    }

-- where the ends to come stand, the begin of the last shift passed isn't behind them
low-on : (first : List ℕ) (behind : Coord) (lower o : ℕ) → IsStored first → is_at_most behind (coord_at first lower) ≡ true → lower ≤ o → o < length first → is_at_most behind (coord_at first o) ≡ true
low-on first behind lower o h e le below = at_most-trans behind (coord_at first lower) (coord_at first o) e (order-coords first lower o h.is_text (omega arith) (omega arith) ∙ leb_true lower o le)

-- a place that stays for all shifts that weren't passed has gone where all shifts lead it
falling-done : (first : List ℕ) (all : List Shift) (lower : ℕ) (w : ShiftReach) (rest : List Shift) (o : ℕ) → IsStored first → (r : IsFalling first all lower w rest) → lower ≤ o → o < length first → StaysBack first r.steps o → goes w (coord_at first o) ≡ all_mapped all (coord_at first o)
falling-done first all lower w rest o h r le below s =
    let text : List ℕ = text_behind first r.steps in
    let low : is_at_most r.behind (coord_at first o) ≡ true = low-on first r.behind lower o h r.low le below in
    let floor : r.floor ≤ o = leb-true r.floor o (sym (order-coords (text_behind first r.steps) r.floor o (stored-behind first r.steps h r.leads).is_text r.floor_in (omega (arith, s.inside))) ∙ ap₂ is_at_most (sym r.behind_is) s.same ∙ low) in
    ap (goes w) (sym s.same)
    ∙ r.right o floor s.inside
    ∙ ap (all_mapped r.done) (s.same ∙ sym s.kept ∙ ap (λ l. mapped_back l (coord_at first o)) (sym r.rest_is))
    ∙ sym (r.whole (coord_at first o))

pub falling-stop : (first : List ℕ) (all : List Shift) (lower : ℕ) (w : ShiftReach) (s : Shift) (ss : List Shift) (o : ℕ) → IsStored first → IsFalling first all lower w (s ∷ ss) → lower ≤ o → o < length first → is_at_most s.begin (coord_at first o) ≡ false
    → goes w (coord_at first o) ≡ all_mapped all (coord_at first o)
falling-stop first all lower w s ss o h r le below e = falling-done first all lower w (s ∷ ss) o h r le below (by_steps r.steps r.leads r.rest_is)
  where
    by_steps : (steps : List Step) → LeadBack first steps → s ∷ ss ≡ shifts_of steps → StaysBack first steps o
    by_steps [] l k = absurd (nothing k)
      where
        nothing : s ∷ ss ≡ [] → ⊥
        nothing k = cc
    by_steps (st ∷ sts) l k =
        let head : s ≡ st.shift = cc in
        let q : IsQueue Falling r.behind (shifts_of (st ∷ sts)) = subst (IsQueue Falling r.behind) k r.fall in
        let ahead : is_at_most st.shift.begin (coord_at first o) ≡ false = ap (λ (x : Shift). is_at_most x.begin (coord_at first o)) (sym head) ∙ e in
        let b : StaysBack first sts o = stays-back first sts st.shift.begin o h l.1 q.1 below ahead in
        let x : Stays (text_behind first sts) st.text st.shift o = stays-before (text_behind first sts) st.text st.shift st.move o (step-of (text_behind first sts) st (stored-behind first sts h l.1) l.0) b.inside (ap (is_at_most st.shift.begin) b.same ∙ ahead) in
        record {
          same = x.same ∙ b.same;
          inside = x.inside;
          kept = ap (mapped st.shift) (b.kept ∙ sym b.same) ∙ x.kept ∙ b.same;
        }

pub falling-none : (first : List ℕ) (all : List Shift) (lower : ℕ) (w : ShiftReach) (o : ℕ) → IsStored first → IsFalling first all lower w [] → lower ≤ o → o < length first → goes w (coord_at first o) ≡ all_mapped all (coord_at first o)
falling-none first all lower w o h r le below = falling-done first all lower w [] o h r le below (by_steps r.steps r.rest_is)
  where
    by_steps : (steps : List Step) → [] ≡ shifts_of steps → StaysBack first steps o
    by_steps [] k = record { same = refl; inside = below; kept = refl }
    by_steps (st ∷ sts) k = absurd (nothing k)
      where
        nothing : [] ≡ st.shift ∷ shifts_of sts → ⊥
        nothing k = cc

-- the shift before those that were passed is passed
falling-on : (first : List ℕ) (all : List Shift) (lower : ℕ) (w : ShiftReach) (st : Step) (sts : List Step) (o : ℕ) (newest : List ℕ) (done : List Shift) (f t floor : ℕ) (behind : Coord)
    → IsStored first → IsStored newest → ReachStands st.text newest w f t → LeadBack first (st ∷ sts) → IsQueue Falling behind (shifts_of (st ∷ sts))
    → behind ≡ coord_at st.text floor → floor ≤ length st.text
    → ((p : ℕ) → floor ≤ p → p < length st.text → goes w (coord_at st.text p) ≡ all_mapped done (coord_at st.text p))
    → ((at : Coord) → all_mapped all at ≡ all_mapped done (mapped_back (shifts_of (st ∷ sts)) at))
    → is_at_most st.shift.begin (coord_at first o) ≡ true
    → IsFalling first all o (then_on (reach_of st.shift) w) (shifts_of sts)
falling-on first all lower w st sts o newest done f t floor behind h k s l q b b_in right whole e = record {
  newest = newest;
  steps = sts;
  done = st.shift ∷ done;
  f = way.f + (f - way.t);
  t = t + (way.t - f);
  floor = st.move.begin;
  behind = st.shift.begin;
  stored = k;
  stands = then-stands (text_behind first sts) st.text newest (reach_of st.shift) w way.f way.t f t l.0.stored.is_text way.stands s;
  leads = l.1;
  rest_is = refl;
  fall = q.1;
  behind_is = way.begin_old;
  floor_in = way.in_old;
  low = e;
  right = onward;
  whole = whole;
}
  where
    before : IsStored (text_behind first sts)
    before = stored-behind first sts h l.1

    step : IsShiftStep (text_behind first sts) st.text st.shift st.move
    step = step-of (text_behind first sts) st before l.0

    way : IsWayOf (text_behind first sts) st.text st.shift st.move
    way = shift-way (text_behind first sts) st.text st.shift st.move step

    last : st.move.last ≡ last_place st.text
    last = l.0.shift_is.last_offset

    in_text : st.move.last ≤ length st.text
    in_text = omega (arith, last)

    -- the begin of the shift that was passed before isn't behind this one's, nor behind the last place
    fits : floor ≤ min st.move.begin st.move.last
    fits =
        let bound : earlier st.shift.begin st.shift.last ≡ coord_at st.text (min st.move.begin st.move.last) = ap₂ earlier way.begin_new l.0.shift_is.last_is ∙ earlier-min st.text st.move.begin st.move.last l.0.stored.is_text way.in_new in_text in
        leb-true floor (min st.move.begin st.move.last) (sym (order-coords st.text floor (min st.move.begin st.move.last) l.0.stored.is_text b_in (omega (arith, in_text))) ∙ ap₂ is_at_most (sym b) (sym bound) ∙ q.0)

    onward : (p : ℕ) → st.move.begin ≤ p → p < length (text_behind first sts) → goes (then_on (reach_of st.shift) w) (coord_at (text_behind first sts) p) ≡ all_mapped (st.shift ∷ done) (coord_at (text_behind first sts) p)
    onward p up below =
        let at : mapped st.shift (coord_at (text_behind first sts) p) ≡ coord_at st.text (shifted st.move p) = mapped-at (text_behind first sts) st.text st.shift st.move p step below in
        let high : floor ≤ shifted st.move p = omega (arith, fits, way.goes_on p up, way.onto_behind) in
        let inside : shifted st.move p < length st.text = omega (arith, last, l.0.stored.is_text.some) in
        goes-then (text_behind first sts) st.text newest (reach_of st.shift) w way.f way.t f t p before.is_text l.0.stored.is_text way.stands s below
        ∙ ap (goes w) (sym (mapped-way (text_behind first sts) st.text st.shift st.move p step up below) ∙ at)
        ∙ right (shifted st.move p) high inside
        ∙ ap (all_mapped done) (sym at)

pub falling-step : (first : List ℕ) (all : List Shift) (lower : ℕ) (w : ShiftReach) (s : Shift) (ss : List Shift) (o : ℕ) → IsStored first → IsFalling first all lower w (s ∷ ss) → is_at_most s.begin (coord_at first o) ≡ true → IsFalling first all o (then_on (reach_of s) w) ss
falling-step first all lower w s ss o h r e = by_steps r.steps r.stands r.leads r.rest_is r.behind_is r.floor_in r.right
  where
    by_steps : (steps : List Step) → ReachStands (text_behind first steps) r.newest w r.f r.t → LeadBack first steps → s ∷ ss ≡ shifts_of steps → r.behind ≡ coord_at (text_behind first steps) r.floor → r.floor ≤ length (text_behind first steps)
        → ((p : ℕ) → r.floor ≤ p → p < length (text_behind first steps) → goes w (coord_at (text_behind first steps) p) ≡ all_mapped r.done (coord_at (text_behind first steps) p))
        → IsFalling first all o (then_on (reach_of s) w) ss
    by_steps [] v l k b i right = absurd (nothing k)
      where
        nothing : s ∷ ss ≡ [] → ⊥
        nothing k = cc
    by_steps (st ∷ sts) v l k b i right =
        let head : s ≡ st.shift = cc in
        let tail : ss ≡ shifts_of sts = cc in
        let q : IsQueue Falling r.behind (shifts_of (st ∷ sts)) = subst (IsQueue Falling r.behind) k r.fall in
        let P : List Shift → Type 0 = λ l'. (at : Coord) → all_mapped all at ≡ all_mapped r.done (mapped_back l' at) in
        let next : IsFalling first all o (then_on (reach_of st.shift) w) (shifts_of sts) =
        falling-on first all lower w st sts o r.newest r.done r.f r.t r.floor r.behind h r.stored v l q b i right (subst P k r.whole) (ap (λ (x : Shift). is_at_most x.begin (coord_at first o)) (sym head) ∙ e) in
        subst (λ x. IsFalling first all o (then_on (reach_of x) w) ss) (sym head) (subst (λ l'. IsFalling first all o (then_on (reach_of st.shift) w) l') (sym tail) next)

pub falling-later : (first : List ℕ) (all : List Shift) (lower o : ℕ) (w : ShiftReach) (rest : List Shift) → IsStored first → IsFalling first all lower w rest → lower ≤ o → o < length first → IsFalling first all o w rest
falling-later first all lower o w rest h r le below = record {
  newest = r.newest;
  steps = r.steps;
  done = r.done;
  f = r.f;
  t = r.t;
  floor = r.floor;
  behind = r.behind;
  stored = r.stored;
  stands = r.stands;
  leads = r.leads;
  rest_is = r.rest_is;
  fall = r.fall;
  behind_is = r.behind_is;
  floor_in = r.floor_in;
  low = low-on first r.behind lower o h r.low le below;
  right = r.right;
  whole = r.whole;
}

pub falling-first : (old : List ℕ) (steps : List Step) (shifts rest : List Shift) → IsStored old → LeadBack old steps → rest ≡ shifts_of steps → IsQueue Falling origin rest → ((at : Coord) → all_mapped shifts at ≡ mapped_back rest at) → IsFalling old shifts 0 at_rest rest
falling-first old steps shifts rest h l e q whole = record {
  newest = text_behind old steps;
  steps = steps;
  done = [];
  f = 0;
  t = 0;
  floor = 0;
  behind = origin;
  stored = stored-behind old steps h l;
  stands = rest-stands (text_behind old steps);
  leads = l;
  rest_is = e;
  fall = q;
  behind_is = refl;
  floor_in = omega arith;
  low = origin-first (coord_at old 0);
  right = λ o up below. rest-goes (text_behind old steps) o (stored-behind old steps h l).is_text below;
  whole = whole;
}
