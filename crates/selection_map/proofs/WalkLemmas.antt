-- Walks either way: what each step of the code's loops leaves.
use Rattle.std.proofs.Common.{◌≡◌, ℕ, ◌<◌, ◌≤◌, ◌+◌, true, false, cond, inl, inr, List, [], ◌∷◌, length, drop, get_or, refl, sym, ap, subst, ◌∙◌, arith}
use Rattle.std.proofs.lemmas.List.{drop_more, drop_all, length-reverse}
use Rattle.text_model.specs.declared.coords.Coord.{Coord}
use Rattle.text_model.specs.declared.coords.Shift.{Shift}
use Rattle.text_model.specs.Texts.{IsStored, offset, coord_at}
use Rattle.text_model.proofs.CoordLemmas.{test_cases}
use Rattle.text_model.proofs.PlaceLemmas.{offset-below, coord_at-offset}
use Rattle.selection_set.specs.declared.sel.Sel.{Sel}
use Rattle.selection_map.specs.declared.reach.ShiftReach.{ShiftReach}
use Rattle.selection_map.specs.declared.walking.ShiftWay.{ShiftWay}
use Rattle.selection_map.specs.declared.walking.ShiftWay.TheVariants.{Rising, Falling}
use Rattle.selection_map.specs.declared.walking.Walk.{Walk}
use Rattle.selection_map.specs.Carrying.{IsSmall}
use Rattle.selection_map.specs.Bounds.{IsSmallReach}
use Rattle.selection_map.specs.Reaching.{goes, reach_of, all_mapped}
use Rattle.selection_map.specs.Walking.{queue, is_due, with_shift, Underway, advanced, underway}
use Rattle.selection_map.specs.Catching.{Step, LeadsOn, Lead, shifts_of}
use Rattle.selection_map.specs.Premises.{ReachStands, text_behind, LeadBack, IsWalkReady, IsWalking, CanAdvance, CanWalkOver}
use Rattle.selection_map.proofs.SmallLemmas.{coord_at-small}
use Rattle.selection_map.proofs.ShiftLemmas.{IsWayOf, shift-way}
use Rattle.selection_map.proofs.RisingLemmas.{step-of, rising-stop, rising-step, rising-none, rising-later}
use Rattle.selection_map.proofs.FallingLemmas.{stored-behind, falling-stop, falling-step, falling-none, falling-later}

ready-step : (way : ShiftWay) (first : List ℕ) (all : List Shift) (lower : ℕ) (w : ShiftReach) (s : Shift) (ss : List Shift) (o : ℕ) → IsStored first → IsWalkReady way first all lower w (s ∷ ss) → lower ≤ o → o < length first → is_due way (coord_at first o) s w ≡ true
    → IsWalkReady way first all o (with_shift way s w) ss
ready-step Rising first all lower w s ss o h r le below e = rising-step first all lower w s ss o h r le below e
ready-step Falling first all lower w s ss o h r le below e = falling-step first all lower w s ss o h r e

pub ready-stop : (way : ShiftWay) (first : List ℕ) (all : List Shift) (lower : ℕ) (w : ShiftReach) (s : Shift) (ss : List Shift) (o : ℕ) → IsStored first → IsWalkReady way first all lower w (s ∷ ss) → lower ≤ o → o < length first → is_due way (coord_at first o) s w ≡ false
    → goes w (coord_at first o) ≡ all_mapped all (coord_at first o)
ready-stop Rising first all lower w s ss o h r le below e = rising-stop first all lower w s ss o h r le below e
ready-stop Falling first all lower w s ss o h r le below e = falling-stop first all lower w s ss o h r le below e

pub ready-none : (way : ShiftWay) (first : List ℕ) (all : List Shift) (lower : ℕ) (w : ShiftReach) (o : ℕ) → IsStored first → IsWalkReady way first all lower w [] → lower ≤ o → o < length first → goes w (coord_at first o) ≡ all_mapped all (coord_at first o)
ready-none Rising first all lower w o h r le below = rising-none first all lower w o r le below
ready-none Falling first all lower w o h r le below = falling-none first all lower w o h r le below

ready-later : (way : ShiftWay) (first : List ℕ) (all : List Shift) (lower o : ℕ) (w : ShiftReach) (rest : List Shift) → IsStored first → IsWalkReady way first all lower w rest → lower ≤ o → o < length first → IsWalkReady way first all o w rest
ready-later Rising first all lower o w rest h r le below = rising-later first all lower o w rest r le
ready-later Falling first all lower o w rest h r le below = falling-later first all lower o w rest h r le below

stands-small : (old new : List ℕ) (w : ShiftReach) (f t : ℕ) → IsStored old → IsStored new → ReachStands old new w f t → IsSmallReach w
stands-small old new w f t h k s = record {
  from = subst IsSmall (sym s.from_is) (coord_at-small old f h.small);
  onto = subst IsSmall (sym s.onto_is) (coord_at-small new t k.small);
  put = subst IsSmall (sym s.put_is) (coord_at-small new _ k.small);
}

pub step-small : (old : List ℕ) (st : Step) → IsStored old → LeadsOn old st → IsSmallReach (reach_of st.shift)
step-small old st h l =
    let way : IsWayOf old st.text st.shift st.move = shift-way old st.text st.shift st.move (step-of old st h l) in
    stands-small old st.text (reach_of st.shift) way.f way.t h l.stored way.stands

pub ready-small : (way : ShiftWay) (first : List ℕ) (all : List Shift) (lower : ℕ) (w : ShiftReach) (rest : List Shift) → IsStored first → IsWalkReady way first all lower w rest → IsSmallReach w
ready-small Rising first all lower w rest h r = stands-small first r.text w r.f r.t h r.stored r.stands
ready-small Falling first all lower w rest h r = stands-small (text_behind first r.steps) r.newest w r.f r.t (stored-behind first r.steps h r.leads) r.stored r.stands

ahead-small : (text : List ℕ) (steps : List Step) (s : Shift) (ss : List Shift) → IsStored text → Lead text steps → s ∷ ss ≡ shifts_of steps → IsSmallReach (reach_of s)
ahead-small text [] s ss h l k = absurd (nothing k)
  where
    nothing : s ∷ ss ≡ [] → ⊥
    nothing k = cc
ahead-small text (st ∷ sts) s ss h l k = let head : st.shift ≡ s = cc in subst (λ (x : Shift). IsSmallReach (reach_of x)) head (step-small text st h l.0)

back-small : (first : List ℕ) (steps : List Step) (s : Shift) (ss : List Shift) → IsStored first → LeadBack first steps → s ∷ ss ≡ shifts_of steps → IsSmallReach (reach_of s)
back-small first [] s ss h l k = absurd (nothing k)
  where
    nothing : s ∷ ss ≡ [] → ⊥
    nothing k = cc
back-small first (st ∷ sts) s ss h l k = let head : st.shift ≡ s = cc in subst (λ (x : Shift). IsSmallReach (reach_of x)) head (step-small (text_behind first sts) st (stored-behind first sts h l.1) l.0)

head-small : (way : ShiftWay) (first : List ℕ) (all : List Shift) (lower : ℕ) (w : ShiftReach) (s : Shift) (ss : List Shift) → IsStored first → IsWalkReady way first all lower w (s ∷ ss) → IsSmallReach (reach_of s)
head-small Rising first all lower w s ss h r = ahead-small r.text r.steps s ss r.stored r.leads r.rest_is
head-small Falling first all lower w s ss h r = back-small first r.steps s ss h r.leads r.rest_is

due-on : (way : ShiftWay) (at : Coord) (w : ShiftReach) (s : Shift) (ss : List Shift) → is_due way at s w ≡ true → advanced way at w (s ∷ ss) ≡ advanced way at (with_shift way s w) ss
due-on way at w s ss e =
    let stop : Underway = record { reach = w; rest = s ∷ ss } in
    ap (λ v. cond v (advanced way at (with_shift way s w) ss) stop) e

due-stop : (way : ShiftWay) (at : Coord) (w : ShiftReach) (s : Shift) (ss : List Shift) → is_due way at s w ≡ false → advanced way at w (s ∷ ss) ≡ record { reach = w; rest = s ∷ ss }
due-stop way at w s ss e =
    let stop : Underway = record { reach = w; rest = s ∷ ss } in
    ap (λ v. cond v (advanced way at (with_shift way s w) ss) stop) e

-- an end that was reached: the walk is ready behind it, and it has gone where all shifts lead it
record HasReached (way : ShiftWay) (first : List ℕ) (all : List Shift) (o : ℕ) (u : Underway) : Type 0 where
  pub ready : IsWalkReady way first all o u.reach u.rest
  pub right : goes u.reach (coord_at first o) ≡ all_mapped all (coord_at first o)

reached-end : (way : ShiftWay) (first : List ℕ) (all : List Shift) (lower : ℕ) (w : ShiftReach) (rest : List Shift) (o : ℕ) → IsStored first → IsWalkReady way first all lower w rest → lower ≤ o → o < length first → HasReached way first all o (advanced way (coord_at first o) w rest)
reached-end way first all lower w [] o h r le below = record { ready = ready-later way first all lower o w [] h r le below; right = ready-none way first all lower w o h r le below }
reached-end way first all lower w (s ∷ ss) o h r le below =
    elim (test_cases (is_due way (coord_at first o) s w)) [
      | inl e ↦ subst (HasReached way first all o) (sym (due-on way (coord_at first o) w s ss e)) (reached-end way first all o (with_shift way s w) ss o h (ready-step way first all lower w s ss o h r le below e) (omega arith) below)
      | inr e ↦ subst (HasReached way first all o) (sym (due-stop way (coord_at first o) w s ss e)) (record { ready = ready-later way first all lower o w (s ∷ ss) h r le below; right = ready-stop way first all lower w s ss o h r le below e })
    ]

pub queue-length : (way : ShiftWay) (shifts : List Shift) → length (queue way shifts) ≡ length shifts
queue-length Rising shifts = refl
queue-length Falling shifts = length-reverse shifts

-- the shift that was read is the next one
pub next-shift : (way : ShiftWay) (shifts : List Shift) (n : ℕ) (s : Shift) → n < length shifts → ((d : Shift) → s ≡ get_or (queue way shifts) n d) → drop n (queue way shifts) ≡ s ∷ drop (n + 1) (queue way shifts)
next-shift way shifts n s below e = drop_more (queue way shifts) n s (omega (arith, queue-length way shifts)) ∙ ap (λ x. x ∷ drop (n + 1) (queue way shifts)) (sym (e s))

-- the coordinates that are met on the way to an end
pub record AreMet (walk : Walk) (at : Coord) : Type 0 where
  pub reach : IsSmallReach walk.reach
  pub «end» : IsSmall at

pub can-small : (way : ShiftWay) (shifts : List Shift) (walk : Walk) (at : Coord) → CanAdvance way shifts walk at → AreMet walk at
can-small way shifts walk at c = record {
  reach = ready-small way c.first shifts c.lower walk.reach (drop walk.passed (queue way shifts)) c.stored c.walking.ready;
  «end» = subst IsSmall (sym c.at_is) (coord_at-small c.first c.o c.stored.small);
}

pub next-small : (way : ShiftWay) (shifts : List Shift) (walk : Walk) (at : Coord) (s : Shift) → CanAdvance way shifts walk at → walk.passed < length shifts → ((d : Shift) → s ≡ get_or (queue way shifts) walk.passed d) → IsSmallReach (reach_of s)
next-small way shifts walk at s c below e =
    let R : List Shift → Type 0 = IsWalkReady way c.first shifts c.lower walk.reach in
    head-small way c.first shifts c.lower walk.reach s (drop (walk.passed + 1) (queue way shifts)) c.stored (subst R (next-shift way shifts walk.passed s below e) c.walking.ready)

-- a shift that is due is passed
pub advance-step : (way : ShiftWay) (shifts : List Shift) (reach : ShiftReach) (passed : ℕ) (at : Coord) (s : Shift) → CanAdvance way shifts (record { reach = reach; passed = passed }) at → passed < length shifts → ((d : Shift) → s ≡ get_or (queue way shifts) passed d) → is_due way at s reach ≡ true
    → CanAdvance way shifts (record { reach = with_shift way s reach; passed = passed + 1 }) at
advance-step way shifts reach passed at s c below e due = record {
  first = c.first;
  lower = c.o;
  o = c.o;
  stored = c.stored;
  walking = record { ready = ready; few = omega arith };
  behind = omega arith;
  inside = c.inside;
  at_is = c.at_is;
}
  where
    ready : IsWalkReady way c.first shifts c.o (with_shift way s reach) (drop (passed + 1) (queue way shifts))
    ready =
        let R : List Shift → Type 0 = IsWalkReady way c.first shifts c.lower reach in
        ready-step way c.first shifts c.lower reach s (drop (passed + 1) (queue way shifts)) c.o c.stored (subst R (next-shift way shifts passed s below e) c.walking.ready) c.behind c.inside (ap (λ x. is_due way x s reach) (sym c.at_is) ∙ due)

pub advance-same : (way : ShiftWay) (shifts : List Shift) (reach : ShiftReach) (passed : ℕ) (at : Coord) (s : Shift) → passed < length shifts → ((d : Shift) → s ≡ get_or (queue way shifts) passed d) → is_due way at s reach ≡ true
    → advanced way at (with_shift way s reach) (drop (passed + 1) (queue way shifts)) ≡ advanced way at reach (drop passed (queue way shifts))
advance-same way shifts reach passed at s below e due =
    sym (ap (advanced way at reach) (next-shift way shifts passed s below e) ∙ due-on way at reach s (drop (passed + 1) (queue way shifts)) due)

-- a shift that isn't due ends the way
pub advance-stop : (way : ShiftWay) (shifts : List Shift) (reach : ShiftReach) (passed : ℕ) (at : Coord) (s : Shift) (u : Underway) → passed < length shifts → ((d : Shift) → s ≡ get_or (queue way shifts) passed d) → is_due way at s reach ≡ false → advanced way at reach (drop passed (queue way shifts)) ≡ u
    → underway way shifts (record { reach = reach; passed = passed }) ≡ u
advance-stop way shifts reach passed at s u below e due same =
    let rest : drop passed (queue way shifts) ≡ s ∷ drop (passed + 1) (queue way shifts) = next-shift way shifts passed s below e in
    ap (λ (l : List Shift). let v : Underway = record { reach = reach; rest = l } in v) rest
    ∙ sym (ap (advanced way at reach) rest ∙ due-stop way at reach s (drop (passed + 1) (queue way shifts)) due)
    ∙ same

pub advance-all : (way : ShiftWay) (shifts : List Shift) (reach : ShiftReach) (passed : ℕ) (at : Coord) (u : Underway) → length shifts ≤ passed → advanced way at reach (drop passed (queue way shifts)) ≡ u → underway way shifts (record { reach = reach; passed = passed }) ≡ u
advance-all way shifts reach passed at u le same =
    let none : drop passed (queue way shifts) ≡ [] = drop_all passed (queue way shifts) (omega (arith, queue-length way shifts)) in
    ap (λ (l : List Shift). let v : Underway = record { reach = reach; rest = l } in v) none ∙ sym (ap (advanced way at reach) none) ∙ same

-- an end that the code has reached
record IsReached (way : ShiftWay) (first : List ℕ) (shifts : List Shift) (o : ℕ) (at : Coord) (next : Walk) : Type 0 where
  pub walking : IsWalking way first shifts o next
  pub right : goes next.reach at ≡ all_mapped shifts at

end-reached : (way : ShiftWay) (first : List ℕ) (shifts : List Shift) (lower o : ℕ) (at : Coord) (walk next : Walk) → IsStored first → IsWalking way first shifts lower walk → lower ≤ o → o < length first → at ≡ coord_at first o
    → underway way shifts next ≡ advanced way at walk.reach (drop walk.passed (queue way shifts)) → next.passed ≤ length shifts → IsReached way first shifts o at next
end-reached way first shifts lower o at walk next h w le below e same few =
    let r : HasReached way first shifts o (underway way shifts next) = subst (HasReached way first shifts o) (sym (same ∙ ap (λ x. advanced way x walk.reach (drop walk.passed (queue way shifts))) e)) (reached-end way first shifts lower walk.reach (drop walk.passed (queue way shifts)) o h w.ready le below) in
    record {
      walking = record { ready = r.ready; few = few };
      right = ap (goes next.reach) e ∙ r.right ∙ ap (all_mapped shifts) (sym e);
    }

-- the ends of the next selection
pub over-low : (way : ShiftWay) (shifts : List Shift) (walk : Walk) (x : Sel) (xs : List Sel) → CanWalkOver way shifts walk (x ∷ xs) → CanAdvance way shifts walk x.low
over-low way shifts walk x xs c = record {
  first = c.first;
  lower = c.lower;
  o = offset c.first x.low;
  stored = c.stored;
  walking = c.walking;
  behind = c.ends.0;
  inside = offset-below c.first x.low c.inside.0.low;
  at_is = sym (coord_at-offset c.first x.low c.inside.0.low);
}

low-reached : (way : ShiftWay) (shifts : List Shift) (walk low : Walk) (x : Sel) (xs : List Sel) → (c : CanWalkOver way shifts walk (x ∷ xs)) → underway way shifts low ≡ advanced way x.low walk.reach (drop walk.passed (queue way shifts)) → low.passed ≤ length shifts → IsReached way c.first shifts (offset c.first x.low) x.low low
low-reached way shifts walk low x xs c same few =
    end-reached way c.first shifts c.lower (offset c.first x.low) x.low walk low c.stored c.walking c.ends.0 (offset-below c.first x.low c.inside.0.low) (sym (coord_at-offset c.first x.low c.inside.0.low)) same few

pub over-high : (way : ShiftWay) (shifts : List Shift) (walk low : Walk) (x : Sel) (xs : List Sel) → CanWalkOver way shifts walk (x ∷ xs) → underway way shifts low ≡ advanced way x.low walk.reach (drop walk.passed (queue way shifts)) → low.passed ≤ length shifts → CanAdvance way shifts low x.high
over-high way shifts walk low x xs c same few = record {
  first = c.first;
  lower = offset c.first x.low;
  o = offset c.first x.high;
  stored = c.stored;
  walking = (low-reached way shifts walk low x xs c same few).walking;
  behind = c.ends.1;
  inside = offset-below c.first x.high c.inside.0.high;
  at_is = sym (coord_at-offset c.first x.high c.inside.0.high);
}

-- a selection that the code has taken through all shifts
pub record IsPassed (way : ShiftWay) (shifts : List Shift) (low high : Walk) (x : Sel) (xs : List Sel) : Type 0 where
  pub low_right : goes low.reach x.low ≡ all_mapped shifts x.low
  pub high_right : goes high.reach x.high ≡ all_mapped shifts x.high
  pub low_small : AreMet low x.low
  pub high_small : AreMet high x.high
  pub over : CanWalkOver way shifts high xs

pub over-next : (way : ShiftWay) (shifts : List Shift) (walk low high : Walk) (x : Sel) (xs : List Sel) → CanWalkOver way shifts walk (x ∷ xs) → underway way shifts low ≡ advanced way x.low walk.reach (drop walk.passed (queue way shifts)) → low.passed ≤ length shifts
    → underway way shifts high ≡ advanced way x.high low.reach (drop low.passed (queue way shifts)) → high.passed ≤ length shifts → IsPassed way shifts low high x xs
over-next way shifts walk low high x xs c same few same' few' =
    let l : IsReached way c.first shifts (offset c.first x.low) x.low low = low-reached way shifts walk low x xs c same few in
    let h : IsReached way c.first shifts (offset c.first x.high) x.high high =
    end-reached way c.first shifts (offset c.first x.low) (offset c.first x.high) x.high low high c.stored l.walking c.ends.1 (offset-below c.first x.high c.inside.0.high) (sym (coord_at-offset c.first x.high c.inside.0.high)) same' few' in
    record {
      low_right = l.right;
      high_right = h.right;
      low_small = record {
        reach = ready-small way c.first shifts (offset c.first x.low) low.reach (drop low.passed (queue way shifts)) c.stored l.walking.ready;
        «end» = subst IsSmall (coord_at-offset c.first x.low c.inside.0.low) (coord_at-small c.first (offset c.first x.low) c.stored.small);
      };
      high_small = record {
        reach = ready-small way c.first shifts (offset c.first x.high) high.reach (drop high.passed (queue way shifts)) c.stored h.walking.ready;
        «end» = subst IsSmall (coord_at-offset c.first x.high c.inside.0.high) (coord_at-small c.first (offset c.first x.high) c.stored.small);
      };
      over = record { first = c.first; lower = offset c.first x.high; stored = c.stored; walking = h.walking; inside = c.inside.1; ends = c.ends.2 };
    }

-- over one selection alone
pub over-one : (way : ShiftWay) (shifts : List Shift) (walk : Walk) (x : Sel) (xs : List Sel) → CanWalkOver way shifts walk (x ∷ xs) → CanWalkOver way shifts walk (x ∷ [])
over-one way shifts walk x xs c = record { first = c.first; lower = c.lower; stored = c.stored; walking = c.walking; inside = (c.inside.0, tt); ends = (c.ends.0, c.ends.1, tt) }
