-- What the trials try can be caught up with, at once and one by one, and is marks and shifts of changes.
use Rattle.std.proofs.Common.{◌≡◌, ℕ, Bool, true, false, ◌&&◌, List, [], ◌∷◌, length, map, refl, sym, subst, arith, eqb-true, ltb-true, leb-true, ltb, leb}
use Rattle.std.proofs.lemmas.Bool.{false≢true}
use Rattle.text_model.specs.declared.coords.Coord.{Coord}
use Rattle.text_model.specs.declared.coords.Shift.{Shift}
use Rattle.text_model.specs.declared.TheConstants.{MAX_CHARS}
use Rattle.text_model.specs.Texts.{IsStored, IsPlace, offset, ends_in_newline}
use Rattle.text_model.specs.Changes.{Change, Insertion, Erasure, changed, Move, move_of, IsShift, IsChangeInside as LiesInside}
use Rattle.text_model.specs.Mapping.{shifted}
use Rattle.text_model.proofs.ChangeLemmas.{move_of-change}
use Rattle.undo_model.specs.Steps.{size, AreSteps}
use Rattle.list_model.specs.Settling.{carried}
use Rattle.selection_set.specs.declared.sel.Sel.{Sel}
use Rattle.selection_set.specs.Listing.{Listed, ranges_of, AreInside, LowsDontFall, IsSettledIn}
use Rattle.selection_set.specs.Held.{IsHeld}
use Rattle.selection_set.proofs.HeldLemmas.{settled-held, held-order}
use Rattle.selection_map.specs.Carrying.{IsShiftStep, AllSmall}
use Rattle.selection_map.specs.Catching.{Step, Lead, shifts_of, AreShiftsOf, IsCatchable}
use Rattle.selection_map.proofs.SmallLemmas.{both-small}
use Rattle.selection_map.proofs.RisingLemmas.{step-of}
use Rattle.selection_map.proofs.StepLemmas.{changes-catchable}
use Rattle.move_marks.specs.Marking.{AreOfChanges}
use Rattle.text_trials.specs.Trials.{shift_by, shifts_by, can_be_kept, lies_in, all_lie_in, is_place, all_inside, all_have_some, IsTrialOfList, IsTrialOfMarks}

both : (a b : Bool) → a && b ≡ true → (a ≡ true) × (b ≡ true)
both true b e = (refl, e)
both false b e = absurd (false≢true e)

kept-stored : (text : List ℕ) → can_be_kept text ≡ true → IsStored text
kept-stored text e =
    let some : (ltb 0 (length text) ≡ true) × (ends_in_newline text && leb (length text) MAX_CHARS ≡ true) = both _ _ e in
    let more : (ends_in_newline text ≡ true) × (leb (length text) MAX_CHARS ≡ true) = both _ _ some.1 in
    record { is_text = record { some = ltb-true 0 (length text) some.0; ended = eqb-true _ 10 more.0 }; small = leb-true (length text) _ more.1 }

lies-inside : (text : List ℕ) (c : Change) → lies_in text c ≡ true → LiesInside text c
lies-inside text (Insertion p s) e = leb-true p (length text) e
lies-inside text (Erasure p q) e = (leb-true p q (both _ _ e).0, leb-true q (length text) (both _ _ e).1)

shift-is : (text : List ℕ) (c : Change) → LiesInside text c → IsShift text (changed text c) (shift_by text c) (move_of text c)
shift-is text (Insertion p s) h = record { insert_is = refl; change = move_of-change text (Insertion p s) h; begin_is = refl; end_is = refl; last_offset = refl; last_is = refl }
shift-is text (Erasure p q) h = record { insert_is = refl; change = move_of-change text (Erasure p q) h; begin_is = refl; end_is = refl; last_offset = refl; last_is = refl }

shifts-are : (text : List ℕ) (cs : List Change) → all_lie_in text cs ≡ true → AreShiftsOf text cs (shifts_by text cs)
shifts-are text [] e = tt
shifts-are text (c ∷ cs) e =
    let here : (lies_in text c ≡ true) × (can_be_kept (changed text c) && all_lie_in (changed text c) cs ≡ true) = both _ _ e in
    let rest : (can_be_kept (changed text c) ≡ true) × (all_lie_in (changed text c) cs ≡ true) = both _ _ here.1 in
    (kept-stored (changed text c) rest.0, shift-is text c (lies-inside text c here.0), shifts-are (changed text c) cs rest.1)

place-is : (text : List ℕ) (at : Coord) → is_place text at ≡ true → IsPlace text at
place-is text at e = record { on_line = ltb-true at.line _ (both _ _ e).0; in_line = ltb-true at.column _ (both _ _ e).1 }

inside-are : (text : List ℕ) (list : List Sel) → all_inside text list ≡ true → AreInside text list
inside-are text [] e = tt
inside-are text (x ∷ xs) e =
    let here : (is_place text x.low && (is_place text x.high && leb (offset text x.low) (offset text x.high)) ≡ true) × (all_inside text xs ≡ true) = both _ _ e in
    let low : (is_place text x.low ≡ true) × (is_place text x.high && leb (offset text x.low) (offset text x.high) ≡ true) = both _ _ here.0 in
    let high : (is_place text x.high ≡ true) × (leb (offset text x.low) (offset text x.high) ≡ true) = both _ _ low.1 in
    (record { low = place-is text x.low low.0; high = place-is text x.high high.0; ordered = leb-true (offset text x.low) (offset text x.high) high.1 }, inside-are text xs here.1)

-- a list that was made of the selections of a trial can catch up with its shifts
pub trial-catchable : (given : List Sel) (shifts : List Shift) (main : ℕ) (s : Listed) → IsTrialOfList given shifts → ((text : List ℕ) → AreInside text given → IsSettledIn text (ranges_of text given) main s) → IsCatchable shifts s
trial-catchable given shifts main s t settles =
    let given_in : AreInside t.text given = inside-are t.text given t.inside in
    subst (λ (l : List Shift). IsCatchable l s) (sym t.shifts_are)
    (changes-catchable t.text t.changes (shifts_by t.text t.changes) s (kept-stored t.text t.kept) (shifts-are t.text t.changes t.lie_in) (settled-held t.text (ranges_of t.text given) main s (settles t.text given_in)))

-- the list of one selection of a trial can
pub trial-one : (x : Sel) (shifts : List Shift) → IsTrialOfList (x ∷ []) shifts → IsCatchable shifts (record { list = x ∷ []; main = 0 })
trial-one x shifts t =
    let given : AreInside t.text (x ∷ []) = inside-are t.text (x ∷ []) t.inside in
    let held : IsHeld t.text (record { list = x ∷ []; main = 0 }) = record { inside = given; settled = record { ranges = (given.0.ordered, tt); apart = (tt, tt); main_is = omega arith } } in
    subst (λ (l : List Shift). IsCatchable l (record { list = x ∷ []; main = 0 })) (sym t.shifts_are)
    (changes-catchable t.text t.changes (shifts_by t.text t.changes) (record { list = x ∷ []; main = 0 }) (kept-stored t.text t.kept) (shifts-are t.text t.changes t.lie_in) held)

pub all-small : (old : List ℕ) (st : Step) (list : List Sel) → IsStored old → IsStored st.text → IsShift old st.text st.shift st.move → AreInside old list → AllSmall list st.shift
all-small old st [] h k f i = tt
all-small old st (x ∷ xs) h k f i = (both-small old st.text x st.shift st.move h k f i.0, all-small old st xs h k f i.1)

-- the next of the shifts that a list can catch up with, one by one
pub catchable-small : (s : Shift) (ss : List Shift) (list : Listed) → IsCatchable (s ∷ ss) list → AllSmall list.list s
catchable-small s ss list c = by_steps c.steps c.can.leads c.can.shifts_are
  where
    by_steps : (steps : List Step) → Lead c.old steps → s ∷ ss ≡ shifts_of steps → AllSmall list.list s
    by_steps [] l k = absurd (nothing k)
      where
        nothing : s ∷ ss ≡ [] → ⊥
        nothing k = cc
    by_steps (st ∷ sts) l k = let head : st.shift ≡ s = cc in subst (λ (x : Shift). AllSmall list.list x) head (all-small c.old st list.list c.can.stored l.0.stored l.0.shift_is c.can.held.inside)

pub catchable-on : (s : Shift) (ss : List Shift) (before now : Listed) → IsCatchable (s ∷ ss) before
    → ((old new : List ℕ) (m : Move) → IsShiftStep old new s m → AreInside old before.list → LowsDontFall (ranges_of old before.list) → IsSettledIn new (map (carried (shifted m)) (ranges_of old before.list)) before.main now)
    → IsCatchable ss now
catchable-on s ss before now c settles = by_steps c.steps c.can.leads c.can.shifts_are
  where
    by_steps : (steps : List Step) → Lead c.old steps → s ∷ ss ≡ shifts_of steps → IsCatchable ss now
    by_steps [] l k = absurd (nothing k)
      where
        nothing : s ∷ ss ≡ [] → ⊥
        nothing k = cc
    by_steps (st ∷ sts) l k =
        let head : st.shift ≡ s = cc in
        let tail : ss ≡ shifts_of sts = cc in
        let step : IsShiftStep c.old st.text s st.move = subst (λ (x : Shift). IsShiftStep c.old st.text x st.move) head (step-of c.old st c.can.stored l.0) in
        record {
          old = st.text;
          steps = sts;
          can = record {
            stored = l.0.stored;
            leads = l.1;
            shifts_are = tail;
            held = settled-held st.text _ before.main now (settles c.old st.text st.move step c.can.held.inside (held-order c.old before c.can.held));
          };
        }

steps-are : (text : List ℕ) (cs : List Change) → all_lie_in text cs ≡ true → all_have_some cs ≡ true → AreSteps text cs
steps-are text [] e f = tt
steps-are text (c ∷ cs) e f =
    let here : (lies_in text c ≡ true) × (can_be_kept (changed text c) && all_lie_in (changed text c) cs ≡ true) = both _ _ e in
    let rest : (can_be_kept (changed text c) ≡ true) × (all_lie_in (changed text c) cs ≡ true) = both _ _ here.1 in
    let some : (_ ≡ true) × (all_have_some cs ≡ true) = both _ _ f in
    (record { inside = lies-inside text c here.0; some = ltb-true 0 (size c) some.0; stored = kept-stored (changed text c) rest.0 }, steps-are (changed text c) cs rest.1 some.1)

-- marks and shifts of a trial are those of changes
pub trial-marked : (marks : List Sel) (shifts : List Shift) → IsTrialOfMarks marks shifts → AreOfChanges marks shifts
trial-marked marks shifts t = record {
  text = t.text;
  changes = t.changes;
  marked = record {
    stored = kept-stored t.text t.kept;
    steps = steps-are t.text t.changes t.lie_in t.all_some;
    shifts_are = subst (λ ss. AreShiftsOf t.text t.changes ss) (sym t.shifts_are) (shifts-are t.text t.changes t.lie_in);
    marks_are = t.marks_are;
  };
}
