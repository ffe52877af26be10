-- For callers, whose shifts are those of single changes of a text, one after another.
use Rattle.std.proofs.Common.{◌≡◌, ℕ, List, [], ◌∷◌, ◌++◌, refl, sym, ap, subst, ◌∙◌}
use Rattle.text_model.specs.declared.coords.Shift.{Shift}
use Rattle.text_model.specs.Texts.{IsStored}
use Rattle.text_model.specs.Changes.{Change, changed, all_changed, move_of, IsShift}
use Rattle.text_model.specs.Mapping.{shifted}
use Rattle.list_model.specs.Ranges.{Selected}
use Rattle.list_model.specs.Settling.{each_settled, carried}
use Rattle.selection_set.specs.Listing.{Listed}
use Rattle.selection_set.specs.Held.{selected, IsHeld}
use Rattle.selection_map.specs.Catching.{Step, steps_by, text_after, AreShiftsOf, CanCatchUp, IsCatchable, IsCaughtUp, eager_by, IsCaughtUpBy}
use Rattle.selection_map.proofs.LawLemmas.{changes-lead, changes-shifts, changes-last, changes-rule}

-- changes and then others, with their shifts
pub shifts-append : (text : List ℕ) (cs ds : List Change) (ss ts : List Shift) → AreShiftsOf text cs ss → AreShiftsOf (all_changed text cs) ds ts → AreShiftsOf text (cs ++ ds) (ss ++ ts)
shifts-append text [] ds [] ts h k = k
shifts-append text [] ds (s ∷ ss) ts h k = absurd h
shifts-append text (c ∷ cs) ds [] ts h k = absurd h
shifts-append text (c ∷ cs) ds (s ∷ ss) ts h k = (h.0, h.1, shifts-append (changed text c) cs ds ss ts h.2 k)

-- one more change of the text so far, with its shift
pub shifts-more : (text : List ℕ) (cs : List Change) (ss : List Shift) (c : Change) (s : Shift) → AreShiftsOf text cs ss → IsStored (changed (all_changed text cs) c) → IsShift (all_changed text cs) (changed (all_changed text cs) c) s (move_of (all_changed text cs) c)
    → AreShiftsOf text (cs ++ c ∷ []) (ss ++ s ∷ [])
shifts-more text cs ss c s h k f = shifts-append text cs (c ∷ []) ss (s ∷ []) h (k, f, tt)

-- the eager rule in two parts
pub eager_by-append : (text : List ℕ) (cs ds : List Change) (s : Selected) → eager_by text (cs ++ ds) s ≡ eager_by (all_changed text cs) ds (eager_by text cs s)
eager_by-append text [] ds s = refl
eager_by-append text (c ∷ cs) ds s = eager_by-append (changed text c) cs ds (each_settled (carried (shifted (move_of text c))) s)

-- a list that is held in the text before them can catch up
pub changes-can : (text : List ℕ) (cs : List Change) (ss : List Shift) (s : Listed) → IsStored text → AreShiftsOf text cs ss → IsHeld text s → CanCatchUp text (steps_by text cs ss) ss s
changes-can text cs ss s h k held = record { stored = h; leads = changes-lead text cs ss k; shifts_are = changes-shifts text cs ss k; held = held }

pub changes-catchable : (text : List ℕ) (cs : List Change) (ss : List Shift) (s : Listed) → IsStored text → AreShiftsOf text cs ss → IsHeld text s → IsCatchable ss s
changes-catchable text cs ss s h k held = record { old = text; steps = steps_by text cs ss; can = changes-can text cs ss s h k held }

-- and when it has, it is what the changes make of it, one by one
pub changes-caught : (text : List ℕ) (cs : List Change) (ss : List Shift) (before now : Listed) → ((old : List ℕ) (steps : List Step) → CanCatchUp old steps ss before → IsCaughtUp old steps before now)
    → IsStored text → AreShiftsOf text cs ss → IsHeld text before → IsCaughtUpBy text cs before now
changes-caught text cs ss before now caught h k held =
    let c : IsCaughtUp text (steps_by text cs ss) before now = caught text (steps_by text cs ss) (changes-can text cs ss before h k held) in
    let last : text_after text (steps_by text cs ss) ≡ all_changed text cs = changes-last text cs ss k in
    record {
      held = subst (λ t. IsHeld t now) last c.held;
      moved = ap (λ t. selected t now) (sym last) ∙ c.moved ∙ changes-rule text cs ss (selected text before) k;
    }
