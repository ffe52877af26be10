-- The laws of walks.
use Rattle.std.proofs.Common.{◌≡◌, ℕ, List, [], ◌∷◌, refl, ap}
use Rattle.text_model.specs.declared.coords.Shift.{Shift}
use Rattle.text_model.specs.Changes.{Change, changed, all_changed, move_of}
use Rattle.text_model.specs.Mapping.{shifted}
use Rattle.list_model.specs.Ranges.{Selected}
use Rattle.list_model.specs.Settling.{each_settled, carried}
use Rattle.selection_map.specs.Catching.{Lead, text_after, shifts_of, moves_of, steps_by, AreShiftsOf, eager, eager_by}

pub changes-lead : (text : List ℕ) (cs : List Change) (ss : List Shift) → AreShiftsOf text cs ss → Lead text (steps_by text cs ss)
changes-lead text [] [] h = tt
changes-lead text [] (s ∷ ss) h = absurd h
changes-lead text (c ∷ cs) [] h = absurd h
changes-lead text (c ∷ cs) (s ∷ ss) h = (record { stored = h.0; shift_is = h.1 }, changes-lead (changed text c) cs ss h.2)

pub changes-shifts : (text : List ℕ) (cs : List Change) (ss : List Shift) → AreShiftsOf text cs ss → ss ≡ shifts_of (steps_by text cs ss)
changes-shifts text [] [] h = refl
changes-shifts text [] (s ∷ ss) h = absurd h
changes-shifts text (c ∷ cs) [] h = absurd h
changes-shifts text (c ∷ cs) (s ∷ ss) h = ap (λ t. s ∷ t) (changes-shifts (changed text c) cs ss h.2)

pub changes-last : (text : List ℕ) (cs : List Change) (ss : List Shift) → AreShiftsOf text cs ss → text_after text (steps_by text cs ss) ≡ all_changed text cs
changes-last text [] [] h = refl
changes-last text [] (s ∷ ss) h = absurd h
changes-last text (c ∷ cs) [] h = absurd h
changes-last text (c ∷ cs) (s ∷ ss) h = changes-last (changed text c) cs ss h.2

pub changes-rule : (text : List ℕ) (cs : List Change) (ss : List Shift) (s : Selected) → AreShiftsOf text cs ss → eager (moves_of (steps_by text cs ss)) s ≡ eager_by text cs s
changes-rule text [] [] s h = refl
changes-rule text [] (x ∷ ss) s h = absurd h
changes-rule text (c ∷ cs) [] s h = absurd h
changes-rule text (c ∷ cs) (x ∷ ss) s h = changes-rule (changed text c) cs ss (each_settled (carried (shifted (move_of text c))) s) h.2
