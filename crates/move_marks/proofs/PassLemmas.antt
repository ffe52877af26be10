-- Marks that are each carried through the changes behind its own.
use Rattle.std.proofs.Common.{◌≡◌, ℕ, suc, ◌-◌, ◌≤◌, ◌+◌, min, List, [], ◌∷◌, ◌++◌, length, reverse, refl, sym, ap, ap₂, subst, subst₂, ◌∙◌, arith, Result, IfOk}
use Rattle.std.proofs.lemmas.List.Elements.{All-nil}
use Rattle.std.specs.List.{AllByRecursion}
use Rattle.text_model.specs.declared.coords.Shift.{Shift}
use Rattle.text_model.specs.Texts.{IsStored}
use Rattle.text_model.specs.Changes.{Change, Insertion, Erasure, changed, all_changed, move_of, IsShift}
use Rattle.text_model.proofs.PlaceLemmas.{offset-coord_at}
use Rattle.list_model.specs.Ranges.{Range}
use Rattle.undo_model.specs.Steps.{IsStep, AreSteps}
use Rattle.undo_model.specs.Marks.{mark, marks}
use Rattle.undo_model.specs.Laws.{IsInText}
use Rattle.undo_model.proofs.MarkLemmas.{marks-inside}
use Rattle.selection_set.specs.declared.sel.Sel.{Sel}
use Rattle.selection_set.specs.Inside.{range_of, IsInside}
use Rattle.selection_set.specs.Listing.{Listed, ranges_of, AreInside, IsSettledIn}
use Rattle.selection_map.specs.Carrying.{CarriesBoth}
use Rattle.selection_map.specs.Rebasing.{mapped_sel}
use Rattle.selection_map.specs.Reaching.{through}
use Rattle.selection_map.specs.Catching.{AreShiftsOf, steps_by}
use Rattle.selection_map.specs.Behind.{each_through_rest, LiesBehind, LieBehind, StandBehind}
use Rattle.selection_map.proofs.ListLemmas.{mapped-both}
use Rattle.selection_map.proofs.LawLemmas.{changes-lead, changes-shifts}
use Rattle.move_marks.specs.Marking.{sel_at, marks_of, AreOfChanges}
use Rattle.move_marks.specs.Joining.{IsPlain}
use Rattle.move_marks.proofs.PlainLemmas.{IsSpan, span-of, settled-of}
use Rattle.move_marks.proofs.MarkedLemmas.{marks-many, marks-length, marks-behind, carried_by, mark-plain, plain-marks}
use Rattle.move_marks.proofs.TurnLemmas.{all-turned, map-turned, span-turned}
use Rattle.move_marks.proofs.LeftLemmas.{IsLeftFor, sel-range, sel-inside, ok-weaker}

-- each mark lies behind its change

mark-inside : (text : List ℕ) (c : Change) → IsStep text c → IsInText (changed text c) (mark (changed text c) c)
mark-inside text c h = marks-inside text [] (c ∷ []) (h, tt) (All-nil (IsInText text)) 0 (mark (changed text c) c) (omega arith)

mark-behind : (text : List ℕ) (c : Change) (s : Shift) → IsStep text c → IsShift text (changed text c) s (move_of text c) → min (move_of text c).begin (move_of text c).last ≤ (mark (changed text c) c).low
mark-behind text (Insertion p s) x h f = omega arith
mark-behind text (Erasure p q) x h f = omega (arith, f.last_offset)

lies-behind : (text : List ℕ) (c : Change) (s : Shift) → IsStep text c → IsShift text (changed text c) s (move_of text c) → LiesBehind (record { shift = s; move = move_of text c; text = changed text c }) (sel_at (changed text c) (mark (changed text c) c))
lies-behind text c s h f =
    let now : List ℕ = changed text c in
    let inside : IsInText now (mark now c) = mark-inside text c h in
    record {
      inside = sel-inside now (mark now c) inside;
      behind = omega (arith, mark-behind text c s h f, offset-coord_at now (mark now c).low (omega (arith, inside.ordered, inside.inside)));
    }

lie-behind : (text : List ℕ) (cs : List Change) (ss : List Shift) → AreSteps text cs → AreShiftsOf text cs ss → LieBehind (steps_by text cs ss) (marks_of text cs)
lie-behind text [] [] h a = tt
lie-behind text [] (s ∷ ss) h a = absurd a
lie-behind text (c ∷ cs) [] h a = absurd a
lie-behind text (c ∷ cs) (s ∷ ss) h a = (lies-behind text c s h.0 a.1, lie-behind (changed text c) cs ss h.1 a.2)

pub stand-behind : (ms : List Sel) (ss : List Shift) → AreOfChanges ms ss → StandBehind ss ms
stand-behind ms ss o = record {
  old = o.text;
  steps = steps_by o.text o.changes ss;
  stored = o.marked.stored;
  leads = changes-lead o.text o.changes ss o.marked.shifts_are;
  shifts_are = changes-shifts o.text o.changes ss o.marked.shifts_are;
  behind = subst (LieBehind (steps_by o.text o.changes ss)) (sym o.marked.marks_are) (lie-behind o.text o.changes ss o.marked.steps o.marked.shifts_are);
}

-- a selection through the shifts of changes, by its range

record GoesBy (text : List ℕ) (cs : List Change) (ss : List Shift) (x : Sel) : Type 0 where
  pub inside : IsInside (all_changed text cs) (through ss x)
  pub goes : carried_by text cs (range_of text x ∷ []) ≡ range_of (all_changed text cs) (through ss x) ∷ []

goes-by : (text : List ℕ) (cs : List Change) (ss : List Shift) (x : Sel) → IsStored text → AreShiftsOf text cs ss → IsInside text x → GoesBy text cs ss x
goes-by text [] [] x h a i = record { inside = i; goes = refl }
goes-by text [] (s ∷ ss) x h a i = absurd a
goes-by text (c ∷ cs) [] x h a i = absurd a
goes-by text (c ∷ cs) (s ∷ ss) x h a i =
    let both : CarriesBoth text (changed text c) (move_of text c) x (mapped_sel s x) = mapped-both text (changed text c) s (move_of text c) x (record { old_text = h.is_text; new_text = a.0.is_text; shift_is = a.1 }) i in
    let rest : GoesBy (changed text c) cs ss (mapped_sel s x) = goes-by (changed text c) cs ss (mapped_sel s x) a.0 a.2 both.inside in
    record { inside = rest.inside; goes = ap (λ r. carried_by (changed text c) cs (r ∷ [])) (sym both.goes) ∙ rest.goes }

-- the marks, each through the shifts behind its own, are the marks behind all changes

record AreGone (text : List ℕ) (cs : List Change) (ss : List Shift) : Type 0 where
  pub inside : AreInside (all_changed text cs) (each_through_rest ss (marks_of text cs))
  pub ranges : ranges_of (all_changed text cs) (each_through_rest ss (marks_of text cs)) ≡ marks text [] cs

are-gone : (text : List ℕ) (cs : List Change) (ss : List Shift) → AreSteps text cs → AreShiftsOf text cs ss → AreGone text cs ss
are-gone text [] [] h a = record { inside = tt; ranges = refl }
are-gone text [] (s ∷ ss) h a = absurd a
are-gone text (c ∷ cs) [] h a = absurd a
are-gone text (c ∷ cs) (s ∷ ss) h a =
    let now : List ℕ = changed text c in
    let own : Range = mark now c in
    let inside : IsInText now own = mark-inside text c h.0 in
    let one : GoesBy now cs ss (sel_at now own) = goes-by now cs ss (sel_at now own) a.0 a.2 (sel-inside now own inside) in
    let rest : AreGone now cs ss = are-gone now cs ss h.1 a.2 in
    let first : range_of (all_changed now cs) (through ss (sel_at now own)) ∷ [] ≡ carried_by now cs (own ∷ []) =
    sym one.goes ∙ ap (λ r. carried_by now cs (r ∷ [])) (sel-range now own (mark-plain text c h.0) inside) in
    record {
      inside = (one.inside, rest.inside);
      ranges = ap₂ (λ t u. t ++ u) first rest.ranges ∙ sym (marks-behind now (own ∷ []) [] cs);
    }

pub rest-length : (ss : List Shift) (xs : List Sel) → length ss ≡ length xs → length (each_through_rest ss xs) ≡ length xs
rest-length [] [] e = refl
rest-length [] (x ∷ xs) e = absurd (omega (arith, e))
rest-length (s ∷ ss) [] e = absurd (omega (arith, e))
rest-length (s ∷ ss) (x ∷ xs) e = ap (λ n. suc n) (rest-length ss xs (omega (arith, e)))

-- settled in reverse order, they are the list that is left
pub fallen-left : (ms : List Sel) (ss : List Shift) (list : List Sel) (s : Listed) → list ≡ reverse (each_through_rest ss ms) → ((text : List ℕ) → AreInside text list → IsSettledIn text (ranges_of text list) 0 s) → IsLeftFor ms ss s
fallen-left ms ss list s is settles text cs m =
    let now : List ℕ = all_changed text cs in
    let own : List Range = marks text [] cs in
    let gone : AreGone text cs ss = are-gone text cs ss m.steps m.shifts_are in
    let there : list ≡ reverse (each_through_rest ss (marks_of text cs)) = is ∙ ap (λ l. reverse (each_through_rest ss l)) m.marks_are in
    let inside : AreInside now list = subst (AreInside now) (sym there) (all-turned (IsInside now) (each_through_rest ss (marks_of text cs)) gone.inside) in
    let ranges : ranges_of now list ≡ reverse own = ap (ranges_of now) there ∙ map-turned (range_of now) (each_through_rest ss (marks_of text cs)) ∙ ap reverse gone.ranges in
    let all : IsSettledIn now (reverse own) 0 s = subst (λ rs. IsSettledIn now rs 0 s) ranges (settles now inside) in
    let plain : AllByRecursion IsPlain own = plain-marks text cs m.steps in
    let span : IsSpan own (length own - 1) (ranges_of now s.list) s.main =
    span-turned own (ranges_of now s.list) s.main (span-of (reverse own) (ranges_of now s.list) 0 s.main (all-turned IsPlain own plain) all.settled) in
    let main : length own - 1 ≡ length cs - 1 = ap (λ n. n - 1) (marks-length text [] cs ∙ none (length cs)) in
    subst (λ n. IsSettledIn now own n s) main (record { inside = all.inside; settled = settled-of own (ranges_of now s.list) (length own - 1) s.main plain span })
  where
    none : (k : ℕ) → 0 + k ≡ k
    none k = omega arith

pub fallen-ok : {E : Type 0} (r : Result Listed E) (ms : List Sel) (ss : List Shift) (list : List Sel) → list ≡ reverse (each_through_rest ss ms) → IfOk r (λ s. (text : List ℕ) → AreInside text list → IsSettledIn text (ranges_of text list) 0 s) → IfOk r (IsLeftFor ms ss)
fallen-ok r ms ss list is h = ok-weaker (λ s. (text : List ℕ) → AreInside text list → IsSettledIn text (ranges_of text list) 0 s) (IsLeftFor ms ss) r (λ s k. fallen-left ms ss list s is k) h

-- settled in order, they are that list too
pub risen-left : (ms : List Sel) (ss : List Shift) (list : List Sel) (main : ℕ) (s : Listed) → list ≡ each_through_rest ss ms → main ≡ length ms - 1 → ((text : List ℕ) → AreInside text list → IsSettledIn text (ranges_of text list) main s) → IsLeftFor ms ss s
risen-left ms ss list main s is at settles text cs m =
    let now : List ℕ = all_changed text cs in
    let gone : AreGone text cs ss = are-gone text cs ss m.steps m.shifts_are in
    let there : list ≡ each_through_rest ss (marks_of text cs) = is ∙ ap (each_through_rest ss) m.marks_are in
    let inside : AreInside now list = subst (AreInside now) (sym there) gone.inside in
    let place : main ≡ length cs - 1 = at ∙ ap (λ n. n - 1) (marks-many text cs ms ss m) in
    subst₂ (λ rs n. IsSettledIn now rs n s) (ap (ranges_of now) there ∙ gone.ranges) place (settles now inside)
