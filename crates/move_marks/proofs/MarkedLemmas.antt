-- Marks and shifts of the first and of the last of some changes, and the marks of both parts behind all changes.
use Rattle.std.proofs.Common.{◌≡◌, ℕ, zero, suc, ◌+◌, ◌≤◌, List, [], ◌∷◌, ◌++◌, length, take, drop, map, refl, sym, ap, ◌∙◌, arith, append-nil, append_assoc}
use Rattle.std.proofs.lemmas.List.{length-map, length-append, length-take-le, map-append, drop_at}
use Rattle.std.specs.List.{AllByRecursion}
use Rattle.text_model.specs.declared.coords.Shift.{Shift}
use Rattle.text_model.specs.Texts.{IsStored}
use Rattle.text_model.specs.Changes.{Change, Insertion, Erasure, changed, all_changed, move_of}
use Rattle.text_model.specs.Mapping.{shifted}
use Rattle.text_model.proofs.MappingLemmas.{shifted-mono}
use Rattle.list_model.specs.Ranges.{Range, Selected}
use Rattle.list_model.specs.Settling.{each_settled, carried}
use Rattle.list_model.specs.Settled.{IsSettled}
use Rattle.list_model.proofs.MoveLemmas.{KeepsOrder, each_settled-settles}
use Rattle.undo_model.specs.Steps.{IsStep, AreSteps}
use Rattle.undo_model.specs.Marks.{mark, marks}
use Rattle.selection_set.specs.declared.sel.Sel.{Sel}
use Rattle.selection_map.specs.Catching.{AreShiftsOf, eager_by}
use Rattle.move_marks.specs.Marking.{sel_at, marks_of, AreMarked, AreOfChanges}
use Rattle.move_marks.specs.Joining.{IsPlain}
use Rattle.move_marks.proofs.PlainLemmas.{IsSpan, span-of, span-list}
use Rattle.move_marks.proofs.JoinLemmas.{all-append, span-carried}
use Rattle.move_marks.proofs.LawLemmas.{plain-carried}

-- the first changes

steps-take : (h : ℕ) (text : List ℕ) (cs : List Change) → AreSteps text cs → AreSteps text (take h cs)
steps-take zero text cs s = tt
steps-take (suc h) text [] s = tt
steps-take (suc h) text (c ∷ cs) s = (s.0, steps-take h (changed text c) cs s.1)

shifts-take : (h : ℕ) (text : List ℕ) (cs : List Change) (ss : List Shift) → AreShiftsOf text cs ss → AreShiftsOf text (take h cs) (take h ss)
shifts-take zero text cs ss s = tt
shifts-take (suc h) text [] [] s = tt
shifts-take (suc h) text [] (x ∷ ss) s = absurd s
shifts-take (suc h) text (c ∷ cs) [] s = absurd s
shifts-take (suc h) text (c ∷ cs) (x ∷ ss) s = (s.0, s.1, shifts-take h (changed text c) cs ss s.2)

marks-take : (h : ℕ) (text : List ℕ) (cs : List Change) → take h (marks_of text cs) ≡ marks_of text (take h cs)
marks-take zero text cs = refl
marks-take (suc h) text [] = refl
marks-take (suc h) text (c ∷ cs) = ap (λ t. sel_at (changed text c) (mark (changed text c) c) ∷ t) (marks-take h (changed text c) cs)

pub marked-take : (h : ℕ) (text : List ℕ) (cs : List Change) (ms : List Sel) (ss : List Shift) → AreMarked text cs ms ss → AreMarked text (take h cs) (take h ms) (take h ss)
marked-take h text cs ms ss m = record {
  stored = m.stored;
  steps = steps-take h text cs m.steps;
  shifts_are = shifts-take h text cs ss m.shifts_are;
  marks_are = ap (take h) m.marks_are ∙ marks-take h text cs;
}

-- the others

stored-after : (h : ℕ) (text : List ℕ) (cs : List Change) → IsStored text → AreSteps text cs → IsStored (all_changed text (take h cs))
stored-after zero text cs k s = k
stored-after (suc h) text [] k s = k
stored-after (suc h) text (c ∷ cs) k s = stored-after h (changed text c) cs s.0.stored s.1

steps-drop : (h : ℕ) (text : List ℕ) (cs : List Change) → AreSteps text cs → AreSteps (all_changed text (take h cs)) (drop h cs)
steps-drop zero text cs s = s
steps-drop (suc h) text [] s = tt
steps-drop (suc h) text (c ∷ cs) s = steps-drop h (changed text c) cs s.1

shifts-drop : (h : ℕ) (text : List ℕ) (cs : List Change) (ss : List Shift) → AreShiftsOf text cs ss → AreShiftsOf (all_changed text (take h cs)) (drop h cs) (drop h ss)
shifts-drop zero text cs ss s = s
shifts-drop (suc h) text [] [] s = tt
shifts-drop (suc h) text [] (x ∷ ss) s = absurd s
shifts-drop (suc h) text (c ∷ cs) [] s = absurd s
shifts-drop (suc h) text (c ∷ cs) (x ∷ ss) s = shifts-drop h (changed text c) cs ss s.2

marks-drop : (h : ℕ) (text : List ℕ) (cs : List Change) → drop h (marks_of text cs) ≡ marks_of (all_changed text (take h cs)) (drop h cs)
marks-drop zero text cs = refl
marks-drop (suc h) text [] = refl
marks-drop (suc h) text (c ∷ cs) = marks-drop h (changed text c) cs

pub marked-drop : (h : ℕ) (text : List ℕ) (cs : List Change) (ms : List Sel) (ss : List Shift) → AreMarked text cs ms ss → AreMarked (all_changed text (take h cs)) (drop h cs) (drop h ms) (drop h ss)
marked-drop h text cs ms ss m = record {
  stored = stored-after h text cs m.stored m.steps;
  steps = steps-drop h text cs m.steps;
  shifts_are = shifts-drop h text cs ss m.shifts_are;
  marks_are = ap (drop h) m.marks_are ∙ marks-drop h text cs;
}

pub changed-rest : (h : ℕ) (text : List ℕ) (cs : List Change) → all_changed (all_changed text (take h cs)) (drop h cs) ≡ all_changed text cs
changed-rest zero text cs = refl
changed-rest (suc h) text [] = refl
changed-rest (suc h) text (c ∷ cs) = changed-rest h (changed text c) cs

pub of-first : (h : ℕ) (ms : List Sel) (ss : List Shift) → AreOfChanges ms ss → AreOfChanges (take h ms) (take h ss)
of-first h ms ss m = record { text = m.text; changes = take h m.changes; marked = marked-take h m.text m.changes ms ss m.marked }

pub of-rest : (h : ℕ) (ms : List Sel) (ss : List Shift) → AreOfChanges ms ss → AreOfChanges (drop h ms) (drop h ss)
of-rest h ms ss m = record { text = all_changed m.text (take h m.changes); changes = drop h m.changes; marked = marked-drop h m.text m.changes ms ss m.marked }

-- as many marks and shifts as changes

marks_of-length : (text : List ℕ) (cs : List Change) → length (marks_of text cs) ≡ length cs
marks_of-length text [] = refl
marks_of-length text (c ∷ cs) = ap (λ n. suc n) (marks_of-length (changed text c) cs)

pub marks-many : (text : List ℕ) (cs : List Change) (ms : List Sel) (ss : List Shift) → AreMarked text cs ms ss → length ms ≡ length cs
marks-many text cs ms ss m = ap length m.marks_are ∙ marks_of-length text cs

shifts_of-length : (text : List ℕ) (cs : List Change) (ss : List Shift) → AreShiftsOf text cs ss → length ss ≡ length cs
shifts_of-length text [] [] s = refl
shifts_of-length text [] (x ∷ ss) s = absurd s
shifts_of-length text (c ∷ cs) [] s = absurd s
shifts_of-length text (c ∷ cs) (x ∷ ss) s = ap (λ n. suc n) (shifts_of-length (changed text c) cs ss s.2)

pub shifts-many : (ms : List Sel) (ss : List Shift) → AreOfChanges ms ss → length ss ≡ length ms
shifts-many ms ss m = shifts_of-length m.text m.changes ss m.marked.shifts_are ∙ sym (marks-many m.text m.changes ms ss m.marked)

-- ranges through changes

abbrev pub carried_by : List ℕ → List Change → List Range → List Range
carried_by text [] rs = rs
carried_by text (c ∷ cs) rs = carried_by (changed text c) cs (map (carried (shifted (move_of text c))) rs)

pub marks-behind : (text : List ℕ) (rs qs : List Range) (cs : List Change) → marks text (rs ++ qs) cs ≡ carried_by text cs rs ++ marks text qs cs
marks-behind text rs qs [] = refl
marks-behind text rs qs (c ∷ cs) =
    let f : Range → Range = carried (shifted (move_of text c)) in
    let one : List Range = mark (changed text c) c ∷ [] in
    ap (λ t. marks (changed text c) (t ++ one) cs) (map-append f rs qs)
    ∙ ap (λ t. marks (changed text c) t cs) (append_assoc (map f rs) (map f qs) one)
    ∙ marks-behind (changed text c) (map f rs) (map f qs ++ one) cs

marks-on : (h : ℕ) (text : List ℕ) (rs : List Range) (cs : List Change) → marks text rs cs ≡ marks (all_changed text (take h cs)) (marks text rs (take h cs)) (drop h cs)
marks-on zero text rs cs = refl
marks-on (suc h) text rs [] = refl
marks-on (suc h) text rs (c ∷ cs) = marks-on h (changed text c) (map (carried (shifted (move_of text c))) rs ++ mark (changed text c) c ∷ []) cs

-- the marks of all changes are those of the first, carried, and those of the others
pub marks-parts : (h : ℕ) (text : List ℕ) (cs : List Change)
    → marks text [] cs ≡ carried_by (all_changed text (take h cs)) (drop h cs) (marks text [] (take h cs)) ++ marks (all_changed text (take h cs)) [] (drop h cs)
marks-parts h text cs =
    marks-on h text [] cs
    ∙ ap (λ t. marks (all_changed text (take h cs)) t (drop h cs)) (sym (append-nil (marks text [] (take h cs))))
    ∙ marks-behind (all_changed text (take h cs)) (marks text [] (take h cs)) [] (drop h cs)

pub carried_by-length : (text : List ℕ) (cs : List Change) (rs : List Range) → length (carried_by text cs rs) ≡ length rs
carried_by-length text [] rs = refl
carried_by-length text (c ∷ cs) rs = carried_by-length (changed text c) cs (map (carried (shifted (move_of text c))) rs) ∙ length-map rs (carried (shifted (move_of text c)))

pub marks-length : (text : List ℕ) (rs : List Range) (cs : List Change) → length (marks text rs cs) ≡ length rs + length cs
marks-length text rs [] = omega arith
marks-length text rs (c ∷ cs) =
    let f : Range → Range = carried (shifted (move_of text c)) in
    omega (arith, marks-length (changed text c) (map f rs ++ mark (changed text c) c ∷ []) cs, length-append (map f rs) (mark (changed text c) c ∷ []), length-map rs f)

-- the last marks are those of the last changes
pub marks-last : (h : ℕ) (text : List ℕ) (cs : List Change) → h ≤ length cs → drop h (marks text [] cs) ≡ marks (all_changed text (take h cs)) [] (drop h cs)
marks-last h text cs l =
    let first : List Range = carried_by (all_changed text (take h cs)) (drop h cs) (marks text [] (take h cs)) in
    let many : length first ≡ h = omega (arith, carried_by-length (all_changed text (take h cs)) (drop h cs) (marks text [] (take h cs)), marks-length text [] (take h cs), length-take-le h cs l) in
    ap (drop h) (marks-parts h text cs) ∙ drop_at first (marks (all_changed text (take h cs)) [] (drop h cs)) h many

-- marks are plain

pub mark-plain : (text : List ℕ) (c : Change) → IsStep text c → IsPlain (mark (changed text c) c)
mark-plain text (Insertion p s) h = record { ordered = omega (arith, h.some); straight = refl; untargeted = refl }
mark-plain text (Erasure p q) h = record { ordered = omega arith; straight = refl; untargeted = refl }

pub step-keeps : (text : List ℕ) (c : Change) → IsStep text c → KeepsOrder (shifted (move_of text c))
step-keeps text (Insertion p s) h a b l = shifted-mono (move_of text (Insertion p s)) a b (omega arith) l
step-keeps text (Erasure p q) h a b l = shifted-mono (move_of text (Erasure p q)) a b h.inside.0 l

pub plain-by : (text : List ℕ) (rs : List Range) (cs : List Change) → AreSteps text cs → AllByRecursion IsPlain rs → AllByRecursion IsPlain (carried_by text cs rs)
plain-by text rs [] s h = h
plain-by text rs (c ∷ cs) s h = plain-by (changed text c) (map (carried (shifted (move_of text c))) rs) cs s.1 (plain-carried (shifted (move_of text c)) (step-keeps text c s.0) rs h)

plain-marks-on : (text : List ℕ) (rs : List Range) (cs : List Change) → AreSteps text cs → AllByRecursion IsPlain rs → AllByRecursion IsPlain (marks text rs cs)
plain-marks-on text rs [] s h = h
plain-marks-on text rs (c ∷ cs) s h =
    let f : ℕ → ℕ = shifted (move_of text c) in
    plain-marks-on (changed text c) (map (carried f) rs ++ mark (changed text c) c ∷ []) cs s.1
    (all-append IsPlain (map (carried f) rs) (mark (changed text c) c ∷ []) (plain-carried f (step-keeps text c s.0) rs h) (mark-plain text c s.0, tt))

pub plain-marks : (text : List ℕ) (cs : List Change) → AreSteps text cs → AllByRecursion IsPlain (marks text [] cs)
plain-marks text cs s = plain-marks-on text [] cs s tt

-- what the eager rule makes of a settled list is what the ranges are settled to, carried
pub span-eager : (text : List ℕ) (cs : List Change) (xs : List Range) (n : ℕ) (s : Selected) → AreSteps text cs → AllByRecursion IsPlain xs → IsSpan xs n s.list s.main
    → IsSpan (carried_by text cs xs) n (eager_by text cs s).list (eager_by text cs s).main
span-eager text [] xs n s st h k = k
span-eager text (c ∷ cs) xs n s st h k =
    let f : ℕ → ℕ = shifted (move_of text c) in
    let keeps : KeepsOrder f = step-keeps text c st.0 in
    let u : Selected = each_settled (carried f) s in
    let settles : IsSettled (map (carried f) s.list) s.main u.list u.main = each_settled-settles f keeps s (span-list xs s.list n s.main h k) in
    span-eager (changed text c) cs (map (carried f) xs) n u st.1 (plain-carried f keeps xs h)
    (span-carried f keeps xs s.list u.list n s.main u.main k (span-of (map (carried f) s.list) u.list s.main u.main (plain-carried f keeps s.list k.plain) settles))
