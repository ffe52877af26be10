-- Lemmas on going over nodes one after another.
use Rattle.std.proofs.Common.{◌≡◌, ℕ, ◌+◌, ◌<◌, List, [], ◌∷◌, ◌++◌, length, drop, set, get_or, refl, sym, ap, ap₂, subst, ◌∙◌, arith, append-nil, None}
use Rattle.std.proofs.lemmas.List.{drop_more, length-set, get_or_read}
use Rattle.text_model.specs.declared.coords.Shift.{Shift}
use Rattle.text_model.specs.Texts.{IsStored, last_place}
use Rattle.text_model.specs.Changes.{Change, Insertion, Erasure, changed, all_changed, move_of, IsShift}
use Rattle.text_model.proofs.ChangeLemmas.{move_of-change}
use Rattle.selection_set.specs.declared.sel.Sel.{Sel}
use Rattle.selection_map.specs.Catching.{AreShiftsOf}
use Rattle.change_list.specs.declared.change.Change.{Change as Kept}
use Rattle.undo_model.specs.Steps.{IsStep, AreSteps}
use Rattle.move_marks.specs.Marking.{marks_of, AreMarked}
use Rattle.buffer_store.specs.Stored.{shift_of, change_shifts, flats, made, backs}
use Rattle.buffer_store.specs.Seen.{Branch, branch_at}
use Rattle.buffer_store.specs.Laws.{aimed_branch}
use Rattle.buffer_store.specs.Traces.{Trace, trace, trace_after, IsAfterSome}
use Rattle.buffer_store.specs.Walks.{back_over, CanGoBack, on_over, CanGoForth, way_changes, heir_aimed_at, aimed_over, AreThere, IsBehindSome}
use Rattle.buffer_store.proofs.MakingLemmas.{made-flats}
use Rattle.buffer_store.proofs.TraceLemmas.{after-more, IsOver, over-first, over-more, over-some}
use Rattle.buffer_store.proofs.MovedLemmas.{aimed-parent}

-- a branch that was read
pub branch-read : (bs : List Branch) (n : ℕ) (b : Branch) → n < length bs → b ≡ get_or bs n b → b ≡ branch_at bs n
branch-read bs n b lt e = get_or_read bs n b lt e (record { parent = 0; heir = None; changes = [] })

-- the changes of one node more were taken back
pub record IsBackOver (bs : List Branch) (first now : Trace) (all : List Change) (nodes : List ℕ) : Type 0 where
  pub over : IsOver first now all (back_over bs now.text nodes)
  pub can : CanGoBack bs now.text nodes

pub back-more : (bs : List Branch) (first now new : Trace) (all : List Change) (nodes : List ℕ) (i : ℕ) (b : Branch) (cs : List Kept) → i < length nodes → CanGoBack bs now.text (drop i nodes) → IsOver first now all (back_over bs now.text (drop i nodes)) → b ≡ get_or bs (get_or nodes i 0) b → cs ≡ b.changes → new ≡ trace_after now (backs now.text cs) → IsBackOver bs first new all (drop (i + 1) nodes)
back-more bs first now new all nodes i b cs lt can over read changes e =
    let n : ℕ = get_or nodes i 0 in
    let ks : List Kept = (branch_at bs n).changes in
    let split : drop i nodes ≡ n ∷ drop (i + 1) nodes = drop_more nodes i 0 lt in
    let P : List ℕ → Type 0 = λ ns. CanGoBack bs now.text ns in
    let k : CanGoBack bs now.text (n ∷ drop (i + 1) nodes) = subst P split can in
    let is : cs ≡ ks = changes ∙ ap (λ (x : Branch). x.changes) (branch-read bs n b k.0 read) in
    let is_after : new ≡ trace_after now (backs now.text ks) = e ∙ ap (λ x. trace_after now (backs now.text x)) is in
    let Q : Trace → Type 0 = λ t. IsBackOver bs first t all (drop (i + 1) nodes) in
    subst Q (sym is_after) (record { over = over-more first now (trace_after now (backs now.text ks)) all (back_over bs now.text (drop i nodes)) (backs now.text ks) (back_over bs (all_changed now.text (backs now.text ks)) (drop (i + 1) nodes)) over (ap (back_over bs now.text) split) refl; can = k.2 })

pub back-some : (bs : List Branch) (first now new : Trace) (all : List Change) (nodes : List ℕ) (i : ℕ) (b : Branch) (cs : List Kept) → i < length nodes → CanGoBack bs now.text (drop i nodes) → IsOver first now all (back_over bs now.text (drop i nodes)) → b ≡ get_or bs (get_or nodes i 0) b → cs ≡ b.changes → IsAfterSome now (backs now.text cs) new → IsAfterSome first all new
back-some bs first now new all nodes i b cs lt can over read changes h =
    let n : ℕ = get_or nodes i 0 in
    let ks : List Kept = (branch_at bs n).changes in
    let split : drop i nodes ≡ n ∷ drop (i + 1) nodes = drop_more nodes i 0 lt in
    let Q : List ℕ → Type 0 = λ ns. CanGoBack bs now.text ns in
    let k : CanGoBack bs now.text (n ∷ drop (i + 1) nodes) = subst Q split can in
    let is : cs ≡ ks = changes ∙ ap (λ (x : Branch). x.changes) (branch-read bs n b k.0 read) in
    let P : List Kept → Type 0 = λ x. IsAfterSome now (backs now.text x) new in
    over-some first now new all (back_over bs now.text (drop i nodes)) (backs now.text ks) (back_over bs (all_changed now.text (backs now.text ks)) (drop (i + 1) nodes)) over (ap (back_over bs now.text) split) (subst P is h)

-- the changes of one node more were made
pub record IsOnOver (bs : List Branch) (first now : Trace) (all : List Change) (nodes : List ℕ) : Type 0 where
  pub over : IsOver first now all (on_over bs now.text nodes)
  pub can : CanGoForth bs now.text nodes

pub on-more : (bs : List Branch) (first now new : Trace) (all : List Change) (nodes : List ℕ) (i : ℕ) (b : Branch) (cs : List Kept) → i < length nodes → CanGoForth bs now.text (drop i nodes) → IsOver first now all (on_over bs now.text (drop i nodes)) → b ≡ get_or bs (get_or nodes i 0) b → cs ≡ b.changes → new ≡ trace_after now (flats now.text cs) → IsOnOver bs first new all (drop (i + 1) nodes)
on-more bs first now new all nodes i b cs lt can over read changes e =
    let n : ℕ = get_or nodes i 0 in
    let ks : List Kept = (branch_at bs n).changes in
    let split : drop i nodes ≡ n ∷ drop (i + 1) nodes = drop_more nodes i 0 lt in
    let P : List ℕ → Type 0 = λ ns. CanGoForth bs now.text ns in
    let k : CanGoForth bs now.text (n ∷ drop (i + 1) nodes) = subst P split can in
    let is : cs ≡ ks = changes ∙ ap (λ (x : Branch). x.changes) (branch-read bs n b k.0 read) in
    let is_after : new ≡ trace_after now (flats now.text ks) = e ∙ ap (λ x. trace_after now (flats now.text x)) is in
    let rest : List ℕ → List Change = λ t. on_over bs t (drop (i + 1) nodes) in
    let same : made now.text ks ≡ all_changed now.text (flats now.text ks) = made-flats now.text ks in
    let R : List ℕ → Type 0 = λ t. CanGoForth bs t (drop (i + 1) nodes) in
    let Q : Trace → Type 0 = λ t. IsOnOver bs first t all (drop (i + 1) nodes) in
    subst Q (sym is_after) (record { over = over-more first now (trace_after now (flats now.text ks)) all (on_over bs now.text (drop i nodes)) (flats now.text ks) (rest (all_changed now.text (flats now.text ks))) over (ap (on_over bs now.text) split ∙ ap (λ t. flats now.text ks ++ rest t) same) refl; can = subst R same k.2 })

pub on-some : (bs : List Branch) (first now new : Trace) (all : List Change) (nodes : List ℕ) (i : ℕ) (b : Branch) (cs : List Kept) → i < length nodes → CanGoForth bs now.text (drop i nodes) → IsOver first now all (on_over bs now.text (drop i nodes)) → b ≡ get_or bs (get_or nodes i 0) b → cs ≡ b.changes → IsAfterSome now (flats now.text cs) new → IsAfterSome first all new
on-some bs first now new all nodes i b cs lt can over read changes h =
    let n : ℕ = get_or nodes i 0 in
    let ks : List Kept = (branch_at bs n).changes in
    let split : drop i nodes ≡ n ∷ drop (i + 1) nodes = drop_more nodes i 0 lt in
    let Q : List ℕ → Type 0 = λ ns. CanGoForth bs now.text ns in
    let k : CanGoForth bs now.text (n ∷ drop (i + 1) nodes) = subst Q split can in
    let is : cs ≡ ks = changes ∙ ap (λ (x : Branch). x.changes) (branch-read bs n b k.0 read) in
    let P : List Kept → Type 0 = λ x. IsAfterSome now (flats now.text x) new in
    over-some first now new all (on_over bs now.text (drop i nodes)) (flats now.text ks) (on_over bs (made now.text ks) (drop (i + 1) nodes)) over (ap (on_over bs now.text) split) (subst P is h)

-- the parent of one node more has it as its heir
pub there-aimed : (bs : List Branch) (n : ℕ) (ns : List ℕ) → (branch_at bs n).parent < length bs → AreThere bs ns → AreThere (heir_aimed_at bs n) ns
there-aimed bs n [] p h = tt
there-aimed bs n (m ∷ ms) p h =
    let long : length (heir_aimed_at bs n) ≡ length bs = length-set bs (branch_at bs n).parent _ in
    (omega (arith, h.0), omega (arith, h.1, aimed-parent bs (branch_at bs n).parent n m p), there-aimed bs n ms p h.2)

pub record IsAimedOver (first now : List Branch) (all nodes : List ℕ) : Type 0 where
  pub whole : aimed_over now nodes ≡ aimed_over first all
  pub there : AreThere now nodes

pub aimed-more : (first now : List Branch) (nodes : List ℕ) (i p : ℕ) (b c : Branch) → i < length nodes → AreThere now (drop i nodes) → aimed_over now (drop i nodes) ≡ aimed_over first nodes → b ≡ get_or now (get_or nodes i 0) b → p ≡ b.parent → c ≡ get_or now p c → IsAimedOver first (set now p (aimed_branch c (get_or nodes i 0))) nodes (drop (i + 1) nodes)
aimed-more first now nodes i p b c lt there whole read up other =
    let n : ℕ = get_or nodes i 0 in
    let split : drop i nodes ≡ n ∷ drop (i + 1) nodes = drop_more nodes i 0 lt in
    let P : List ℕ → Type 0 = λ ns. AreThere now ns in
    let k : AreThere now (n ∷ drop (i + 1) nodes) = subst P split there in
    let parent : p ≡ (branch_at now n).parent = up ∙ ap (λ (x : Branch). x.parent) (branch-read now n b k.0 read) in
    let same : c ≡ branch_at now (branch_at now n).parent = branch-read now p c (omega (arith, k.1)) other ∙ ap (branch_at now) parent in
    let e : set now p (aimed_branch c n) ≡ heir_aimed_at now n = ap₂ (λ x y. set now x (aimed_branch y n)) parent same in
    let Q : List Branch → Type 0 = λ bs. IsAimedOver first bs nodes (drop (i + 1) nodes) in
    subst Q (sym e) (record { whole = sym (ap (aimed_over now) split) ∙ whole; there = there-aimed now n (drop (i + 1) nodes) k.1 k.2 })

-- the two parts of a way
pub way-whole : (bs : List Branch) (first middle last : Trace) (left entered : List ℕ) → middle ≡ trace_after first (back_over bs first.text left) → last ≡ trace_after middle (on_over bs middle.text entered) → last ≡ trace_after first (way_changes bs first.text left entered)
way-whole bs first middle last left entered h k =
    let t : List ℕ = all_changed first.text (back_over bs first.text left) in
    let same : middle.text ≡ t = ap (λ (x : Trace). x.text) h in
    after-more first middle last (back_over bs first.text left) (on_over bs t entered) (way_changes bs first.text left entered) h (k ∙ ap (λ x. trace_after middle (on_over bs x entered)) same) refl

pub way-some_back : (bs : List Branch) (first now : Trace) (left entered : List ℕ) → IsAfterSome first (back_over bs first.text left) now → IsAfterSome first (way_changes bs first.text left entered) now
way-some_back bs first now left entered h = over-some first first now (way_changes bs first.text left entered) (way_changes bs first.text left entered) (back_over bs first.text left) (on_over bs (all_changed first.text (back_over bs first.text left)) entered) (over-first first (way_changes bs first.text left entered)) refl h

pub way-some_on : (bs : List Branch) (first middle now : Trace) (left entered : List ℕ) → middle ≡ trace_after first (back_over bs first.text left) → IsAfterSome middle (on_over bs middle.text entered) now → IsAfterSome first (way_changes bs first.text left entered) now
way-some_on bs first middle now left entered h k =
    let t : List ℕ = all_changed first.text (back_over bs first.text left) in
    let same : middle.text ≡ t = ap (λ (x : Trace). x.text) h in
    let over : IsOver first middle (way_changes bs first.text left entered) (on_over bs middle.text entered) = record { done = back_over bs first.text left; are = ap (λ x. back_over bs first.text left ++ on_over bs x entered) (sym same); is_after = h } in
    over-some first middle now (way_changes bs first.text left entered) (on_over bs middle.text entered) (on_over bs middle.text entered) [] over (sym (append-nil (on_over bs middle.text entered))) k

-- a text behind changes, with their shifts and marks
pub record IsTraced (old new : List ℕ) (cs : List Change) (shifts : List Shift) (marks : List Sel) : Type 0 where
  pub text : new ≡ all_changed old cs
  pub shifts_are : shifts ≡ change_shifts old cs
  pub marks_are : marks ≡ marks_of old cs

pub traced : (old new : List ℕ) (cs : List Change) (ss ts : List Shift) (ms ns : List Sel) → ss ≡ [] → ms ≡ [] → trace new ts ns ≡ trace_after (trace old ss ms) cs → IsTraced old new cs ts ns
traced old new cs ss ts ms ns e f h = record {
  text = ap (λ (x : Trace). x.text) h;
  shifts_are = ap (λ (x : Trace). x.shifts) h ∙ ap (λ x. x ++ change_shifts old cs) e;
  marks_are = ap (λ (x : Trace). x.marks) h ∙ ap (λ x. x ++ marks_of old cs) f;
}

pub behind-all : (old new : List ℕ) (cs : List Change) (ts : List Shift) (ns : List Sel) → IsTraced old new cs ts ns → IsBehindSome cs old new ts
behind-all old new cs ts ns h = record { done = cs; left = []; are = sym (append-nil cs); text = h.text; shifts_are = h.shifts_are }

pub behind-part : (old new : List ℕ) (cs : List Change) (ss ts : List Shift) (ms ns : List Sel) → ss ≡ [] → IsAfterSome (trace old ss ms) cs (trace new ts ns) → IsBehindSome cs old new ts
behind-part old new cs ss ts ms ns e h = record {
  done = h.done;
  left = h.left;
  are = h.are;
  text = ap (λ (x : Trace). x.text) h.is_after;
  shifts_are = ap (λ (x : Trace). x.shifts) h.is_after ∙ ap (λ x. x ++ change_shifts old h.done) e;
}

-- without marks there was no change
pub none-changed : (text : List ℕ) (cs : List Change) → length (marks_of text cs) ≡ 0 → cs ≡ []
none-changed text [] h = refl
none-changed text (c ∷ cs) h = absurd (omega arith)

-- the shifts of steps are theirs
shift-of_step : (text : List ℕ) (c : Change) → IsStep text c → IsShift text (changed text c) (shift_of text c) (move_of text c)
shift-of_step text c h = record { insert_is = refl; change = move_of-change text c h.inside; begin_is = refl; end_is = refl; last_offset = last text c; last_is = refl }
  where
    last : (text : List ℕ) (c : Change) → (move_of text c).last ≡ last_place (changed text c)
    last text (Insertion p s) = refl
    last text (Erasure p q) = refl

shifts-of_steps : (text : List ℕ) (cs : List Change) → AreSteps text cs → AreShiftsOf text cs (change_shifts text cs)
shifts-of_steps text [] h = tt
shifts-of_steps text (c ∷ cs) h = (h.0.stored, shift-of_step text c h.0, shifts-of_steps (changed text c) cs h.1)

-- so marks and shifts are those of the changes
pub traced-marked : (old new : List ℕ) (cs : List Change) (ts us : List Shift) (ns os : List Sel) → IsStored old → AreSteps old cs → IsTraced old new cs ts ns → us ≡ ts → os ≡ ns → AreMarked old cs os us
traced-marked old new cs ts us ns os s k h e f =
    let P : List Shift → Type 0 = λ x. AreShiftsOf old cs x in
    record { stored = s; steps = k; shifts_are = subst P (sym (e ∙ h.shifts_are)) (shifts-of_steps old cs k); marks_are = f ∙ h.marks_are }
