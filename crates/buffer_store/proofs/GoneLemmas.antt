-- Lemmas on a history that goes to another node.
use Rattle.std.proofs.Common.{◌≡◌, ℕ, zero, suc, ◌+◌, ◌<◌, ◌≤◌, true, false, eqb, List, [], ◌∷◌, ◌++◌, length, take, refl, sym, ap, ap₂, subst, ◌∙◌, arith, inl, inr, cond, lt-ltb, le-ltb, ne_eqb, eq-eqb, take_at, Some, None, is_some}
use Rattle.std.specs.declared.option.Option.{Option}
use Rattle.std.proofs.lemmas.Bool.{eqb-false}
use Rattle.text_model.specs.declared.coords.Shift.{Shift}
use Rattle.text_model.specs.Texts.{IsStored}
use Rattle.text_model.specs.Changes.{Change, all_changed}
use Rattle.text_model.proofs.CoordLemmas.{test_cases}
use Rattle.undo_model.specs.declared.travel.Travel.TheVariants.{Undo, Redo, Node}
use Rattle.undo_model.specs.Steps.{AreSteps}
use Rattle.undo_model.specs.Tree.{node_at}
use Rattle.undo_model.specs.Ways.{leaving, entering, route}
use Rattle.undo_model.specs.Stories.{Story, went_to, parent_of}
use Rattle.undo_model.specs.Moves.{target_in, forgotten}
use Rattle.undo_model.proofs.MoveLemmas.{forgotten-story}
use Rattle.undo_model.proofs.WayLemmas.{route-here}
use Rattle.change_list.specs.declared.change.Change.{Change as Kept}
use Rattle.buffer_store.specs.Stored.{change_shifts}
use Rattle.buffer_store.specs.Seen.{Branch, Pending, branch_at, nodes_of, seen_group, story_from, story_kept, IsTold}
use Rattle.buffer_store.specs.Histories.{IsHistory}
use Rattle.buffer_store.specs.Laws.{first_branch}
use Rattle.buffer_store.specs.Walks.{way_changes, aimed_over, changes_from, IsBehindSome, IsBrokenOff}
use Rattle.buffer_store.proofs.SeenLemmas.{nodes-long, node-parent, node-heir, told-story}
use Rattle.buffer_store.proofs.HistoryLemmas.{story-nodes}
use Rattle.buffer_store.proofs.GoingLemmas.{IsGoing, going}

-- a parent has a lower number
pub told-parents : (text : List ℕ) (bs : List Branch) (current saved : ℕ) (group : Option Pending) → IsTold text bs current saved group → (n : ℕ) → 0 < n → n < length bs → (branch_at bs n).parent < n
told-parents text bs current saved group h n p lt = omega (arith, (h.story.tree.children n p (omega (arith, nodes-long h.opening [] bs))).below, node-parent h.opening bs n lt)

pub told-current : (text : List ℕ) (bs : List Branch) (current saved : ℕ) (group : Option Pending) → IsTold text bs current saved group → current < length bs
told-current text bs current saved group h = omega (arith, nodes-long h.opening [] bs, h.story.current)

-- no group is seen where none is kept
no-group : (text : List ℕ) (group : Option Pending) → seen_group text group ≡ None → group ≡ None
no-group text None e = refl
no-group text (Some g) e = absurd (let both : true ≡ false = ap is_some e in cc)

pub none-pending : (text : List ℕ) (bs : List Branch) (current saved : ℕ) (group : Option Pending) (s : Story) → story_kept text bs current saved group ≡ s → s.group ≡ None → group ≡ None
none-pending text bs current saved group s is none = no-group _ group (ap (λ (x : Story). x.group) is ∙ none)

-- as many nodes are there
pub node-in : (text : List ℕ) (bs : List Branch) (current saved n : ℕ) (group : Option Pending) (s : Story) → story_kept text bs current saved group ≡ s → n < length s.nodes → n < length bs
node-in text bs current saved n group s is lt = omega (arith, ap (λ (x : Story). length x.nodes) is, story-nodes text bs current saved group)

-- so the way can be gone, which was found in a list that is that of the branches
pub going-by : (text : List ℕ) (bs xs : List Branch) (current saved n : ℕ) (found_left found_entered ls es : List ℕ) (group : Option Pending) (s : Story) → IsTold text bs current saved group → story_kept text bs current saved group ≡ s → s.group ≡ None → n < length s.nodes → xs ≡ bs → ((o : List ℕ) → found_left ≡ leaving (current + n) (nodes_of o xs) current n) → ((o : List ℕ) → found_entered ≡ entering (current + n) (nodes_of o xs) current n) → ls ≡ found_left → es ≡ found_entered → IsGoing text bs saved n ls es s
going-by text bs xs current saved n found_left found_entered ls es group s h is none lt same left entered l e =
    let no : group ≡ None = none-pending text bs current saved group s is none in
    going text bs current saved n ls es s (subst (IsTold text bs current saved) no h) (ap (story_kept text bs current saved) (sym no) ∙ is) (node-in text bs current saved n group s is lt)
    (λ o. l ∙ left o ∙ ap (λ ys. leaving (current + n) (nodes_of o ys) current n) same)
    (λ o. e ∙ entered o ∙ ap (λ ys. entering (current + n) (nodes_of o ys) current n) same)

-- the changes of that way are those from the story to the node
pub way-is : (text : List ℕ) (bs xs : List Branch) (saved n : ℕ) (ls es : List ℕ) (s : Story) → IsGoing text bs saved n ls es s → xs ≡ bs → way_changes xs text ls es ≡ changes_from n s
way-is text bs xs saved n ls es s h e = ap (λ ys. way_changes ys text ls es) e ∙ h.changes

-- the history there
pub record IsThere (new : List ℕ) (cs : List Branch) (n saved : ℕ) (group : Option Pending) (taken places : ℕ) (s : Story) : Type 0 where
  pub history : IsHistory new cs n saved group taken places
  pub story : story_kept new cs n saved group ≡ went_to n s

pub gone-there : (text new : List ℕ) (bs cs : List Branch) (saved n taken places : ℕ) (ls es : List ℕ) (group : Option Pending) (s : Story) → IsGoing text bs saved n ls es s → group ≡ None → new ≡ all_changed text (way_changes bs text ls es) → cs ≡ aimed_over (aimed_over bs ls) es → IsThere new cs n saved group taken places s
gone-there text new bs cs saved n taken places ls es group s h e t branches =
    let all : List Branch = aimed_over (aimed_over bs ls) es in
    let P : List ℕ → List Branch → Type 0 = λ x xs. IsThere x xs n saved None taken places s in
    let there : IsThere (all_changed text (way_changes bs text ls es)) all n saved None taken places s = record { history = record { told = h.arrived.told; room = tt }; story = h.arrived.story } in
    subst (λ (g : Option Pending). IsThere new cs n saved g taken places s) (sym e) (subst (λ (x : List ℕ). P x cs) (sym t) (subst (λ (xs : List Branch). P (all_changed text (way_changes bs text ls es)) xs) (sym branches) there))

-- without a change made the text stays
pub none-made : (cs : List Change) (old new : List ℕ) (shifts : List Shift) → IsBehindSome cs old new shifts → length shifts ≡ 0 → new ≡ old
none-made cs old new shifts h none = h.text ∙ ap (all_changed old) (done-none h.done (omega (arith, ap length h.shifts_are)))
  where
    done-none : (ds : List Change) → length (change_shifts old ds) ≡ 0 → ds ≡ []
    done-none [] e = refl
    done-none (d ∷ ds) e = absurd (omega arith)

steps-front : (text : List ℕ) (cs ds : List Change) → AreSteps text (cs ++ ds) → AreSteps text cs
steps-front text [] ds h = tt
steps-front text (c ∷ cs) ds h = (h.0, steps-front _ cs ds h.1)

-- want of memory before the first change, and behind it
some-front : (cs done left : List Change) → cs ≡ done ++ left → take (length done) cs ≡ done
some-front cs done left e = ap (take (length done)) e ∙ take_at done left (length done) refl

none-of-none : (text : List ℕ) (ds : List Change) (n : ℕ) → length (change_shifts text ds) ≡ n → 0 < n → ds ≡ [] → ⊥
none-of-none text ds n e p is = omega (arith, e, ap (λ x. length (change_shifts text x)) is)

pub broken-whole : (cs : List Change) (old new : Story) (shifts : List Shift) → new ≡ old → shifts ≡ [] → IsBrokenOff cs old new shifts
broken-whole cs old new shifts e none = record {
  made = 0;
  steps = tt;
  text = ap (λ (x : Story). x.text) e;
  shifts_are = none;
  story = inl (refl, e);
  whole = λ q. e;
}

pub broken-forgotten : (cs : List Change) (old new : Story) (shifts : List Shift) → AreSteps old.text cs → IsBehindSome cs old.text new.text shifts → 0 < length shifts → new ≡ forgotten new.text → IsBrokenOff cs old new shifts
broken-forgotten cs old new shifts steps h some e =
    let front : take (length h.done) cs ≡ h.done = some-front cs h.done h.left h.are in
    let P : List Change → Type 0 = λ x. AreSteps old.text x in
    record {
      made = length h.done;
      steps = subst P (sym front) (steps-front old.text h.done h.left (subst P h.are steps));
      text = h.text ∙ ap (all_changed old.text) (sym front);
      shifts_are = h.shifts_are ∙ ap (change_shifts old.text) (sym front);
      story = inr e;
      whole = λ q. absurd (none-of-none old.text h.done (length shifts) (sym (ap length h.shifts_are)) some (sym front ∙ q));
    }

-- where there was a change there are two nodes
pub two-nodes : (text : List ℕ) (bs : List Branch) (current saved n : ℕ) (group : Option Pending) (s : Story) (old new : List ℕ) (shifts : List Shift) → IsTold text bs current saved group → story_kept text bs current saved group ≡ s → n < length s.nodes → IsBehindSome (changes_from n s) old new shifts → 0 < length shifts → 2 ≤ length bs
two-nodes text bs current saved n group s old new shifts h is lt some p =
    elim (test_cases (eqb s.current n)) [
      | inl e ↦ absurd (none-of-none old some.done (length shifts) (sym (ap length some.shifts_are)) p (front-none some.done some.left (sym some.are ∙ route-here (s.current + n) s.nodes s.current n e)))
      | inr e ↦ omega (arith, eqb-false s.current n e, ap (λ (x : Story). x.current) is, told-current text bs current saved group h, node-in text bs current saved n group s is lt)
    ]
  where
    front-none : (xs ys : List Change) → xs ++ ys ≡ [] → xs ≡ []
    front-none [] ys q = refl
    front-none (x ∷ xs) ys q = absurd (omega (arith, ap length q))

-- a history that was forgotten
pub told-forgotten : (text : List ℕ) → IsStored text → IsTold text (first_branch ∷ []) 0 0 (Some (record { owner = 0; changes = [] }))
told-forgotten text h = record {
  opening = text;
  story = forgotten-story text h;
  fits = λ n p lt. absurd (omega arith);
  root_has_none = refl;
  pending_fit = tt;
  text_is = refl;
}

pub forgotten-seen : (text : List ℕ) (bs : List Branch) (cs : List Kept) → bs ≡ first_branch ∷ [] → cs ≡ [] → story_kept text bs 0 0 (Some (record { owner = 0; changes = cs })) ≡ forgotten text
forgotten-seen text bs cs e f = ap₂ (λ x y. story_kept text x 0 0 (Some (record { owner = 0; changes = y }))) e f

pub forgotten-history : (text : List ℕ) (bs : List Branch) (cs : List Kept) (taken places : ℕ) → IsStored text → bs ≡ first_branch ∷ [] → cs ≡ [] → taken < places → IsHistory text bs 0 0 (Some (record { owner = 0; changes = cs })) taken places
forgotten-history text bs cs taken places h e f room =
    let P : List Branch → List Kept → Type 0 = λ x y. IsHistory text x 0 0 (Some (record { owner = 0; changes = y })) taken places in
    subst (λ (x : List Branch). P x cs) (sym e) (subst (λ (y : List Kept). P (first_branch ∷ []) y) (sym f) (record { told = told-forgotten text h; room = room }))

-- the parent of the current node, and its heir
pub parent-kept : (text : List ℕ) (bs : List Branch) (current saved : ℕ) (group : Option Pending) (s : Story) → IsTold text bs current saved group → story_kept text bs current saved group ≡ s → 0 < current → target_in Undo s ≡ Some (branch_at bs current).parent
parent-kept text bs current saved group s h is p =
    let now : story_from h.opening text bs current saved group ≡ s = sym (told-story text bs current saved group h) ∙ is in
    ap (target_in Undo) (sym now) ∙ ap (λ v. cond v None (Some (node_at (nodes_of h.opening bs) current).parent)) (ne_eqb current 0 (λ e. omega arith)) ∙ ap Some (node-parent h.opening bs current (told-current text bs current saved group h))

pub root-kept : (text : List ℕ) (bs : List Branch) (current saved : ℕ) (group : Option Pending) (s : Story) → story_kept text bs current saved group ≡ s → current ≡ 0 → target_in Undo s ≡ None
root-kept text bs current saved group s is e = ap (λ v. cond v None (Some (parent_of s))) (eq-eqb s.current 0 (sym (ap (λ (x : Story). x.current) is) ∙ e))

pub heir-kept : (text : List ℕ) (bs : List Branch) (current saved : ℕ) (group : Option Pending) (s : Story) → IsTold text bs current saved group → story_kept text bs current saved group ≡ s → target_in Redo s ≡ (branch_at bs current).heir
heir-kept text bs current saved group s h is =
    let now : story_from h.opening text bs current saved group ≡ s = sym (told-story text bs current saved group h) ∙ is in
    ap (target_in Redo) (sym now) ∙ node-heir h.opening bs current (told-current text bs current saved group h)

-- a node of a number
pub number-kept : (text : List ℕ) (bs : List Branch) (current saved n : ℕ) (group : Option Pending) (s : Story) → story_kept text bs current saved group ≡ s → n < length bs → target_in (Node n) s ≡ Some n
number-kept text bs current saved n group s is lt =
    ap (λ v. cond v (Some n) None) (lt-ltb n (length s.nodes) (omega (arith, ap (λ (x : Story). length x.nodes) is, story-nodes text bs current saved group)))

pub number-missing : (text : List ℕ) (bs : List Branch) (current saved n : ℕ) (group : Option Pending) (s : Story) → story_kept text bs current saved group ≡ s → length bs ≤ n → target_in (Node n) s ≡ None
number-missing text bs current saved n group s is le =
    ap (λ v. cond v (Some n) None) (le-ltb n (length s.nodes) (omega (arith, ap (λ (x : Story). length x.nodes) is, story-nodes text bs current saved group)))
