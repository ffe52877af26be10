-- Lemmas on what is kept when the buffer goes from a node to its parent or to its heir.
use Rattle.std.proofs.Common.{◌≡◌, ℕ, ◌+◌, ◌<◌, eqb, List, [], length, set, refl, sym, ap, ap₂, subst, ◌∙◌, arith, inl, inr, Some, None, IfSome, eqb-true}
use Rattle.std.specs.declared.option.Option.{Option}
use Rattle.std.proofs.lemmas.Bool.{eqb-false}
use Rattle.std.proofs.lemmas.List.{get_or-set_other, length-set}
use Rattle.std.proofs.lemmas.Grind.{get_or-set_at}
use Rattle.text_model.specs.Changes.{all_changed}
use Rattle.text_model.proofs.CoordLemmas.{test_cases}
use Rattle.change_list.specs.declared.change.Change.{Change as Kept}
use Rattle.undo_model.specs.Tree.{node_at, with_heir}
use Rattle.undo_model.specs.Stories.{Story, went_to, heir_of}
use Rattle.undo_model.specs.Named.{went_on, undone, redone}
use Rattle.undo_model.specs.Kept.{IsStory, IsHeir}
use Rattle.undo_model.proofs.TreeLemmas.{same-text, with_heir-same}
use Rattle.undo_model.proofs.WayLemmas.{remembering-one_up, remembering-one_down}
use Rattle.undo_model.proofs.StoryLemmas.{went-story, undone-goes}
use Rattle.buffer_store.specs.Stored.{AllFit, made, backs}
use Rattle.buffer_store.specs.Seen.{Branch, branch_at, nodes_of, story_from, story_kept, IsTold}
use Rattle.buffer_store.specs.Laws.{aimed_branch, TellsStory}
use Rattle.buffer_store.proofs.MakingLemmas.{backs-undoing}
use Rattle.buffer_store.proofs.SeenLemmas.{nodes-long, node-parent, node-heir, node-text, nodes-with_heir, told-story}

-- a branch of which one has another heir has its parent and its changes
pub aimed-parent : (bs : List Branch) (p child m : ℕ) → p < length bs → (branch_at (set bs p (aimed_branch (branch_at bs p) child)) m).parent ≡ (branch_at bs m).parent
aimed-parent bs p child m h =
    elim (test_cases (eqb m p)) [
      | inl e ↦ (let same : m ≡ p = eqb-true m p e in
          ap (λ (b : Branch). b.parent) (get_or-set_at bs p m (aimed_branch (branch_at bs p) child) (record { parent = 0; heir = None; changes = [] }) same h) ∙ ap (λ k. (branch_at bs k).parent) (sym same))
      | inr e ↦ ap (λ (b : Branch). b.parent) (get_or-set_other bs p m (aimed_branch (branch_at bs p) child) (record { parent = 0; heir = None; changes = [] }) (eqb-false m p e))
    ]

pub aimed-changes : (bs : List Branch) (p child m : ℕ) → p < length bs → (branch_at (set bs p (aimed_branch (branch_at bs p) child)) m).changes ≡ (branch_at bs m).changes
aimed-changes bs p child m h =
    elim (test_cases (eqb m p)) [
      | inl e ↦ (let same : m ≡ p = eqb-true m p e in
          ap (λ (b : Branch). b.changes) (get_or-set_at bs p m (aimed_branch (branch_at bs p) child) (record { parent = 0; heir = None; changes = [] }) same h) ∙ ap (λ k. (branch_at bs k).changes) (sym same))
      | inr e ↦ ap (λ (b : Branch). b.changes) (get_or-set_other bs p m (aimed_branch (branch_at bs p) child) (record { parent = 0; heir = None; changes = [] }) (eqb-false m p e))
    ]

-- the buffer has gone to a node, and one node has another heir
told-stepped : (text new : List ℕ) (bs : List Branch) (current saved p child n : ℕ) (h : IsTold text bs current saved None) → p < length bs → new ≡ (node_at (nodes_of h.opening bs) n).text → IsStory (story_from h.opening new (set bs p (aimed_branch (branch_at bs p) child)) n saved None) → IsTold new (set bs p (aimed_branch (branch_at bs p) child)) n saved None
told-stepped text new bs current saved p child n h lt t story = record {
  opening = h.opening;
  story = story;
  fits = λ m q k. fits m q k;
  root_has_none = aimed-changes bs p child 0 lt ∙ h.root_has_none;
  pending_fit = tt;
  text_is = t ∙ sym (stays n);
}
  where
    long : length (nodes_of h.opening bs) ≡ length bs
    long = omega (arith, nodes-long h.opening [] bs)

    stays : (m : ℕ) → (node_at (nodes_of h.opening (set bs p (aimed_branch (branch_at bs p) child))) m).text ≡ (node_at (nodes_of h.opening bs) m).text
    stays m = ap (λ ns. (node_at ns m).text) (nodes-with_heir h.opening bs p child lt) ∙ same-text (with_heir p child (nodes_of h.opening bs)) (nodes_of h.opening bs) m (with_heir-same (nodes_of h.opening bs) p child (omega (arith, long)))

    fits : (m : ℕ) → 0 < m → m < length (set bs p (aimed_branch (branch_at bs p) child)) → AllFit (node_at (nodes_of h.opening (set bs p (aimed_branch (branch_at bs p) child))) (branch_at (set bs p (aimed_branch (branch_at bs p) child)) m).parent).text (branch_at (set bs p (aimed_branch (branch_at bs p) child)) m).changes
    fits m q k =
        let P : List ℕ → List Kept → Type 0 = λ x ks. AllFit x ks in
        let from : (node_at (nodes_of h.opening (set bs p (aimed_branch (branch_at bs p) child))) (branch_at (set bs p (aimed_branch (branch_at bs p) child)) m).parent).text ≡ (node_at (nodes_of h.opening bs) (branch_at bs m).parent).text = stays (branch_at (set bs p (aimed_branch (branch_at bs p) child)) m).parent ∙ ap (λ x. (node_at (nodes_of h.opening bs) x).text) (aimed-parent bs p child m lt) in
        let there : m < length bs = omega (arith, length-set bs p (aimed_branch (branch_at bs p) child)) in
        subst (λ (ks : List Kept). P (node_at (nodes_of h.opening (set bs p (aimed_branch (branch_at bs p) child))) (branch_at (set bs p (aimed_branch (branch_at bs p) child)) m).parent).text ks) (sym (aimed-changes bs p child m lt)) (subst (λ (x : List ℕ). P x (branch_at bs m).changes) (sym from) (h.fits m q there))

-- a step to a node whose number is there, when the nodes remember it so
stepped : (text new : List ℕ) (bs : List Branch) (current saved p child n : ℕ) (h : IsTold text bs current saved None) → p < length bs → n < length bs → new ≡ (node_at (nodes_of h.opening bs) n).text → with_heir p child (nodes_of h.opening bs) ≡ (went_to n (story_from h.opening text bs current saved None)).nodes → TellsStory new (set bs p (aimed_branch (branch_at bs p) child)) n saved None (went_to n (story_from h.opening text bs current saved None))
unfolding told-stepped
stepped text new bs current saved p child n h lp ln t nodes =
    let o : List ℕ = h.opening in
    let long : length (nodes_of o bs) ≡ length bs = omega (arith, nodes-long o [] bs) in
    let same : story_from o new (set bs p (aimed_branch (branch_at bs p) child)) n saved None ≡ went_to n (story_from o text bs current saved None) =
    ap₂ (λ x ns. (let s : Story = record { text = x; nodes = ns; current = n; group = None; saved = saved } in s)) t (nodes-with_heir o bs p child lp ∙ nodes) in
    let told : IsTold new (set bs p (aimed_branch (branch_at bs p) child)) n saved None = told-stepped text new bs current saved p child n h lp t (subst IsStory (sym same) (went-story n (story_from o text bs current saved None) h.story (omega arith))) in
    record { told = told; story = told-story new (set bs p (aimed_branch (branch_at bs p) child)) n saved None told ∙ opened_same new bs current saved p child n h lp t (subst IsStory (sym same) (went-story n (story_from o text bs current saved None) h.story (omega arith))) ∙ same }
  where
    opened_same : (new : List ℕ) (bs : List Branch) (current saved p child n : ℕ) (h : IsTold text bs current saved None) (lp : p < length bs) (t : new ≡ (node_at (nodes_of h.opening bs) n).text) (s : IsStory (story_from h.opening new (set bs p (aimed_branch (branch_at bs p) child)) n saved None)) → story_from (told-stepped text new bs current saved p child n h lp t s).opening new (set bs p (aimed_branch (branch_at bs p) child)) n saved None ≡ story_from h.opening new (set bs p (aimed_branch (branch_at bs p) child)) n saved None
    opened_same new bs current saved p child n h lp t s = refl

-- the text of the parent
pub text-up : (text : List ℕ) (bs : List Branch) (current saved : ℕ) (h : IsTold text bs current saved None) → 0 < current → all_changed text (backs text (branch_at bs current).changes) ≡ (node_at (nodes_of h.opening bs) (branch_at bs current).parent).text
text-up text bs current saved h p =
    let o : List ℕ = h.opening in
    let long : length (nodes_of o bs) ≡ length bs = omega (arith, nodes-long o [] bs) in
    let there : current < length bs = omega (arith, h.story.current) in
    let below : (branch_at bs current).parent < current = omega (arith, (h.story.tree.children current p h.story.current).below, node-parent o bs current there) in
    ap (λ x. all_changed x (backs x (branch_at bs current).changes)) (h.text_is ∙ node-text o bs current there below) ∙ (backs-undoing (node_at (nodes_of o bs) (branch_at bs current).parent).text (branch_at bs current).changes (h.fits current p there)).1

-- undo
pub told-undone : (text : List ℕ) (bs : List Branch) (current saved : ℕ) → IsTold text bs current saved None → 0 < current → TellsStory (all_changed text (backs text (branch_at bs current).changes)) (set bs (branch_at bs current).parent (aimed_branch (branch_at bs (branch_at bs current).parent) current)) (branch_at bs current).parent saved None (undone (story_kept text bs current saved None))
told-undone text bs current saved h p =
    let o : List ℕ = h.opening in
    let s : Story = story_from o text bs current saved None in
    let long : length (nodes_of o bs) ≡ length bs = omega (arith, nodes-long o [] bs) in
    let there : current < length bs = omega (arith, h.story.current) in
    let parent : (node_at (nodes_of o bs) current).parent ≡ (branch_at bs current).parent = node-parent o bs current there in
    let below : (branch_at bs current).parent < current = omega (arith, (h.story.tree.children current p h.story.current).below, parent) in
    let nodes : with_heir (branch_at bs current).parent current (nodes_of o bs) ≡ (went_to (branch_at bs current).parent s).nodes = sym (remembering-one_up (current + (branch_at bs current).parent) (nodes_of o bs) current (branch_at bs current).parent (omega arith) parent below) in
    let goes : went_to (branch_at bs current).parent s ≡ undone (story_kept text bs current saved None) = ap (λ m. went_to m s) (sym parent) ∙ sym (undone-goes s h.story p) ∙ ap undone (sym (told-story text bs current saved None h)) in
    let new : List ℕ = all_changed text (backs text (branch_at bs current).changes) in
    let bs' : List Branch = set bs (branch_at bs current).parent (aimed_branch (branch_at bs (branch_at bs current).parent) current) in
    let P : Story → Type 0 = λ x. TellsStory new bs' (branch_at bs current).parent saved None x in
    subst P goes (stepped text new bs current saved (branch_at bs current).parent current (branch_at bs current).parent h (omega arith) (omega arith) (text-up text bs current saved h p) nodes)

-- redo
pub told-redone : (text : List ℕ) (bs : List Branch) (current saved n : ℕ) → IsTold text bs current saved None → (branch_at bs current).heir ≡ Some n → TellsStory (made text (branch_at bs n).changes) (set bs current (aimed_branch (branch_at bs current) n)) n saved None (redone (story_kept text bs current saved None))
told-redone text bs current saved n h e =
    let o : List ℕ = h.opening in
    let s : Story = story_from o text bs current saved None in
    let long : length (nodes_of o bs) ≡ length bs = omega (arith, nodes-long o [] bs) in
    let there : current < length bs = omega (arith, h.story.current) in
    let heir : heir_of s ≡ Some n = node-heir o bs current there ∙ e in
    let P : Option ℕ → Type 0 = λ x. IfSome x (IsHeir (nodes_of o bs) current) in
    let k : IsHeir (nodes_of o bs) current n = subst P heir (h.story.tree.heirs current h.story.current) in
    let inside : n < length bs = omega (arith, k.is_there) in
    let parent : (branch_at bs n).parent ≡ current = sym (node-parent o bs n inside) ∙ k.is_child in
    let below : current < n = omega (arith, (h.story.tree.children n k.isnt_root k.is_there).below, k.is_child) in
    let text_is : made text (branch_at bs n).changes ≡ (node_at (nodes_of o bs) n).text = ap (λ x. made x (branch_at bs n).changes) (h.text_is ∙ ap (λ m. (node_at (nodes_of o bs) m).text) (sym parent)) ∙ sym (node-text o bs n inside (omega arith)) in
    let nodes : with_heir current n (nodes_of o bs) ≡ (went_to n s).nodes = sym (remembering-one_down (current + n) (nodes_of o bs) current n (omega arith) k.is_child below) in
    let goes : went_to n s ≡ redone (story_kept text bs current saved None) = ap (λ x. went_on x s) (sym heir) ∙ ap redone (sym (told-story text bs current saved None h)) in
    let Q : Story → Type 0 = λ x. TellsStory (made text (branch_at bs n).changes) (set bs current (aimed_branch (branch_at bs current) n)) n saved None x in
    subst Q goes (stepped text (made text (branch_at bs n).changes) bs current saved current n n h there inside text_is nodes)
