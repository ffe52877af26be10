-- Lemmas on stories: what is done to one leaves one, and where moves lead.
use Rattle.std.proofs.Common.{◌≡◌, ℕ, ◌+◌, ◌<◌, ◌≤◌, Bool, true, false, cond, not, ◌&&◌, eqb, ltb, leb, List, [], ◌∷◌, ◌++◌, length, refl, sym, ap, ap₂, subst, ◌∙◌, arith, inl, inr, ◌⊎◌, ltb-true, length-append, lt-ltb, ne_eqb, IfSome, is_some, Some, None}
use Rattle.std.specs.declared.option.Option.{Option}
use Rattle.text_model.specs.Texts.{IsStored}
use Rattle.text_model.specs.Changes.{Change, all_changed}
use Rattle.text_model.proofs.CoordLemmas.{test_cases}
use Rattle.text_model.proofs.PlaceLemmas.{leb_true}
use Rattle.text_model.proofs.ChangeLemmas.{all_changed-append}
use Rattle.undo_model.specs.declared.TheConstants.{MAX_NODES}
use Rattle.undo_model.specs.Steps.{AreSteps}
use Rattle.undo_model.specs.Tree.{Node, root, node_at, with_heir, heir_after}
use Rattle.undo_model.specs.Ways.{remembering, crossed}
use Rattle.undo_model.specs.Stories.{Group, Story, opened, pending, is_own, nodes_due, grown, committed, committed_by, added, edited, is_undo_full, went_to, changes_to, parent_of, heir_of, marked_saved}
use Rattle.undo_model.specs.Named.{moved_to, undone, went_on, redone}
use Rattle.undo_model.specs.Kept.{IsChild, IsHeir, IsStory}
use Rattle.undo_model.proofs.StepLemmas.{steps-append, steps-stored}
use Rattle.undo_model.proofs.TreeLemmas.{same-text, IsTreeAs, heir-here, parent-there, Leads, push-tree}
use Rattle.undo_model.proofs.WayLemmas.{remembering-tree, remembering-heir, remembering-one_up, remembering-one_down, route-leads}

-- an opened text
pub opened-story : (text : List ℕ) → IsStored text → IsStory (opened text)
opened-story text h = record {
  tree = record {
    some = omega arith;
    texts = λ n lt. texts n (omega arith);
    children = λ n p lt. absurd (omega arith);
    heirs = λ n lt. heirs n (omega arith);
  };
  current = omega arith;
  saved = omega arith;
  steps = tt;
  text = refl;
  stored = h;
  few = omega arith;
}
  where
    texts : (n : ℕ) → n ≡ 0 → IsStored (node_at (root text ∷ []) n).text
    texts n e = let P : ℕ → Type 0 = λ m. IsStored (node_at (root text ∷ []) m).text in subst P (sym e) h

    heirs : (n : ℕ) → n ≡ 0 → IfSome (node_at (root text ∷ []) n).heir (IsHeir (root text ∷ []) n)
    heirs n e = let P : ℕ → Type 0 = λ m. IfSome (node_at (root text ∷ []) m).heir (IsHeir (root text ∷ []) m) in subst P (sym e) tt

-- a commit leaves the text, and a group no more
grown-text : (g : Option Group) (s : Story) → (grown g s).text ≡ s.text
grown-text None s = refl
grown-text (Some g) s = refl

pub committed-text : (s : Story) → (committed s).text ≡ s.text
committed-text s = grown-text s.group s

grown-none : (g : Option Group) (s : Story) → g ≡ s.group → (grown g s).group ≡ None
grown-none None s e = sym e
grown-none (Some g) s e = refl

pub committed-none : (s : Story) → (committed s).group ≡ None
committed-none s = grown-none s.group s refl

grown-long : (g : Option Group) (s : Story) → length (grown g s).nodes ≡ length s.nodes + cond (is_some g) 1 0
grown-long None s = omega arith
grown-long (Some g) s = length-append s.nodes (record { parent = s.current; text = s.text; changes = g.changes; heir = None } ∷ [])

pub committed-long : (s : Story) → length (committed s).nodes ≡ nodes_due s
committed-long s = grown-long s.group s

grown-story : (g : Option Group) (s : Story) → g ≡ s.group → IsStory s → IsStory (grown g s)
grown-story None s e h = h
grown-story (Some g) s e h =
    let node : Node = record { parent = s.current; text = s.text; changes = g.changes; heir = None } in
    let now : pending s.group ≡ g.changes = ap pending (sym e) in
    let P : List Change → Type 0 = λ cs. AreSteps (node_at s.nodes s.current).text cs in
    let child : IsChild (length s.nodes) (node_at s.nodes s.current) node = record { below = h.current; steps = subst P now h.steps; made = h.text ∙ ap (all_changed (node_at s.nodes s.current).text) now } in
    let long : length (s.nodes ++ node ∷ []) ≡ length s.nodes + 1 = length-append s.nodes (node ∷ []) in
    let due : nodes_due s ≡ length s.nodes + 1 = ap (λ o. length s.nodes + cond (is_some o) 1 0) (sym e) in
    record {
      tree = push-tree s.nodes node h.tree h.current child refl h.stored;
      current = omega arith;
      saved = omega (arith, h.saved);
      steps = tt;
      text = sym (ap (λ (x : Node). x.text) (pushed_last s.nodes node));
      stored = h.stored;
      few = omega (arith, h.few);
    }
  where
    pushed_last : (nodes : List Node) (n : Node) → node_at (nodes ++ n ∷ []) (length nodes) ≡ n
    pushed_last [] n = refl
    pushed_last (x ∷ xs) n = pushed_last xs n

pub committed-story : (s : Story) → IsStory s → IsStory (committed s)
committed-story s h = grown-story s.group s refl h

pub committed_by-story : (who : ℕ) (s : Story) → IsStory s → IsStory (committed_by who s)
committed_by-story who s h =
    elim (is_own who s.group) as (λ v. IsStory (cond v (committed s) s)) [ true ↦ committed-story s h | false ↦ h ]

-- changes are added where there is place for their node
pub added-story : (who : ℕ) (cs : List Change) (s : Story) → IsStory s → AreSteps s.text cs → length s.nodes + 1 ≤ MAX_NODES → IsStory (added who cs s)
added-story who cs s h k room =
    let P : List ℕ → Type 0 = λ t. AreSteps t cs in
    record {
      tree = h.tree;
      current = h.current;
      saved = h.saved;
      steps = steps-append (node_at s.nodes s.current).text (pending s.group) cs h.steps (subst P h.text k);
      text = ap (λ t. all_changed t cs) h.text ∙ sym (all_changed-append (node_at s.nodes s.current).text (pending s.group) cs);
      stored = steps-stored s.text cs h.stored k;
      few = room;
    }

own-due : (who : ℕ) (g : Option Group) → is_own who g ≡ true → is_some g ≡ true
own-due who None e = e
own-due who (Some g) e = refl

pub edited-story : (who : ℕ) (cs : List Change) (s : Story) → IsStory s → AreSteps s.text cs → is_undo_full who cs s ≡ false → IsStory (edited who cs s)
edited-story who [] s h k full = h
edited-story who (c ∷ cs) s h k full =
    let P : Bool → Type 0 = λ v. IsStory (added who (c ∷ cs) (cond v s (committed s))) in
    elim (test_cases (is_own who s.group)) [
      | inl e ↦ (let due : nodes_due s ≡ length s.nodes + 1 = ap (λ v. length s.nodes + cond v 1 0) (own-due who s.group e) in
          subst P (sym e) (added-story who (c ∷ cs) s h k (omega (arith, h.few))))
      | inr e ↦ (let room : nodes_due s < MAX_NODES = below (test_cases (leb MAX_NODES (nodes_due s))) e in
          let Q : List ℕ → Type 0 = λ t. AreSteps t (c ∷ cs) in
          subst P (sym e) (added-story who (c ∷ cs) (committed s) (committed-story s h) (subst Q (sym (committed-text s)) k) (omega (arith, committed-long s))))
    ]
  where
    below : (leb MAX_NODES (nodes_due s) ≡ true) ⊎ (leb MAX_NODES (nodes_due s) ≡ false) → is_own who s.group ≡ false → nodes_due s < MAX_NODES
    below (inl l) e = absurd (let both : true ≡ false = sym (ap₂ (λ v w. not v && w) e l) ∙ full in cc)
    below (inr l) e = less (test_le (nodes_due s) MAX_NODES)
      where
        test_le : (m n : ℕ) → (m < n) ⊎ (n ≤ m)
        test_le m n = grind arith

        less : (nodes_due s < MAX_NODES) ⊎ (MAX_NODES ≤ nodes_due s) → nodes_due s < MAX_NODES
        less (inl lt) = lt
        less (inr le) = absurd (let both : true ≡ false = sym (leb_true MAX_NODES (nodes_due s) le) ∙ l in cc)

-- the buffer goes to a node
pub went-story : (n : ℕ) (s : Story) → IsStory s → n < length s.nodes → IsStory (went_to n s)
went-story n s h lt =
    let rest : IsTreeAs (remembering (s.current + n) s.nodes s.current n) s.nodes = remembering-tree (s.current + n) s.nodes s.current n h.tree h.current lt in
    record {
      tree = rest.tree;
      current = omega (arith, rest.same.long);
      saved = omega (arith, rest.same.long, h.saved);
      steps = tt;
      text = sym (same-text _ s.nodes n rest.same);
      stored = h.tree.texts n lt;
      few = omega (arith, rest.same.long, h.few);
    }

-- a move to a node that is there, and to another
pub moved-there : (n : ℕ) (s : Story) → n < length (committed s).nodes → moved_to n s ≡ went_to n (committed s)
moved-there n s lt = ap (λ v. cond v (went_to n (committed s)) (committed s)) (lt-ltb n (length (committed s).nodes) lt)

pub moved-story : (n : ℕ) (s : Story) → IsStory s → IsStory (moved_to n s)
moved-story n s h =
    let P : Bool → Type 0 = λ v. IsStory (cond v (went_to n (committed s)) (committed s)) in
    elim (test_cases (ltb n (length (committed s).nodes))) [
      | inl e ↦ subst P (sym e) (went-story n (committed s) (committed-story s h) (ltb-true n (length (committed s).nodes) e))
      | inr e ↦ subst P (sym e) (committed-story s h)
    ]

pub undone-story : (s : Story) → IsStory s → IsStory (undone s)
undone-story s h =
    elim (eqb (committed s).current 0) as (λ v. IsStory (cond v (committed s) (moved_to (parent_of (committed s)) s))) [
      | true ↦ committed-story s h
      | false ↦ moved-story (parent_of (committed s)) s h
    ]

went_on-story : (o : Option ℕ) (s : Story) → IsStory s → IfSome o (IsHeir s.nodes s.current) → IsStory (went_on o s)
went_on-story None s h k = h
went_on-story (Some n) s h k = went-story n s h k.is_there

pub redone-story : (s : Story) → IsStory s → IsStory (redone s)
redone-story s h =
    let t : IsStory (committed s) = committed-story s h in
    went_on-story (heir_of (committed s)) (committed s) t (t.tree.heirs (committed s).current t.current)

pub marked_saved-story : (s : Story) → IsStory s → IsStory (marked_saved s)
marked_saved-story s h =
    let t : IsStory (committed s) = committed-story s h in
    record { tree = t.tree; current = t.current; saved = t.current; steps = t.steps; text = t.text; stored = t.stored; few = t.few }

-- without a group the text is that of the current node
pub current-text : (s : Story) → IsStory s → s.group ≡ None → s.text ≡ (node_at s.nodes s.current).text
current-text s h e = h.text ∙ ap (λ o. all_changed (node_at s.nodes s.current).text (pending o)) e

-- the changes of a move lead to the node's text
pub move-leads : (n : ℕ) (s : Story) → IsStory s → n < length (committed s).nodes → Leads s.text (node_at (committed s).nodes n).text (changes_to n s)
move-leads n s h lt =
    let t : IsStory (committed s) = committed-story s h in
    let from : s.text ≡ (node_at (committed s).nodes (committed s).current).text = sym (committed-text s) ∙ current-text (committed s) t (committed-none s) in
    let P : List ℕ → Type 0 = λ x. Leads x (node_at (committed s).nodes n).text (changes_to n s) in
    let enough : (committed s).current + n ≤ (committed s).current + n = omega arith in
    subst P (sym from) (route-leads ((committed s).current + n) (committed s).nodes (committed s).current n t.tree t.current lt enough)

pub moved-keeps : (n m : ℕ) (s : Story) → IsStory s → n < length (committed s).nodes → (node_at (moved_to n s).nodes m).text ≡ (node_at (committed s).nodes m).text
moved-keeps n m s h lt =
    let t : IsStory (committed s) = committed-story s h in
    let rest : IsTreeAs (remembering ((committed s).current + n) (committed s).nodes (committed s).current n) (committed s).nodes = remembering-tree ((committed s).current + n) (committed s).nodes (committed s).current n t.tree t.current lt in
    ap (λ (x : Story). (node_at x.nodes m).text) (moved-there n s lt) ∙ same-text _ (committed s).nodes m rest.same

-- the heirs behind a move
pub moved-heir : (n m : ℕ) (s : Story) → IsStory s → n < length (committed s).nodes → (node_at (moved_to n s).nodes m).heir ≡ heir_after (node_at (committed s).nodes m).heir m (crossed ((committed s).current + n) (committed s).nodes (committed s).current n)
moved-heir n m s h lt =
    let t : IsStory (committed s) = committed-story s h in
    ap (λ (x : Story). (node_at x.nodes m).heir) (moved-there n s lt) ∙ remembering-heir ((committed s).current + n) (committed s).nodes (committed s).current n m t.tree t.current lt

-- undo goes to the parent
pub undone-goes : (s : Story) → IsStory s → 0 < (committed s).current → undone s ≡ went_to (parent_of (committed s)) (committed s)
undone-goes s h p =
    let t : IsStory (committed s) = committed-story s h in
    let there : parent_of (committed s) < length (committed s).nodes = parent-there (committed s).nodes (committed s).current t.tree p t.current in
    ap (λ v. cond v (committed s) (moved_to (parent_of (committed s)) s)) (ne_eqb (committed s).current 0 (λ e. omega arith)) ∙ moved-there (parent_of (committed s)) s there

-- and is remembered there
undone-nodes : (s : Story) → IsStory s → 0 < (committed s).current → (undone s).nodes ≡ with_heir (parent_of (committed s)) (committed s).current (committed s).nodes
undone-nodes s h p =
    let t : IsStory (committed s) = committed-story s h in
    let below : parent_of (committed s) < (committed s).current = (t.tree.children (committed s).current p t.current).below in
    ap (λ (x : Story). x.nodes) (undone-goes s h p) ∙ remembering-one_up ((committed s).current + parent_of (committed s)) (committed s).nodes (committed s).current (parent_of (committed s)) (omega arith) refl below

pub undone-heir : (s : Story) → IsStory s → 0 < (committed s).current → heir_of (undone s) ≡ Some (committed s).current
undone-heir s h p =
    let t : IsStory (committed s) = committed-story s h in
    let there : parent_of (committed s) < length (committed s).nodes = parent-there (committed s).nodes (committed s).current t.tree p t.current in
    ap₂ (λ ns m. (node_at ns m).heir) (undone-nodes s h p) (ap (λ (x : Story). x.current) (undone-goes s h p)) ∙ ap (λ (x : Node). x.heir) (heir-here (committed s).nodes (parent_of (committed s)) (committed s).current there)

-- redo goes to the heir, and that is remembered
pub redone-heir : (s : Story) (n : ℕ) → IsStory s → heir_of (committed s) ≡ Some n → (node_at (redone s).nodes (committed s).current).heir ≡ Some n
redone-heir s n h e =
    let t : IsStory (committed s) = committed-story s h in
    let P : Option ℕ → Type 0 = λ o. IfSome o (IsHeir (committed s).nodes (committed s).current) in
    let k : IsHeir (committed s).nodes (committed s).current n = subst P e (t.tree.heirs (committed s).current t.current) in
    let below : (committed s).current < n = omega (arith, (t.tree.children n k.isnt_root k.is_there).below, k.is_child) in
    ap (λ o. (node_at (went_on o (committed s)).nodes (committed s).current).heir) e ∙ ap (λ ns. (node_at ns (committed s).current).heir) (remembering-one_down ((committed s).current + n) (committed s).nodes (committed s).current n (omega arith) k.is_child below) ∙ ap (λ (x : Node). x.heir) (heir-here (committed s).nodes (committed s).current n t.current)

-- redo goes back to where undo came from
pub redone-goes : (s : Story) → IsStory s → 0 < (committed s).current → redone (undone s) ≡ went_to (committed s).current (undone s)
redone-goes s h p =
    let still : committed (undone s) ≡ undone s = ap committed (undone-goes s h p) ∙ sym (undone-goes s h p) in
    ap (λ (x : Story). went_on (heir_of x) x) still ∙ ap (λ o. went_on o (undone s)) (undone-heir s h p)

pub redone-current : (s : Story) → IsStory s → 0 < (committed s).current → (redone (undone s)).current ≡ (committed s).current
redone-current s h p = ap (λ (x : Story). x.current) (redone-goes s h p)

pub redone-text : (s : Story) → IsStory s → 0 < (committed s).current → (redone (undone s)).text ≡ s.text
redone-text s h p =
    let t : IsStory (committed s) = committed-story s h in
    let there : parent_of (committed s) < length (committed s).nodes = parent-there (committed s).nodes (committed s).current t.tree p t.current in
    let kept : (node_at (moved_to (parent_of (committed s)) s).nodes (committed s).current).text ≡ (node_at (committed s).nodes (committed s).current).text = moved-keeps (parent_of (committed s)) (committed s).current s h there in
    ap (λ (x : Story). x.text) (redone-goes s h p) ∙ ap (λ (x : Story). (node_at x.nodes (committed s).current).text) (undone-goes s h p ∙ sym (moved-there (parent_of (committed s)) s there)) ∙ kept ∙ sym (current-text (committed s) t (committed-none s)) ∙ committed-text s
