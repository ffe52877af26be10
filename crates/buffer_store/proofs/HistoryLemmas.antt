-- Lemmas on what a history keeps in memory.
use Rattle.std.proofs.Common.{◌≡◌, ◌≢◌, not, leb, ◌&&◌, ap₂, ne_eqb, ℕ, ◌+◌, ◌≤◌, List, [], ◌∷◌, length, refl, sym, ap, subst, ◌∙◌, arith, Some, None, option_map}
use Rattle.std.specs.declared.option.Option.{Option}
use Rattle.std.specs.Prelude.{is_some}
use Rattle.text_model.specs.Texts.{IsStored}
use Rattle.text_model.specs.Changes.{all_changed}
use Rattle.undo_model.specs.declared.TheConstants.{MAX_NODES}
use Rattle.undo_model.specs.Stories.{Story, Group, is_own, nodes_due, committed}
use Rattle.undo_model.specs.Kept.{IsStory}
use Rattle.buffer_store.specs.Seen.{Branch, Pending, seen_group, up_to_root, pending_changes, story_from, story_kept, IsTold}
use Rattle.buffer_store.specs.declared.history.Pending.{Pending as CodePending}
use Rattle.buffer_store.specs.Stored.{backs}
use Rattle.buffer_store.specs.Histories.{seen_pending, IsHistory, committed_branches, committed_current}
use Rattle.buffer_store.specs.Laws.{TellsStory, first_branch}
use Rattle.buffer_store.proofs.SeenLemmas.{nodes-long, told-story}
use Rattle.buffer_store.proofs.ToldLemmas.{told-opened, told-committed, committed-seen}

-- as many nodes as branches
pub story-nodes : (text : List ℕ) (bs : List Branch) (current saved : ℕ) (group : Option Pending) → length (story_kept text bs current saved group).nodes ≡ length bs
story-nodes text bs current saved group = omega (arith, nodes-long (up_to_root current bs current (all_changed text (backs text (pending_changes group)))) [] bs)

-- and there are few
pub few-branches : (text : List ℕ) (bs : List Branch) (current saved : ℕ) (group : Option Pending) → IsTold text bs current saved group → length bs ≤ MAX_NODES
few-branches text bs current saved group h = omega (arith, nodes-long h.opening [] bs, h.story.few)

-- with a place for that of a pending group
pub few-due : (text : List ℕ) (bs : List Branch) (current saved : ℕ) (g : Pending) → IsTold text bs current saved (Some g) → length bs + 1 ≤ MAX_NODES
few-due text bs current saved g h = omega (arith, nodes-long h.opening [] bs, h.story.few)

-- whose a pending group is
pub seen-owner : (text : List ℕ) (group : Option Pending) → option_map (λ (g : Group). g.owner) (seen_group text group) ≡ option_map (λ (g : Pending). g.owner) group
seen-owner text None = refl
seen-owner text (Some g) = refl

pub seen-is_some : (text : List ℕ) (group : Option Pending) → is_some (seen_group text group) ≡ is_some group
seen-is_some text None = refl
seen-is_some text (Some g) = refl

-- a text that was just opened
pub history-opened : (text : List ℕ) (taken places : ℕ) → IsStored text → IsHistory text (first_branch ∷ []) 0 0 None taken places
history-opened text taken places h = record { told = told-opened text h; room = tt }

-- a story is told
pub history-story : (text : List ℕ) (bs : List Branch) (current saved : ℕ) (group : Option Pending) (s : Story) → IsTold text bs current saved group → story_kept text bs current saved group ≡ s → IsStory s
history-story text bs current saved group s h e =
    let now : story_from h.opening text bs current saved group ≡ s = sym (told-story text bs current saved group h) ∙ e in
    subst IsStory now h.story

-- what is pending committed
told-commits : (text : List ℕ) (bs : List Branch) (current saved : ℕ) (group : Option Pending) → IsTold text bs current saved group → TellsStory text (committed_branches current group bs) (committed_current current group (length bs)) saved None (committed (story_kept text bs current saved group))
told-commits text bs current saved None h = record { told = h; story = refl }
told-commits text bs current saved (Some g) h = record { told = told-committed text bs current saved g h; story = committed-seen text bs current saved g h }

pub history-committed : (text : List ℕ) (bs new : List Branch) (current saved n taken places more room : ℕ) (group : Option Pending) (behind : Option CodePending) → IsHistory text bs current saved group taken places → new ≡ committed_branches current group bs → n ≡ committed_current current group (length bs) → behind ≡ None
    → IsHistory text new n saved (seen_pending behind) more room × (story_kept text new n saved (seen_pending behind) ≡ committed (story_kept text bs current saved group))
history-committed text bs new current saved n taken places more room group behind h is now none =
    let Q : List Branch → ℕ → Option CodePending → Type 0 = λ xs m o. IsHistory text xs m saved (seen_pending o) more room × (story_kept text xs m saved (seen_pending o) ≡ committed (story_kept text bs current saved group)) in
    let t : TellsStory text (committed_branches current group bs) (committed_current current group (length bs)) saved None (committed (story_kept text bs current saved group)) = told-commits text bs current saved group h.told in
    let here : Q (committed_branches current group bs) (committed_current current group (length bs)) None = (record { told = t.told; room = tt }, t.story) in
    subst (λ xs. Q xs n behind) (sym is) (subst (λ m. Q (committed_branches current group bs) m behind) (sym now) (subst (λ o. Q (committed_branches current group bs) (committed_current current group (length bs)) o) (sym none) here))

-- another node counts as saved
pub history-saved : (text : List ℕ) (bs : List Branch) (current saved taken places : ℕ) (group : Option Pending) → IsHistory text bs current saved group taken places → IsHistory text bs current current group taken places
history-saved text bs current saved taken places group h = record {
  told = record {
    opening = h.told.opening;
    story = record { tree = h.told.story.tree; current = h.told.story.current; saved = h.told.story.current; steps = h.told.story.steps; text = h.told.story.text; stored = h.told.story.stored; few = h.told.story.few };
    fits = h.told.fits;
    root_has_none = h.told.root_has_none;
    pending_fit = h.told.pending_fit;
    text_is = h.told.text_is;
  };
  room = h.room;
}

-- whether the tree has no room for a group of a client
pub full-none : (who n : ℕ) (text : List ℕ) (bs : List Branch) (current saved : ℕ) (group : Option CodePending) (s : Story) → story_kept text bs current saved (seen_pending group) ≡ s → group ≡ None → n ≡ length bs → leb MAX_NODES n ≡ not (is_own who s.group) && leb MAX_NODES (nodes_due s)
full-none who n text bs current saved group s e none long =
    let old : Story = story_kept text bs current saved (seen_pending None) in
    let due : n ≡ nodes_due old = omega (arith, story-nodes text bs current saved None) in
    ap (leb MAX_NODES) due ∙ ap (λ (x : Story). not (is_own who x.group) && leb MAX_NODES (nodes_due x)) (ap (λ o. story_kept text bs current saved (seen_pending o)) (sym none) ∙ e)

pub full-some : (who n : ℕ) (text : List ℕ) (bs : List Branch) (current saved : ℕ) (group : Option CodePending) (g : CodePending) (s : Story) → story_kept text bs current saved (seen_pending group) ≡ s → group ≡ Some g → g.owner ≢ who → n ≡ length bs → leb MAX_NODES (n + 1) ≡ not (is_own who s.group) && leb MAX_NODES (nodes_due s)
full-some who n text bs current saved group g s e some other long =
    let old : Story = story_kept text bs current saved (seen_pending (Some g)) in
    let due : n + 1 ≡ nodes_due old = omega (arith, story-nodes text bs current saved (seen_pending (Some g))) in
    ap₂ (λ v m. not v && leb MAX_NODES m) (sym (ne_eqb g.owner who other)) due ∙ ap (λ (x : Story). not (is_own who x.group) && leb MAX_NODES (nodes_due x)) (ap (λ o. story_kept text bs current saved (seen_pending o)) (sym some) ∙ e)
