-- Lemmas on what is kept when one more change is pending.
use Rattle.std.proofs.Common.{◌≡◌, ℕ, ◌+◌, ◌≤◌, List, [], ◌∷◌, ◌++◌, length, refl, sym, ap, ap₂, subst, ◌∙◌, arith, Some, None}
use Rattle.std.specs.declared.option.Option.{Option}
use Rattle.text_model.specs.Changes.{changed}
use Rattle.change_list.specs.declared.change.Change.{Change as Kept}
use Rattle.undo_model.specs.declared.TheConstants.{MAX_NODES}
use Rattle.undo_model.specs.Steps.{AreSteps}
use Rattle.undo_model.specs.Tree.{node_at}
use Rattle.undo_model.specs.Stories.{Story, pending, added}
use Rattle.undo_model.specs.Kept.{IsStory}
use Rattle.undo_model.proofs.StoryLemmas.{added-story}
use Rattle.buffer_store.specs.Stored.{flat, flats, made, KeptFits, AllFit}
use Rattle.buffer_store.specs.Seen.{Branch, Pending, nodes_of, pending_changes, seen_group, story_from, story_kept, IsTold}
use Rattle.buffer_store.specs.Laws.{TellsStory, one_pending}
use Rattle.buffer_store.proofs.MakingLemmas.{made-append, flats-append}
use Rattle.buffer_store.proofs.SeenLemmas.{nodes-long, told-story}

-- the changes of a pending group by offsets
seen-pending : (text : List ℕ) (group : Option Pending) → pending (seen_group text group) ≡ flats text (pending_changes group)
seen-pending text None = refl
seen-pending text (Some g) = refl

fit-append : (text : List ℕ) (ks js : List Kept) → AllFit text ks → AllFit (made text ks) js → AllFit text (ks ++ js)
fit-append text [] js h k = k
fit-append text (x ∷ xs) js h k = (h.0, fit-append (changed text (flat text x)) xs js h.1 k)

-- the story with one change more
added-told : (text : List ℕ) (bs : List Branch) (current saved who : ℕ) (group : Option Pending) (k : Kept) (h : IsTold text bs current saved group) → story_from h.opening (changed text (flat text k)) bs current saved (Some (one_pending who group k)) ≡ added who (flat text k ∷ []) (story_from h.opening text bs current saved group)
added-told text bs current saved who group k h =
    let node : List ℕ = (node_at (nodes_of h.opening bs) current).text in
    let more : flats node (pending_changes group ++ k ∷ []) ≡ pending (seen_group node group) ++ flat text k ∷ [] =
    flats-append node (pending_changes group) (k ∷ []) ∙ ap₂ (λ cs t. cs ++ flat t k ∷ []) (sym (seen-pending node group)) (sym h.text_is) in
    ap (λ cs. (let s : Story = record { text = changed text (flat text k); nodes = nodes_of h.opening bs; current = current; group = Some (record { owner = who; changes = cs }); saved = saved } in s)) more

told-added : (text : List ℕ) (bs : List Branch) (current saved who : ℕ) (group : Option Pending) (k : Kept) → IsTold text bs current saved group → KeptFits text k → length bs + 1 ≤ MAX_NODES → IsTold (changed text (flat text k)) bs current saved (Some (one_pending who group k))
told-added text bs current saved who group k h f room =
    let node : List ℕ = (node_at (nodes_of h.opening bs) current).text in
    let s : Story = story_from h.opening text bs current saved group in
    let steps : AreSteps text (flat text k ∷ []) = (f.step, tt) in
    let P : List ℕ → Type 0 = λ t. AllFit t (k ∷ []) in
    record {
      opening = h.opening;
      story = subst IsStory (sym (added-told text bs current saved who group k h)) (added-story who (flat text k ∷ []) s h.story steps (omega (arith, nodes-long h.opening [] bs)));
      fits = h.fits;
      root_has_none = h.root_has_none;
      pending_fit = fit-append node (pending_changes group) (k ∷ []) h.pending_fit (subst P h.text_is (f, tt));
      text_is = ap (λ t. changed t (flat t k)) h.text_is ∙ sym (made-append node (pending_changes group) (k ∷ []));
    }

pub tells-added : (text : List ℕ) (bs : List Branch) (current saved who : ℕ) (group : Option Pending) (k : Kept) → IsTold text bs current saved group → KeptFits text k → length bs + 1 ≤ MAX_NODES → TellsStory (changed text (flat text k)) bs current saved (Some (one_pending who group k)) (added who (flat text k ∷ []) (story_kept text bs current saved group))
unfolding told-added
tells-added text bs current saved who group k h f room = record {
  told = told-added text bs current saved who group k h f room;
  story = told-story (changed text (flat text k)) bs current saved (Some (one_pending who group k)) (told-added text bs current saved who group k h f room) ∙ added-told text bs current saved who group k h ∙ ap (added who (flat text k ∷ [])) (sym (told-story text bs current saved group h));
}
