-- Lemmas on a history in which a client makes one change more.
use Rattle.std.proofs.Common.{◌≡◌, ℕ, ◌+◌, ◌<◌, ◌≤◌, Bool, false, not, cond, eqb, leb, ◌&&◌, List, [], ◌∷◌, ◌++◌, length, refl, sym, ap, ap₂, subst, ◌∙◌, arith, Some, None, inl, inr}
use Rattle.std.specs.declared.option.Option.{Option}
use Rattle.std.specs.Prelude.{OnSome}
use Rattle.std.proofs.lemmas.Bool.{leb-false}
use Rattle.text_model.specs.Changes.{Change, changed}
use Rattle.text_model.proofs.CoordLemmas.{test_cases}
use Rattle.change_list.specs.declared.change.Change.{Change as Kept}
use Rattle.undo_model.specs.declared.TheConstants.{MAX_NODES}
use Rattle.undo_model.specs.Stories.{Story, added, committed, edited, is_undo_full, nodes_due}
use Rattle.buffer_store.specs.Stored.{flat, shift_of, change_shifts, KeptFits, IsKeptAlone, IsKeptStep}
use Rattle.buffer_store.specs.Seen.{Branch, Pending, story_kept, IsTold}
use Rattle.buffer_store.specs.Histories.{IsHistory, committed_branches, committed_current, own_group, other_group}
use Rattle.buffer_store.specs.Laws.{TellsStory, one_pending, committed_branch}
use Rattle.buffer_store.proofs.MakingLemmas.{shift-is}
use Rattle.buffer_store.proofs.AddedLemmas.{tells-added}
use Rattle.buffer_store.proofs.ToldLemmas.{told-committed, committed-seen}
use Rattle.buffer_store.proofs.HistoryLemmas.{story-nodes, few-due}

-- one change more of a client tells the edited story
pub tells-edited : (text : List ℕ) (bs : List Branch) (current saved who : ℕ) (group : Option Pending) (k : Kept) → IsTold text bs current saved group → KeptFits text k → is_undo_full who (flat text k ∷ []) (story_kept text bs current saved group) ≡ false
    → TellsStory (changed text (flat text k)) (committed_branches current (other_group who group) bs) (committed_current current (other_group who group) (length bs)) saved (Some (one_pending who (own_group who group) k)) (edited who (flat text k ∷ []) (story_kept text bs current saved group))
tells-edited text bs current saved who None k h f full =
    let due : length bs < MAX_NODES = omega (arith, story-nodes text bs current saved None, leb-false MAX_NODES (nodes_due (story_kept text bs current saved None)) full) in
    tells-added text bs current saved who None k h f (omega arith)
tells-edited text bs current saved who (Some g) k h f full =
    let s : Story = story_kept text bs current saved (Some g) in
    let c : Change = flat text k in
    let P : Bool → Type 0 = λ v. TellsStory (changed text c) (committed_branches current (cond v None (Some g)) bs) (committed_current current (cond v None (Some g)) (length bs)) saved (Some (one_pending who (cond v (Some g) None) k)) (added who (c ∷ []) (cond v s (committed s))) in
    elim (test_cases (eqb g.owner who)) [
      | inl e ↦ subst P (sym e) (tells-added text bs current saved who (Some g) k h f (few-due text bs current saved g h))
      | inr e ↦ (let other : leb MAX_NODES (nodes_due s) ≡ false = sym (ap (λ v. not v && leb MAX_NODES (nodes_due s)) e) ∙ full in
          let due : length bs + 1 < MAX_NODES = omega (arith, story-nodes text bs current saved (Some g), leb-false MAX_NODES (nodes_due s) other) in
          let more : List Branch = bs ++ committed_branch current g ∷ [] in
          let t : TellsStory (changed text c) more (length bs) saved (Some (one_pending who None k)) (added who (c ∷ []) (story_kept text more (length bs) saved None)) =
          tells-added text more (length bs) saved who None k (told-committed text bs current saved g h) f (omega (arith, long bs (committed_branch current g))) in
          subst P (sym e) (record { told = t.told; story = t.story ∙ ap (added who (c ∷ [])) (committed-seen text bs current saved g h) }))
    ]
  where
    long : (xs : List Branch) (b : Branch) → length (xs ++ b ∷ []) ≡ length xs + 1
    long [] b = refl
    long (x ∷ xs) b = omega (arith, long xs b)

-- a history with one change more
edited-by : (f : List ℕ → List Change) (text new : List ℕ) (bs after : List Branch) (current saved now who taken places more room : ℕ) (group behind : Option Pending) (k : Kept) (s : Story)
    → IsHistory text bs current saved group taken places → story_kept text bs current saved group ≡ s → IsKeptAlone text new (f text) k → is_undo_full who (f s.text) s ≡ false
    → after ≡ committed_branches current (other_group who group) bs → now ≡ committed_current current (other_group who group) (length bs) → behind ≡ Some (one_pending who (own_group who group) k) → more < room
    → IsHistory new after now saved behind more room × (story_kept new after now saved behind ≡ edited who (f s.text) s)
edited-by f text new bs after current saved now who taken places more room group behind k s h e kept full ae ne be lt =
    let old : Story = story_kept text bs current saved group in
    let c : Change = flat text k in
    let same : f text ≡ c ∷ [] = kept.is_change in
    let F : List Change → Type 0 = λ cs. is_undo_full who cs old ≡ false in
    let S : Story → Type 0 = λ x. is_undo_full who (f x.text) x ≡ false in
    let t : TellsStory (changed text c) (committed_branches current (other_group who group) bs) (committed_current current (other_group who group) (length bs)) saved (Some (one_pending who (own_group who group) k)) (edited who (c ∷ []) old) =
    tells-edited text bs current saved who group k h.told kept.fits (subst F same (subst S (sym e) full)) in
    let Q : List ℕ → List Branch → ℕ → Option Pending → Type 0 = λ x xs m o. IsHistory x xs m saved o more room × (story_kept x xs m saved o ≡ edited who (f s.text) s) in
    let here : Q (changed text c) (committed_branches current (other_group who group) bs) (committed_current current (other_group who group) (length bs)) (Some (one_pending who (own_group who group) k)) =
    (record { told = t.told; room = lt }, t.story ∙ ap (λ cs. edited who cs old) (sym same) ∙ ap (λ (x : Story). edited who (f x.text) x) e) in
    subst (λ x. Q x after now behind) (sym kept.leads)
    (subst (λ xs. Q (changed text c) xs now behind) (sym ae)
    (subst (λ m. Q (changed text c) (committed_branches current (other_group who group) bs) m behind) (sym ne)
    (subst (λ o. Q (changed text c) (committed_branches current (other_group who group) bs) (committed_current current (other_group who group) (length bs)) o) (sym be) here)))

-- the same, where room was found before
pub history-edited : (f : List ℕ → List Change) (text new : List ℕ) (bs mid after : List Branch) (current saved now who taken places more room : ℕ) (group between behind : Option Pending) (k : Kept) (s : Story)
    → IsHistory text bs current saved group taken places → story_kept text bs current saved group ≡ s → IsKeptStep text new (f text) (Some k) → is_undo_full who (f s.text) s ≡ false → mid ≡ bs → between ≡ group
    → after ≡ committed_branches current (other_group who between) mid → now ≡ committed_current current (other_group who between) (length mid) → behind ≡ Some (one_pending who (own_group who between) k) → more < room
    → IsHistory new after now saved behind more room × (story_kept new after now saved behind ≡ edited who (f s.text) s)
history-edited f text new bs mid after current saved now who taken places more room group between behind k s h e kept full me oe ae ne be lt =
    edited-by f text new bs after current saved now who taken places more room group behind k s h e kept full
    (ae ∙ ap₂ (λ o xs. committed_branches current (other_group who o) xs) oe me)
    (ne ∙ ap₂ (λ o (xs : List Branch). committed_current current (other_group who o) (length xs)) oe me)
    (be ∙ ap (λ o. Some (one_pending who (own_group who o) k)) oe)
    lt

-- and the shift of the change
pub kept-shift : (f : List ℕ → List Change) (text new : List ℕ) (k : Kept) (s : Story) → IsKeptAlone text new (f text) k → text ≡ s.text → k.shift ∷ [] ≡ change_shifts s.text (f s.text)
kept-shift f text new k s kept e =
    let one : k.shift ≡ shift_of text (flat text k) = shift-is text (flat text k) k.shift kept.fits.shift in
    ap (λ x. x ∷ []) one ∙ ap (change_shifts text) (sym kept.is_change) ∙ ap (λ t. change_shifts t (f t)) e

-- a history in which nothing was changed but the room for more
pub history-stays : (text new : List ℕ) (bs after : List Branch) (current saved taken places more room : ℕ) (group behind : Option Pending) (s : Story)
    → IsHistory text bs current saved group taken places → story_kept text bs current saved group ≡ s → new ≡ text → after ≡ bs → behind ≡ group → more ≡ taken → places ≤ room
    → IsHistory new after current saved behind more room × (story_kept new after current saved behind ≡ s)
history-stays text new bs after current saved taken places more room group behind s h e ne ae be me le =
    let Q : List ℕ → List Branch → Option Pending → Type 0 = λ x xs o. IsHistory x xs current saved o more room × (story_kept x xs current saved o ≡ s) in
    let here : Q text bs group = (record { told = h.told; room = place group h.room }, e) in
    subst (λ x. Q x after behind) (sym ne) (subst (λ xs. Q text xs behind) (sym ae) (subst (λ o. Q text bs o) (sym be) here))
  where
    place : (g : Option Pending) → OnSome g (taken < places) → OnSome g (more < room)
    place None h = tt
    place (Some g) h = omega (arith, h)
