-- Lemmas on what is kept when a text is opened, a group is committed, and a node is left for its parent.
use Rattle.std.proofs.Common.{◌≡◌, ℕ, zero, suc, ◌+◌, ◌<◌, List, [], ◌∷◌, ◌++◌, length, get_or, refl, sym, ap, ap₂, subst, ◌∙◌, arith, inl, inr, ◌⊎◌, Some, None, length-append}
use Rattle.std.proofs.lemmas.List.{get_or_append_left}
use Rattle.text_model.specs.Texts.{IsStored}
use Rattle.text_model.proofs.PlaceLemmas.{three_ways}
use Rattle.change_list.specs.declared.change.Change.{Change as Kept}
use Rattle.undo_model.specs.Tree.{Node, root, node_at}
use Rattle.undo_model.specs.Stories.{Story, committed}
use Rattle.undo_model.specs.Kept.{IsStory}
use Rattle.undo_model.proofs.StoryLemmas.{opened-story, committed-story}
use Rattle.buffer_store.specs.Stored.{AllFit, flats, made}
use Rattle.buffer_store.specs.Seen.{Branch, Pending, branch_at, node_of, nodes_of, story_from, story_kept, IsTold}
use Rattle.buffer_store.specs.Laws.{first_branch, committed_branch}
use Rattle.buffer_store.proofs.SeenLemmas.{nodes-long, nodes-push, node-parent, other_default, told-story}

-- an opened text
pub told-opened : (text : List ℕ) → IsStored text → IsTold text (first_branch ∷ []) 0 0 None
told-opened text h = record {
  opening = text;
  story = opened-story text h;
  fits = λ n p lt. absurd (omega arith);
  root_has_none = refl;
  pending_fit = tt;
  text_is = refl;
}

-- the node of a committed group
committed-node : (text : List ℕ) (bs : List Branch) (current saved : ℕ) (g : Pending) (h : IsTold text bs current saved (Some g)) → node_of h.opening (nodes_of h.opening bs) (committed_branch current g) ≡ (let n : Node = record { parent = current; text = text; changes = flats (node_at (nodes_of h.opening bs) current).text g.changes; heir = None } in n)
committed-node text bs current saved g h =
    let ns : List Node = nodes_of h.opening bs in
    let from : (get_or ns current (root h.opening)).text ≡ (node_at ns current).text = ap (λ (x : Node). x.text) (other_default ns current (root h.opening) (root []) h.story.current) in
    ap (λ t. (let n : Node = record { parent = current; text = made t g.changes; changes = flats t g.changes; heir = None } in n)) from ∙ ap (λ t. (let n : Node = record { parent = current; text = t; changes = flats (node_at ns current).text g.changes; heir = None } in n)) (sym h.text_is)

-- a committed group's story is the committed story
pub committed-told : (text : List ℕ) (bs : List Branch) (current saved : ℕ) (g : Pending) (h : IsTold text bs current saved (Some g)) → story_from h.opening text (bs ++ committed_branch current g ∷ []) (length bs) saved None ≡ committed (story_from h.opening text bs current saved (Some g))
committed-told text bs current saved g h =
    let o : List ℕ = h.opening in
    let nodes : nodes_of o (bs ++ committed_branch current g ∷ []) ≡ nodes_of o bs ++ (record { parent = current; text = text; changes = flats (node_at (nodes_of o bs) current).text g.changes; heir = None }) ∷ [] = nodes-push o bs (committed_branch current g) ∙ ap (λ n. nodes_of o bs ++ n ∷ []) (committed-node text bs current saved g h) in
    let long : length bs ≡ length (nodes_of o bs) = omega (arith, nodes-long o [] bs) in
    ap₂ (λ ns c. (let s : Story = record { text = text; nodes = ns; current = c; group = None; saved = saved } in s)) nodes long

-- and what is kept then tells it
pub told-committed : (text : List ℕ) (bs : List Branch) (current saved : ℕ) (g : Pending) → IsTold text bs current saved (Some g) → IsTold text (bs ++ committed_branch current g ∷ []) (length bs) saved None
told-committed text bs current saved g h = record {
  opening = h.opening;
  story = subst IsStory (sym (committed-told text bs current saved g h)) (committed-story (story_from h.opening text bs current saved (Some g)) h.story);
  fits = λ n p lt. fits n p (omega (arith, length-append bs (committed_branch current g ∷ []))) (three_ways n (length bs));
  root_has_none = ap (λ (b : Branch). b.changes) (old 0 (omega (arith, long, h.story.tree.some))) ∙ h.root_has_none;
  pending_fit = tt;
  text_is = sym (ap (λ ns. (node_at ns (length bs)).text) (nodes-push h.opening bs (committed_branch current g)) ∙ ap (λ (x : Node). x.text) (last_node (nodes_of h.opening bs) (node_of h.opening (nodes_of h.opening bs) (committed_branch current g)) (length bs) long) ∙ ap (λ (x : Node). x.text) (committed-node text bs current saved g h));
}
  where
    long : length (nodes_of h.opening bs) ≡ length bs
    long = omega (arith, nodes-long h.opening [] bs)

    old : (n : ℕ) → n < length bs → branch_at (bs ++ committed_branch current g ∷ []) n ≡ branch_at bs n
    old n lt = get_or_append_left bs (committed_branch current g ∷ []) (record { parent = 0; heir = None; changes = [] }) n lt

    last_node : (ns : List Node) (x : Node) (n : ℕ) → length ns ≡ n → node_at (ns ++ x ∷ []) n ≡ x
    last_node [] x zero e = refl
    last_node [] x (suc n) e = absurd (omega arith)
    last_node (y ∷ ys) x zero e = absurd (omega arith)
    last_node (y ∷ ys) x (suc n) e = last_node ys x n (omega arith)

    last_branch : (xs : List Branch) (b : Branch) (n : ℕ) → length xs ≡ n → branch_at (xs ++ b ∷ []) n ≡ b
    last_branch [] b zero e = refl
    last_branch [] b (suc n) e = absurd (omega arith)
    last_branch (y ∷ ys) b zero e = absurd (omega arith)
    last_branch (y ∷ ys) b (suc n) e = last_branch ys b n (omega arith)

    -- the text of a node that was there
    stays : (m : ℕ) → m < length bs → (node_at (nodes_of h.opening (bs ++ committed_branch current g ∷ [])) m).text ≡ (node_at (nodes_of h.opening bs) m).text
    stays m lt = ap (λ ns. (node_at ns m).text) (nodes-push h.opening bs (committed_branch current g)) ∙ ap (λ (x : Node). x.text) (get_or_append_left (nodes_of h.opening bs) (node_of h.opening (nodes_of h.opening bs) (committed_branch current g) ∷ []) (root []) m (omega (arith, long)))

    fit_of : (m : ℕ) (b : Branch) (cs : List Kept) → b.parent ≡ m → b.changes ≡ cs → m < length bs → AllFit (node_at (nodes_of h.opening bs) m).text cs → AllFit (node_at (nodes_of h.opening (bs ++ committed_branch current g ∷ [])) b.parent).text b.changes
    fit_of m b cs e f lt k =
        let P : List ℕ → List Kept → Type 0 = λ t ks. AllFit t ks in
        subst (λ (ks : List Kept). P (node_at (nodes_of h.opening (bs ++ committed_branch current g ∷ [])) b.parent).text ks) (sym f) (subst (λ (t : List ℕ). P t cs) (sym (ap (λ x. (node_at (nodes_of h.opening (bs ++ committed_branch current g ∷ [])) x).text) e ∙ stays m lt)) k)

    fits : (n : ℕ) → 0 < n → n < length bs + 1 → (n < length bs) ⊎ ((n ≡ length bs) ⊎ (length bs < n)) → AllFit (node_at (nodes_of h.opening (bs ++ committed_branch current g ∷ [])) (branch_at (bs ++ committed_branch current g ∷ []) n).parent).text (branch_at (bs ++ committed_branch current g ∷ []) n).changes
    fits n p lt (inl less) =
        let below : (branch_at bs n).parent < n = parent_below n p less in
        fit_of (branch_at bs n).parent (branch_at (bs ++ committed_branch current g ∷ []) n) (branch_at bs n).changes (ap (λ (b : Branch). b.parent) (old n less)) (ap (λ (b : Branch). b.changes) (old n less)) (omega arith) (h.fits n p less)
      where
        parent_below : (n : ℕ) → 0 < n → n < length bs → (branch_at bs n).parent < n
        parent_below n p less = omega (arith, (h.story.tree.children n p (omega (arith, long))).below, node-parent h.opening bs n less)
    fits n p lt (inr w) =
        elim w [
          | inl same ↦ (let last : branch_at (bs ++ committed_branch current g ∷ []) n ≡ committed_branch current g = last_branch bs (committed_branch current g) n (sym same) in
              fit_of current (branch_at (bs ++ committed_branch current g ∷ []) n) g.changes (ap (λ (b : Branch). b.parent) last) (ap (λ (b : Branch). b.changes) last) (omega (arith, long, h.story.current)) h.pending_fit)
          | inr more ↦ absurd (omega arith)
        ]

-- seen from the text alone
pub committed-seen : (text : List ℕ) (bs : List Branch) (current saved : ℕ) (g : Pending) → IsTold text bs current saved (Some g) → story_kept text (bs ++ committed_branch current g ∷ []) (length bs) saved None ≡ committed (story_kept text bs current saved (Some g))
unfolding told-committed
committed-seen text bs current saved g h =
    told-story text (bs ++ committed_branch current g ∷ []) (length bs) saved None (told-committed text bs current saved g h) ∙ committed-told text bs current saved g h ∙ ap committed (sym (told-story text bs current saved (Some g) h))
