-- Lemmas on going from one node of a tree to another, by what is kept of them.
use Rattle.std.proofs.Common.{◌≡◌, ℕ, ◌+◌, ◌<◌, ◌≤◌, List, [], ◌∷◌, ◌++◌, length, refl, sym, ap, ap₂, subst, ◌∙◌, arith, None}
use Rattle.std.proofs.lemmas.List.{length-set}
use Rattle.text_model.specs.Changes.{Change, all_changed}
use Rattle.text_model.proofs.ChangeLemmas.{all_changed-append}
use Rattle.change_list.specs.declared.change.Change.{Change as Kept}
use Rattle.undo_model.specs.Steps.{AreSteps, undoing}
use Rattle.undo_model.specs.Tree.{Node, node_at, with_heir, up}
use Rattle.undo_model.specs.Ways.{leaving, entering, rising, falling, remembered, route, remembering, IsRise, IsFall, IsWay}
use Rattle.undo_model.specs.Stories.{Story, went_to}
use Rattle.undo_model.specs.Kept.{IsTree, IsStory}
use Rattle.undo_model.proofs.TreeLemmas.{same-text, IsTreeAs, Leads}
use Rattle.undo_model.proofs.WayLemmas.{remembering-tree, route-leads, way-by_nodes}
use Rattle.undo_model.proofs.StoryLemmas.{went-story}
use Rattle.buffer_store.specs.Stored.{AllFit, flats, made, backs, IsMade}
use Rattle.buffer_store.specs.Seen.{Branch, branch_at, nodes_of, story_from, story_kept, IsTold}
use Rattle.buffer_store.specs.Laws.{aimed_branch, TellsStory}
use Rattle.buffer_store.specs.Walks.{back_over, CanGoBack, on_over, CanGoForth, way_changes, CanGoWay, heir_aimed_at, aimed_over, AreThere, changes_from}
use Rattle.buffer_store.proofs.MakingLemmas.{made-flats, backs-undoing}
use Rattle.buffer_store.proofs.SeenLemmas.{nodes-long, node-parent, node-text, node-changes, nodes-with_heir, told-story}
use Rattle.buffer_store.proofs.MovedLemmas.{aimed-parent, aimed-changes}
use Rattle.buffer_store.proofs.WalkLemmas.{there-aimed}

-- what is kept of a tree, whose first text was this one
pub record IsKeptTree (o : List ℕ) (bs : List Branch) : Type 0 where
  pub tree : IsTree (nodes_of o bs)
  pub fits : (n : ℕ) → 0 < n → n < length bs → AllFit (node_at (nodes_of o bs) (branch_at bs n).parent).text (branch_at bs n).changes

-- a node and its parent
pub record IsKeptNode (o : List ℕ) (bs : List Branch) (n : ℕ) : Type 0 where
  pub in_list : n < length bs
  pub parent : (node_at (nodes_of o bs) n).parent ≡ (branch_at bs n).parent
  pub below : (branch_at bs n).parent < n
  pub fits : AllFit (node_at (nodes_of o bs) (branch_at bs n).parent).text (branch_at bs n).changes
  pub text : (node_at (nodes_of o bs) n).text ≡ made (node_at (nodes_of o bs) (branch_at bs n).parent).text (branch_at bs n).changes
  pub changes : (node_at (nodes_of o bs) n).changes ≡ flats (node_at (nodes_of o bs) (branch_at bs n).parent).text (branch_at bs n).changes

nodes-as_many : (o : List ℕ) (bs : List Branch) → length (nodes_of o bs) ≡ length bs
nodes-as_many o bs = omega (arith, nodes-long o [] bs)

kept-node : (o : List ℕ) (bs : List Branch) (n : ℕ) → IsKeptTree o bs → 0 < n → n < length (nodes_of o bs) → IsKeptNode o bs n
kept-node o bs n h p lt =
    let there : n < length bs = omega (arith, nodes-as_many o bs) in
    let parent : (node_at (nodes_of o bs) n).parent ≡ (branch_at bs n).parent = node-parent o bs n there in
    let below : (branch_at bs n).parent < n = omega (arith, (h.tree.children n p lt).below) in
    record { in_list = there; parent = parent; below = below; fits = h.fits n p there; text = node-text o bs n there below; changes = node-changes o bs n there below }

-- up from a node to another: what is taken back, and where it leads
pub record IsRisen (o : List ℕ) (bs : List Branch) (a c : ℕ) (ls : List ℕ) : Type 0 where
  pub can : CanGoBack bs (node_at (nodes_of o bs) a).text ls
  pub changes : back_over bs (node_at (nodes_of o bs) a).text ls ≡ rising (nodes_of o bs) ls
  pub text : all_changed (node_at (nodes_of o bs) a).text (back_over bs (node_at (nodes_of o bs) a).text ls) ≡ (node_at (nodes_of o bs) c).text
  pub there : AreThere bs ls

risen : (o : List ℕ) (bs : List Branch) (a c : ℕ) (ls : List ℕ) → IsKeptTree o bs → IsRise (nodes_of o bs) a ls c → IsRisen o bs a c ls
risen o bs a c [] h r = record { can = tt; changes = refl; text = ap (λ m. (node_at (nodes_of o bs) m).text) r; there = tt }
risen o bs a c (n ∷ ls) h r =
    let k : IsKeptNode o bs n = kept-node o bs n h r.1 r.2 in
    let p : ℕ = (branch_at bs n).parent in
    let ks : List Kept = (branch_at bs n).changes in
    let text : List ℕ = (node_at (nodes_of o bs) n).text in
    let from : List ℕ = (node_at (nodes_of o bs) p).text in
    let P : ℕ → Type 0 = λ m. IsRise (nodes_of o bs) m ls c in
    let rest : IsRisen o bs p c ls = risen o bs p c ls h (subst P k.parent r.3) in
    let both : (backs (made from ks) ks ≡ undoing from (flats from ks)) × (all_changed (made from ks) (backs (made from ks) ks) ≡ from) = backs-undoing from ks k.fits in
    let back : all_changed text (backs text ks) ≡ from = ap (λ x. all_changed x (backs x ks)) k.text ∙ both.1 in
    let first : backs text ks ≡ up (nodes_of o bs) n = ap (λ x. backs x ks) k.text ∙ both.0 ∙ sym (ap₂ (λ m cs. undoing (node_at (nodes_of o bs) m).text cs) k.parent k.changes) in
    let Q : List ℕ → Type 0 = λ x. CanGoBack bs x ls in
    let made_last : IsMade text ks = record { before = from; fit = k.fits; is_made = k.text } in
    let R : ℕ → Type 0 = λ m. IsRisen o bs m c (n ∷ ls) in
    subst R (sym r.0) (record {
      can = (k.in_list, made_last, subst Q (sym back) rest.can);
      changes = ap₂ (λ x y. x ++ y) first (ap (λ x. back_over bs x ls) back ∙ rest.changes);
      text = all_changed-append text (backs text ks) (back_over bs (all_changed text (backs text ks)) ls) ∙ ap (λ x. all_changed x (back_over bs x ls)) back ∙ rest.text;
      there = (k.in_list, omega (arith, k.below, k.in_list), rest.there);
    })

-- down from a node to another: what is made, and where it leads
pub record IsFallen (o : List ℕ) (bs : List Branch) (c b : ℕ) (es : List ℕ) : Type 0 where
  pub can : CanGoForth bs (node_at (nodes_of o bs) c).text es
  pub changes : on_over bs (node_at (nodes_of o bs) c).text es ≡ falling (nodes_of o bs) es
  pub text : all_changed (node_at (nodes_of o bs) c).text (on_over bs (node_at (nodes_of o bs) c).text es) ≡ (node_at (nodes_of o bs) b).text
  pub there : AreThere bs es

fallen : (o : List ℕ) (bs : List Branch) (c b : ℕ) (es : List ℕ) → IsKeptTree o bs → IsFall (nodes_of o bs) c es b → IsFallen o bs c b es
fallen o bs c b [] h f = record { can = tt; changes = refl; text = ap (λ m. (node_at (nodes_of o bs) m).text) f; there = tt }
fallen o bs c b (n ∷ es) h f =
    let k : IsKeptNode o bs n = kept-node o bs n h f.1 f.2 in
    let p : ℕ = (branch_at bs n).parent in
    let ks : List Kept = (branch_at bs n).changes in
    let text : List ℕ = (node_at (nodes_of o bs) n).text in
    let from : List ℕ = (node_at (nodes_of o bs) p).text in
    let rest : IsFallen o bs n b es = fallen o bs n b es h f.3 in
    let here : p ≡ c = sym k.parent ∙ f.0 in
    let Q : List ℕ → Type 0 = λ x. CanGoForth bs x es in
    let R : ℕ → Type 0 = λ m. IsFallen o bs m b (n ∷ es) in
    subst R here (record {
      can = (k.in_list, k.fits, subst Q k.text rest.can);
      changes = ap₂ (λ x y. x ++ y) (sym k.changes) (ap (λ x. on_over bs x es) (sym k.text) ∙ rest.changes);
      text = all_changed-append from (flats from ks) (on_over bs (made from ks) es) ∙ ap (λ x. all_changed x (on_over bs (made from ks) es)) (sym (made-flats from ks)) ∙ ap (λ x. all_changed x (on_over bs x es)) (sym k.text) ∙ rest.text;
      there = (k.in_list, omega (arith, k.below, k.in_list), rest.there);
    })

-- branches that are the same but for their heirs
pub record AreSameBranches (cs bs : List Branch) : Type 0 where
  pub long : length cs ≡ length bs
  pub parents : (n : ℕ) → (branch_at cs n).parent ≡ (branch_at bs n).parent
  pub changes : (n : ℕ) → (branch_at cs n).changes ≡ (branch_at bs n).changes

aimed-same : (bs : List Branch) (ns : List ℕ) → AreThere bs ns → AreSameBranches (aimed_over bs ns) bs
aimed-same bs [] h = record { long = refl; parents = λ n. refl; changes = λ n. refl }
aimed-same bs (n ∷ ns) h =
    let rest : AreSameBranches (aimed_over (heir_aimed_at bs n) ns) (heir_aimed_at bs n) = aimed-same (heir_aimed_at bs n) ns (there-aimed bs n ns h.1 h.2) in
    record {
      long = rest.long ∙ length-set bs (branch_at bs n).parent (aimed_branch (branch_at bs (branch_at bs n).parent) n);
      parents = λ m. rest.parents m ∙ aimed-parent bs (branch_at bs n).parent n m h.1;
      changes = λ m. rest.changes m ∙ aimed-changes bs (branch_at bs n).parent n m h.1;
    }

pub there-over : (bs : List Branch) (ns ms : List ℕ) → AreThere bs ns → AreThere bs ms → AreThere (aimed_over bs ns) ms
there-over bs [] ms h k = k
there-over bs (n ∷ ns) ms h k = there-over (heir_aimed_at bs n) ns ms (there-aimed bs n ns h.1 h.2) (there-aimed bs n ms h.1 k)

-- and their nodes
nodes-over : (o : List ℕ) (bs : List Branch) (ns : List ℕ) → AreThere bs ns → nodes_of o (aimed_over bs ns) ≡ remembered (nodes_of o bs) ns
nodes-over o bs [] h = refl
nodes-over o bs (n ∷ ns) h =
    nodes-over o (heir_aimed_at bs n) ns (there-aimed bs n ns h.1 h.2) ∙ ap (λ xs. remembered xs ns) (nodes-with_heir o bs (branch_at bs n).parent n h.1 ∙ ap (λ m. with_heir m n (nodes_of o bs)) (sym (node-parent o bs n h.0)))

-- the buffer has gone to a node, and heirs alone are others
told-went : (text new : List ℕ) (bs cs : List Branch) (current saved n : ℕ) (h : IsTold text bs current saved None) → AreSameBranches cs bs → n < length bs → nodes_of h.opening cs ≡ (went_to n (story_from h.opening text bs current saved None)).nodes → new ≡ (node_at (nodes_of h.opening bs) n).text → IsTold new cs n saved None
told-went text new bs cs current saved n h same lt nodes t = record {
  opening = h.opening;
  story = subst IsStory (sym whole) (went-story n (story_from h.opening text bs current saved None) h.story (omega (arith, nodes-as_many h.opening bs)));
  fits = λ m q k. fits m q k;
  root_has_none = same.changes 0 ∙ h.root_has_none;
  pending_fit = tt;
  text_is = t ∙ sym (stays n);
}
  where
    whole : story_from h.opening new cs n saved None ≡ went_to n (story_from h.opening text bs current saved None)
    whole = ap₂ (λ x ns. (let s : Story = record { text = x; nodes = ns; current = n; group = None; saved = saved } in s)) t nodes

    stays : (m : ℕ) → (node_at (nodes_of h.opening cs) m).text ≡ (node_at (nodes_of h.opening bs) m).text
    stays m =
        let there : n < length (nodes_of h.opening bs) = omega (arith, nodes-as_many h.opening bs) in
        let rest : IsTreeAs (remembering (current + n) (nodes_of h.opening bs) current n) (nodes_of h.opening bs) = remembering-tree (current + n) (nodes_of h.opening bs) current n h.story.tree h.story.current there in
        ap (λ ns. (node_at ns m).text) nodes ∙ same-text _ (nodes_of h.opening bs) m rest.same

    fits : (m : ℕ) → 0 < m → m < length cs → AllFit (node_at (nodes_of h.opening cs) (branch_at cs m).parent).text (branch_at cs m).changes
    fits m q k =
        let P : List ℕ → List Kept → Type 0 = λ x ks. AllFit x ks in
        let from : (node_at (nodes_of h.opening cs) (branch_at cs m).parent).text ≡ (node_at (nodes_of h.opening bs) (branch_at bs m).parent).text = stays (branch_at cs m).parent ∙ ap (λ x. (node_at (nodes_of h.opening bs) x).text) (same.parents m) in
        subst (λ (ks : List Kept). P (node_at (nodes_of h.opening cs) (branch_at cs m).parent).text ks) (sym (same.changes m)) (subst (λ (x : List ℕ). P x (branch_at bs m).changes) (sym from) (h.fits m q (omega (arith, same.long))))

tells-went : (text new : List ℕ) (bs cs : List Branch) (current saved n : ℕ) (h : IsTold text bs current saved None) → AreSameBranches cs bs → n < length bs → nodes_of h.opening cs ≡ (went_to n (story_from h.opening text bs current saved None)).nodes → new ≡ (node_at (nodes_of h.opening bs) n).text → TellsStory new cs n saved None (went_to n (story_from h.opening text bs current saved None))
unfolding told-went
tells-went text new bs cs current saved n h same lt nodes t = record {
  told = told-went text new bs cs current saved n h same lt nodes t;
  story = told-story new cs n saved None (told-went text new bs cs current saved n h same lt nodes t) ∙ ap₂ (λ x ns. (let s : Story = record { text = x; nodes = ns; current = n; group = None; saved = saved } in s)) t nodes;
}

-- going to a node by the nodes of the way
pub record IsGoing (text : List ℕ) (bs : List Branch) (saved n : ℕ) (ls es : List ℕ) (s : Story) : Type 0 where
  pub can : CanGoWay bs text ls es
  pub changes : way_changes bs text ls es ≡ changes_from n s
  pub left_there : AreThere bs ls
  pub entered_there : AreThere (aimed_over bs ls) es
  pub arrived : TellsStory (all_changed text (way_changes bs text ls es)) (aimed_over (aimed_over bs ls) es) n saved None (went_to n s)

pub going : (text : List ℕ) (bs : List Branch) (current saved n : ℕ) (ls es : List ℕ) (s : Story) → IsTold text bs current saved None → story_kept text bs current saved None ≡ s → n < length bs → ((o : List ℕ) → ls ≡ leaving (current + n) (nodes_of o bs) current n) → ((o : List ℕ) → es ≡ entering (current + n) (nodes_of o bs) current n) → IsGoing text bs saved n ls es s
going text bs current saved n ls es s h is lt left entered =
    let o : List ℕ = h.opening in
    let ns : List Node = nodes_of o bs in
    let k : ℕ = current + n in
    let s0 : Story = story_from o text bs current saved None in
    let same_story : s0 ≡ s = sym (told-story text bs current saved None h) ∙ is in
    let there : n < length ns = omega (arith, nodes-as_many o bs) in
    let enough : current + n ≤ k = omega arith in
    let tree : IsKeptTree o bs = record { tree = h.story.tree; fits = h.fits } in
    let W : List ℕ → List ℕ → Type 0 = λ xs ys. IsWay ns current n xs ys in
    let way : IsWay ns current n ls es = subst (λ (xs : List ℕ). W xs es) (sym (left o)) (subst (λ (ys : List ℕ). W (leaving k ns current n) ys) (sym (entered o)) (way-by_nodes k ns current n h.story.tree h.story.current there enough)) in
    let up : IsRisen o bs current way.top ls = risen o bs current way.top ls tree way.rise in
    let down : IsFallen o bs way.top n es = fallen o bs way.top n es tree way.fall in
    let here : text ≡ (node_at ns current).text = h.text_is in
    let middle : all_changed text (back_over bs text ls) ≡ (node_at ns way.top).text = ap (λ x. all_changed x (back_over bs x ls)) here ∙ up.text in
    let backward : back_over bs text ls ≡ rising ns ls = ap (λ x. back_over bs x ls) here ∙ up.changes in
    let onward : on_over bs (all_changed text (back_over bs text ls)) es ≡ falling ns es = ap (λ x. on_over bs x es) middle ∙ down.changes in
    let changes : way_changes bs text ls es ≡ route k ns current n = ap₂ (λ x y. x ++ y) backward onward ∙ ap₂ (λ xs ys. rising ns xs ++ falling ns ys) (left o) (entered o) in
    let leads : Leads (node_at ns current).text (node_at ns n).text (route k ns current n) = route-leads k ns current n h.story.tree h.story.current there enough in
    let new : List ℕ = all_changed text (way_changes bs text ls es) in
    let new_is : new ≡ (node_at ns n).text = ap₂ all_changed here changes ∙ leads.lead in
    let B : List ℕ → Type 0 = λ x. CanGoBack bs x ls in
    let F : List ℕ → Type 0 = λ x. CanGoForth bs x es in
    let S : List ℕ → List Change → Type 0 = λ x cs. AreSteps x cs in
    let entered_there : AreThere (aimed_over bs ls) es = there-over bs ls es up.there down.there in
    let cs : List Branch = aimed_over (aimed_over bs ls) es in
    let first : AreSameBranches (aimed_over bs ls) bs = aimed-same bs ls up.there in
    let second : AreSameBranches cs (aimed_over bs ls) = aimed-same (aimed_over bs ls) es entered_there in
    let same : AreSameBranches cs bs = record { long = second.long ∙ first.long; parents = λ m. second.parents m ∙ first.parents m; changes = λ m. second.changes m ∙ first.changes m } in
    let nodes : nodes_of o cs ≡ remembering k ns current n = nodes-over o (aimed_over bs ls) es entered_there ∙ ap (λ xs. remembered xs es) (nodes-over o bs ls up.there) ∙ ap₂ (λ xs ys. remembered (remembered ns xs) ys) (left o) (entered o) in
    let T : Story → Type 0 = λ x. TellsStory new cs n saved None (went_to n x) in
    record {
      can = record {
        back = subst B (sym here) up.can;
        on = subst F (sym middle) down.can;
        steps = subst (λ (x : List ℕ). S x (way_changes bs text ls es)) (sym here) (subst (λ (xs : List Change). S (node_at ns current).text xs) (sym changes) leads.steps);
      };
      changes = changes ∙ ap (changes_from n) same_story;
      left_there = up.there;
      entered_there = entered_there;
      arrived = subst T same_story (tells-went text new bs cs current saved n h same lt nodes new_is);
    }
