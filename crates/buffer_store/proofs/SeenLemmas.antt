-- Lemmas on how what a buffer keeps is seen as its story.
use Rattle.std.proofs.Common.{◌≡◌, ℕ, zero, suc, ◌+◌, ◌<◌, ◌≤◌, Bool, cond, eqb, List, [], ◌∷◌, ◌++◌, length, take, drop, get_or, set, refl, sym, ap, ap₂, subst, ◌∙◌, arith, inl, inr, None, append_assoc, length-append, length-take-le, take-append-drop, eqb-true}
use Rattle.std.specs.declared.option.Option.{Option}
use Rattle.std.proofs.lemmas.Bool.{eqb-false}
use Rattle.std.proofs.lemmas.List.{get_or_append_left, drop_more, set_split}
use Rattle.text_model.specs.Changes.{all_changed}
use Rattle.text_model.proofs.CoordLemmas.{test_cases}
use Rattle.undo_model.specs.Tree.{Node, root, node_at, aimed, with_heir}
use Rattle.undo_model.specs.Kept.{IsTree}
use Rattle.buffer_store.specs.Stored.{AllFit, flats, made, backs}
use Rattle.buffer_store.specs.Seen.{Branch, Pending, branch_at, node_of, nodes_from, nodes_of, up_to_root, pending_changes, story_from, story_kept, IsTold}
use Rattle.buffer_store.specs.Laws.{aimed_branch}
use Rattle.buffer_store.proofs.MakingLemmas.{backs-undoing}

-- as many nodes as branches
pub nodes-long : (o : List ℕ) (ns : List Node) (bs : List Branch) → length (nodes_from o ns bs) ≡ length ns + length bs
nodes-long o ns [] = omega arith
nodes-long o ns (b ∷ bs) = omega (arith, nodes-long o (ns ++ node_of o ns b ∷ []) bs, length-append ns (node_of o ns b ∷ []))

pub nodes-append : (o : List ℕ) (ns : List Node) (xs bs : List Branch) → nodes_from o ns (xs ++ bs) ≡ nodes_from o (nodes_from o ns xs) bs
nodes-append o ns [] bs = refl
nodes-append o ns (x ∷ xs) bs = nodes-append o (ns ++ node_of o ns x ∷ []) xs bs

-- nodes stay when others come behind them
pub nodes-stay : (o : List ℕ) (ns : List Node) (bs : List Branch) (n : ℕ) (d : Node) → n < length ns → get_or (nodes_from o ns bs) n d ≡ get_or ns n d
nodes-stay o ns [] n d h = refl
nodes-stay o ns (b ∷ bs) n d h =
    let longer : n < length (ns ++ node_of o ns b ∷ []) = omega (arith, length-append ns (node_of o ns b ∷ [])) in
    nodes-stay o (ns ++ node_of o ns b ∷ []) bs n d longer ∙ get_or_append_left ns (node_of o ns b ∷ []) d n h

-- a number that is there needs no other value
pub other_default : (ns : List Node) (n : ℕ) (d e : Node) → n < length ns → get_or ns n d ≡ get_or ns n e
other_default [] n d e h = absurd (omega arith)
other_default (x ∷ xs) zero d e h = refl
other_default (x ∷ xs) (suc n) d e h = other_default xs n d e (omega arith)

last_one : (ns : List Node) (x d : Node) (n : ℕ) → length ns ≡ n → get_or (ns ++ x ∷ []) n d ≡ x
last_one [] x d zero e = refl
last_one [] x d (suc n) e = absurd (omega arith)
last_one (y ∷ ys) x d zero e = absurd (omega arith)
last_one (y ∷ ys) x d (suc n) e = last_one ys x d n (omega arith)

-- branches in three parts
split_at : (bs : List Branch) (n : ℕ) → n < length bs → bs ≡ take n bs ++ (branch_at bs n ∷ drop (n + 1) bs)
split_at bs n h = sym (take-append-drop n bs) ∙ ap (λ t. take n bs ++ t) (drop_more bs n (record { parent = 0; heir = None; changes = [] }) h)

first-long : (o : List ℕ) (bs : List Branch) (n : ℕ) → n < length bs → length (nodes_of o (take n bs)) ≡ n
first-long o bs n h = let long : length (take n bs) ≡ n = length-take-le n bs (omega arith) in omega (arith, nodes-long o [] (take n bs))

-- the nodes before a branch are the first of all
first-stay : (o : List ℕ) (bs : List Branch) (n m : ℕ) (d : Node) → n < length bs → m < n → get_or (nodes_of o bs) m d ≡ get_or (nodes_of o (take n bs)) m d
first-stay o bs n m d h lt =
    ap (λ (x : List Branch). get_or (nodes_of o x) m d) (split_at bs n h) ∙ ap (λ ns. get_or ns m d) (nodes-append o [] (take n bs) (branch_at bs n ∷ drop (n + 1) bs)) ∙ nodes-stay o (nodes_of o (take n bs)) (branch_at bs n ∷ drop (n + 1) bs) m d (omega (arith, first-long o bs n h))

-- a node is that of its branch
pub node-is : (o : List ℕ) (bs : List Branch) (n : ℕ) → n < length bs → node_at (nodes_of o bs) n ≡ node_of o (nodes_of o (take n bs)) (branch_at bs n)
node-is o bs n h =
    let ns : List Node = nodes_of o (take n bs) in
    let x : Node = node_of o ns (branch_at bs n) in
    let long : length ns ≡ n = first-long o bs n h in
    ap (λ (t : List Branch). node_at (nodes_of o t) n) (split_at bs n h) ∙ ap (λ t. node_at t n) (nodes-append o [] (take n bs) (branch_at bs n ∷ drop (n + 1) bs)) ∙ nodes-stay o (ns ++ x ∷ []) (drop (n + 1) bs) n (root []) (omega (arith, length-append ns (x ∷ []))) ∙ last_one ns x (root []) n long

pub node-parent : (o : List ℕ) (bs : List Branch) (n : ℕ) → n < length bs → (node_at (nodes_of o bs) n).parent ≡ (branch_at bs n).parent
node-parent o bs n h = ap (λ (x : Node). x.parent) (node-is o bs n h)

pub node-heir : (o : List ℕ) (bs : List Branch) (n : ℕ) → n < length bs → (node_at (nodes_of o bs) n).heir ≡ (branch_at bs n).heir
node-heir o bs n h = ap (λ (x : Node). x.heir) (node-is o bs n h)

-- the text of the node before the kept changes of one
from-text : (o : List ℕ) (bs : List Branch) (n : ℕ) → n < length bs → (branch_at bs n).parent < n → (get_or (nodes_of o (take n bs)) (branch_at bs n).parent (root o)).text ≡ (node_at (nodes_of o bs) (branch_at bs n).parent).text
from-text o bs n h lt =
    ap (λ (x : Node). x.text) (other_default (nodes_of o (take n bs)) (branch_at bs n).parent (root o) (root []) (omega (arith, first-long o bs n h)) ∙ sym (first-stay o bs n (branch_at bs n).parent (root []) h lt))

-- a node's text is made from its parent's
pub node-text : (o : List ℕ) (bs : List Branch) (n : ℕ) → n < length bs → (branch_at bs n).parent < n → (node_at (nodes_of o bs) n).text ≡ made (node_at (nodes_of o bs) (branch_at bs n).parent).text (branch_at bs n).changes
node-text o bs n h lt = ap (λ (x : Node). x.text) (node-is o bs n h) ∙ ap (λ t. made t (branch_at bs n).changes) (from-text o bs n h lt)

pub node-changes : (o : List ℕ) (bs : List Branch) (n : ℕ) → n < length bs → (branch_at bs n).parent < n → (node_at (nodes_of o bs) n).changes ≡ flats (node_at (nodes_of o bs) (branch_at bs n).parent).text (branch_at bs n).changes
node-changes o bs n h lt = ap (λ (x : Node). x.changes) (node-is o bs n h) ∙ ap (λ t. flats t (branch_at bs n).changes) (from-text o bs n h lt)

-- the first node has the opening text
pub root-text : (o : List ℕ) (bs : List Branch) → 0 < length bs → (branch_at bs 0).changes ≡ [] → (node_at (nodes_of o bs) 0).text ≡ o
root-text o bs h e = ap (λ (x : Node). x.text) (node-is o bs 0 h) ∙ ap (made o) e

-- up to the root one comes to the opening text
pub up-is_opening : (k : ℕ) (o : List ℕ) (bs : List Branch) (n : ℕ) → IsTree (nodes_of o bs) → ((m : ℕ) → 0 < m → m < length bs → AllFit (node_at (nodes_of o bs) (branch_at bs m).parent).text (branch_at bs m).changes) → (branch_at bs 0).changes ≡ [] → n ≤ k → n < length bs → up_to_root k bs n (node_at (nodes_of o bs) n).text ≡ o
up-is_opening zero o bs n t fits e h lt = let z : n ≡ 0 = omega arith in ap (λ m. (node_at (nodes_of o bs) m).text) z ∙ root-text o bs (omega arith) e
up-is_opening (suc k) o bs n t fits e h lt =
    let long : length (nodes_of o bs) ≡ length bs = omega (arith, nodes-long o [] bs) in
    let P : Bool → Type 0 = λ v. cond v (node_at (nodes_of o bs) n).text (up_to_root k bs (branch_at bs n).parent (all_changed (node_at (nodes_of o bs) n).text (backs (node_at (nodes_of o bs) n).text (branch_at bs n).changes))) ≡ o in
    elim (test_cases (eqb n 0)) [
      | inl z ↦ subst P (sym z) (ap (λ m. (node_at (nodes_of o bs) m).text) (eqb-true n 0 z) ∙ root-text o bs (omega arith) e)
      | inr z ↦ (let p : 0 < n = omega (arith, eqb-false n 0 z) in
          let below : (branch_at bs n).parent < n = omega (arith, (t.children n p (omega arith)).below, node-parent o bs n lt) in
          let from : List ℕ = (node_at (nodes_of o bs) (branch_at bs n).parent).text in
          let back : all_changed (node_at (nodes_of o bs) n).text (backs (node_at (nodes_of o bs) n).text (branch_at bs n).changes) ≡ from =
          ap (λ x. all_changed x (backs x (branch_at bs n).changes)) (node-text o bs n lt below) ∙ (backs-undoing from (branch_at bs n).changes (fits n p lt)).1 in
          subst P (sym z) (ap (up_to_root k bs (branch_at bs n).parent) back ∙ up-is_opening k o bs (branch_at bs n).parent t fits e (omega arith) (omega arith)))
    ]

-- so the story is the one from that text
pub told-story : (text : List ℕ) (bs : List Branch) (current saved : ℕ) (group : Option Pending) (h : IsTold text bs current saved group) → story_kept text bs current saved group ≡ story_from h.opening text bs current saved group
told-story text bs current saved group h =
    let o : List ℕ = h.opening in
    let long : length (nodes_of o bs) ≡ length bs = omega (arith, nodes-long o [] bs) in
    let node : List ℕ = (node_at (nodes_of o bs) current).text in
    let base : all_changed text (backs text (pending_changes group)) ≡ node = ap (λ x. all_changed x (backs x (pending_changes group))) h.text_is ∙ (backs-undoing node (pending_changes group) h.pending_fit).1 in
    let enough : current ≤ current = omega arith in
    let first : up_to_root current bs current (all_changed text (backs text (pending_changes group))) ≡ o = ap (up_to_root current bs current) base ∙ up-is_opening current o bs current h.story.tree h.fits h.root_has_none enough (omega (arith, h.story.current)) in
    ap (λ x. story_from x text bs current saved group) first

-- a node with another heir has the same text
same-texts : (ns ms : List Node) (x d : Node) (child n : ℕ) → (get_or (ns ++ aimed x child ∷ ms) n d).text ≡ (get_or (ns ++ x ∷ ms) n d).text
same-texts [] ms x d child zero = refl
same-texts [] ms x d child (suc n) = refl
same-texts (y ∷ ys) ms x d child zero = refl
same-texts (y ∷ ys) ms x d child (suc n) = same-texts ys ms x d child n

set_middle : (ns ms : List Node) (x y : Node) → set (ns ++ x ∷ ms) (length ns) y ≡ ns ++ y ∷ ms
set_middle [] ms x y = refl
set_middle (z ∷ zs) ms x y = ap (λ t. z ∷ t) (set_middle zs ms x y)

-- nodes behind one with another heir are the same
nodes-aimed : (o : List ℕ) (ns ms : List Node) (x : Node) (child : ℕ) (bs : List Branch) → nodes_from o (ns ++ aimed x child ∷ ms) bs ≡ set (nodes_from o (ns ++ x ∷ ms) bs) (length ns) (aimed x child)
nodes-aimed o ns ms x child [] = sym (set_middle ns ms x (aimed x child))
nodes-aimed o ns ms x child (b ∷ bs) =
    let node : Node = node_of o (ns ++ x ∷ ms) b in
    let same : node_of o (ns ++ aimed x child ∷ ms) b ≡ node = ap (λ t. (let n : Node = record { parent = b.parent; text = made t b.changes; changes = flats t b.changes; heir = b.heir } in n)) (same-texts ns ms x (root o) child b.parent) in
    let regroup : (y : Node) → (ns ++ y ∷ ms) ++ node ∷ [] ≡ ns ++ y ∷ (ms ++ node ∷ []) = λ y. append_assoc ns (y ∷ ms) (node ∷ []) in
    ap (λ t. nodes_from o ((ns ++ aimed x child ∷ ms) ++ t ∷ []) bs) same ∙ ap (λ t. nodes_from o t bs) (regroup (aimed x child)) ∙ nodes-aimed o ns (ms ++ node ∷ []) x child bs ∙ ap (λ t. set (nodes_from o t bs) (length ns) (aimed x child)) (sym (regroup x))

-- the nodes of branches of which one has another heir
pub nodes-with_heir : (o : List ℕ) (bs : List Branch) (n child : ℕ) → n < length bs → nodes_of o (set bs n (aimed_branch (branch_at bs n) child)) ≡ with_heir n child (nodes_of o bs)
nodes-with_heir o bs n child h =
    let b : Branch = branch_at bs n in
    let ns : List Node = nodes_of o (take n bs) in
    let x : Node = node_of o ns b in
    let rest : List Branch = drop (n + 1) bs in
    let long : length ns ≡ n = first-long o bs n h in
    let up : suc n ≡ n + 1 = omega arith in
    let new : set bs n (aimed_branch b child) ≡ take n bs ++ (aimed_branch b child ∷ rest) = set_split bs n (aimed_branch b child) h ∙ ap (λ m. take n bs ++ (aimed_branch b child ∷ drop m bs)) up in
    let old : nodes_of o bs ≡ nodes_from o (ns ++ x ∷ []) rest = ap (nodes_of o) (split_at bs n h) ∙ nodes-append o [] (take n bs) (b ∷ rest) in
    ap (nodes_of o) new ∙ nodes-append o [] (take n bs) (aimed_branch b child ∷ rest) ∙ nodes-aimed o ns [] x child rest ∙ ap₂ (λ t m. set t m (aimed x child)) (sym old) long ∙ ap (λ (t : Node). set (nodes_of o bs) n (aimed t child)) (sym (node-is o bs n h))

-- the nodes of one branch more
pub nodes-push : (o : List ℕ) (bs : List Branch) (b : Branch) → nodes_of o (bs ++ b ∷ []) ≡ nodes_of o bs ++ node_of o (nodes_of o bs) b ∷ []
nodes-push o bs b = nodes-append o [] bs (b ∷ [])
