-- Lemmas on the nodes of an undo tree, the steps between them, and what is remembered of a step.
use Rattle.std.proofs.Common.{◌≡◌, ◌≢◌, ℕ, ◌+◌, ◌-◌, ◌<◌, true, false, cond, eqb, List, [], ◌∷◌, ◌++◌, length, get_or, refl, sym, ap, subst, ◌∙◌, arith, inl, inr, ◌⊎◌, eqb-true, length-append, IfSome, Some, None}
use Rattle.std.specs.declared.option.Option.{Option}
use Rattle.std.proofs.lemmas.Bool.{eqb-false}
use Rattle.std.proofs.lemmas.List.{get_or_append_left, get_or-append_right, get_or-set_other, length-set}
use Rattle.std.proofs.lemmas.Grind.{get_or-set_at}
use Rattle.text_model.specs.Texts.{IsStored}
use Rattle.text_model.specs.Changes.{Change, all_changed}
use Rattle.text_model.proofs.CoordLemmas.{test_cases}
use Rattle.text_model.proofs.PlaceLemmas.{three_ways}
use Rattle.text_model.proofs.ChangeLemmas.{all_changed-append}
use Rattle.undo_model.specs.Steps.{AreSteps}
use Rattle.undo_model.specs.Tree.{Node, root, node_at, aimed, with_heir, up}
use Rattle.undo_model.specs.Kept.{IsChild, IsHeir, IsTree}
use Rattle.undo_model.proofs.StepLemmas.{steps-append, undoing-text, undoing-steps}

-- a node without its heir
abbrev pub bare : Node → Node
bare n = record { parent = n.parent; text = n.text; changes = n.changes; heir = None }

-- the same nodes but for their heirs
pub record AreSame (ms nodes : List Node) : Type 0 where
  pub long : length ms ≡ length nodes
  pub same : (n : ℕ) → bare (node_at ms n) ≡ bare (node_at nodes n)

pub same-parent : (ms nodes : List Node) (n : ℕ) → AreSame ms nodes → (node_at ms n).parent ≡ (node_at nodes n).parent
same-parent ms nodes n h = ap (λ (x : Node). x.parent) (h.same n)

pub same-text : (ms nodes : List Node) (n : ℕ) → AreSame ms nodes → (node_at ms n).text ≡ (node_at nodes n).text
same-text ms nodes n h = ap (λ (x : Node). x.text) (h.same n)

pub same-refl : (nodes : List Node) → AreSame nodes nodes
same-refl nodes = record { long = refl; same = λ n. refl }

pub same-trans : (ls ms nodes : List Node) → AreSame ls ms → AreSame ms nodes → AreSame ls nodes
same-trans ls ms nodes h k = record { long = h.long ∙ k.long; same = λ n. h.same n ∙ k.same n }

-- what holds of a value in an option, if there is one, holds of it in a weaker form
pub weaker_if_some : {X : Type 0} (o : Option X) (P Q : X → Type 0) → ((x : X) → P x → Q x) → IfSome o P → IfSome o Q
weaker_if_some None P Q f h = tt
weaker_if_some (Some x) P Q f h = f x h

-- the node that got another heir
pub heir-here : (nodes : List Node) (n child : ℕ) → n < length nodes → node_at (with_heir n child nodes) n ≡ aimed (node_at nodes n) child
heir-here nodes n child h = get_or-set_at nodes n n (aimed (node_at nodes n) child) (root []) refl h

-- and the others
heir-elsewhere : (nodes : List Node) (n m child : ℕ) → m ≢ n → node_at (with_heir n child nodes) m ≡ node_at nodes m
heir-elsewhere nodes n m child h = get_or-set_other nodes n m (aimed (node_at nodes n) child) (root []) h

pub with_heir-same : (nodes : List Node) (n child : ℕ) → n < length nodes → AreSame (with_heir n child nodes) nodes
with_heir-same nodes n child h = record { long = length-set nodes n (aimed (node_at nodes n) child); same = λ m. at m (test_cases (eqb m n)) }
  where
    at : (m : ℕ) → (eqb m n ≡ true) ⊎ (eqb m n ≡ false) → bare (node_at (with_heir n child nodes) m) ≡ bare (node_at nodes m)
    at m (inl e) =
        let same : m ≡ n = eqb-true m n e in
        ap (λ k. bare (node_at (with_heir n child nodes) k)) same ∙ ap bare (heir-here nodes n child h) ∙ ap (λ k. bare (node_at nodes k)) (sym same)
    at m (inr e) = ap bare (heir-elsewhere nodes n m child (eqb-false m n e))

-- a child by nodes that are the same but for their heirs
child-same : (n : ℕ) (p q x y : Node) → bare p ≡ bare q → bare x ≡ bare y → IsChild n q y → IsChild n p x
child-same n p q x y e f h =
    let P : Node → Node → Type 0 = λ a b. IsChild n a b in
    let k : IsChild n (bare p) (bare x) = subst (λ (b : Node). P (bare p) b) (sym f) (subst (λ (a : Node). P a (bare y)) (sym e) (record { below = h.below; steps = h.steps; made = h.made })) in
    record { below = k.below; steps = k.steps; made = k.made }

-- nodes that are the same but for their heirs are a tree's again, where their heirs are children
tree-same : (ms nodes : List Node) → AreSame ms nodes → IsTree nodes → ((n : ℕ) → n < length ms → IfSome (node_at ms n).heir (IsHeir ms n)) → IsTree ms
tree-same ms nodes h t heirs = record {
  some = omega (arith, h.long, t.some);
  texts = λ n lt. subst IsStored (sym (same-text ms nodes n h)) (t.texts n (omega (arith, h.long)));
  children = λ n p lt. child-same n _ _ _ _ (parents n) (h.same n) (t.children n p (omega (arith, h.long)));
  heirs = heirs;
}
  where
    parents : (n : ℕ) → bare (node_at ms (node_at ms n).parent) ≡ bare (node_at nodes (node_at nodes n).parent)
    parents n = h.same (node_at ms n).parent ∙ ap (λ m. bare (node_at nodes m)) (same-parent ms nodes n h)

heir-same : (ms nodes : List Node) (n child : ℕ) → AreSame ms nodes → IsHeir nodes n child → IsHeir ms n child
heir-same ms nodes n child h k = record { isnt_root = k.isnt_root; is_there = omega (arith, h.long, k.is_there); is_child = same-parent ms nodes child h ∙ k.is_child }

-- the parent of a child is there
pub parent-there : (nodes : List Node) (child : ℕ) → IsTree nodes → 0 < child → child < length nodes → (node_at nodes child).parent < length nodes
parent-there nodes child t p lt = omega (arith, (t.children child p lt).below)

-- a parent that remembers its child
pub with_heir-tree : (nodes : List Node) (child : ℕ) → IsTree nodes → 0 < child → child < length nodes → IsTree (with_heir (node_at nodes child).parent child nodes)
with_heir-tree nodes child t p lt = tree-same ms nodes same t (λ n h. at n h (test_cases (eqb n (node_at nodes child).parent)))
  where
    ms : List Node
    ms = with_heir (node_at nodes child).parent child nodes

    same : AreSame ms nodes
    same = with_heir-same nodes (node_at nodes child).parent child (parent-there nodes child t p lt)

    at : (n : ℕ) → n < length ms → (eqb n (node_at nodes child).parent ≡ true) ⊎ (eqb n (node_at nodes child).parent ≡ false) → IfSome (node_at ms n).heir (IsHeir ms n)
    at n h (inl e) =
        let here : n ≡ (node_at nodes child).parent = eqb-true n (node_at nodes child).parent e in
        let heir : (node_at ms n).heir ≡ Some child = ap (λ m. (node_at ms m).heir) here ∙ ap (λ (x : Node). x.heir) (heir-here nodes (node_at nodes child).parent child (parent-there nodes child t p lt)) in
        let P : Option ℕ → Type 0 = λ o. IfSome o (IsHeir ms n) in
        subst P (sym heir) (record { isnt_root = p; is_there = omega (arith, same.long); is_child = same-parent ms nodes child same ∙ sym here })
    at n h (inr e) =
        let P : Node → Type 0 = λ x. IfSome x.heir (IsHeir ms n) in
        subst P (sym (heir-elsewhere nodes (node_at nodes child).parent n child (eqb-false n (node_at nodes child).parent e)))
        (weaker_if_some (node_at nodes n).heir (IsHeir nodes n) (IsHeir ms n) (λ x k. heir-same ms nodes n x same k) (t.heirs n (omega (arith, same.long))))

-- a tree, with the same nodes but for their heirs
pub record IsTreeAs (ms nodes : List Node) : Type 0 where
  pub tree : IsTree ms
  pub same : AreSame ms nodes

-- one step remembered
pub heir-of_step : (nodes : List Node) (p child n : ℕ) → p < length nodes → (node_at (with_heir p child nodes) n).heir ≡ cond (eqb p n) (Some child) (node_at nodes n).heir
heir-of_step nodes p child n h =
    elim (test_cases (eqb p n)) [
      | inl e ↦ (let same : p ≡ n = eqb-true p n e in
          ap (λ m. (node_at (with_heir p child nodes) m).heir) (sym same) ∙ ap (λ (x : Node). x.heir) (heir-here nodes p child h) ∙ sym (ap (λ v. cond v (Some child) (node_at nodes n).heir) e))
      | inr e ↦ ap (λ (x : Node). x.heir) (heir-elsewhere nodes p n child (λ q. eqb-false p n e (sym q))) ∙ sym (ap (λ v. cond v (Some child) (node_at nodes n).heir) e)
    ]

-- up to the parent
pub up-leads : (nodes : List Node) (a : ℕ) → IsTree nodes → 0 < a → a < length nodes → all_changed (node_at nodes a).text (up nodes a) ≡ (node_at nodes (node_at nodes a).parent).text
up-leads nodes a t p lt =
    let child : IsChild a (node_at nodes (node_at nodes a).parent) (node_at nodes a) = t.children a p lt in
    ap (λ x. all_changed x (up nodes a)) child.made ∙ undoing-text (node_at nodes (node_at nodes a).parent).text (node_at nodes a).changes child.steps

pub up-steps : (nodes : List Node) (a : ℕ) → IsTree nodes → 0 < a → a < length nodes → AreSteps (node_at nodes a).text (up nodes a)
up-steps nodes a t p lt =
    let child : IsChild a (node_at nodes (node_at nodes a).parent) (node_at nodes a) = t.children a p lt in
    let P : List ℕ → Type 0 = λ x. AreSteps x (up nodes a) in
    subst P (sym child.made) (undoing-steps (node_at nodes (node_at nodes a).parent).text (node_at nodes a).changes (t.texts (node_at nodes a).parent (parent-there nodes a t p lt)) child.steps)

-- changes that are steps, and lead from one text to another
pub record Leads (old new : List ℕ) (cs : List Change) : Type 0 where
  pub steps : AreSteps old cs
  pub lead : all_changed old cs ≡ new

pub leads-append : (a b c : List ℕ) (cs ds : List Change) → Leads a b cs → Leads b c ds → Leads a c (cs ++ ds)
leads-append a b c cs ds h k =
    let P : List ℕ → Type 0 = λ x. AreSteps x ds in
    record {
      steps = steps-append a cs ds h.steps (subst P (sym h.lead) k.steps);
      lead = all_changed-append a cs ds ∙ ap (λ x. all_changed x ds) h.lead ∙ k.lead;
    }

-- a tree with one more node
pub push-tree : (nodes : List Node) (n : Node) → IsTree nodes → n.parent < length nodes → IsChild (length nodes) (node_at nodes n.parent) n → n.heir ≡ None → IsStored n.text → IsTree (nodes ++ n ∷ [])
push-tree nodes n t lt child none stored = record {
  some = omega (arith, longer);
  texts = λ m h. texts m h (three_ways m (length nodes));
  children = λ m p h. children m p h (three_ways m (length nodes));
  heirs = λ m h. heirs m h (three_ways m (length nodes));
}
  where
    ms : List Node
    ms = nodes ++ n ∷ []

    longer : length ms ≡ length nodes + 1
    longer = length-append nodes (n ∷ [])

    old : (m : ℕ) → m < length nodes → node_at ms m ≡ node_at nodes m
    old m h = get_or_append_left nodes (n ∷ []) (root []) m h

    new : (m : ℕ) → m ≡ length nodes → node_at ms m ≡ n
    new m e = get_or-append_right nodes (n ∷ []) m m (root []) (sym e) (omega arith) ∙ ap (λ k. get_or (n ∷ []) k (root [])) none_left
      where
        none_left : m - m ≡ 0
        none_left = omega arith

    texts : (m : ℕ) → m < length ms → (m < length nodes) ⊎ ((m ≡ length nodes) ⊎ (length nodes < m)) → IsStored (node_at ms m).text
    texts m h (inl less) = let P : Node → Type 0 = λ x. IsStored x.text in subst P (sym (old m less)) (t.texts m less)
    texts m h (inr w) =
        elim w [
          | inl same ↦ (let P : Node → Type 0 = λ x. IsStored x.text in subst P (sym (new m same)) stored)
          | inr more ↦ absurd (omega (arith, longer))
        ]

    children : (m : ℕ) → 0 < m → m < length ms → (m < length nodes) ⊎ ((m ≡ length nodes) ⊎ (length nodes < m)) → IsChild m (node_at ms (node_at ms m).parent) (node_at ms m)
    children m p h (inl less) =
        let there : (node_at nodes m).parent < length nodes = parent-there nodes m t p less in
        let from : node_at ms (node_at ms m).parent ≡ node_at nodes (node_at nodes m).parent = ap (λ (x : Node). node_at ms x.parent) (old m less) ∙ old (node_at nodes m).parent there in
        let P : Node → Node → Type 0 = λ x y. IsChild m x y in
        subst (λ (y : Node). P (node_at ms (node_at ms m).parent) y) (sym (old m less)) (subst (λ (x : Node). P x (node_at nodes m)) (sym from) (t.children m p less))
    children m p h (inr w) =
        elim w [
          | inl same ↦ last m same
          | inr more ↦ absurd (omega (arith, longer))
        ]
      where
        last : (m : ℕ) → m ≡ length nodes → IsChild m (node_at ms (node_at ms m).parent) (node_at ms m)
        last m same =
            let from : node_at ms (node_at ms m).parent ≡ node_at nodes n.parent = ap (λ (x : Node). node_at ms x.parent) (new m same) ∙ old n.parent lt in
            let P : ℕ → Node → Node → Type 0 = λ k x y. IsChild k x y in
            subst (λ (k : ℕ). P k (node_at ms (node_at ms m).parent) (node_at ms m)) (sym same) (subst (λ (y : Node). P (length nodes) (node_at ms (node_at ms m).parent) y) (sym (new m same)) (subst (λ (x : Node). P (length nodes) x n) (sym from) child))

    heirs : (m : ℕ) → m < length ms → (m < length nodes) ⊎ ((m ≡ length nodes) ⊎ (length nodes < m)) → IfSome (node_at ms m).heir (IsHeir ms m)
    heirs m h (inl less) =
        let P : Node → Type 0 = λ x. IfSome x.heir (IsHeir ms m) in
        subst P (sym (old m less)) (weaker_if_some (node_at nodes m).heir (IsHeir nodes m) (IsHeir ms m) (λ x k. record { isnt_root = k.isnt_root; is_there = omega (arith, longer, k.is_there); is_child = ap (λ (y : Node). y.parent) (old x k.is_there) ∙ k.is_child }) (t.heirs m less))
    heirs m h (inr w) =
        elim w [
          | inl same ↦ (let P : Option ℕ → Type 0 = λ o. IfSome o (IsHeir ms m) in subst P (sym (ap (λ (x : Node). x.heir) (new m same) ∙ none)) tt)
          | inr more ↦ absurd (omega (arith, longer))
        ]
