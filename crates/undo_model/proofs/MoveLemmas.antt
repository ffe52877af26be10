-- Lemmas on moves by their names, and on a text whose history was lost.
use Rattle.std.proofs.Common.{◌≡◌, ℕ, ◌<◌, Bool, true, false, cond, eqb, ltb, List, length, refl, sym, ap, subst, ◌∙◌, arith, inl, inr, ltb-true, Some, None, IfSome}
use Rattle.std.specs.declared.option.Option.{Option}
use Rattle.std.proofs.lemmas.Bool.{eqb-false}
use Rattle.text_model.specs.Texts.{IsStored}
use Rattle.text_model.proofs.CoordLemmas.{test_cases}
use Rattle.undo_model.specs.declared.travel.Travel.{Travel}
use Rattle.undo_model.specs.declared.travel.Travel.TheVariants.{Undo, Redo, Node}
use Rattle.undo_model.specs.Stories.{Story, committed, parent_of, heir_of, went_to}
use Rattle.undo_model.specs.Named.{moved_to, undone, went_on, redone}
use Rattle.undo_model.specs.Moves.{target_in, target_of, gone, gone_by, moved_by, move_changes, forgotten}
use Rattle.undo_model.specs.Kept.{IsHeir, IsStory}
use Rattle.undo_model.proofs.TreeLemmas.{parent-there, Leads}
use Rattle.undo_model.proofs.StoryLemmas.{opened-story, committed-story, committed-text, undone-goes, went-story, move-leads}

-- undo
pub undo-named : (s : Story) → IsStory s → moved_by Undo s ≡ undone s
undo-named s h =
    let t : IsStory (committed s) = committed-story s h in
    elim (test_cases (eqb (committed s).current 0)) [
      | inl e ↦ ap (λ v. gone (cond v None (Some (parent_of (committed s)))) s) e ∙ sym (ap (λ v. cond v (committed s) (moved_to (parent_of (committed s)) s)) e)
      | inr e ↦ ap (λ v. gone (cond v None (Some (parent_of (committed s)))) s) e ∙ sym (undone-goes s h (omega (arith, eqb-false (committed s).current 0 e)))
    ]

-- redo
gone-on : (o : Option ℕ) (s : Story) → gone o s ≡ went_on o (committed s)
gone-on None s = refl
gone-on (Some n) s = refl

pub redo-named : (s : Story) → moved_by Redo s ≡ redone s
redo-named s = gone-on (heir_of (committed s)) s

-- a move to a node
gone-test : (v : Bool) (n : ℕ) (s : Story) → gone (cond v (Some n) None) s ≡ cond v (went_to n (committed s)) (committed s)
gone-test true n s = refl
gone-test false n s = refl

pub node-named : (n : ℕ) (s : Story) → moved_by (Node n) s ≡ moved_to n s
node-named n s = gone-test (ltb n (length (committed s).nodes)) n s

-- a target is a node that is there
heir-there : (o : Option ℕ) (s : Story) → IfSome o (IsHeir s.nodes s.current) → IfSome o (λ n. n < length s.nodes)
heir-there None s h = tt
heir-there (Some n) s h = h.is_there

pub target-there : (travel : Travel) (s : Story) → IsStory s → IfSome (target_in travel s) (λ n. n < length s.nodes)
target-there Undo s h =
    let P : Bool → Type 0 = λ v. IfSome (cond v None (Some (parent_of s))) (λ n. n < length s.nodes) in
    elim (test_cases (eqb s.current 0)) [
      | inl e ↦ subst P (sym e) tt
      | inr e ↦ subst P (sym e) (parent-there s.nodes s.current h.tree (omega (arith, eqb-false s.current 0 e)) h.current)
    ]
target-there Redo s h = heir-there (heir_of s) s (h.tree.heirs s.current h.current)
target-there (Node n) s h =
    let P : Bool → Type 0 = λ v. IfSome (cond v (Some n) None) (λ m. m < length s.nodes) in
    elim (test_cases (ltb n (length s.nodes))) [
      | inl e ↦ subst P (sym e) (ltb-true n (length s.nodes) e)
      | inr e ↦ subst P (sym e) tt
    ]

pub target-is_there : (travel : Travel) (n : ℕ) (s : Story) → IsStory s → target_of travel s ≡ Some n → n < length (committed s).nodes
target-is_there travel n s h e =
    let P : Option ℕ → Type 0 = λ o. IfSome o (λ m. m < length (committed s).nodes) in
    subst P e (target-there travel (committed s) (committed-story s h))

-- where a move leads, there its changes lead
gone-leads : (o : Option ℕ) (s : Story) → IsStory s → IfSome o (λ n. n < length (committed s).nodes) → Leads s.text (gone o s).text (gone_by o s)
gone-leads None s h k = record { steps = tt; lead = sym (committed-text s) }
gone-leads (Some n) s h k = move-leads n s h k

pub named-leads : (travel : Travel) (s : Story) → IsStory s → Leads s.text (moved_by travel s).text (move_changes travel s)
named-leads travel s h = gone-leads (target_of travel s) s h (target-there travel (committed s) (committed-story s h))

gone-story : (o : Option ℕ) (s : Story) → IsStory s → IfSome o (λ n. n < length (committed s).nodes) → IsStory (gone o s)
gone-story None s h k = committed-story s h
gone-story (Some n) s h k = went-story n (committed s) (committed-story s h) k

pub named-story : (travel : Travel) (s : Story) → IsStory s → IsStory (moved_by travel s)
named-story travel s h = gone-story (target_of travel s) s h (target-there travel (committed s) (committed-story s h))

-- a text without its history
pub forgotten-story : (text : List ℕ) → IsStored text → IsStory (forgotten text)
forgotten-story text h =
    let o : IsStory (let s : Story = record { text = text; nodes = (forgotten text).nodes; current = 0; group = None; saved = 0 } in s) = opened-story text h in
    record { tree = o.tree; current = o.current; saved = o.saved; steps = tt; text = refl; stored = h; few = omega arith }
