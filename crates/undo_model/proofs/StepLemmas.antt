-- Lemmas on steps and what takes them back.
use Rattle.std.proofs.Common.{◌≡◌, ℕ, ◌-◌, ◌≤◌, List, [], ◌∷◌, ◌++◌, length, drop, refl, sym, ap, subst, ◌∙◌, arith, length-take-le, length-drop}
use Rattle.text_model.specs.Texts.{IsStored}
use Rattle.text_model.specs.Changes.{Change, Insertion, Erasure, changed, inverse, all_changed, IsChangeInside}
use Rattle.text_model.proofs.ChangeLemmas.{changed-inverse, IsInside-inverse, all_changed-append}
use Rattle.undo_model.specs.Steps.{size, IsStep, AreSteps, undoing}

pub steps-append : (text : List ℕ) (cs ds : List Change) → AreSteps text cs → AreSteps (all_changed text cs) ds → AreSteps text (cs ++ ds)
steps-append text [] ds h k = k
steps-append text (c ∷ cs) ds h k = (h.0, steps-append (changed text c) cs ds h.1 k)

-- steps leave a text that can be kept
pub steps-stored : (text : List ℕ) (cs : List Change) → IsStored text → AreSteps text cs → IsStored (all_changed text cs)
steps-stored text [] s h = s
steps-stored text (c ∷ cs) s h = steps-stored (changed text c) cs h.0.stored h.1

-- steps and then what takes them back give the old text
pub undoing-text : (text : List ℕ) (cs : List Change) → AreSteps text cs → all_changed (all_changed text cs) (undoing text cs) ≡ text
undoing-text text [] h = refl
undoing-text text (c ∷ cs) h =
    all_changed-append (all_changed (changed text c) cs) (undoing (changed text c) cs) (inverse text c ∷ []) ∙ ap (λ t. changed t (inverse text c)) (undoing-text (changed text c) cs h.1) ∙ changed-inverse text c h.0.inside

-- an inverse has as many characters as the change
size-inverse : (text : List ℕ) (c : Change) → IsChangeInside text c → size (inverse text c) ≡ size c
size-inverse text (Insertion p s) h = omega arith
size-inverse text (Erasure p q) h = let room : q - p ≤ length (drop p text) = omega (arith, length-drop p text, h.1) in length-take-le (q - p) (drop p text) room

-- what takes a step back is a step
pub inverse-step : (text : List ℕ) (c : Change) → IsStored text → IsStep text c → IsStep (changed text c) (inverse text c)
inverse-step text c s h = record {
  inside = IsInside-inverse text c h.inside;
  some = omega (arith, size-inverse text c h.inside, h.some);
  stored = subst IsStored (sym (changed-inverse text c h.inside)) s;
}

-- what takes steps back are steps
pub undoing-steps : (text : List ℕ) (cs : List Change) → IsStored text → AreSteps text cs → AreSteps (all_changed text cs) (undoing text cs)
undoing-steps text [] s h = tt
undoing-steps text (c ∷ cs) s h =
    let P : List ℕ → Type 0 = λ t. AreSteps t (inverse text c ∷ []) in
    steps-append (all_changed (changed text c) cs) (undoing (changed text c) cs) (inverse text c ∷ []) (undoing-steps (changed text c) cs h.0.stored h.1) (subst P (sym (undoing-text (changed text c) cs h.1)) (inverse-step text c s h.0, tt))
