-- Lemmas on the marks of changes: they are ranges of the text behind the changes.
use Rattle.std.proofs.Common.{◌≡◌, ℕ, ◌≤◌, List, [], ◌∷◌, ◌++◌, map, All, refl, arith}
use Rattle.std.proofs.lemmas.List.Elements.{All-append, All-cons, All-nil, All-map}
use Rattle.text_model.specs.Texts.{last_place}
use Rattle.text_model.specs.Changes.{Change, Insertion, Erasure, changed, all_changed, move_of}
use Rattle.text_model.specs.Mapping.{shifted}
use Rattle.text_model.proofs.ChangeLemmas.{length-changed_insertion}
use Rattle.text_model.proofs.MappingLemmas.{shifted-mono, shifted-le}
use Rattle.list_model.specs.Ranges.{Range}
use Rattle.list_model.specs.Settling.{carried}
use Rattle.undo_model.specs.Steps.{IsStep, AreSteps}
use Rattle.undo_model.specs.Marks.{mark, marks}
use Rattle.undo_model.specs.Laws.{IsInText}

mark-inside : (text : List ℕ) (c : Change) → IsStep text c → IsInText (changed text c) (mark (changed text c) c)
mark-inside text (Insertion p s) h = record { ordered = omega (arith, h.some); inside = omega (arith, h.some, h.inside, length-changed_insertion text p s h.inside) }
mark-inside text (Erasure p q) h = record { ordered = omega arith; inside = omega (arith, h.stored.is_text.some) }

move-ordered : (text : List ℕ) (c : Change) → IsStep text c → (move_of text c).begin ≤ (move_of text c).end
move-ordered text (Insertion p s) h = omega arith
move-ordered text (Erasure p q) h = h.inside.0

move-last : (text : List ℕ) (c : Change) → (move_of text c).last ≡ last_place (changed text c)
move-last text (Insertion p s) = refl
move-last text (Erasure p q) = refl

carried-inside : (text : List ℕ) (c : Change) (r : Range) → IsStep text c → IsInText text r → IsInText (changed text c) (carried (shifted (move_of text c)) r)
carried-inside text c r h k = record {
  ordered = shifted-mono (move_of text c) r.low r.high (move-ordered text c h) k.ordered;
  inside = omega (arith, shifted-le (move_of text c) r.high, move-last text c, h.stored.is_text.some);
}

pub marks-inside : (text : List ℕ) (rs : List Range) (cs : List Change) → AreSteps text cs → All (IsInText text) rs → All (IsInText (all_changed text cs)) (marks text rs cs)
marks-inside text rs [] h k = k
marks-inside text rs (c ∷ cs) h k =
    let old : All (IsInText (changed text c)) (map (carried (shifted (move_of text c))) rs) = All-map (IsInText (changed text c)) (carried (shifted (move_of text c))) rs (λ i d lt. carried-inside text c _ h.0 (k i d lt)) in
    let new : All (IsInText (changed text c)) (mark (changed text c) c ∷ []) = All-cons (IsInText (changed text c)) (mark (changed text c) c) [] (mark-inside text c h.0) (All-nil (IsInText (changed text c))) in
    marks-inside (changed text c) (map (carried (shifted (move_of text c))) rs ++ mark (changed text c) c ∷ []) cs h.1 (All-append (IsInText (changed text c)) (map (carried (shifted (move_of text c))) rs) (mark (changed text c) c ∷ []) old new)
