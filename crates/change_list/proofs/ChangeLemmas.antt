-- Lemmas on shifts that take changes back.
use Rattle.std.proofs.Common.{◌≡◌, ℕ, ◌+◌, ◌-◌, ◌≤◌, List, not, length, take, drop, sym, ap, subst, ◌∙◌, arith, length-take-le, length-drop}
use Rattle.text_model.specs.declared.coords.Coord.{Coord}
use Rattle.text_model.specs.declared.coords.Shift.{Shift}
use Rattle.text_model.specs.Texts.{coord_at, last_place}
use Rattle.text_model.specs.Changes.{Change, Insertion, Erasure, changed, inverse, IsChangeInside, move_of, IsChange, IsShift}
use Rattle.text_model.proofs.ChangeLemmas.{changed-inverse, IsInside-inverse, move_of-change}
use Rattle.change_list.specs.Logs.{back}

-- what a change does, its inverse does the other way
back-change : (text : List ℕ) (c : Change) → IsChangeInside text c → IsChange (move_of (changed text c) (inverse text c)).insert (changed text c) text (move_of (changed text c) (inverse text c)).begin (move_of (changed text c) (inverse text c)).end
back-change text c h =
    let P : List ℕ → Type 0 = λ t. IsChange (move_of (changed text c) (inverse text c)).insert (changed text c) t (move_of (changed text c) (inverse text c)).begin (move_of (changed text c) (inverse text c)).end in
    subst P (changed-inverse text c h) (move_of-change (changed text c) (inverse text c) (IsInside-inverse text c h))

-- the shift of the inverse
pub IsShift-back : (text : List ℕ) (c : Change) (s : Shift) (last : Coord) → IsChangeInside text c → IsShift text (changed text c) s (move_of text c) → last ≡ coord_at text (last_place text) → IsShift (changed text c) text (back s last) (move_of (changed text c) (inverse text c))
IsShift-back text (Insertion p cs) s last h k l = record {
  insert_is = ap not k.insert_is;
  change = back-change text (Insertion p cs) h;
  begin_is = k.begin_is;
  end_is = k.end_is;
  last_offset = ap last_place (changed-inverse text (Insertion p cs) h);
  last_is = l ∙ ap (λ t. coord_at text (last_place t)) (sym (changed-inverse text (Insertion p cs) h));
}
IsShift-back text (Erasure p q) s last h k l =
    let room : q - p ≤ length (drop p text) = omega (arith, length-drop p text, h.1) in
    let at : q ≡ p + length (take (q - p) (drop p text)) = omega (arith, length-take-le (q - p) (drop p text) room, h.0) in
    record {
      insert_is = ap not k.insert_is;
      change = back-change text (Erasure p q) h;
      begin_is = k.begin_is;
      end_is = k.end_is ∙ ap (coord_at text) at;
      last_offset = ap last_place (changed-inverse text (Erasure p q) h);
      last_is = l ∙ ap (λ t. coord_at text (last_place t)) (sym (changed-inverse text (Erasure p q) h));
    }
