-- A list through shifts, settled once, is the list that the eager rule gives, and no other list is.
use Rattle.std.proofs.Common.{◌≡◌, ℕ, suc, ◌<◌, Bool, List, [], ◌∷◌, ◌++◌, length, map, get_or, refl, sym, ap, ap₂, subst, inl, ◌∙◌, arith}
use Rattle.std.specs.declared.option.Option.{Option}
use Rattle.std.proofs.lemmas.List.{length-map}
use Rattle.text_model.specs.declared.coords.Coord.{Coord}
use Rattle.text_model.specs.declared.coords.Shift.{Shift}
use Rattle.text_model.specs.Texts.{IsStored}
use Rattle.text_model.specs.Changes.{Change, changed, all_changed}
use Rattle.text_model.proofs.PlaceLemmas.{offset_determines}
use Rattle.list_model.specs.Ranges.{Range, Selected, only}
use Rattle.selection_set.specs.declared.sel.Sel.{Sel}
use Rattle.selection_set.specs.Inside.{range_of, IsInside}
use Rattle.selection_set.specs.Listing.{Listed, ranges_of, AreInside}
use Rattle.selection_set.specs.Held.{selected, IsHeld}
use Rattle.selection_set.specs.Sweeping.{swept_listed}
use Rattle.selection_set.proofs.SettleLemmas.{swept-settles}
use Rattle.selection_map.specs.Reaching.{through}
use Rattle.selection_map.specs.Catching.{Step, text_after, AreShiftsOf, CanCatchUp, IsCatchable, IsCaughtUp, eager_by, IsCaughtUpBy}
use Rattle.selection_map.proofs.CatchLemmas.{caught-up}
use Rattle.selection_map.proofs.StepLemmas.{shifts-append, changes-caught, eager_by-append}
use Rattle.list_shelf.specs.Lagging.{caught}

-- a selection inside a text is the only one with its range
same-sel : (text : List ℕ) (x y : Sel) → IsInside text x → IsInside text y → range_of text x ≡ range_of text y → x ≡ y
same-sel text x y i j e =
    let low : x.low ≡ y.low = offset_determines text x.low y.low (inl i.low) (inl j.low) (ap (λ (r : Range). r.low) e) in
    let high : x.high ≡ y.high = offset_determines text x.high y.high (inl i.high) (inl j.high) (ap (λ (r : Range). r.high) e) in
    let ends : Coord → Coord → Sel = λ a b. record { low = a; high = b; turned = x.turned; target = x.target } in
    let marks : Bool → Option ℕ → Sel = λ t u. record { low = y.low; high = y.high; turned = t; target = u } in
    ap₂ ends low high ∙ ap₂ marks (ap (λ (r : Range). r.turned) e) (ap (λ (r : Range). r.target) e)

behind_first : List Range → List Range
behind_first [] = []
behind_first (r ∷ rs) = rs

same-sels : (text : List ℕ) (xs ys : List Sel) → AreInside text xs → AreInside text ys → ranges_of text xs ≡ ranges_of text ys → xs ≡ ys
unfolding behind_first
same-sels text [] [] i j e = refl
same-sels text [] (y ∷ ys) i j e = absurd (let f : suc (length (ranges_of text ys)) ≡ length {A = Range} [] = ap length (sym e) in omega arith)
same-sels text (x ∷ xs) [] i j e = absurd (let f : suc (length (ranges_of text xs)) ≡ length {A = Range} [] = ap length e in omega arith)
same-sels text (x ∷ xs) (y ∷ ys) i j e =
    ap₂ (λ z zs. z ∷ zs) (same-sel text x y i.0 j.0 (ap (λ (rs : List Range). get_or rs 0 (only 0)) e)) (same-sels text xs ys i.1 j.1 (ap (λ (rs : List Range). behind_first rs) e))

-- a list that is held in a text is the only one with its ranges and its main one
pub same-selected : (text : List ℕ) (s t : Listed) → IsHeld text s → IsHeld text t → selected text s ≡ selected text t → s ≡ t
same-selected text s t h k e =
    let P : List Sel → ℕ → Listed = λ l n. record { list = l; main = n } in
    ap₂ P (same-sels text s.list t.list h.inside k.inside (ap (λ (x : Selected). x.list) e)) (ap (λ (x : Selected). x.main) e)

-- settled once, a list has caught up
pub caught-steps : (old : List ℕ) (steps : List Step) (ss : List Shift) (s : Listed) → CanCatchUp old steps ss s → IsCaughtUp old steps s (caught ss s)
caught-steps old steps ss s can =
    let all : Listed = record { list = map (through ss) s.list; main = s.main } in
    let main : s.main < length (map (through ss) s.list) = omega (arith, can.held.settled.main_is, length-map s.list (range_of old), length-map s.list (through ss)) in
    caught-up old steps ss s all (swept_listed all) refl refl (λ t inside order. swept-settles t all main inside order) can

pub caught-is : (text : List ℕ) (cs : List Change) (ss : List Shift) (s : Listed) → IsStored text → AreShiftsOf text cs ss → IsHeld text s → IsCaughtUpBy text cs s (caught ss s)
caught-is text cs ss s h k held = changes-caught text cs ss s (caught ss s) (λ old steps can. caught-steps old steps ss s can) h k held

-- and a list that has caught up is that one
pub caught-only : (ss : List Shift) (before now : Listed) → IsCatchable ss before → ((old : List ℕ) (steps : List Step) → CanCatchUp old steps ss before → IsCaughtUp old steps before now) → now ≡ caught ss before
caught-only ss before now can caught_up =
    let a : IsCaughtUp can.old can.steps before now = caught_up can.old can.steps can.can in
    let b : IsCaughtUp can.old can.steps before (caught ss before) = caught-steps can.old can.steps ss before can.can in
    same-selected (text_after can.old can.steps) now (caught ss before) a.held b.held (a.moved ∙ sym b.moved)

-- through no shifts
pub caught-none : (text : List ℕ) (s : Listed) → IsStored text → IsHeld text s → caught [] s ≡ s
caught-none text s h held =
    let c : IsCaughtUpBy text [] s (caught [] s) = caught-is text [] [] s h tt held in
    same-selected text (caught [] s) s c.held held c.moved

pub stored-behind : (text : List ℕ) (cs : List Change) (ss : List Shift) → IsStored text → AreShiftsOf text cs ss → IsStored (all_changed text cs)
stored-behind text [] ss h k = h
stored-behind text (c ∷ cs) [] h k = absurd k
stored-behind text (c ∷ cs) (s ∷ ss) h k = stored-behind (changed text c) cs ss k.0 k.2

changed-parts : (text : List ℕ) (cs ds : List Change) → all_changed text (cs ++ ds) ≡ all_changed (all_changed text cs) ds
changed-parts text [] ds = refl
changed-parts text (c ∷ cs) ds = changed-parts (changed text c) cs ds

-- in parts
pub caught-parts : (text : List ℕ) (cs ds : List Change) (ss ts : List Shift) (s : Listed) → IsStored text → AreShiftsOf text cs ss → AreShiftsOf (all_changed text cs) ds ts → IsHeld text s → caught ts (caught ss s) ≡ caught (ss ++ ts) s
caught-parts text cs ds ss ts s h k m held =
    let a : IsCaughtUpBy text cs s (caught ss s) = caught-is text cs ss s h k held in
    let b : IsCaughtUpBy (all_changed text cs) ds (caught ss s) (caught ts (caught ss s)) = caught-is (all_changed text cs) ds ts (caught ss s) (stored-behind text cs ss h k) m a.held in
    let c : IsCaughtUpBy text (cs ++ ds) s (caught (ss ++ ts) s) = caught-is text (cs ++ ds) (ss ++ ts) s h (shifts-append text cs ds ss ts k m) held in
    let last : all_changed text (cs ++ ds) ≡ all_changed (all_changed text cs) ds = changed-parts text cs ds in
    same-selected (all_changed (all_changed text cs) ds) (caught ts (caught ss s)) (caught (ss ++ ts) s) b.held (subst (λ t. IsHeld t (caught (ss ++ ts) s)) last c.held)
    (b.moved
    ∙ ap (eager_by (all_changed text cs) ds) a.moved
    ∙ sym (eager_by-append text cs ds (selected text s))
    ∙ sym c.moved
    ∙ ap (λ t. selected t (caught (ss ++ ts) s)) last)
