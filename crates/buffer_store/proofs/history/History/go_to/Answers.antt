use Rattle.std.proofs.Common.{◌≡◌, ◌<◌, ◌≤◌, ℕ, List, [], length, vec_len, vec_capacity, MatchOption, sym, ap, ap₂, subst, ◌∙◌, arith, eqb-true}
use Rattle.std.proofs.lemmas.Bool.{eqb-false}
use Rattle.std.proofs.lemmas.List.{nil_from_length}
use Rattle.text_model.specs.Changes.{Change, all_changed}
use Rattle.undo_model.specs.Steps.{AreSteps}
use Rattle.undo_model.specs.Stories.{Story}
use Rattle.move_marks.specs.Marking.{IsLeftBy}
use Rattle.buffer_store.specs.Seen.{Branch, branch_at}
use Rattle.buffer_store.specs.Histories.{seen_pending, IsHistory}
use Rattle.buffer_store.specs.Stored.{change_shifts}
use Rattle.buffer_store.specs.Seen.{story_kept}
use Rattle.buffer_store.specs.Walks.{CanGoWay, way_changes, changes_from, IsBehindSome}
use Rattle.buffer_store.proofs.GoneLemmas.{told-parents, told-current, node-in, none-pending, going-by, way-is, gone-there, none-made, broken-whole, broken-forgotten, two-nodes, forgotten-seen, forgotten-history}
use Rattle.buffer_store.proofs.history.History.go_to.Goals as goal

pub way_between-requires-clause-parents : goal.way_between-requires-clause-parents
way_between-requires-clause-parents c =
    let P : List Branch → Type 0 = λ bs. (n : ℕ) → 0 < n → n < length bs → (branch_at bs n).parent < n in
    subst P (sym c.as_slice.ensures.value) (told-parents _ _ _ _ _ c.self.invariant.told)

pub way_between-requires-clause-from : goal.way_between-requires-clause-from
way_between-requires-clause-from c = omega (arith, ap length c.as_slice.ensures.value, told-current _ _ _ _ _ c.self.invariant.told)

pub way_between-requires-clause-to : goal.way_between-requires-clause-to
way_between-requires-clause-to c = omega (arith, ap length c.as_slice.ensures.value, node-in c.self.inside.lines c.self.inside.branches.items c.self.inside.current c.self.inside.saved c.args.node (seen_pending c.self.inside.pending) c.args.self.now c.self.view_is c.requires.there)

pub walk-requires-clause-can : goal.walk-requires-clause-can
walk-requires-clause-can c =
    let g = going-by _ _ _ _ _ _ _ _ _ _ _ _ c.self.invariant.told c.self.view_is c.requires.none c.requires.there c.as_slice.ensures.value c.in_ok-way.ensures.left c.in_ok-way.ensures.entered c.as_slice-left.ensures.value c.as_slice-entered.ensures.value in
    let P : List Branch → Type 0 = λ bs. CanGoWay bs c.self.inside.lines c.as_slice-left.result.now c.as_slice-entered.result.now in
    subst P (sym c.as_slice-2.ensures.value) g.can

pub remember-requires-clause-left : goal.remember-requires-clause-left
remember-requires-clause-left c =
    let g = going-by _ _ _ _ _ _ _ _ _ _ _ _ c.self.invariant.told c.self.view_is c.requires.none c.requires.there c.as_slice.ensures.value c.in_ok-way.ensures.left c.in_ok-way.ensures.entered c.as_slice-left.ensures.value c.as_slice-entered.ensures.value in
    g.left_there

pub remember-requires-clause-entered : goal.remember-requires-clause-entered
remember-requires-clause-entered c =
    let g = going-by _ _ _ _ _ _ _ _ _ _ _ _ c.self.invariant.told c.self.view_is c.requires.none c.requires.there c.as_slice.ensures.value c.in_ok-way.ensures.left c.in_ok-way.ensures.entered c.as_slice-left.ensures.value c.as_slice-entered.ensures.value in
    g.entered_there

pub invariant_of-self : goal.invariant_of-self
invariant_of-self c =
    let g = going-by _ _ _ _ _ _ _ _ _ _ _ _ c.self.invariant.told c.self.view_is c.requires.none c.requires.there c.as_slice.ensures.value c.in_ok-way.ensures.left c.in_ok-way.ensures.entered c.as_slice-left.ensures.value c.as_slice-entered.ensures.value in
    let no = none-pending c.self.inside.lines c.self.inside.branches.items c.self.inside.current c.self.inside.saved (seen_pending c.self.inside.pending) c.args.self.now c.self.view_is c.requires.none in
    let t = gone-there c.self.inside.lines c.walk.new.lines c.self.inside.branches.items c.remember.new.branches.items c.self.inside.saved c.args.node (vec_len c.remember.new.branches) (vec_capacity c.remember.new.branches) c.as_slice-left.result.now c.as_slice-entered.result.now (seen_pending c.self.inside.pending) c.args.self.now g no (c.in-Ok.ensures.text ∙ ap (λ bs. all_changed c.self.inside.lines (way_changes bs c.self.inside.lines c.as_slice-left.result.now c.as_slice-entered.result.now)) c.as_slice-2.ensures.value) c.remember.ensures.items in
    t.history

pub returns-in-Ok-clause-story : goal.returns-in-Ok-clause-story
returns-in-Ok-clause-story c =
    let g = going-by _ _ _ _ _ _ _ _ _ _ _ _ c.self.invariant.told c.self.view_is c.requires.none c.requires.there c.as_slice.ensures.value c.in_ok-way.ensures.left c.in_ok-way.ensures.entered c.as_slice-left.ensures.value c.as_slice-entered.ensures.value in
    let no = none-pending c.self.inside.lines c.self.inside.branches.items c.self.inside.current c.self.inside.saved (seen_pending c.self.inside.pending) c.args.self.now c.self.view_is c.requires.none in
    let t = gone-there c.self.inside.lines c.walk.new.lines c.self.inside.branches.items c.remember.new.branches.items c.self.inside.saved c.args.node (vec_len c.remember.new.branches) (vec_capacity c.remember.new.branches) c.as_slice-left.result.now c.as_slice-entered.result.now (seen_pending c.self.inside.pending) c.args.self.now g no (c.in-Ok.ensures.text ∙ ap (λ bs. all_changed c.self.inside.lines (way_changes bs c.self.inside.lines c.as_slice-left.result.now c.as_slice-entered.result.now)) c.as_slice-2.ensures.value) c.remember.ensures.items in
    t.story

pub returns-in-Ok-clause-shifts : goal.returns-in-Ok-clause-shifts
returns-in-Ok-clause-shifts c =
    let g = going-by _ _ _ _ _ _ _ _ _ _ _ _ c.self.invariant.told c.self.view_is c.requires.none c.requires.there c.as_slice.ensures.value c.in_ok-way.ensures.left c.in_ok-way.ensures.entered c.as_slice-left.ensures.value c.as_slice-entered.ensures.value in
    let text : c.self.inside.lines ≡ c.args.self.now.text = ap (λ (x : Story). x.text) c.self.view_is in
    let cs = way-is c.self.inside.lines c.self.inside.branches.items c.as_slice-2.result.now c.self.inside.saved c.args.node c.as_slice-left.result.now c.as_slice-entered.result.now c.args.self.now g c.as_slice-2.ensures.value in
    c.in-Ok.ensures.shifts ∙ ap₂ change_shifts text cs

pub returns-in-Ok-clause-list : goal.returns-in-Ok-clause-list
returns-in-Ok-clause-list c =
    let g = going-by _ _ _ _ _ _ _ _ _ _ _ _ c.self.invariant.told c.self.view_is c.requires.none c.requires.there c.as_slice.ensures.value c.in_ok-way.ensures.left c.in_ok-way.ensures.entered c.as_slice-left.ensures.value c.as_slice-entered.ensures.value in
    let text : c.self.inside.lines ≡ c.args.self.now.text = ap (λ (x : Story). x.text) c.self.view_is in
    let cs = way-is c.self.inside.lines c.self.inside.branches.items c.as_slice-2.result.now c.self.inside.saved c.args.node c.as_slice-left.result.now c.as_slice-entered.result.now c.args.self.now g c.as_slice-2.ensures.value in
    let P : List ℕ → List Change → Type 0 = λ x y. MatchOption c.in-Ok.list (y ≡ []) (IsLeftBy x y) in
    subst (λ (y : List Change). P c.args.self.now.text y) cs (subst (λ (x : List ℕ). P x (way_changes c.as_slice-2.result.now c.self.inside.lines c.as_slice-left.result.now c.as_slice-entered.result.now)) text c.in-Ok.ensures.list)

pub invariant_of-self-then-is_empty : goal.invariant_of-self-then-is_empty
invariant_of-self-then-is_empty c =
    let none : length c.walk.new.shifts.items ≡ 0 = omega (arith, c.walk.new.shifts.ok.0, eqb-true _ 0 (sym c.is_empty.ensures ∙ c.if-is_empty.true)) in
    let same : c.walk.new.lines ≡ c.self.inside.lines = none-made _ _ _ _ c.in-Err.ensures.broken none in
    let P : List ℕ → Type 0 = λ x. IsHistory x c.self.inside.branches.items c.self.inside.current c.self.inside.saved (seen_pending c.self.inside.pending) (vec_len c.self.inside.branches) (vec_capacity c.self.inside.branches) in
    subst P (sym same) c.self.invariant

pub returns-then-is_empty-clause-broken : goal.returns-then-is_empty-clause-broken
returns-then-is_empty-clause-broken c =
    let none : length c.walk.new.shifts.items ≡ 0 = omega (arith, c.walk.new.shifts.ok.0, eqb-true _ 0 (sym c.is_empty.ensures ∙ c.if-is_empty.true)) in
    let same : c.walk.new.lines ≡ c.self.inside.lines = none-made _ _ _ _ c.in-Err.ensures.broken none in
    broken-whole (changes_from c.args.node c.args.self.now) c.args.self.now _ c.walk.new.shifts.items (ap (λ x. story_kept x c.self.inside.branches.items c.self.inside.current c.self.inside.saved (seen_pending c.self.inside.pending)) same ∙ c.self.view_is) (nil_from_length c.walk.new.shifts.items none)

pub invariant_of-self-in-Err : goal.invariant_of-self-in-Err
invariant_of-self-in-Err c =
    let g = going-by _ _ _ _ _ _ _ _ _ _ _ _ c.self.invariant.told c.self.view_is c.requires.none c.requires.there c.as_slice.ensures.value c.in_ok-way.ensures.left c.in_ok-way.ensures.entered c.as_slice-left.ensures.value c.as_slice-entered.ensures.value in
    let text : c.self.inside.lines ≡ c.args.self.now.text = ap (λ (x : Story). x.text) c.self.view_is in
    let cs = way-is c.self.inside.lines c.self.inside.branches.items c.as_slice-2.result.now c.self.inside.saved c.args.node c.as_slice-left.result.now c.as_slice-entered.result.now c.args.self.now g c.as_slice-2.ensures.value in
    let P : List ℕ → List Change → Type 0 = λ x y. IsBehindSome y x c.walk.new.lines c.walk.new.shifts.items in
    let b = subst (λ (y : List Change). P c.args.self.now.text y) cs (subst (λ (x : List ℕ). P x (way_changes c.as_slice-2.result.now c.self.inside.lines c.as_slice-left.result.now c.as_slice-entered.result.now)) text c.in-Err.ensures.broken) in
    let some : 0 < length c.walk.new.shifts.items = omega (arith, c.walk.new.shifts.ok.0, eqb-false _ 0 (sym c.is_empty.ensures ∙ c.if-is_empty.false)) in
    let two : 2 ≤ length c.self.inside.branches.items = two-nodes c.self.inside.lines c.self.inside.branches.items c.self.inside.current c.self.inside.saved c.args.node (seen_pending c.self.inside.pending) c.args.self.now _ _ _ c.self.invariant.told c.self.view_is c.requires.there b some in
    let room : vec_len c.cut_to_root.new.branches < vec_capacity c.cut_to_root.new.branches = omega (arith, c.cut_to_root.ensures.len, c.cut_to_root.ensures.capacity, c.self.inside.branches.ok.0, c.self.inside.branches.ok.1, two) in
    forgotten-history c.walk.new.lines c.cut_to_root.new.branches.items c.new.result.items (vec_len c.cut_to_root.new.branches) (vec_capacity c.cut_to_root.new.branches) c.len-stored.ensures.valid c.cut_to_root.ensures.items c.new.ensures.items room

pub returns-clause-broken : goal.returns-clause-broken
returns-clause-broken c =
    let g = going-by _ _ _ _ _ _ _ _ _ _ _ _ c.self.invariant.told c.self.view_is c.requires.none c.requires.there c.as_slice.ensures.value c.in_ok-way.ensures.left c.in_ok-way.ensures.entered c.as_slice-left.ensures.value c.as_slice-entered.ensures.value in
    let text : c.self.inside.lines ≡ c.args.self.now.text = ap (λ (x : Story). x.text) c.self.view_is in
    let cs = way-is c.self.inside.lines c.self.inside.branches.items c.as_slice-2.result.now c.self.inside.saved c.args.node c.as_slice-left.result.now c.as_slice-entered.result.now c.args.self.now g c.as_slice-2.ensures.value in
    let P : List ℕ → List Change → Type 0 = λ x y. IsBehindSome y x c.walk.new.lines c.walk.new.shifts.items in
    let b = subst (λ (y : List Change). P c.args.self.now.text y) cs (subst (λ (x : List ℕ). P x (way_changes c.as_slice-2.result.now c.self.inside.lines c.as_slice-left.result.now c.as_slice-entered.result.now)) text c.in-Err.ensures.broken) in
    let some : 0 < length c.walk.new.shifts.items = omega (arith, c.walk.new.shifts.ok.0, eqb-false _ 0 (sym c.is_empty.ensures ∙ c.if-is_empty.false)) in
    let Q : List ℕ → List Change → Type 0 = λ x y. AreSteps x y in
    let steps = subst (λ (y : List Change). Q c.args.self.now.text y) g.changes (subst (λ (x : List ℕ). Q x (way_changes c.self.inside.branches.items c.self.inside.lines c.as_slice-left.result.now c.as_slice-entered.result.now)) text g.can.steps) in
    broken-forgotten (changes_from c.args.node c.args.self.now) c.args.self.now _ c.walk.new.shifts.items steps b some (forgotten-seen c.walk.new.lines c.cut_to_root.new.branches.items c.new.result.items c.cut_to_root.ensures.items c.new.ensures.items)
