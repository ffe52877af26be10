use Rattle.std.proofs.Common.{◌≡◌, ℕ, ◌+◌, ◌<◌, ◌≤◌, List, false, None, refl, subst, sym, ◌∙◌, inl, inr, ◌⊎◌, arith}
use Rattle.selection_set.specs.declared.sel.Sel.{Sel}
use Rattle.selection_set.specs.Sweeping.{swept_sels_place}
use Rattle.selection_set.proofs.SliceLemmas.{IsSweeping, sweeping-due, sweeping-apart, sweeping-main}
use Rattle.selection_set.proofs.list.sweep_slice.Goals as goal
use Rattle.selection_set.proofs.list.sweep_slice.Goals.{then-is_at_most, else-is_at_most, then-i-main, else-i-main}

-- the state after one more, by what it is equal to
same_state : (all : List Sel) (main : ℕ) (list list' : List Sel) (i at at' : ℕ) (current current' : Sel) → list' ≡ list → at' ≡ at → current' ≡ current → IsSweeping all main list i at current → IsSweeping all main list' i at' current'
same_state all main list list' i at at' current current' e f g h =
    subst (λ l. IsSweeping all main l i at' current') (sym e) (subst (λ n. IsSweeping all main list i n current') (sym f) (subst (λ s. IsSweeping all main list i at s) (sym g) h))

main_now : (all : List Sel) (main i : ℕ) (list : List Sel) (at place place' : ℕ) (current : Sel) → IsSweeping all main list (i + 1) at current → (main < i → place ≡ swept_sels_place all main) → ((i ≤ main) × (place' ≡ at)) ⊎ ((main < i) × (place' ≡ place)) → main < i + 1 → place' ≡ swept_sels_place all main
main_now all main i list at place place' current h before (inl w) k =
    let e : i ≡ main = omega arith in
    w.1 ∙ sweeping-main all main list at current (subst (λ n. IsSweeping all main list (n + 1) at current) e h)
main_now all main i list at place place' current h before (inr w) k = w.1 ∙ before w.0

abbrev zero_sel : Sel
zero_sel = record { low = record { line = 0; column = 0 }; high = record { line = 0; column = 0 }; turned = false; target = None }

pub loop-i-preserved : goal.loop-i-preserved
loop-i-preserved c =
    let next : IsSweeping c.args.list.now c.args.main c.if-is_at_most.list (c.loop-i.i + 1) c.if-is_at_most.at c.if-is_at_most.current = elim c.if-is_at_most.branch [
      | then-is_at_most w ↦ same_state _ _ _ _ _ _ _ _ _ w.list-is w.at-is (w.current-is ∙ w.joined-current.ensures) (sweeping-due _ _ _ _ _ _ _ zero_sel (omega arith) refl (sym c.is_at_most.ensures ∙ w.if-is_at_most.true) c.loop-i.invariant.sweeping)
      | else-is_at_most w ↦ same_state _ _ _ _ _ _ _ _ _ w.list-is w.at-is w.current-is (sweeping-apart _ _ _ _ _ _ _ zero_sel (omega arith) refl (sym c.is_at_most.ensures ∙ w.if-is_at_most.false) c.loop-i.invariant.sweeping)
    ] in
    record {
      sweeping = next;
      main_is = main_now c.args.list.now c.args.main c.loop-i.i c.if-is_at_most.list c.if-is_at_most.at c.loop-i.place c.if-i-main.place c.if-is_at_most.current next c.loop-i.invariant.main_is (elim c.if-i-main.branch [
        | then-i-main w ↦ inl (w.if-i-main.true, w.place-is)
        | else-i-main w ↦ inr (w.if-i-main.false, w.place-is)
      ]);
    }
