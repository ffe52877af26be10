use Rattle.std.proofs.Common.{◌≡◌, ℕ, ◌-◌, ◌≤◌, min, max, List, length, take, drop, map, sym, ap, subst, ◌∙◌, refl, arith, length-drop, take_all}
use Rattle.std.proofs.lemmas.List.{take_rest}
use Rattle.text_model.specs.declared.coords.Shift.{Shift}
use Rattle.selection_set.specs.declared.sel.Sel.{Sel}
use Rattle.selection_set.specs.Listing.{Listed}
use Rattle.selection_map.specs.Reaching.{through}
use Rattle.selection_map.specs.Premises.{CanGoOn}
use Rattle.selection_map.specs.Catching.{IsCatchable}
use Rattle.selection_map.specs.Staying.{FirstStay, OthersStay, EndBeforeNext}
use Rattle.selection_map.proofs.CatchLemmas.{can-go-on, list-more, list-none, caught-up}
use Rattle.selection_map.proofs.PartLemmas.{front-kept, rest-kept, held-apart, apart-take, apart-drop}
use Rattle.selection_map.proofs.catching.catch_all.Goals as goal

pub loop-start-init : goal.loop-start-init
loop-start-init g c = record { few = omega arith; each = sym (list-none c.args.sels.now.list); main = refl; front = refl; others = refl }

pub walk_run-run-requires-clause-can : goal.walk_run-run-requires-clause-can
walk_run-run-requires-clause-can g c =
    subst (λ (l : List Shift). CanGoOn l c.loop-start.sels.list) (sym (take_rest c.args.shifts.now c.loop-start.start)) (can-go-on c.args.shifts.now c.args.sels.now c.loop-start.start c.loop-start.sels.list c.requires.can c.loop-start.invariant.each)

pub loop-start-preserved : goal.loop-start-preserved
loop-start-preserved g c =
    let given : List Shift = take (length c.args.shifts.now - c.loop-start.start) (drop c.loop-start.start c.args.shifts.now) in
    let left : List Shift = drop c.loop-start.start c.args.shifts.now in
    let rest : given ≡ left = take_rest c.args.shifts.now c.loop-start.start in
    let count : ℕ = c.walk_run-run.result.count in
    let few : count ≤ length left = subst (λ (l : List Shift). count ≤ length l) rest c.walk_run-run.ensures.few in
    let list : c.walk_run-run.new.sels.list ≡ map (through (take count given)) c.loop-start.sels.list = ap (λ (s : Listed). s.list) c.walk_run-run.ensures.each in
    record {
      few = omega (arith, few, length-drop c.loop-start.start c.args.shifts.now, c.loop-start-test.true);
      each =
          list
          ∙ ap (λ (l : List Shift). map (through (take count l)) c.loop-start.sels.list) rest
          ∙ ap (map (through (take count left))) c.loop-start.invariant.each
          ∙ list-more c.loop-start.start count c.args.shifts.now c.args.sels.now.list;
      main = ap (λ (s : Listed). s.main) c.walk_run-run.ensures.each ∙ c.loop-start.invariant.main;
      front = subst (λ k. take k c.walk_run-run.new.sels.list ≡ take k c.args.sels.now.list) (sym c.lesser-low.ensures)
          (ap (take (min c.loop-start.low c.walk_run-run.result.low)) list ∙ front-kept (through (take count given)) c.loop-start.low c.walk_run-run.result.low c.loop-start.sels.list c.args.sels.now.list c.loop-start.invariant.front c.walk_run-run.ensures.first);
      others = subst (λ k. drop k c.walk_run-run.new.sels.list ≡ drop k c.args.sels.now.list) (sym c.greater-high.ensures)
          (ap (drop (max c.loop-start.high c.walk_run-run.result.high)) list ∙ rest-kept (through (take count given)) c.loop-start.high c.walk_run-run.result.high c.loop-start.sels.list c.args.sels.now.list c.loop-start.invariant.others c.walk_run-run.ensures.others);
    }

list-apart : (shifts : List Shift) (s : Listed) → IsCatchable shifts s → EndBeforeNext s.list
list-apart shifts s c = held-apart c.old s.list c.can.held.inside c.can.held.settled.apart

pub settle_between-requires-clause-front : goal.settle_between-requires-clause-front
settle_between-requires-clause-front g c = subst EndBeforeNext (sym c.loop-start.invariant.front) (apart-take c.loop-start.low c.args.sels.now.list (list-apart c.args.shifts.now c.args.sels.now c.requires.can))

pub settle_between-requires-clause-others : goal.settle_between-requires-clause-others
settle_between-requires-clause-others g c = subst EndBeforeNext (sym c.loop-start.invariant.others) (apart-drop c.loop-start.high c.args.sels.now.list (list-apart c.args.shifts.now c.args.sels.now c.requires.can))

pub returns : goal.returns
returns g c = record {
  caught = λ old steps can. caught-up old steps c.args.shifts.now c.args.sels.now c.loop-start.sels c.settle_between.new.sels
      (c.loop-start.invariant.each ∙ ap (λ (l : List Shift). map (through l) c.args.sels.now.list) (take_all c.loop-start.start c.args.shifts.now c.loop-start-test.false))
      c.loop-start.invariant.main c.settle_between.ensures.settles can;
}
