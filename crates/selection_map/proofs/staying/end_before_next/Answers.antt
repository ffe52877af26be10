use Rattle.std.proofs.Common.{◌≡◌, ◌-◌, false, get_or, take, sym, subst, ap₂, ◌∙◌, arith, take_all}
use Rattle.text_model.specs.Coords.{is_at_most}
use Rattle.selection_set.specs.declared.sel.Sel.{Sel}
use Rattle.selection_set.proofs.HeldLemmas.{zero_sel}
use Rattle.selection_map.specs.Staying.{EndBeforeNext}
use Rattle.selection_map.proofs.PartLemmas.{apart-from, apart-join, apart-more}
use Rattle.selection_map.proofs.staying.end_before_next.Goals as goal

pub loop-n-init : goal.loop-n-init
loop-n-init c = record {
  some = omega (arith, c.greater-n.ensures);
  front = subst (λ k. EndBeforeNext (take k c.args.sels.now.list)) (sym c.greater-n.ensures) (apart-from c.args.low c.args.sels.now.list c.requires.front);
}

pub loop-n-preserved : goal.loop-n-preserved
loop-n-preserved c =
    let apart : is_at_most (get_or c.args.sels.now.list c.loop-n.n zero_sel).low (get_or c.args.sels.now.list (c.loop-n.n - 1) zero_sel).high ≡ false =
    ap₂ (λ (x y : Sel). is_at_most x.low y.high) (sym (c.at-sel.ensures zero_sel)) (sym (c.at-former.ensures zero_sel)) ∙ sym c.is_at_most.ensures ∙ c.if-is_at_most.false in
    record {
      some = omega arith;
      front = apart-more c.loop-n.n c.args.sels.now.list zero_sel c.loop-n.invariant.some (omega (arith, c.loop-n-test.true, c.len-count.ensures.value)) c.loop-n.invariant.front apart;
    }

pub returns-then-n-high-clause-apart : goal.returns-then-n-high-clause-apart
returns-then-n-high-clause-apart c = λ e. apart-join c.loop-n.n c.args.high c.args.sels.now.list (omega (arith, c.if-n-high.true)) c.loop-n.invariant.front c.requires.others

pub returns-clause-apart : goal.returns-clause-apart
returns-clause-apart c = λ e. subst EndBeforeNext (take_all c.loop-n.n c.args.sels.now.list (omega (arith, c.loop-n-test.false, c.len-count.ensures.value))) c.loop-n.invariant.front
