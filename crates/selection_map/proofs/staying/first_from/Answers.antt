use Rattle.std.proofs.Common.{◌≡◌, ℕ, ◌+◌, ◌-◌, ◌/◌, get_or, sym, ap, ◌∙◌, arith}
use Rattle.text_model.specs.Coords.{is_at_most}
use Rattle.selection_set.specs.declared.sel.Sel.{Sel}
use Rattle.selection_map.proofs.staying.first_from.Goals as goal

pub loop-low-preserved : goal.loop-low-preserved
loop-low-preserved c = record {
  behind = omega (arith, c.loop-low-test.true, c.loop-low.invariant.behind);
  ordered = omega (arith, c.loop-low-test.true);
  within = c.loop-low.invariant.within;
  before = λ _ d.
      let middle : ℕ = c.loop-low.low + (c.loop-low.high - c.loop-low.low) / 2 in
      let one : middle + 1 - 1 ≡ middle = omega arith in
      ap (λ k. is_at_most c.args.at (get_or c.args.sels.now.list k d).high) one ∙ ap (λ (s : Sel). is_at_most c.args.at s.high) (sym (c.at-sel.ensures d)) ∙ sym c.is_at_most-in-loop-low.ensures ∙ c.if-is_at_most-2.false;
}
