use Rattle.std.proofs.Common.{◌≡◌, ◌+◌, ◌-◌, ◌*◌, ◌<◌, min, get_or, refl, sym, ◌∙◌, arith}
use Rattle.command_forms.specs.Numbers.{greatest_number, whole_on}
use Rattle.command_forms.proofs.NumberLemmas.{number-more, number-end, whole-some}
use Rattle.command_forms.proofs.numbers.whole_number.Goals as goal

pub loop-d-preserved : goal.loop-d-preserved
loop-d-preserved c =
    let d = get_or c.args.digits.now c.loop-d.d-index 0 in
    let now : min c.saturating_add-n.result greatest_number ≡ min (c.loop-d.n * 10 + (d - 48)) greatest_number = omega arith in
    record {
      small = omega arith;
      still = number-more c.args.digits.now c.loop-d.d-index d c.loop-d.n c.saturating_add-n.result (whole_on 0 c.args.digits.now) c.loop-d-test.true refl (sym c.is_digit.ensures ∙ c.if-not-is_digit.false) now c.loop-d.invariant.still;
    }

pub returns : goal.returns
returns c =
    sym (number-end c.args.digits.now c.loop-d.d-index c.loop-d.n c.loop-d-test.false c.loop-d.invariant.small) ∙ c.loop-d.invariant.still
    ∙ sym (whole-some c.args.digits.now (sym c.is_empty.ensures ∙ c.if-is_empty.false))
