use Rattle.std.proofs.Common.{◌≤◌, length, chars, refl, arith}
use Rattle.line_buffer.proofs.GrowingLemmas.{few_chars}
use Rattle.line_buffer.proofs.growing.has_at_most.Goals as goal

pub returns-then-text-most : goal.returns-then-text-most
returns-then-text-most c =
    let few : length (chars c.args.text.now) ≤ length c.args.text.now = few_chars c.args.text.now c.utf8.text in
    (λ t. omega (arith, few, c.if-text-most.true), λ h. refl)
