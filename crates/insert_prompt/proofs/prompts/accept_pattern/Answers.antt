use Rattle.std.proofs.Common.{◌≡◌, length, ap, sym, ◌∙◌, arith}
use Rattle.std.proofs.lemmas.Bool.{eqb-true}
use Rattle.edit_line.specs.Halves.{whole}
use Rattle.kak_world.specs.declared.own.Own.{Own}
use Rattle.kak_world.specs.Flat.{prompt_of}
use Rattle.insert_prompt.proofs.AcceptLemmas.{nothing-typed}
use Rattle.insert_prompt.proofs.prompts.accept_pattern.Goals as goal

pub returns-then-is_empty-clause-row : goal.returns-then-is_empty-clause-row
returns-then-is_empty-clause-row g c =
    let who = c.args.who in
    let flat = c.args.world.now.flat in
    let typed : c.whole.result.now ≡ whole (prompt_of who flat) = c.whole.ensures ∙ ap (λ (o : Own). whole o.prompt) c.own.ensures in
    let none : length (whole (prompt_of who flat)) ≡ 0 = omega (arith, eqb-true (length c.whole.result.now) 0 (sym c.is_empty.ensures ∙ c.if-is_empty.true), ap length typed) in
    nothing-typed (whole (prompt_of who flat)) c.args.wanted who flat c.leave.new.world.flat c.in_ok-ask.ask none c.in_ok-ask.ensures.row c.in_ok-_nothing.ensures.left
