use Rattle.std.proofs.Common.{ap, sym, ◌∙◌}
use Rattle.edit_line.specs.Edits.{put_before_cursor}
use Rattle.insert_prompt.specs.Rows.{prompt_edited}
use Rattle.insert_prompt.proofs.WaitingLemmas.{register-goes-in, register-is-none}
use Rattle.insert_prompt.proofs.prompts.put_register.Goals as goal

pub returns-in-None-clause-row : goal.returns-in-None-clause-row
returns-in-None-clause-row g c = register-is-none c.args.name c.args.who c.args.world.now.flat c.set_pending.new.world.flat (sym c.in-None.is ∙ c.in_ok-register_text.ensures) c.set_pending.ensures

pub returns-in_ok-put-in-Some-clause-row : goal.returns-in_ok-put-in-Some-clause-row
returns-in_ok-put-in-Some-clause-row g c =
    let flat = c.args.world.now.flat in
    register-goes-in c.args.name c.args.who flat c.put.new.world.flat c.set_pending-in-Some.new.world.flat c.in-Some.text (sym c.in-Some.is ∙ c.in_ok-register_text.ensures)
    (c.in_ok-put-in-Some.ensures.ok ∙ ap (λ t. prompt_edited (put_before_cursor t) c.args.who flat) c.as_slice.ensures) c.set_pending-in-Some.ensures
