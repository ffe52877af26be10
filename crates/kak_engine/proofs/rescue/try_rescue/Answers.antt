use Rattle.std.proofs.Common.{sym, ◌∙◌}
use Rattle.kak_engine.proofs.RescueLemmas.{read-done, read-failed, read-wanting}
use Rattle.kak_engine.proofs.rescue.try_rescue.Goals as goal

pub returns-in-Ok-Done-clause-tried : goal.returns-in-Ok-Done-clause-tried
returns-in-Ok-Done-clause-tried g c =
    read-done c.args.n _ _ (c.in-Some.buffer.now.seen) c.name.result.now c.in-Ok-Done.field-0 _ _ c.in-Some.ensures (sym c.is_modified.ensures ∙ c.if-not-is_modified.false) c.name.ensures c.in-Ok-Done.field-0-is c.in-Ok-Done.ensures.honest

pub returns-in-Ok-Failed-clause-tried : goal.returns-in-Ok-Failed-clause-tried
returns-in-Ok-Failed-clause-tried g c =
    read-failed c.args.n _ _ (c.in-Some.buffer.now.seen) c.name.result.now c.in-Ok-Failed.field-0 _ _ c.in-Some.ensures (sym c.is_modified.ensures ∙ c.if-not-is_modified.false) c.name.ensures c.in-Ok-Failed.field-0-is c.in-Ok-Failed.ensures.honest

pub returns-in-Err-clause-tried : goal.returns-in-Err-clause-tried
returns-in-Err-clause-tried g c =
    read-wanting c.args.n _ _ (c.in-Some.buffer.now.seen) _ _ c.in-Some.ensures (sym c.is_modified.ensures ∙ c.if-not-is_modified.false) c.in-Err.ensures.err
