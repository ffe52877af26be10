use Rattle.std.proofs.Common.{◌≡◌, ℕ, List, [], ◌∷◌, length, refl, sym, ◌∙◌}
use Rattle.std.proofs.lemmas.Bool.{eqb-true}
use Rattle.kak_ports.proofs.Writing.{written-start, written-step, written-kept, written-front, written-all}
use Rattle.kak_ports.proofs.real.WriteSinkSink.put.Goals as goal

no_bytes : (xs : List ℕ) → length xs ≡ 0 → xs ≡ []
no_bytes [] e = refl
no_bytes (x ∷ xs) e = cc

pub loop-rest-init : goal.loop-rest-init
loop-rest-init g c = (written-start _ _, refl)

pub loop-rest-preserved : goal.loop-rest-preserved
loop-rest-preserved g c = (rw c.all_after-rest.ensures (written-step _ _ (c.loop-rest.invariant.0) (c.in-Ok.ensures.bytes)), c.loop-rest.invariant.1)

pub returns-in-Ok-eq0-clause-puts : goal.returns-in-Ok-eq0-clause-puts
returns-in-Ok-eq0-clause-puts g c = rw (c.fail.ensures.failed, c.fail.ensures.writer) (written-front (written-step _ _ (c.loop-rest.invariant.0) (c.in-Ok-eq0.ensures.bytes)))

pub returns-in-Err-clause-puts : goal.returns-in-Err-clause-puts
returns-in-Err-clause-puts g c = rw (c.fail-in-Err.ensures.failed, c.fail-in-Err.ensures.writer) (written-front (written-kept _ (c.loop-rest.invariant.0) (c.in-Err.ensures.bytes)))

pub returns-in-Ok-flush-clause-puts : goal.returns-in-Ok-flush-clause-puts
returns-in-Ok-flush-clause-puts g c = written-all (no_bytes _ (eqb-true _ _ (sym c.is_empty.ensures ∙ c.loop-rest-test.false))) (written-kept _ (c.loop-rest.invariant.0) (c.in-Ok-flush.ensures.bytes))
