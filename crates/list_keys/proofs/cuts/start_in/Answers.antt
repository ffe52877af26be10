use Rattle.std.proofs.Common.{arith}
use Rattle.list_keys.proofs.CutLemmas.{start-here, start-next, start-none}
use Rattle.list_keys.proofs.cuts.start_in.Goals as goal

pub returns-then-sel-eq0 : goal.returns-then-sel-eq0
returns-then-sel-eq0 c = λ text t h. (h.low, start-here text c.args.sel t h c.if-sel-eq0.true)

pub returns-then-sel : goal.returns-then-sel
returns-then-sel c = λ text t h. start-next text c.args.sel t h (omega (arith, c.if-sel-eq0.false)) c.if-sel.true

pub returns : goal.returns
returns c = λ text t h. start-none text c.args.sel t h (omega (arith, c.if-sel-eq0.false)) (omega (arith, c.if-sel.false))
