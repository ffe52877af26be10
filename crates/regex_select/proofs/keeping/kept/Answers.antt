use Rattle.std.proofs.Common.{◌<◌, ◌++◌, ◌∷◌, [], length, sym, ap, ◌∙◌, arith}
use Rattle.regex_select.proofs.FlagLemmas.{flagged-set, flagged-unset}
use Rattle.regex_select.proofs.keeping.kept.Goals as goal
use Rattle.regex_select.proofs.keeping.kept.Goals.{then-flags-n+in_ok-push, else-flags-n}

pub loop-n-preserved : goal.loop-n-preserved
loop-n-preserved c =
    let below : c.loop-n.n < length c.args.sels.now.list = omega (arith, c.loop-n-test.true, c.len-n-end.ensures.value) in
    let there : c.loop-n.n < length c.args.flags.now = omega (arith, below, c.requires) in
    elim c.if-flags-n.branch [
      | then-flags-n+in_ok-push w ↦ rw w.list-is (w.in_ok-push.ensures.ok ∙ ap (λ l. l ++ w.at.result ∷ []) c.loop-n.invariant ∙ sym (flagged-set c.args.flags.now c.args.sels.now.list c.loop-n.n w.at.result there below w.if-flags-n.true (w.at.ensures w.at.result)))
      | else-flags-n w ↦ rw w.list-is (c.loop-n.invariant ∙ sym (flagged-unset c.args.flags.now c.args.sels.now.list c.loop-n.n there below w.if-flags-n.false))
    ]
