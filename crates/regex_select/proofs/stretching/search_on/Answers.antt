use Rattle.std.proofs.Common.{◌<◌, length, arith}
use Rattle.std.proofs.lemmas.List.{get_or_default}
use Rattle.regex_select.proofs.WayLemmas.{underway-more}
use Rattle.regex_select.proofs.stretching.search_on.Goals as goal

pub loop-n-preserved : goal.loop-n-preserved
loop-n-preserved c =
    let below : c.loop-n.n < length c.loop-n.list = omega (arith, c.loop-n-test.true, c.loop-n.invariant.same) in
    underway-more c.args.search c.args.matches.now c.args.list.now c.loop-n.list c.loop-n.n c.loop-n.passed c.first_ahead-passed.result _ c.match_at.result c.reached.result c.loop-n.invariant c.requires.order below (λ d. get_or_default c.loop-n.list c.loop-n.n _ d below)
    c.first_ahead-passed.ensures.few c.first_ahead-passed.ensures.passed c.first_ahead-passed.ensures.ahead c.match_at.ensures c.reached.ensures
