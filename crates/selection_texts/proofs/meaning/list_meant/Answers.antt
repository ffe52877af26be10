use Rattle.std.proofs.Common.{◌<◌, length, arith}
use Rattle.std.proofs.lemmas.Result.{IfOk-weaker}
use Rattle.selection_texts.proofs.ColumnLemmas.{list-of_pairs}
use Rattle.selection_texts.proofs.meaning.list_meant.Goals as goal

pub returns-clause-list : goal.returns-clause-list
returns-clause-list c =
    let some : 0 < length c.in_ok-pairs.pairs.items = omega (arith, c.in_ok-pairs.ensures.count) in
    IfOk-weaker c.of_pairs.result _ _
    (λ s settles. list-of_pairs c.args.lines.now c.in_ok-pairs.pairs.items c.as_slice.result.now _ s c.as_slice.ensures.value c.in_ok-pairs.ensures.inside some c.in_ok-pairs.ensures.value settles)
    c.of_pairs.ensures.settles
