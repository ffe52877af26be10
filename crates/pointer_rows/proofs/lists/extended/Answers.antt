use Rattle.pointer_rows.proofs.ExtendLemmas.{IsExtended, main-extended}
use Rattle.pointer_rows.proofs.lists.extended.Goals as goal

pub returns-clause-inside : goal.returns-clause-inside
returns-clause-inside c = λ text h p.
    let done : IsExtended text c.args.sels.now c.args.place c.of_pair.result = main-extended text c.args.sels.now c.main.result c.at.result c.of_pair.result c.anchor.result c.args.place c.main.ensures.value c.at.ensures c.anchor.ensures c.of_pair.ensures h p in
    done.inside

pub returns-clause-extends : goal.returns-clause-extends
returns-clause-extends c = λ text h p.
    let done : IsExtended text c.args.sels.now c.args.place c.of_pair.result = main-extended text c.args.sels.now c.main.result c.at.result c.of_pair.result c.anchor.result c.args.place c.main.ensures.value c.at.ensures c.anchor.ensures c.of_pair.ensures h p in
    done.same
