use Rattle.std.proofs.Common.{ℕ, List, sym, subst, ◌∙◌}
use Rattle.buffer_store.specs.Stored.{KeptFits}
use Rattle.buffer_store.proofs.MakingLemmas.{on_any, fit-at}
use Rattle.buffer_store.proofs.TraceLemmas.{text-made, flats-more, some-made, after-more}
use Rattle.buffer_store.proofs.making.make_all.Goals as goal

pub make_noted-requires : goal.make_noted-requires
make_noted-requires c =
    let P : List ℕ → Type 0 = λ t. KeptFits t c.change-item.result in
    subst P (sym (text-made _ _ _ _ _ _ _ c.loop-change.invariant)) (fit-at c.args.lines.now c.args.changes.now c.loop-change.change-index c.change-item.result c.requires c.loop-change-test.true c.change-item.is)

pub returns-in_err-make_noted-clause-err : goal.returns-in_err-make_noted-clause-err
returns-in_err-make_noted-clause-err c =
    on_any c.from_residual.result _ (some-made _ _ c.args.changes.now c.loop-change.change-index (c.in_err-make_noted.ensures.err ∙ c.loop-change.invariant))

pub loop-change-preserved : goal.loop-change-preserved
loop-change-preserved c =
    after-more _ _ _ _ _ _ c.loop-change.invariant c.in_ok-make_noted.ensures.ok (flats-more c.args.lines.now c.loop-change.lines c.args.changes.now c.loop-change.change-index c.change-item.result c.loop-change-test.true c.change-item.is (text-made _ _ _ _ _ _ _ c.loop-change.invariant))
