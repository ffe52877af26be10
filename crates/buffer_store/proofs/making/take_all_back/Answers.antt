use Rattle.std.proofs.Common.{List, ℕ, ◌≡◌, ◌+◌, ◌-◌, ◌<◌, ◌∷◌, [], length, sym, subst, ◌∙◌, arith}
use Rattle.buffer_store.specs.Stored.{IsMade}
use Rattle.buffer_store.proofs.MakingLemmas.{on_any, is_made-back}
use Rattle.buffer_store.proofs.TraceLemmas.{text-after, backs-less, some-back, after-more}
use Rattle.buffer_store.proofs.making.take_all_back.Goals as goal

pub take_back_noted-requires : goal.take_back_noted-requires
take_back_noted-requires c =
    let k = c.index-changes-left.result in
    let up : c.loop-left.left - 1 + 1 ≡ c.loop-left.left = omega (arith, c.loop-left-test.true) in
    let lt : c.loop-left.left - 1 < length c.args.changes.now = omega (arith, c.loop-left-test.true, c.loop-left.invariant.bound) in
    let P : List ℕ → Type 0 = λ t. IsMade t (k ∷ []) in
    subst P (sym (text-after _ _ _ _ _ _ _ c.loop-left.invariant.traced)) (is_made-back c.args.lines.now c.args.changes.now (c.loop-left.left - 1) c.loop-left.left k c.requires up lt c.index-changes-left.is)

pub returns-in_err-take_back_noted-clause-err : goal.returns-in_err-take_back_noted-clause-err
returns-in_err-take_back_noted-clause-err c =
    on_any c.from_residual.result _ (some-back _ _ c.args.changes.now c.loop-left.left (c.in_err-take_back_noted.ensures.err ∙ c.loop-left.invariant.traced))

pub loop-left-preserved : goal.loop-left-preserved
loop-left-preserved c =
    let k = c.index-changes-left.result in
    let up : c.loop-left.left - 1 + 1 ≡ c.loop-left.left = omega (arith, c.loop-left-test.true) in
    let lt : c.loop-left.left - 1 < length c.args.changes.now = omega (arith, c.loop-left-test.true, c.loop-left.invariant.bound) in
    record {
      bound = omega (arith, lt);
      traced = after-more _ _ _ _ _ _ c.loop-left.invariant.traced c.in_ok-take_back_noted.ensures.ok (backs-less c.args.lines.now c.loop-left.lines c.args.changes.now (c.loop-left.left - 1) c.loop-left.left k up lt c.index-changes-left.is (text-after _ _ _ _ _ _ _ c.loop-left.invariant.traced));
    }
