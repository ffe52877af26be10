use Rattle.std.proofs.Common.{◌≡◌, suc, ◌+◌, ◌-◌, refl, ◌∙◌, arith}
use Rattle.kak_app.proofs.GenLemmas.{on-err, drawn-begun, drawn-next, drawn-lost, drawn-all}
use Rattle.kak_app.proofs.generating.strike_all.Goals as goal

pub loop-init : goal.loop-init
loop-init g c = record {
  drawn = drawn-begun c.args.session.clients c.args.session.keys c.args.session.seed (c.args.session.keys - 0) c.new-draws.result.state _ (omega arith) c.new-draws.ensures;
  within = omega arith;
  whole = refl;
  honest = λ first was. was;
  here = c.requires.here;
}

pub loop-preserved : goal.loop-preserved
loop-preserved g c =
    let one : c.args.session.keys - c.loop.counter ≡ suc (c.args.session.keys - (c.loop.counter + 1)) = omega (arith, c.loop-test.true) in
    record {
      drawn = drawn-next c.args.session.clients c.args.session.keys c.args.session.seed _ _ c.loop.draws.state _ c.strike-struck.result _ _ _ one c.strike-struck.ensures.state c.strike-struck.ensures.strike c.loop.invariant.drawn c.in_ok-play.ensures.adds;
      within = omega (arith, c.loop-test.true);
      whole = c.in_ok-play.ensures.whole ∙ c.loop.invariant.whole;
      honest = λ first was. c.play.ensures.honest first (c.loop.invariant.honest first was);
      here = λ k less. c.in_ok-play.ensures.others refl k (c.loop.invariant.here k less);
    }

pub returns-in_err-play-clause-lost : goal.returns-in_err-play-clause-lost
returns-in_err-play-clause-lost g c =
    on-err c.from_residual.result (drawn-lost c.args.session.clients c.args.session.keys c.args.session.seed _ c.loop.draws.state _ _ _ c.loop.invariant.drawn c.in_err-play.ensures.stays)

pub returns-in_err-play-clause-honest : goal.returns-in_err-play-clause-honest
returns-in_err-play-clause-honest g c = λ first was. c.play.ensures.honest first (c.loop.invariant.honest first was)

pub returns-clause-adds : goal.returns-clause-adds
returns-clause-adds g c =
    let none : c.args.session.keys - c.loop.counter ≡ 0 = omega (arith, c.loop-test.false) in
    drawn-all c.args.session.clients c.args.session.keys c.args.session.seed _ c.loop.draws.state _ _ none c.loop.invariant.drawn
