use Rattle.std.proofs.Common.{◌≡◌, refl, ◌∙◌, arith}
use Rattle.session_events.specs.declared.event.Event.TheVariants.{Join}
use Rattle.kak_app.proofs.GenLemmas.{on-err, adds-none, each-lost, each-next, each-all, here-next}
use Rattle.kak_app.proofs.generating.come_all.Goals as goal

pub loop-who-init : goal.loop-who-init
loop-who-init g c = record { adds = adds-none _; within = omega arith; whole = refl; honest = λ first was. was; here = λ k less. absurd (omega (arith, less)) }

pub loop-who-preserved : goal.loop-who-preserved
loop-who-preserved g c = record {
  adds = each-next Join c.loop-who.who _ _ _ c.loop-who.invariant.adds c.in_ok-play.ensures.adds;
  within = omega (arith, c.loop-who-test.true);
  whole = c.in_ok-play.ensures.whole ∙ c.loop-who.invariant.whole;
  honest = λ first was. c.play.ensures.honest first (c.loop-who.invariant.honest first was);
  here = here-next c.loop-who.who c.loop-who.engine.history c.play.new.engine.history c.loop-who.invariant.here (c.in_ok-play.ensures.here refl) (c.in_ok-play.ensures.others refl);
}

pub returns-in_err-play-clause-lost : goal.returns-in_err-play-clause-lost
returns-in_err-play-clause-lost g c =
    on-err c.from_residual.result (each-lost Join c.loop-who.who c.args.clients _ _ _ c.loop-who.invariant.within c.loop-who.invariant.adds c.in_err-play.ensures.stays)

pub returns-in_err-play-clause-honest : goal.returns-in_err-play-clause-honest
returns-in_err-play-clause-honest g c = λ first was. c.play.ensures.honest first (c.loop-who.invariant.honest first was)

pub returns-clause-adds : goal.returns-clause-adds
returns-clause-adds g c =
    let all : c.loop-who.who ≡ c.args.clients = omega (arith, c.loop-who.invariant.within, c.loop-who-test.false) in
    each-all Join c.loop-who.who c.args.clients _ _ all c.loop-who.invariant.adds

pub returns-clause-here : goal.returns-clause-here
returns-clause-here g c = λ k less. c.loop-who.invariant.here k (omega (arith, less, c.loop-who-test.false))
