use Rattle.std.proofs.Common.{◌≡◌, true, sym, subst}
use Rattle.std.specs.Prelude.{IfOk, OnOk}
use Rattle.session_events.specs.Entries.{is_join}
use Rattle.kak_world.specs.Flat.{Flat, is_joined}
use Rattle.kak_engine.specs.Steps.{output_of}
use Rattle.kak_engine.proofs.resting.run_inside.Goals as goal

pub returns-clause-gives : goal.returns-clause-gives
returns-clause-gives g c =
    subst (λ (f : Flat). IfOk c.run_with_places-ran.result (λ output. output ≡ output_of c.args.who c.args.event.now c.run_with_places-ran.new.answers f)) c.into_step-stepping.ensures c.run_with_places-ran.ensures.gives

pub returns-clause-joined : goal.returns-clause-joined
returns-clause-joined g c =
    subst (λ (f : Flat). OnOk c.run_with_places-ran.result (is_join c.args.event.now ≡ true → is_joined c.args.who f ≡ true)) (sym c.out_of_step.ensures.flat) c.run_with_places-ran.ensures.joined
