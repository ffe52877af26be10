use Rattle.std.proofs.Common.{[], ◌∷◌, refl}
use Rattle.session_events.specs.Entries.{entry_with}
use Rattle.kak_engine.proofs.SeatingLemmas.{step-honest}
use Rattle.kak_app.proofs.GenLemmas.{stays-here}
use Rattle.kak_app.proofs.generating.play.Goals as goal

pub returns-in-Ok-clause-adds : goal.returns-in-Ok-clause-adds
returns-in-Ok-clause-adds g c =
    let t = c.in-Ok.ensures.takes in
    record { entries = entry_with c.args.who c.args.event.now t.answers ∷ []; keeps = t.keeps; are = refl }

pub returns-in-Ok-clause-honest : goal.returns-in-Ok-clause-honest
returns-in-Ok-clause-honest g c = λ first was. step-honest first c.args.who c.args.event.now c.args.engine.now c.step.new.self was c.step.result c.step.ensures.refused c.step.ensures.stays c.step.ensures.answered c.step.ensures.takes c.step.ensures.err c.step.ensures.left c.step.ensures.mark c.step.ensures.rescued

pub returns-in-Ok-clause-others : goal.returns-in-Ok-clause-others
returns-in-Ok-clause-others g c = λ stays k here.
    let t = c.in-Ok.ensures.takes in
    stays-here k c.args.who c.args.event.now t.answers c.args.engine.now.history c.step.new.self.history t.keeps stays here

pub returns-in-Err-clause-honest : goal.returns-in-Err-clause-honest
returns-in-Err-clause-honest g c = λ first was. step-honest first c.args.who c.args.event.now c.args.engine.now c.step.new.self was c.step.result c.step.ensures.refused c.step.ensures.stays c.step.ensures.answered c.step.ensures.takes c.step.ensures.err c.step.ensures.left c.step.ensures.mark c.step.ensures.rescued
