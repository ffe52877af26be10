use Rattle.std.proofs.Common.{◌≡◌, true, ◌+◌, ◌≤◌, length, sym, ap, subst, ◌∙◌, arith}
use Rattle.std.specs.Prelude.{if◌then◌else◌}
use Rattle.kak_world.specs.declared.world.TheConstants.{MAX_CLIENTS}
use Rattle.kak_engine.proofs.SeatingLemmas.{step-honest}
use Rattle.session_events.specs.Entries.{is_coming}
use Rattle.session_events.specs.Counting.{here_after}
use Rattle.engine_desk.specs.Sharing.{Shared}
use Rattle.engine_desk.proofs.PlayLemmas.{granted, marks-behind}
use Rattle.engine_desk.proofs.WorldLemmas.{room-beside, beside-taken, beside-refused}
use Rattle.engine_desk.proofs.shared.SharedEnginePlayed.play.Goals as goal

pub note-requires-clause-room : goal.note-requires-clause-room
note-requires-clause-room g c j =
    let x = c.self.inside.engine in
    let free = granted c.args.who c.args.mv.now x c.step.new.self c.in-Ok.output c.in-Ok.ensures.refused in
    let room : length c.self.inside.here.items + 1 ≤ MAX_CLIENTS = room-beside x c.step.new.self _ _ _ _ c.self.invariant.1 c.args.who c.args.mv.now free (subst (λ k. is_coming k ≡ true) c.kind_of-kind.ensures j) in
    omega (arith, room, c.self.invariant.1.fits, c.self.inside.here.ok.0)

pub invariant_of-self : goal.invariant_of-self
invariant_of-self g c =
    let x = c.self.inside.engine in let y = c.step.new.self in
    let free = granted c.args.who c.args.mv.now x y c.in-Ok.output c.in-Ok.ensures.refused in (
      step-honest _ c.args.who c.args.mv.now x y c.self.invariant.0 c.step.result c.step.ensures.refused c.step.ensures.stays c.step.ensures.answered c.step.ensures.takes c.step.ensures.err c.step.ensures.left c.step.ensures.mark c.step.ensures.rescued,
      beside-taken x y _ _ _ _ c.self.invariant.1 c.args.who c.args.mv.now c.in-Ok.ensures.takes.answers free c.in-Ok.ensures.takes.keeps c.in-Ok.ensures.mark _ _ _
          (subst (λ k. c.note.new.here.items ≡ here_after c.args.who k c.self.inside.here.items) c.kind_of-kind.ensures c.note.ensures.here) c.note.ensures.room
          (subst (λ k. c.note.new.joins ≡ c.self.inside.joins + (if is_coming k then 1 else 0)) c.kind_of-kind.ensures c.note.ensures.joins),
    )

pub invariant_of-self-in-Err : goal.invariant_of-self-in-Err
invariant_of-self-in-Err g c =
    let x = c.self.inside.engine in let y = c.step.new.self in (
      step-honest _ c.args.who c.args.mv.now x y c.self.invariant.0 c.step.result c.step.ensures.refused c.step.ensures.stays c.step.ensures.answered c.step.ensures.takes c.step.ensures.err c.step.ensures.left c.step.ensures.mark c.step.ensures.rescued,
      beside-refused x y _ _ _ _ c.self.invariant.1 _ c.in-Err.ensures.err
          (marks-behind x y c.self.inside.mark c.in-Err.fault c.count-count.result c.in-Err.ensures.mark c.self.invariant.1.mark_is (c.count-count.ensures.exact ∙ ap (λ (s : Shared). length s.engine.history) (sym c.self.view_is)) ∙ sym c.mark_behind-self-inside.ensures),
    )
