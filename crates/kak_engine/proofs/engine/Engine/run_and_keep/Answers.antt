use Rattle.std.proofs.Common.{◌≡◌, None, [], ◌∷◌, ◌++◌, refl, sym, ◌∙◌, subst, ap, arith}
use Rattle.session_events.specs.Entries.{kind_of, entry_with}
use Rattle.kak_engine.specs.Held.{HeldEngine, refused_at}
use Rattle.kak_engine.specs.Steps.{run, IsStepLeft}
use Rattle.kak_engine.proofs.RunLemmas.{mark-none, can-step, leaver-joined, stands-more, left-stands, in-more, left-known}
use Rattle.kak_engine.proofs.JoinedLemmas.{knows-more, knows-left}
use Rattle.kak_engine.proofs.KeyLemmas.{left-cut, left-coming}
use Rattle.kak_engine.proofs.StoredLemmas.{leaves-same}
use Rattle.kak_engine.proofs.TurnLemmas.{nobody-turns}
use Rattle.kak_world.specs.Stored.{LeavesOthersOf}
use Rattle.kak_engine.proofs.engine.Engine.run_and_keep.Goals as goal

pub leave_in_step-requires-clause-joined : goal.leave_in_step-requires-clause-joined
leave_in_step-requires-clause-joined g c =
    leaver-joined c.args.who (kind_of c.args.event.now) _ (sym c.is_leave.ensures ∙ c.if-is_leave.true)
    (can-step _ _ _ _ _ c.args.who c.args.event.now c.self.invariant.0 (subst (λ (h : HeldEngine). refused_at h.mark h.history h.limit c.args.who c.args.event.now ≡ None) (sym c.self.view_is) c.requires.allowed))

pub run_in_step-ran-requires-clause-runs : goal.run_in_step-ran-requires-clause-runs
run_in_step-ran-requires-clause-runs g c = can-step _ _ _ _ _ c.args.who c.args.event.now c.self.invariant.0 (subst (λ (h : HeldEngine). refused_at h.mark h.history h.limit c.args.who c.args.event.now ≡ None) (sym c.self.view_is) c.requires.allowed)

pub invariant_of-self : goal.invariant_of-self
invariant_of-self g c = (
  left-stands _ _ _ _ _ _ _ c.args.who c.args.event.now c.self.invariant.0 (subst (λ (h : HeldEngine). refused_at h.mark h.history h.limit c.args.who c.args.event.now ≡ None) (sym c.self.view_is) c.requires.allowed)
      (sym c.is_leave.ensures ∙ c.if-is_leave.true) c.leave_in_step.ensures.leads c.leave_in_step.ensures.asked c.leave_in_step.ensures.none c.leave_in_step.ensures.keeps,
  λ m. c.leave_in_step.ensures.places,
  knows-left _ _ _ _ _ c.args.who (mark-none _ _ _ c.args.who c.args.event.now (subst (λ (h : HeldEngine). refused_at h.mark h.history h.limit c.args.who c.args.event.now ≡ None) (sym c.self.view_is) c.requires.allowed)) c.self.invariant.2 c.leave_in_step.ensures.keeps,
)

pub returns-then-not-has_hooks-clause-legal : goal.returns-then-not-has_hooks-clause-legal
returns-then-not-has_hooks-clause-legal g c =
    (left-stands _ _ _ _ _ _ _ c.args.who c.args.event.now c.self.invariant.0 (subst (λ (h : HeldEngine). refused_at h.mark h.history h.limit c.args.who c.args.event.now ≡ None) (sym c.self.view_is) c.requires.allowed)
    (sym c.is_leave.ensures ∙ c.if-is_leave.true) c.leave_in_step.ensures.leads c.leave_in_step.ensures.asked c.leave_in_step.ensures.none c.leave_in_step.ensures.keeps).legal

pub invariant_of-self-in-Ok-ran : goal.invariant_of-self-in-Ok-ran
invariant_of-self-in-Ok-ran g c = (
  stands-more _ _ _ _ _ _ _ _ _ c.args.who c.args.event.now c.run_in_step-ran.new.answers c.self.invariant.0 (subst (λ (h : HeldEngine). refused_at h.mark h.history h.limit c.args.who c.args.event.now ≡ None) (sym c.self.view_is) c.requires.allowed)
      c.in-Ok-ran.ensures.joined c.in-Ok-ran.ensures.leads c.in-Ok-ran.ensures.asked c.in-Ok-ran.ensures.honest (c.push_reserved.ensures.items ∙ ap (λ h. h ++ entry_with c.args.who c.args.event.now c.run_in_step-ran.new.answers ∷ []) c.run_in_step-ran.ensures.same),
  λ m. omega (arith, c.in-Ok-ran.ensures.places, c.push_reserved.ensures.len, c.push_reserved.ensures.capacity),
  knows-more _ _ c.self.inside.joined c.note_coming.new.joined _ _ c.args.who c.args.event.now (entry_with c.args.who c.args.event.now c.run_in_step-ran.new.answers) (mark-none _ _ _ c.args.who c.args.event.now (subst (λ (h : HeldEngine). refused_at h.mark h.history h.limit c.args.who c.args.event.now ≡ None) (sym c.self.view_is) c.requires.allowed)) c.self.invariant.2 c.in-Ok.ensures.notes (λ q. refl)
      (c.push_reserved.ensures.items ∙ ap (λ h. h ++ entry_with c.args.who c.args.event.now c.run_in_step-ran.new.answers ∷ []) c.run_in_step-ran.ensures.same),
)

pub returns-in-Ok-ran-clause-joined : goal.returns-in-Ok-ran-clause-joined
returns-in-Ok-ran-clause-joined g c = in-more _ _ _ _ c.args.who c.args.event.now c.run_in_step-ran.new.answers (subst (λ (h : HeldEngine). refused_at h.mark h.history h.limit c.args.who c.args.event.now ≡ None) (sym c.self.view_is) c.requires.allowed)
    (c.push_reserved.ensures.items ∙ ap (λ h. h ++ entry_with c.args.who c.args.event.now c.run_in_step-ran.new.answers ∷ []) c.run_in_step-ran.ensures.same)

pub returns-in-Ok-ran-clause-legal : goal.returns-in-Ok-ran-clause-legal
returns-in-Ok-ran-clause-legal g c = (invariant_of-self-in-Ok-ran g c).0.legal

pub returns-in-Err-clause-left : goal.returns-in-Err-clause-left
returns-in-Err-clause-left g c =
    subst (λ (h : HeldEngine). IsStepLeft c.args.who c.args.event.now (run h.history) c.run_in_step-ran.new.resting.flat h.outside (g.O.Outside.seen c.run_in_step-ran.new.outside)) c.self.view_is
    (left-known _ _ _ _ _ _ c.args.who c.args.event.now _ _ c.self.invariant.0 (subst (λ (h : HeldEngine). refused_at h.mark h.history h.limit c.args.who c.args.event.now ≡ None) (sym c.self.view_is) c.requires.allowed) c.in-Err.ensures.cut)

pub returns-in-Err-clause-cut : goal.returns-in-Err-clause-cut
returns-in-Err-clause-cut g c = left-cut c.args.who c.args.event.now _ _ _ _ (returns-in-Err-clause-left g c)

pub returns-in_default-clause-left : goal.returns-in_default-clause-left
returns-in_default-clause-left g c =
    subst (λ (h : HeldEngine). IsStepLeft c.args.who c.args.event.now (run h.history) c.self.inside.world.flat h.outside (g.O.Outside.seen c.self.inside.outside)) c.self.view_is
    (left-known _ _ _ _ _ _ c.args.who c.args.event.now _ _ c.self.invariant.0 (subst (λ (h : HeldEngine). refused_at h.mark h.history h.limit c.args.who c.args.event.now ≡ None) (sym c.self.view_is) c.requires.allowed)
    (left-coming c.args.who c.args.event.now c.self.inside.world.flat (g.O.Outside.seen c.self.inside.outside) c.in_default.ensures.comes))

pub returns-in_default-clause-cut : goal.returns-in_default-clause-cut
returns-in_default-clause-cut g c = left-cut c.args.who c.args.event.now _ _ _ _ (returns-in_default-clause-left g c)

pub leave_in_step-requires-clause-nobody : goal.leave_in_step-requires-clause-nobody
leave_in_step-requires-clause-nobody g c = nobody-turns _ _ _ _ _ c.self.invariant.0 (mark-none _ _ _ c.args.who c.args.event.now (subst (λ (h : HeldEngine). refused_at h.mark h.history h.limit c.args.who c.args.event.now ≡ None) (sym c.self.view_is) c.requires.allowed))

pub run_in_step-ran-requires-clause-nobody : goal.run_in_step-ran-requires-clause-nobody
run_in_step-ran-requires-clause-nobody g c = nobody-turns _ _ _ _ _ c.self.invariant.0 (mark-none _ _ _ c.args.who c.args.event.now (subst (λ (h : HeldEngine). refused_at h.mark h.history h.limit c.args.who c.args.event.now ≡ None) (sym c.self.view_is) c.requires.allowed))

pub returns-then-not-has_hooks-clause-others : goal.returns-then-not-has_hooks-clause-others
returns-then-not-has_hooks-clause-others g c = subst (λ (h : HeldEngine). LeavesOthersOf c.args.who h.stored c.leave_in_step.new.resting.stored) c.self.view_is c.leave_in_step.ensures.others

pub returns-in-Ok-ran-clause-others : goal.returns-in-Ok-ran-clause-others
returns-in-Ok-ran-clause-others g c = subst (λ (h : HeldEngine). LeavesOthersOf c.args.who h.stored c.run_in_step-ran.new.resting.stored) c.self.view_is c.run_in_step-ran.ensures.others

pub returns-in-Err-clause-others : goal.returns-in-Err-clause-others
returns-in-Err-clause-others g c = subst (λ (h : HeldEngine). LeavesOthersOf c.args.who h.stored c.run_in_step-ran.new.resting.stored) c.self.view_is c.run_in_step-ran.ensures.others

pub returns-in_default-clause-others : goal.returns-in_default-clause-others
returns-in_default-clause-others g c = subst (λ (h : HeldEngine). LeavesOthersOf c.args.who h.stored c.self.inside.world.stored) c.self.view_is (leaves-same c.args.who c.self.inside.world.stored)
