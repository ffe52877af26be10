use Rattle.std.proofs.Common.{◌≡◌, ◌<◌, true, false, length, Err, ap, sym, subst, ◌∙◌, arith, refl}
use Rattle.kak_world.proofs.WorldLaws.{acts_joined, acts_turned}
use Rattle.kak_world.proofs.WorldLemmas.{here-of, shown-inside, shown-not_none, text-of, buffer-of, changed-of, same-of}
use Rattle.buffer_store.specs.Buffers.{AreSplicesOf, flat_splices, changes_of}
use Rattle.kak_world.proofs.RowAnswers.{edit-done, edit-refused, edited-of, some-edited}
use Rattle.undo_model.specs.Stories.{is_undo_full}
use Rattle.undo_model.specs.Edits.{is_too_long}
use Rattle.undo_model.specs.Steps.{AreSteps}
use Rattle.buffer_store.specs.Stored.{change_shifts}
use Rattle.kak_world.specs.Flat.{Buffer, rest_of, turn_of, is_turn_of, text_of, story_of}
use Rattle.kak_world.proofs.AnswerLemmas.{ok-err}
use Rattle.kak_world.specs.Seen.{Kept, all_seen}
use Rattle.kak_world.proofs.KeptLemmas.{seen-length, seen-at, seen-some, seen-none, kept-at, parts-set}
use Rattle.kak_world.proofs.StandingLemmas.{stands-edited}
use Rattle.kak_world.proofs.StoredLemmas.{follows-turn, leave-set, some-leaves}
use Rattle.list_shelf.specs.declared.holder.Holder.TheVariants.{Of}
use Rattle.kak_world.proofs.world.World.edit.Goals.{in-Ok, in-Err}
use Rattle.kak_world.proofs.world.World.edit.Goals as goal

pub client-requires : goal.client-requires
client-requires g c = here-of c.args.who _ _ _ _ c.self.view_is (acts_joined c.args.who c.args.self.now.flat c.requires.acts)

pub index_mut-requires : goal.index_mut-requires
index_mut-requires g c = let inside : c.client.result.now.shown < length (all_seen c.self.inside.buffers.items) = shown-inside c.args.who _ _ _ _ _ c.self.view_is c.client.ensures (acts_joined c.args.who c.args.self.now.flat c.requires.acts) in omega (arith, seen-length c.self.inside.buffers.items, c.self.inside.buffers.ok.0)

pub unreachable-requires : goal.unreachable-requires
unreachable-requires g c = shown-not_none c.args.who _ _ _ _ _ _ c.self.view_is c.client.ensures (acts_joined c.args.who c.args.self.now.flat c.requires.acts) (seen-at c.self.inside.buffers.items c.client.result.now.shown _ c.index_mut.ensures.value) (seen-none _ c.in-None.is)

pub edit-done-requires : goal.edit-done-requires
edit-done-requires g c = subst (λ t. AreSplicesOf t c.args.splices.now) (sym (text-of c.args.who _ _ _ _ _ _ _ c.self.view_is c.client.ensures (acts_joined c.args.who c.args.self.now.flat c.requires.acts) (seen-at c.self.inside.buffers.items c.client.result.now.shown _ c.index_mut.ensures.value) (seen-some _ _ c.in-Some.is))) c.requires.splices

pub invariant_of-self : goal.invariant_of-self
unfolding rest_of
invariant_of-self g c =
    let inside = shown-inside c.args.who _ _ _ _ _ c.self.view_is c.client.ensures (acts_joined c.args.who c.args.self.now.flat c.requires.acts) in
    stands-edited _ c.args.who _ _ _ _ _ _ (ap (λ (k : Kept). is_turn_of c.args.who (turn_of k.flat)) c.self.view_is ∙ acts_turned c.args.who c.args.self.now.flat c.requires.acts) c.client.ensures (kept-at _ _ _ _ inside c.index_mut.ensures.value c.in-Some.is) c.edit-done.ensures.up
    (follows-turn _ c.args.who _ _ _ (ap (λ (k : Kept). is_turn_of c.args.who (turn_of k.flat)) c.self.view_is ∙ acts_turned c.args.who c.args.self.now.flat c.requires.acts) (leave-set (Of c.args.who) _ _ _ _ c.index_mut.ensures.value (some-leaves (Of c.args.who) _ _ _ _ c.in-Some.is refl c.edit-done.ensures.stays)))
    c.differs_behind-self-inside.ensures
    c.self.invariant

pub returns-clause-row : goal.returns-clause-row
unfolding text_of story_of
returns-clause-row g c =
    let b = (buffer-of c.args.who _ _ _ _ _ _ _ c.self.view_is c.client.ensures (acts_joined c.args.who c.args.self.now.flat c.requires.acts) (seen-at c.self.inside.buffers.items c.client.result.now.shown _ c.index_mut.ensures.value) (seen-some _ _ c.in-Some.is)) in
    let ss = c.args.splices.now in
    let who = c.args.who in
    elim c.match-done.branch [
      | in-Ok w ↦
          rw w.result-is (edit-done (flat_splices (text_of who c.args.self.now.flat) ss) who c.args.self.now.flat _
          (edited-of ss who c.args.self.now.flat _ _ _ b w.in-Ok.ensures.ok (λ f t. parts-set _ _ _ _ _ ∙ changed-of c.args.who _ _ _ _ _ _ _ _ f c.self.view_is c.client.ensures (acts_joined c.args.who c.args.self.now.flat c.requires.acts) (seen-at c.self.inside.buffers.items c.client.result.now.shown _ c.index_mut.ensures.value) (seen-some _ _ c.in-Some.is) t))
          (subst (λ (x : Buffer). is_undo_full who (changes_of x.story.text ss) x.story ≡ true → ⊥) b (λ t. ok-err _ _ (w.in-Ok.ensures.undo_full.1 t)))
          (subst (λ (x : Buffer). is_undo_full who (changes_of x.story.text ss) x.story ≡ false → is_too_long (length x.story.text) x.story.text (flat_splices x.story.text ss) ≡ true → ⊥) b (λ t l. ok-err _ _ (w.in-Ok.ensures.text_full.1 (t, l)))))
      | in-Err w ↦
          rw w.result-is (rw w.from.ensures (edit-refused w.in-Err.error (flat_splices (text_of who c.args.self.now.flat) ss) who c.args.self.now.flat _
          (λ e. (subst (λ (x : Buffer). is_undo_full who (changes_of x.story.text ss) x.story ≡ true) b (w.in-Err.ensures.undo_full.0 (ap Err e)), (parts-set _ _ _ _ _ ∙ same-of c.args.who _ _ _ _ _ _ _ _ c.self.view_is c.client.ensures (acts_joined c.args.who c.args.self.now.flat c.requires.acts) (seen-at c.self.inside.buffers.items c.client.result.now.shown _ c.index_mut.ensures.value) (seen-some _ _ c.in-Some.is) (w.in-Err.ensures.undo_left (ap Err e)))))
          (λ e. ((subst (λ (x : Buffer). is_undo_full who (changes_of x.story.text ss) x.story ≡ false) b (w.in-Err.ensures.text_full.0 (ap Err e)).0, subst (λ (x : Buffer). is_too_long (length x.story.text) x.story.text (flat_splices x.story.text ss) ≡ true) b (w.in-Err.ensures.text_full.0 (ap Err e)).1), (parts-set _ _ _ _ _ ∙ same-of c.args.who _ _ _ _ _ _ _ _ c.self.view_is c.client.ensures (acts_joined c.args.who c.args.self.now.flat c.requires.acts) (seen-at c.self.inside.buffers.items c.client.result.now.shown _ c.index_mut.ensures.value) (seen-some _ _ c.in-Some.is) (w.in-Err.ensures.text_left (ap Err e)))))))
    ]

pub returns-clause-shifts : goal.returns-clause-shifts
unfolding text_of
returns-clause-shifts g c =
    let b = (buffer-of c.args.who _ _ _ _ _ _ _ c.self.view_is c.client.ensures (acts_joined c.args.who c.args.self.now.flat c.requires.acts) (seen-at c.self.inside.buffers.items c.client.result.now.shown _ c.index_mut.ensures.value) (seen-some _ _ c.in-Some.is)) in
    elim c.match-done.branch [
      | in-Ok w ↦ rw w.result-is (w.in-Ok.ensures.shifts ∙ ap (λ (x : Buffer). change_shifts x.story.text (changes_of x.story.text c.args.splices.now)) b)
      | in-Err w ↦ rw w.result-is tt
    ]

pub returns-clause-wanting : goal.returns-clause-wanting
unfolding text_of
returns-clause-wanting g c =
    let b = (buffer-of c.args.who _ _ _ _ _ _ _ c.self.view_is c.client.ensures (acts_joined c.args.who c.args.self.now.flat c.requires.acts) (seen-at c.self.inside.buffers.items c.client.result.now.shown _ c.index_mut.ensures.value) (seen-some _ _ c.in-Some.is)) in
    elim c.match-done.branch [
      | in-Ok w ↦ rw w.result-is (λ h. absurd (ok-err _ _ h))
      | in-Err w ↦ rw w.result-is (λ h. some-edited c.args.who _ _ c.args.self.now.flat _ _ _ (ap (λ (x : Buffer). changes_of x.story.text c.args.splices.now) b) w.in-Err.ensures.err (λ f t. parts-set _ _ _ _ _ ∙ changed-of c.args.who _ _ _ _ _ _ _ _ f c.self.view_is c.client.ensures (acts_joined c.args.who c.args.self.now.flat c.requires.acts) (seen-at c.self.inside.buffers.items c.client.result.now.shown _ c.index_mut.ensures.value) (seen-some _ _ c.in-Some.is) t))
    ]

pub returns-clause-steps : goal.returns-clause-steps
unfolding text_of
returns-clause-steps g c =
    let b = (buffer-of c.args.who _ _ _ _ _ _ _ c.self.view_is c.client.ensures (acts_joined c.args.who c.args.self.now.flat c.requires.acts) (seen-at c.self.inside.buffers.items c.client.result.now.shown _ c.index_mut.ensures.value) (seen-some _ _ c.in-Some.is)) in
    elim c.match-done.branch [
      | in-Ok w ↦ rw w.result-is (subst (λ (x : Buffer). AreSteps x.story.text (changes_of x.story.text c.args.splices.now)) b w.in-Ok.ensures.steps)
      | in-Err w ↦ rw w.result-is tt
    ]

pub returns-clause-edits : goal.returns-clause-edits
returns-clause-edits g c =
    let b = (buffer-of c.args.who _ _ _ _ _ _ _ c.self.view_is c.client.ensures (acts_joined c.args.who c.args.self.now.flat c.requires.acts) (seen-at c.self.inside.buffers.items c.client.result.now.shown _ c.index_mut.ensures.value) (seen-some _ _ c.in-Some.is)) in
    elim c.match-done.branch [
      | in-Ok w ↦ rw w.result-is (edited-of c.args.splices.now c.args.who c.args.self.now.flat _ _ _ b w.in-Ok.ensures.ok (λ f t. parts-set _ _ _ _ _ ∙ changed-of c.args.who _ _ _ _ _ _ _ _ f c.self.view_is c.client.ensures (acts_joined c.args.who c.args.self.now.flat c.requires.acts) (seen-at c.self.inside.buffers.items c.client.result.now.shown _ c.index_mut.ensures.value) (seen-some _ _ c.in-Some.is) t))
      | in-Err w ↦ rw w.result-is tt
    ]
