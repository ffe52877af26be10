use Rattle.std.proofs.Common.{◌≡◌, ◌<◌, None, length, ap, subst, ◌∙◌, arith, refl}
use Rattle.kak_world.proofs.WorldLaws.{acts_joined, acts_turned}
use Rattle.kak_world.proofs.WorldLemmas.{here-of, shown-inside, shown-not_none, list-of, buffer-of, changed-of}
use Rattle.undo_model.specs.Moves.{target_of}
use Rattle.kak_world.proofs.RowAnswers.{either-none, travel-done, travel-refused, traveled-of, some-cut}
use Rattle.kak_world.specs.Flat.{Buffer, rest_of, turn_of, is_turn_of, story_of}
use Rattle.kak_world.proofs.AnswerLemmas.{ok-err, error-of}
use Rattle.kak_world.specs.Seen.{Kept, all_seen}
use Rattle.kak_world.proofs.KeptLemmas.{seen-length, seen-at, seen-some, seen-none, kept-at, parts-set}
use Rattle.kak_world.proofs.StandingLemmas.{stands-edited}
use Rattle.kak_world.proofs.StoredLemmas.{follows-turn, leave-set, some-leaves}
use Rattle.list_shelf.specs.declared.holder.Holder.TheVariants.{Of}
use Rattle.kak_world.proofs.world.World.travel.Goals.{in-Ok, in-Err}
use Rattle.kak_world.proofs.world.World.travel.Goals as goal

pub client-requires : goal.client-requires
client-requires g c = here-of c.args.who _ _ _ _ c.self.view_is (acts_joined c.args.who c.args.self.now.flat c.requires)

pub index_mut-requires : goal.index_mut-requires
index_mut-requires g c = let inside : c.client.result.now.shown < length (all_seen c.self.inside.buffers.items) = shown-inside c.args.who _ _ _ _ _ c.self.view_is c.client.ensures (acts_joined c.args.who c.args.self.now.flat c.requires) in omega (arith, seen-length c.self.inside.buffers.items, c.self.inside.buffers.ok.0)

pub unreachable-requires : goal.unreachable-requires
unreachable-requires g c = shown-not_none c.args.who _ _ _ _ _ _ c.self.view_is c.client.ensures (acts_joined c.args.who c.args.self.now.flat c.requires) (seen-at c.self.inside.buffers.items c.client.result.now.shown _ c.index_mut.ensures.value) (seen-none _ c.in-None.is)

pub travel-done-requires : goal.travel-done-requires
travel-done-requires g c = list-of c.args.who _ _ _ _ _ _ _ c.self.view_is c.client.ensures (acts_joined c.args.who c.args.self.now.flat c.requires) (seen-at c.self.inside.buffers.items c.client.result.now.shown _ c.index_mut.ensures.value) (seen-some _ _ c.in-Some.is)

pub invariant_of-self : goal.invariant_of-self
unfolding rest_of
invariant_of-self g c =
    let inside = shown-inside c.args.who _ _ _ _ _ c.self.view_is c.client.ensures (acts_joined c.args.who c.args.self.now.flat c.requires) in
    stands-edited _ c.args.who _ _ _ _ _ _ (ap (λ (k : Kept). is_turn_of c.args.who (turn_of k.flat)) c.self.view_is ∙ acts_turned c.args.who c.args.self.now.flat c.requires) c.client.ensures (kept-at _ _ _ _ inside c.index_mut.ensures.value c.in-Some.is) c.travel-done.ensures.up
    (follows-turn _ c.args.who _ _ _ (ap (λ (k : Kept). is_turn_of c.args.who (turn_of k.flat)) c.self.view_is ∙ acts_turned c.args.who c.args.self.now.flat c.requires) (leave-set (Of c.args.who) _ _ _ _ c.index_mut.ensures.value (some-leaves (Of c.args.who) _ _ _ _ c.in-Some.is refl c.travel-done.ensures.stays)))
    c.differs_behind-self-inside.ensures
    c.self.invariant

pub returns-clause-row : goal.returns-clause-row
unfolding story_of
returns-clause-row g c =
    let b = (buffer-of c.args.who _ _ _ _ _ _ _ c.self.view_is c.client.ensures (acts_joined c.args.who c.args.self.now.flat c.requires) (seen-at c.self.inside.buffers.items c.client.result.now.shown _ c.index_mut.ensures.value) (seen-some _ _ c.in-Some.is)) in
    let who = c.args.who in
    elim c.match-done.branch [
      | in-Ok w ↦
          rw w.result-is (travel-done c.args.travel who c.args.self.now.flat _
          (traveled-of c.args.travel who c.args.self.now.flat _ _ _ w.in-Ok.ensures.ok (λ f t. parts-set _ _ _ _ _ ∙ changed-of c.args.who _ _ _ _ _ _ _ _ f c.self.view_is c.client.ensures (acts_joined c.args.who c.args.self.now.flat c.requires) (seen-at c.self.inside.buffers.items c.client.result.now.shown _ c.index_mut.ensures.value) (seen-some _ _ c.in-Some.is) t))
          (subst (λ (x : Buffer). target_of c.args.travel x.story ≡ None → ⊥) b (λ n. ok-err _ _ (w.in-Ok.ensures.nowhere n).0)))
      | in-Err w ↦
          rw w.result-is (rw w.from.ensures (travel-refused w.in-Err.error c.args.travel who c.args.self.now.flat _
          (either-none w.in-Err.error c.args.travel _ _ (ap (λ (x : Buffer). x.story) b) w.in-Err.ensures.refused)
          (λ n. let r = w.in-Err.ensures.nowhere (ap (λ (x : Buffer). target_of c.args.travel x.story) b ∙ n) in
          (ap (error-of w.in-Err.error) r.0, traveled-of c.args.travel who c.args.self.now.flat _ _ _ r.1 (λ f t. parts-set _ _ _ _ _ ∙ changed-of c.args.who _ _ _ _ _ _ _ _ f c.self.view_is c.client.ensures (acts_joined c.args.who c.args.self.now.flat c.requires) (seen-at c.self.inside.buffers.items c.client.result.now.shown _ c.index_mut.ensures.value) (seen-some _ _ c.in-Some.is) t)))))
    ]

pub returns-clause-wanting : goal.returns-clause-wanting
returns-clause-wanting g c =
    let b = (buffer-of c.args.who _ _ _ _ _ _ _ c.self.view_is c.client.ensures (acts_joined c.args.who c.args.self.now.flat c.requires) (seen-at c.self.inside.buffers.items c.client.result.now.shown _ c.index_mut.ensures.value) (seen-some _ _ c.in-Some.is)) in
    elim c.match-done.branch [
      | in-Ok w ↦ rw w.result-is (λ h. absurd (ok-err _ _ h))
      | in-Err w ↦ rw w.result-is (λ h. some-cut c.args.who c.args.travel c.args.self.now.flat _ _ _ b w.in-Err.ensures.err (λ f t. parts-set _ _ _ _ _ ∙ changed-of c.args.who _ _ _ _ _ _ _ _ f c.self.view_is c.client.ensures (acts_joined c.args.who c.args.self.now.flat c.requires) (seen-at c.self.inside.buffers.items c.client.result.now.shown _ c.index_mut.ensures.value) (seen-some _ _ c.in-Some.is) t))
    ]
