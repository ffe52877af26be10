use Rattle.std.proofs.Common.{◌≡◌, [], true, false, length, ap, sym, subst, ◌∙◌, arith}
use Rattle.undo_model.specs.Stories.{is_undo_full}
use Rattle.undo_model.specs.Edits.{is_too_long}
use Rattle.buffer_store.specs.Stored.{change_shifts}
use Rattle.buffer_store.specs.Buffers.{changes_of, flat_splices}
use Rattle.undo_model.specs.Steps.{AreSteps}
use Rattle.list_shelf.specs.declared.holder.Holder.TheVariants.{Of}
use Rattle.kak_world.specs.Changing.{buffer_edited}
use Rattle.kak_world.specs.Seen.{KeptBuffer}
use Rattle.kak_world.proofs.AnswerLemmas.{carried-ok, carried-if, carried-err, carried-from, carried-to}
use Rattle.kak_world.proofs.EditingLemmas.{some-of, can-follow, has-followed, both-ok, both-from, both-to, not-undo_full, not-text_full, edited-is, edited-some, edited-all, left-alone}
use Rattle.kak_world.proofs.StoredLemmas.{leaves-others, noted-stays, since-noted, since-none, by-either, told-ok}
use Rattle.kak_world.proofs.buffer.WorldBuffer.edit.Goals as goal

pub note_for-noted-requires : goal.note_for-noted-requires
note_for-noted-requires c = let e = c.edit-done.ensures.edits in can-follow _ _ _ _ _ e.steps e.shifts_are c.as_slice.ensures.value c.self.invariant

pub invariant_of-self : goal.invariant_of-self
invariant_of-self c = let e = c.edit-done.ensures.edits in edited-is (Of c.args.who) _ _ _ _ _ _ _ _ e (has-followed c.note_for-noted.result (Of c.args.who) _ _ _ _ _ _ c.note_for-noted.ensures.ok c.note_for-noted.ensures.err e.steps e.shifts_are c.as_slice.ensures.value c.self.invariant)

pub returns-clause-ok : goal.returns-clause-ok
returns-clause-ok c =
    let e = c.edit-done.ensures.edits in
    let text = ap (λ (b : KeptBuffer). b.seen.story.text) c.self.view_is in
    carried-ok _ c.both.result _ _ c.carrying.ensures (both-ok _ c.edit-done.result c.note_for-noted.result c.both.result c.both.ensures e.all c.note_for-noted.ensures.ok (λ all noted.
    edited-all _ _ (Of c.args.who) _ _ _ _ _ _ _ _ _ c.self.view_is e (has-followed c.note_for-noted.result (Of c.args.who) _ _ _ _ _ _ c.note_for-noted.ensures.ok c.note_for-noted.ensures.err e.steps e.shifts_are c.as_slice.ensures.value c.self.invariant) all
    ∙ ap (λ t. buffer_edited c.args.who (changes_of t c.args.splices.now) c.args.self.now.seen) text))

pub returns-clause-shifts : goal.returns-clause-shifts
returns-clause-shifts c =
    let e = c.edit-done.ensures.edits in
    let text = ap (λ (b : KeptBuffer). b.seen.story.text) c.self.view_is in
    carried-if _ c.both.result _ _ c.carrying.ensures (both-ok _ c.edit-done.result c.note_for-noted.result c.both.result c.both.ensures e.all c.note_for-noted.ensures.ok (λ all noted.
    e.shifts_are ∙ ap (change_shifts _) all ∙ ap (λ t. change_shifts t (changes_of t c.args.splices.now)) text))

pub returns-clause-steps : goal.returns-clause-steps
returns-clause-steps c =
    let e = c.edit-done.ensures.edits in
    let text = ap (λ (b : KeptBuffer). b.seen.story.text) c.self.view_is in
    carried-ok _ c.both.result _ _ c.carrying.ensures (both-ok _ c.edit-done.result c.note_for-noted.result c.both.result c.both.ensures e.all c.note_for-noted.ensures.ok (λ all noted.
    subst (λ t. AreSteps t (changes_of t c.args.splices.now)) text (subst (AreSteps _) all e.steps)))

pub returns-clause-undo_full : goal.returns-clause-undo_full
returns-clause-undo_full c =
    let P : KeptBuffer → Type 0 = λ b. is_undo_full c.args.who (changes_of b.seen.story.text c.args.splices.now) b.seen.story ≡ true in (
      λ h. subst P c.self.view_is (c.edit-done.ensures.undo_full.0 (both-from _ c.edit-done.result c.note_for-noted.result _ _ c.both.ensures not-undo_full (carried-from c.both.result _ _ _ c.carrying.ensures h))),
      λ t. carried-to c.both.result _ _ _ c.carrying.ensures (both-to _ c.edit-done.result c.note_for-noted.result _ _ c.both.ensures (c.edit-done.ensures.undo_full.1 (subst P (sym c.self.view_is) t))),
    )

pub returns-clause-text_full : goal.returns-clause-text_full
returns-clause-text_full c =
    let P : KeptBuffer → Type 0 = λ b. (is_undo_full c.args.who (changes_of b.seen.story.text c.args.splices.now) b.seen.story ≡ false) × (is_too_long (length b.seen.story.text) b.seen.story.text (flat_splices b.seen.story.text c.args.splices.now) ≡ true) in (
      λ h. subst P c.self.view_is (c.edit-done.ensures.text_full.0 (both-from _ c.edit-done.result c.note_for-noted.result _ _ c.both.ensures not-text_full (carried-from c.both.result _ _ _ c.carrying.ensures h))),
      λ t. carried-to c.both.result _ _ _ c.carrying.ensures (both-to _ c.edit-done.result c.note_for-noted.result _ _ c.both.ensures (c.edit-done.ensures.text_full.1 (subst P (sym c.self.view_is) t))),
    )

pub returns-clause-undo_left : goal.returns-clause-undo_left
returns-clause-undo_left c = λ h.
    let l = c.edit-done.ensures.undo_left (both-from _ c.edit-done.result c.note_for-noted.result _ _ c.both.ensures not-undo_full (carried-from c.both.result _ _ _ c.carrying.ensures h)) in
    left-alone _ _ (Of c.args.who) _ _ _ _ _ c.self.view_is l.0 (has-followed c.note_for-noted.result (Of c.args.who) _ [] _ _ _ _ c.note_for-noted.ensures.ok c.note_for-noted.ensures.err tt l.1 c.as_slice.ensures.value c.self.invariant)

pub returns-clause-text_left : goal.returns-clause-text_left
returns-clause-text_left c = λ h.
    let l = c.edit-done.ensures.text_left (both-from _ c.edit-done.result c.note_for-noted.result _ _ c.both.ensures not-text_full (carried-from c.both.result _ _ _ c.carrying.ensures h)) in
    left-alone _ _ (Of c.args.who) _ _ _ _ _ c.self.view_is l.0 (has-followed c.note_for-noted.result (Of c.args.who) _ [] _ _ _ _ c.note_for-noted.ensures.ok c.note_for-noted.ensures.err tt l.1 c.as_slice.ensures.value c.self.invariant)

pub returns-clause-err : goal.returns-clause-err
returns-clause-err c =
    let e = c.edit-done.ensures.edits in
    let text = ap (λ (b : KeptBuffer). b.seen.story.text) c.self.view_is in
    carried-err _ c.both.result _ _ c.carrying.ensures
    (some-of _ _ _ _ _ (ap (λ t. changes_of t c.args.splices.now) text) e.made (edited-some _ _ (Of c.args.who) _ _ _ _ _ _ _ _ _ c.self.view_is e (has-followed c.note_for-noted.result (Of c.args.who) _ _ _ _ _ _ c.note_for-noted.ensures.ok c.note_for-noted.ensures.err e.steps e.shifts_are c.as_slice.ensures.value c.self.invariant)))

pub returns-clause-up : goal.returns-clause-up
returns-clause-up c = let e = c.edit-done.ensures.edits in (has-followed c.note_for-noted.result (Of c.args.who) _ _ _ _ _ _ c.note_for-noted.ensures.ok c.note_for-noted.ensures.err e.steps e.shifts_are c.as_slice.ensures.value c.self.invariant).up

pub returns-clause-others : goal.returns-clause-others
returns-clause-others c =
    let e = c.edit-done.ensures.edits in
    carried-if _ c.both.result _ _ c.carrying.ensures (both-ok _ c.edit-done.result c.note_for-noted.result c.both.result c.both.ensures e.all c.note_for-noted.ensures.ok (λ all noted.
    leaves-others _ _ _ (Of c.args.who) _ _ _ _ _ _ c.self.view_is (ap length c.as_slice.ensures.value) noted))

pub returns-clause-stays : goal.returns-clause-stays
returns-clause-stays c =
    noted-stays _ _ _ (Of c.args.who) c.as_slice.result.now c.len.result _ c.note_for-noted.result _ _ _ _ _ c.self.view_is (omega (arith, c.len.ensures, c.edit-done.new.shifts.ok.0, ap length c.as_slice.ensures.value)) c.has_room-has_room.ensures c.note_for-noted.ensures.ok c.behind-self-inside.ensures

pub returns-clause-since : goal.returns-clause-since
returns-clause-since c =
    let e = c.edit-done.ensures.edits in
    let kept = since-noted _ _ _ c.len.result (length c.edit-done.new.shifts.items) _ c.note_for-noted.result _ _ _ _ c.self.view_is (omega (arith, c.len.ensures, c.edit-done.new.shifts.ok.0)) c.has_room-has_room.ensures c.behind-self-inside.ensures in
    carried-if _ c.both.result _ _ c.carrying.ensures (both-ok _ c.edit-done.result c.note_for-noted.result c.both.result c.both.ensures e.all kept (λ all s. s))

pub returns-clause-refused : goal.returns-clause-refused
returns-clause-refused c = λ h.
    let none = by-either h
    (λ u. (c.edit-done.ensures.undo_left (both-from _ c.edit-done.result c.note_for-noted.result _ _ c.both.ensures not-undo_full (carried-from c.both.result _ _ _ c.carrying.ensures u))).1)
    (λ t. (c.edit-done.ensures.text_left (both-from _ c.edit-done.result c.note_for-noted.result _ _ c.both.ensures not-text_full (carried-from c.both.result _ _ _ c.carrying.ensures t))).1) in
    since-none _ _ _ c.len.result _ c.note_for-noted.result _ _ _ _ c.self.view_is (omega (arith, c.len.ensures, c.edit-done.new.shifts.ok.0, ap length none)) c.has_room-has_room.ensures (told-ok c.note_for-noted.result (c.note_for-noted.ensures.none (c.as_slice.ensures.value ∙ none))) c.behind-self-inside.ensures
