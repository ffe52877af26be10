use Rattle.std.proofs.Common.{◌≡◌, [], length, refl, ap, sym, subst, ◌∙◌, arith, inl, inr, Err, None}
use Rattle.undo_model.specs.Stories.{Story}
use Rattle.undo_model.specs.Moves.{target_of, moved_by, move_changes}
use Rattle.text_model.specs.Changes.{all_changed}
use Rattle.buffer_store.specs.Stored.{change_shifts}
use Rattle.move_marks.specs.Marking.{IsLeftBy}
use Rattle.kak_world.specs.Flat.{has_list}
use Rattle.kak_world.specs.Seen.{KeptBuffer}
use Rattle.kak_world.proofs.AnswerLemmas.{on-ok, on-ok-of, on-err, error-of}
use Rattle.kak_world.proofs.KeepingLaws.{has-edited}
use Rattle.kak_world.proofs.EditingLemmas.{some-moved, can-follow, has-followed, has-gone, gone-is, gone-some, gone-moved, gone-moves, gone-text, gone-left, gone-list_held, gone-without, gone-nowhere, wanting-only}
use Rattle.kak_world.proofs.StoredLemmas.{leaves-others, others-then, counted-move, moved-ok, noted-stays, then-stays, since-noted}
use Rattle.kak_world.proofs.buffer.WorldBuffer.travel.Goals as goal

pub note_for-noted-requires : goal.note_for-noted-requires
note_for-noted-requires c =
    let g = has-gone c.travel-left.result c.args.travel _ _ _ c.is_story.ensures c.travel-left.ensures.ok c.travel-left.ensures.shifts c.travel-left.ensures.broken in
    can-follow _ _ _ _ _ g.steps g.shifts_are c.as_slice.ensures.value c.self.invariant

pub invariant_of-self : goal.invariant_of-self
invariant_of-self c =
    let g = has-gone c.travel-left.result c.args.travel _ _ _ c.is_story.ensures c.travel-left.ensures.ok c.travel-left.ensures.shifts c.travel-left.ensures.broken in
    gone-is c.args.holder _ _ _ _ _ _ g (has-followed c.note_for-noted.result c.args.holder _ _ _ _ _ _ c.note_for-noted.ensures.ok c.note_for-noted.ensures.err g.steps g.shifts_are c.as_slice.ensures.value c.self.invariant)

pub invariant_of-self-in-Ok-None : goal.invariant_of-self-in-Ok-None
invariant_of-self-in-Ok-None c =
    let g = has-gone c.travel-left.result c.args.travel _ _ _ c.is_story.ensures c.travel-left.ensures.ok c.travel-left.ensures.shifts c.travel-left.ensures.broken in
    gone-is c.args.holder _ _ _ _ _ _ g (has-followed c.note_for-noted.result c.args.holder _ _ _ _ _ _ c.note_for-noted.ensures.ok c.note_for-noted.ensures.err g.steps g.shifts_are c.as_slice.ensures.value c.self.invariant)

pub invariant_of-self-in-Err : goal.invariant_of-self-in-Err
invariant_of-self-in-Err c =
    let g = has-gone c.travel-left.result c.args.travel _ _ _ c.is_story.ensures c.travel-left.ensures.ok c.travel-left.ensures.shifts c.travel-left.ensures.broken in
    gone-is c.args.holder _ _ _ _ _ _ g (has-followed c.note_for-noted.result c.args.holder _ _ _ _ _ _ c.note_for-noted.ensures.ok c.note_for-noted.ensures.err g.steps g.shifts_are c.as_slice.ensures.value c.self.invariant)

pub set_sels-requires-clause-list : goal.set_sels-requires-clause-list
set_sels-requires-clause-list c =
    let m = (gone-moves c.note_for-noted.result c.args.holder c.args.travel c.self.inside.store _ _ _ _ c.note_for-noted.ensures.ok c.note_for-noted.ensures.err c.is_story.ensures c.in-Ok-Some.ensures.shifts c.as_slice.ensures.value c.self.invariant) in
    ap (has_list c.args.holder) (gone-moved _ _ c.args.holder c.args.travel _ _ _ _ _ c.self.view_is c.is_story.ensures c.in-Ok-Some.ensures.ok m)
    ∙ has-edited c.args.holder (move_changes c.args.travel c.args.self.now.seen.story) (moved_by c.args.travel c.args.self.now.seen.story) c.args.self.now.seen ∙ c.requires

pub set_sels-requires-clause-held : goal.set_sels-requires-clause-held
set_sels-requires-clause-held c = gone-list_held c.args.travel _ _ _ c.is_story.ensures c.in-Ok-Some.ensures.ok (rw c.in-Ok-Some.field-0-is at c.in-Ok-Some.ensures).left

pub returns-in-Ok-Some-clause-ok : goal.returns-in-Ok-Some-clause-ok
returns-in-Ok-Some-clause-ok c =
    let m = (gone-moves c.note_for-noted.result c.args.holder c.args.travel c.self.inside.store _ _ _ _ c.note_for-noted.ensures.ok c.note_for-noted.ensures.err c.is_story.ensures c.in-Ok-Some.ensures.shifts c.as_slice.ensures.value c.self.invariant) in
    let same = ap (λ (b : KeptBuffer). b.seen.story) c.self.view_is in
    on-ok-of c.moved.result (
    gone-left c.args.holder c.args.travel c.travel-left.new.self.text c.in-Ok-Some.sels c.args.self.now.seen _ _
    (gone-moved _ _ c.args.holder c.args.travel _ _ _ _ _ c.self.view_is c.is_story.ensures c.in-Ok-Some.ensures.ok m)
    (subst (λ (s : Story). IsLeftBy s.text (move_changes c.args.travel s) c.in-Ok-Some.sels) same (rw c.in-Ok-Some.field-0-is at c.in-Ok-Some.ensures).left)
    (subst (λ (s : Story). c.travel-left.new.self.text ≡ all_changed s.text (move_changes c.args.travel s)) same (gone-text c.args.travel _ _ c.is_story.ensures c.in-Ok-Some.ensures.ok))
    c.set_sels.ensures.seen)

pub returns-in-Ok-Some-clause-refused : goal.returns-in-Ok-Some-clause-refused
returns-in-Ok-Some-clause-refused c = wanting-only (λ _. target_of c.args.travel c.args.self.now.seen.story ≡ None) _ c.note_for-noted.result _ c.moved.ensures

pub returns-in-Ok-Some-clause-err : goal.returns-in-Ok-Some-clause-err
returns-in-Ok-Some-clause-err c =
    let m = (gone-moves c.note_for-noted.result c.args.holder c.args.travel c.self.inside.store _ _ _ _ c.note_for-noted.ensures.ok c.note_for-noted.ensures.err c.is_story.ensures c.in-Ok-Some.ensures.shifts c.as_slice.ensures.value c.self.invariant) in
    let same = ap (λ (b : KeptBuffer). b.seen.story) c.self.view_is in
    on-err c.moved.result (inr (
    gone-left c.args.holder c.args.travel c.travel-left.new.self.text c.in-Ok-Some.sels c.args.self.now.seen _ _
    (gone-moved _ _ c.args.holder c.args.travel _ _ _ _ _ c.self.view_is c.is_story.ensures c.in-Ok-Some.ensures.ok m)
    (subst (λ (s : Story). IsLeftBy s.text (move_changes c.args.travel s) c.in-Ok-Some.sels) same (rw c.in-Ok-Some.field-0-is at c.in-Ok-Some.ensures).left)
    (subst (λ (s : Story). c.travel-left.new.self.text ≡ all_changed s.text (move_changes c.args.travel s)) same (gone-text c.args.travel _ _ c.is_story.ensures c.in-Ok-Some.ensures.ok))
    c.set_sels.ensures.seen))

pub returns-in-Ok-Some-clause-up : goal.returns-in-Ok-Some-clause-up
returns-in-Ok-Some-clause-up c =
    let g = has-gone c.travel-left.result c.args.travel _ _ _ c.is_story.ensures c.travel-left.ensures.ok c.travel-left.ensures.shifts c.travel-left.ensures.broken in
    c.set_sels.ensures.up c.args.holder (has-followed c.note_for-noted.result c.args.holder _ _ _ _ _ _ c.note_for-noted.ensures.ok c.note_for-noted.ensures.err g.steps g.shifts_are c.as_slice.ensures.value c.self.invariant).up

pub returns-in-Ok-None-clause-ok : goal.returns-in-Ok-None-clause-ok
returns-in-Ok-None-clause-ok c =
    let m = (gone-moves c.note_for-noted.result c.args.holder c.args.travel c.self.inside.store _ _ _ _ c.note_for-noted.ensures.ok c.note_for-noted.ensures.err c.is_story.ensures c.in-Ok-None.ensures.shifts c.as_slice.ensures.value c.self.invariant) in
    let same = ap (λ (b : KeptBuffer). b.seen.story) c.self.view_is in
    on-ok-of c.moved-in-Ok-None.result (
    gone-without c.args.holder c.args.travel c.args.self.now.seen _
    (gone-moved _ _ c.args.holder c.args.travel _ _ _ _ _ c.self.view_is c.is_story.ensures c.in-Ok-None.ensures.ok m)
    (subst (λ (s : Story). move_changes c.args.travel s ≡ []) same (rw c.in-Ok-None.field-0-is at c.in-Ok-None.ensures).left))

pub returns-in-Ok-None-clause-refused : goal.returns-in-Ok-None-clause-refused
returns-in-Ok-None-clause-refused c = wanting-only (λ _. target_of c.args.travel c.args.self.now.seen.story ≡ None) _ c.note_for-noted.result _ c.moved-in-Ok-None.ensures

pub returns-in-Ok-None-clause-err : goal.returns-in-Ok-None-clause-err
returns-in-Ok-None-clause-err c =
    let m = (gone-moves c.note_for-noted.result c.args.holder c.args.travel c.self.inside.store _ _ _ _ c.note_for-noted.ensures.ok c.note_for-noted.ensures.err c.is_story.ensures c.in-Ok-None.ensures.shifts c.as_slice.ensures.value c.self.invariant) in
    let same = ap (λ (b : KeptBuffer). b.seen.story) c.self.view_is in
    on-err c.moved-in-Ok-None.result (inr (
    gone-without c.args.holder c.args.travel c.args.self.now.seen _
    (gone-moved _ _ c.args.holder c.args.travel _ _ _ _ _ c.self.view_is c.is_story.ensures c.in-Ok-None.ensures.ok m)
    (subst (λ (s : Story). move_changes c.args.travel s ≡ []) same (rw c.in-Ok-None.field-0-is at c.in-Ok-None.ensures).left)))

pub returns-in-Ok-None-clause-up : goal.returns-in-Ok-None-clause-up
returns-in-Ok-None-clause-up c =
    let g = has-gone c.travel-left.result c.args.travel _ _ _ c.is_story.ensures c.travel-left.ensures.ok c.travel-left.ensures.shifts c.travel-left.ensures.broken in
    (has-followed c.note_for-noted.result c.args.holder _ _ _ _ _ _ c.note_for-noted.ensures.ok c.note_for-noted.ensures.err g.steps g.shifts_are c.as_slice.ensures.value c.self.invariant).up

pub returns-clause-nowhere : goal.returns-clause-nowhere
returns-clause-nowhere c = λ none.
    let same = ap (λ (b : KeptBuffer). b.seen.story) c.self.view_is in
    let there = ap (λ (s : Story). target_of c.args.travel s) same ∙ none in
    let r = c.in-Err.ensures.nowhere there in
    let nothing = gone-nowhere c.args.travel c.self.inside.store there in
    let m = (gone-moves c.note_for-noted.result c.args.holder c.args.travel c.self.inside.store _ _ _ _ c.note_for-noted.ensures.ok c.note_for-noted.ensures.err c.is_story.ensures (r.1.1 ∙ ap (change_shifts c.self.inside.store.text) (sym nothing)) c.as_slice.ensures.value c.self.invariant) in (
      ap Err (ap (error-of c.in-Err.error) r.0),
      gone-without c.args.holder c.args.travel c.args.self.now.seen _
          (gone-moved _ _ c.args.holder c.args.travel _ _ _ _ _ c.self.view_is c.is_story.ensures r.1.0 m)
          (gone-nowhere c.args.travel c.args.self.now.seen.story none),
    )

pub returns-clause-err : goal.returns-clause-err
returns-clause-err c =
    let g = c.in-Err.ensures.broken in
    let same = ap (λ (b : KeptBuffer). b.seen.story) c.self.view_is in
    inl (some-moved _ _ _ _ (ap (λ (s : Story). move_changes c.args.travel s) same)
    (gone-some _ _ c.args.holder _ _ _ _ _ _ _ c.self.view_is g (has-followed c.note_for-noted.result c.args.holder _ _ _ _ _ _ c.note_for-noted.ensures.ok c.note_for-noted.ensures.err g.steps g.shifts_are c.as_slice.ensures.value c.self.invariant)))

pub returns-clause-up : goal.returns-clause-up
returns-clause-up c =
    let g = has-gone c.travel-left.result c.args.travel _ _ _ c.is_story.ensures c.travel-left.ensures.ok c.travel-left.ensures.shifts c.travel-left.ensures.broken in
    (has-followed c.note_for-noted.result c.args.holder _ _ _ _ _ _ c.note_for-noted.ensures.ok c.note_for-noted.ensures.err g.steps g.shifts_are c.as_slice.ensures.value c.self.invariant).up

pub returns-in-Ok-Some-clause-others : goal.returns-in-Ok-Some-clause-others
returns-in-Ok-Some-clause-others c = moved-ok _ _ c.note_for-noted.result c.moved.result c.moved.ensures (on-ok c.note_for-noted.result c.note_for-noted.ensures.ok (λ noted.
    others-then c.args.holder _ _ _ _ _ refl (leaves-others _ _ _ c.args.holder (length (move_changes c.args.travel c.args.self.now.seen.story)) _ _ _ _ _ c.self.view_is (ap length c.as_slice.ensures.value ∙ omega (arith, c.len.ensures, c.travel-left.new.shifts.ok.0, (counted-move _ _ _ c.args.travel c.len.result _ _ _ _ c.self.view_is (omega (arith, c.len.ensures, c.travel-left.new.shifts.ok.0)) c.in-Ok-Some.ensures.shifts))) noted) c.set_sels.ensures.stays))

pub returns-in-Ok-Some-clause-stays : goal.returns-in-Ok-Some-clause-stays
returns-in-Ok-Some-clause-stays c = then-stays c.args.holder _ _ _ (noted-stays _ _ _ c.args.holder c.as_slice.result.now c.len.result _ c.note_for-noted.result _ _ _ _ _ c.self.view_is (omega (arith, c.len.ensures, c.travel-left.new.shifts.ok.0, ap length c.as_slice.ensures.value)) c.has_room-has_room.ensures c.note_for-noted.ensures.ok c.behind-self-inside.ensures) c.set_sels.ensures.stays

pub returns-in-Ok-Some-clause-since : goal.returns-in-Ok-Some-clause-since
returns-in-Ok-Some-clause-since c = moved-ok _ _ c.note_for-noted.result c.moved.result c.moved.ensures (on-ok c.note_for-noted.result (since-noted _ _ _ c.len.result _ _ c.note_for-noted.result _ _ _ _ c.self.view_is (counted-move _ _ _ c.args.travel c.len.result _ _ _ _ c.self.view_is (omega (arith, c.len.ensures, c.travel-left.new.shifts.ok.0)) c.in-Ok-Some.ensures.shifts) c.has_room-has_room.ensures c.behind-self-inside.ensures) (λ k. c.set_sels.ensures.stays.since ∙ k))

pub returns-in-Ok-None-clause-others : goal.returns-in-Ok-None-clause-others
returns-in-Ok-None-clause-others c = moved-ok _ _ c.note_for-noted.result c.moved-in-Ok-None.result c.moved-in-Ok-None.ensures (on-ok c.note_for-noted.result c.note_for-noted.ensures.ok (λ noted.
    (leaves-others _ _ _ c.args.holder (length (move_changes c.args.travel c.args.self.now.seen.story)) _ _ _ _ _ c.self.view_is (ap length c.as_slice.ensures.value ∙ omega (arith, c.len.ensures, c.travel-left.new.shifts.ok.0, (counted-move _ _ _ c.args.travel c.len.result _ _ _ _ c.self.view_is (omega (arith, c.len.ensures, c.travel-left.new.shifts.ok.0)) c.in-Ok-None.ensures.shifts))) noted)))

pub returns-in-Ok-None-clause-stays : goal.returns-in-Ok-None-clause-stays
returns-in-Ok-None-clause-stays c = (noted-stays _ _ _ c.args.holder c.as_slice.result.now c.len.result _ c.note_for-noted.result _ _ _ _ _ c.self.view_is (omega (arith, c.len.ensures, c.travel-left.new.shifts.ok.0, ap length c.as_slice.ensures.value)) c.has_room-has_room.ensures c.note_for-noted.ensures.ok c.behind-self-inside.ensures)

pub returns-in-Ok-None-clause-since : goal.returns-in-Ok-None-clause-since
returns-in-Ok-None-clause-since c = moved-ok _ _ c.note_for-noted.result c.moved-in-Ok-None.result c.moved-in-Ok-None.ensures (since-noted _ _ _ c.len.result _ _ c.note_for-noted.result _ _ _ _ c.self.view_is (counted-move _ _ _ c.args.travel c.len.result _ _ _ _ c.self.view_is (omega (arith, c.len.ensures, c.travel-left.new.shifts.ok.0)) c.in-Ok-None.ensures.shifts) c.has_room-has_room.ensures c.behind-self-inside.ensures)

pub returns-clause-stays : goal.returns-clause-stays
returns-clause-stays c = (noted-stays _ _ _ c.args.holder c.as_slice.result.now c.len.result _ c.note_for-noted.result _ _ _ _ _ c.self.view_is (omega (arith, c.len.ensures, c.travel-left.new.shifts.ok.0, ap length c.as_slice.ensures.value)) c.has_room-has_room.ensures c.note_for-noted.ensures.ok c.behind-self-inside.ensures)
