use Rattle.std.proofs.Common.{refl, ◌∙◌, arith}
use Rattle.session_lines.specs.declared.playing.Stop.TheVariants as stop
use Rattle.session_lines.specs.Serving.{service}
use Rattle.session_lines.proofs.StayingLemmas.{unseen-same}
use Rattle.link_lines.proofs.ComingLemmas.{refused-over}
use Rattle.link_lines.proofs.DrawingLemmas.{sees-draws, gone-draws, refused-draws, draws-as}
use Rattle.link_lines.proofs.EndLemmas.{as-who, left-over, lost-over}
use Rattle.link_lines.proofs.link_serving.serve_over.Goals as goal

pub returns-in-Err-clause-served : goal.returns-in-Err-clause-served
returns-in-Err-clause-served g c = as-who _ _ _ _ _ _ _ (c.come.ensures.same.number ∙ c.requires.number) (refused-over (service g.S.Seat.gives g.Q.Reader.reads c.args.keys.now) _ _ _ _ (omega arith) c.in-Err.ensures.refused)

pub returns-in-Ok-leave-clause-served : goal.returns-in-Ok-leave-clause-served
returns-in-Ok-leave-clause-served g c =
    rw c.ended_of.ensures (as-who _ _ _ _ _ _ _ (c.come.ensures.same.number ∙ c.requires.number)
    (left-over c.play_link-played.result _ _ _ _ _ _ refl refl (unseen-same c.play_link-played.ensures.stays.same) c.play_link-played.ensures.plays c.in-Ok-leave.ensures.leaves))

pub returns-in-Err-Broken-clause-served : goal.returns-in-Err-Broken-clause-served
returns-in-Err-Broken-clause-served g c =
    let l = rw c.in-Err-Broken.field-0-is at c.in-Err-Broken.ensures.leaves in
    rw c.in-Err-Broken.field-0-is (as-who _ _ _ _ _ _ _ (c.come.ensures.same.number ∙ c.requires.number)
    (lost-over g.S.Seat.parting c.play_link-played.result _ _ _ _ _ _ (stop.Broken c.in-Err-Broken.at) refl (unseen-same c.play_link-played.ensures.stays.same) c.play_link-played.ensures.plays l))

pub returns-in-Err-clause-drawn : goal.returns-in-Err-clause-drawn
returns-in-Err-clause-drawn g c = refused-draws g.S.Seat.gives _ _ _ _ (c.come.ensures.same.number ∙ c.requires.number) c.in-Err.ensures.refused

pub returns-in-Ok-leave-clause-drawn : goal.returns-in-Ok-leave-clause-drawn
returns-in-Ok-leave-clause-drawn g c =
    let number = c.come.ensures.same.number ∙ c.requires.number in
    gone-draws _ _ _ _ (c.play_link-played.ensures.stays.same.number ∙ number) c.in-Ok-leave.ensures.leaves (draws-as _ _ _ number c.play_link-played.ensures.drawn)

pub returns-in-Err-Broken-clause-drawn : goal.returns-in-Err-Broken-clause-drawn
returns-in-Err-Broken-clause-drawn g c =
    let number = c.come.ensures.same.number ∙ c.requires.number in
    sees-draws _ _ _ _ (c.play_link-played.ensures.stays.same.number ∙ number) c.in-Err-Broken.ensures.leaves.0 (draws-as _ _ _ number c.play_link-played.ensures.drawn)

pub returns-in-Err-NoMemory-clause-served : goal.returns-in-Err-NoMemory-clause-served
returns-in-Err-NoMemory-clause-served g c =
    let l = rw c.in-Err-NoMemory.field-0-is at c.in-Err-NoMemory.ensures.leaves in
    as-who _ _ _ _ _ _ _ (c.come.ensures.same.number ∙ c.requires.number)
    (lost-over g.S.Seat.parting c.play_link-played.result _ _ _ _ _ _ stop.NoMemory refl (unseen-same c.play_link-played.ensures.stays.same) c.play_link-played.ensures.plays l)

pub returns-in-Err-NoMemory-clause-drawn : goal.returns-in-Err-NoMemory-clause-drawn
returns-in-Err-NoMemory-clause-drawn g c =
    let number = c.come.ensures.same.number ∙ c.requires.number in
    sees-draws _ _ _ _ (c.play_link-played.ensures.stays.same.number ∙ number) c.in-Err-NoMemory.ensures.leaves.0 (draws-as _ _ _ number c.play_link-played.ensures.drawn)
