use Rattle.std.proofs.Common.{inr, subst}
use Rattle.std.proofs.lemmas.Result.{err_from_is_err_and}
use Rattle.kak_engine.specs.declared.place.Place.{Place}
use Rattle.kak_engine.specs.Course.{NotesComing}
use Rattle.kak_engine.specs.Doing.{Do, settle, task_settled, top}
use Rattle.kak_engine.specs.Seen.{PartEnds, under_way}
use Rattle.kak_engine.proofs.AskingLaws.{grows-settle, grows-do}
use Rattle.kak_engine.proofs.EndLemmas.{acts-part, task-then, task-wanting}
use Rattle.kak_engine.proofs.NestingLemmas.{tame-settled}
use Rattle.kak_engine.proofs.hooking.hear_coming.Goals as goal

pub returns-in_err-note_coming-clause-does : goal.returns-in_err-note_coming-clause-does
returns-in_err-note_coming-clause-does g c =
    let p = err_from_is_err_and c.from_residual.result c.from_residual.ensures.1 in
    rw p.1 (task-wanting c.args.who NotesComing (settle Do (top c.args.who)) c.args.world.now.flat c.note_coming.new.self.flat _ _ (grows-settle Do (top c.args.who) grows-do) (inr (record { hooks = c.in_err-note_coming.ensures.held; lacks = c.in_err-note_coming.ensures.lacks })))

pub returns-clause-does : goal.returns-clause-does
returns-clause-does g c =
    task-then c.args.who NotesComing (settle Do (top c.args.who)) c.settle.result c.args.world.now.flat c.note_coming.new.self.flat _ _ _ c.in_ok-note_coming.ensures.notes
    (subst (λ (p : Place). PartEnds c.settle.result (λ m. settle Do p m) (under_way c.note_coming.new.self.flat c.args.answers.now (g.O.Outside.seen c.args.outside.now)) (under_way c.settle.new.world.flat c.settle.new.answers (g.O.Outside.seen c.settle.new.outside))) c.top.ensures c.settle.ensures.does)

pub returns-clause-acts : goal.returns-clause-acts
returns-clause-acts g c = acts-part c.args.who c.settle.result (task_settled Do (top c.args.who) NotesComing) _ _ (returns-clause-does g c) (tame-settled (top c.args.who) NotesComing).joined c.requires
