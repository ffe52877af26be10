use Rattle.std.proofs.Common.{List, refl, sym, ap, ◌∙◌}
use Rattle.std.proofs.lemmas.List.{length-map}
use Rattle.ui_board.specs.declared.ui.Kind.{Kind}
use Rattle.session_replay.specs.Players.{kinds_of}
use Rattle.session_replay.proofs.AnswerLemmas.{played-replayed, nothing-replayed, session-answered, halts-answered}
use Rattle.session_replay.proofs.replaying.replay_session.Goals as goal

pub returns-in-Err-clause-replayed : goal.returns-in-Err-clause-replayed
returns-in-Err-clause-replayed g c = nothing-replayed _ _ _ _ _ _ _ (ap (λ q. (g.S.Seat.seated q).seen) c.in-Err.ensures.back ∙ c.requires.new)

pub returns-clause-replayed : goal.returns-clause-replayed
returns-clause-replayed g c =
    let kinds : List Kind = kinds_of g.U.Ui.shown c.args.uis.items in
    let many = length-map c.args.uis.items (λ ui. (g.U.Ui.shown ui).kind) in
    played-replayed _ _ _ kinds c.play_and_leave-ended.result _ _ _ _ _ _ _ _ _ (ap (λ q. (g.S.Seat.seated q).limit) c.in-Ok.ensures.seats) (c.play_and_leave-ended.ensures.still.count ∙ c.in-Ok.ensures.count ∙ sym many) (λ who. refl) c.as_slice.ensures.value
    (c.play_and_leave-ended.ensures.played kinds (many ∙ sym c.in-Ok.ensures.count) (c.in-Ok.ensures.begins c.requires.new c.requires.untold)) c.finish-answer.ensures

pub returns-clause-session : goal.returns-clause-session
returns-clause-session g c = session-answered _ _ _ _ _ c.play_and_leave-ended.result _ _ _ _ c.finish-answer.ensures c.in-Ok.ensures.seats c.play_and_leave-ended.ensures.still.session

pub returns-clause-halts : goal.returns-clause-halts
returns-clause-halts g c = halts-answered c.play_and_leave-ended.result _ _ _ _ _ c.finish-answer.ensures c.play_and_leave-ended.ensures.still.stops
