use Rattle.std.proofs.Common.{refl, sym, ◌∙◌}
use Rattle.std.proofs.lemmas.Result.{err_from_is_err_and}
use Rattle.session_replay.proofs.EndLemmas.{stops-leave, leaves-may, all-played, lost-early, lost-leaving, fault-behind, whole-lost, still-behind, still-lost}
use Rattle.session_replay.proofs.replaying.play_and_leave.Goals as goal
use Rattle.session_replay.specs.Settings.{setting}

pub dismiss_all-requires-clause-may : goal.dismiss_all-requires-clause-may
dismiss_all-requires-clause-may g c =
    let q = c.requires.ready in
    leaves-may _ (g.S.Seat.seated c.args.players.now.seats).limit _ _ q.kinds _ _ (g.I.Source.inlet c.args.source.now) (g.I.Source.inlet c.play_lines-ended.new.source) q.many c.play_lines-ended.ensures.still.count
    (stops-leave c.play_lines-ended.result (g.S.Seat.seated c.play_lines-ended.new.players.seats) _ (g.S.Seat.seated c.args.players.now.seats).limit q.kinds _ _ (g.I.Source.inlet c.args.source.now) (g.I.Source.inlet c.play_lines-ended.new.source) (c.is_lost.ensures.none c.if-is_lost.false) c.play_lines-ended.ensures.still.stops (c.play_lines-ended.ensures.played q.kinds q.many q.moment))

pub returns-then-is_lost-clause-played : goal.returns-then-is_lost-clause-played
returns-then-is_lost-clause-played g c = λ kinds many m. lost-early c.play_lines-ended.result _ _ kinds _ _ _ _ (c.is_lost.ensures.lost c.if-is_lost.true) (c.play_lines-ended.ensures.played kinds many m)

pub returns-in_err-dismiss_all-clause-played : goal.returns-in_err-dismiss_all-clause-played
returns-in_err-dismiss_all-clause-played g c =
    let p = err_from_is_err_and c.from_residual.result c.from_residual.ensures.1 in
    rw (p.1, p.2) (λ kinds many m.
    let b = (stops-leave c.play_lines-ended.result (g.S.Seat.seated c.play_lines-ended.new.players.seats) (setting g.S.Seat.gives g.Q.Reader.reads) (g.S.Seat.seated c.args.players.now.seats).limit kinds _ _ (g.I.Source.inlet c.args.source.now) (g.I.Source.inlet c.play_lines-ended.new.source) (c.is_lost.ensures.none c.if-is_lost.false) c.play_lines-ended.ensures.still.stops (c.play_lines-ended.ensures.played kinds many m)) in
    lost-leaving _ _ _ kinds _ _ _ _ _ _ b (c.in_err-dismiss_all.ensures.leaving kinds b.hows b.lines b.before (many ∙ sym c.play_lines-ended.ensures.still.count) b.ending b.leaving))

pub returns-in_err-dismiss_all-clause-fault : goal.returns-in_err-dismiss_all-clause-fault
returns-in_err-dismiss_all-clause-fault g c =
    let p = err_from_is_err_and c.from_residual.result c.from_residual.ensures.1 in
    let q = c.requires.ready in
    let kinds = q.kinds in
    let many = q.many in
    let m = q.moment in
    let b = (stops-leave c.play_lines-ended.result (g.S.Seat.seated c.play_lines-ended.new.players.seats) (setting g.S.Seat.gives g.Q.Reader.reads) (g.S.Seat.seated c.args.players.now.seats).limit kinds _ _ (g.I.Source.inlet c.args.source.now) (g.I.Source.inlet c.play_lines-ended.new.source) (c.is_lost.ensures.none c.if-is_lost.false) c.play_lines-ended.ensures.still.stops (c.play_lines-ended.ensures.played kinds many m)) in
    rw (p.1, p.2) (fault-behind c.play_lines-ended.result _ _ _ (c.in_err-dismiss_all.ensures.leaving kinds b.hows b.lines b.before (many ∙ sym c.play_lines-ended.ensures.still.count) b.ending b.leaving).loss c.play_lines-ended.ensures.fault)

pub returns-clause-played : goal.returns-clause-played
returns-clause-played g c = λ kinds many m.
    let b = (stops-leave c.play_lines-ended.result (g.S.Seat.seated c.play_lines-ended.new.players.seats) (setting g.S.Seat.gives g.Q.Reader.reads) (g.S.Seat.seated c.args.players.now.seats).limit kinds _ _ (g.I.Source.inlet c.args.source.now) (g.I.Source.inlet c.play_lines-ended.new.source) (c.is_lost.ensures.none c.if-is_lost.false) c.play_lines-ended.ensures.still.stops (c.play_lines-ended.ensures.played kinds many m)) in
    all-played c.play_lines-ended.result (g.S.Seat.seated c.play_lines-ended.new.players.seats) (setting g.S.Seat.gives g.Q.Reader.reads) (g.S.Seat.seated c.args.players.now.seats).limit kinds _ _ _ _ (g.I.Source.inlet c.args.source.now) (g.I.Source.inlet c.play_lines-ended.new.source) (c.is_lost.ensures.none c.if-is_lost.false) c.play_lines-ended.ensures.still.stops (c.play_lines-ended.ensures.played kinds many m) c.play_lines-ended.ensures.still.session.limit refl c.dismiss_all.ensures.grows
    (c.in_ok-dismiss_all.ensures.leaving kinds b.hows b.lines b.before (many ∙ sym c.play_lines-ended.ensures.still.count) b.ending b.leaving)

pub returns-in_err-dismiss_all-clause-still : goal.returns-in_err-dismiss_all-clause-still
returns-in_err-dismiss_all-clause-still g c =
    let p = err_from_is_err_and c.from_residual.result c.from_residual.ensures.1 in
    let q = c.requires.ready in
    let b = (stops-leave c.play_lines-ended.result (g.S.Seat.seated c.play_lines-ended.new.players.seats) (setting g.S.Seat.gives g.Q.Reader.reads) (g.S.Seat.seated c.args.players.now.seats).limit q.kinds _ _ (g.I.Source.inlet c.args.source.now) (g.I.Source.inlet c.play_lines-ended.new.source) (c.is_lost.ensures.none c.if-is_lost.false) c.play_lines-ended.ensures.still.stops (c.play_lines-ended.ensures.played q.kinds q.many q.moment)) in
    let loss = (c.in_err-dismiss_all.ensures.leaving q.kinds b.hows b.lines b.before (q.many ∙ sym c.play_lines-ended.ensures.still.count) b.ending b.leaving).loss in
    rw (p.1, p.2) (still-lost _ _ c.play_lines-ended.ensures.still c.in_err-dismiss_all.ensures.still (whole-lost _ _ _ loss))

pub returns-clause-still : goal.returns-clause-still
returns-clause-still g c = still-behind c.play_lines-ended.result _ (c.is_lost.ensures.none c.if-is_lost.false) c.dismiss_all.ensures.grows c.play_lines-ended.ensures.still c.in_ok-dismiss_all.ensures.still
