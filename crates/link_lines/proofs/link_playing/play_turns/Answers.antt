use Rattle.std.proofs.Common.{[], Ok, Err, refl, ap, ◌∙◌}
use Rattle.std.proofs.lemmas.Result.{err_from_is_err_and}
use Rattle.line_reading.proofs.HearingLemmas.{told-same, told-trans}
use Rattle.session_lines.specs.Serving.{service}
use Rattle.session_lines.proofs.StayingLemmas.{stays-still, stays-then, whole-still}
use Rattle.link_lines.proofs.DrawingLemmas.{line-draws, missed-draws}
use Rattle.link_lines.proofs.TalkLemmas.{unasked}
use Rattle.link_lines.proofs.HeardLemmas.{begin-hearing, heard-still, heard, line-heard, line-heard-left, line-heard-stopped, last-heard, last-heard-left, last-heard-stopped, link-ended, link-failed, link-full, link-lost, idle-heard, idle-stopped}
use Rattle.link_lines.proofs.link_playing.play_turns.Goals as goal

pub loop-init : goal.loop-init
loop-init g c = record {
  stays = stays-still _ c.requires.ready;
  kept = refl;
  whole = λ none. none;
  so_far = λ opens. begin-hearing _ _ _ c.args.talk.now.reading c.requires.taken c.requires.pending;
  faults = refl;
  counted = refl;
  drawn = λ d. d;
  told = told-same _;
}

pub returns-in_err-hear-clause-plays : goal.returns-in_err-hear-clause-plays
returns-in_err-hear-clause-plays g c =
    let p = err_from_is_err_and c.from_residual.result c.from_residual.ensures.1 in
    rw (p.1, p.2) (λ opens. link-lost _ _ _ _ _ _ _ _ _ c.loop.invariant.stays.same c.in_err-hear.ensures.sent c.in_err-hear.ensures.hears (c.loop.invariant.so_far opens))

pub returns-in_err-play_line-in-Line-clause-plays : goal.returns-in_err-play_line-in-Line-clause-plays
returns-in_err-play_line-in-Line-clause-plays g c =
    let p = err_from_is_err_and c.from_residual-in_err-play_line-in-Line.result c.from_residual-in_err-play_line-in-Line.ensures.1 in
    rw (p.1, p.2) (λ opens. line-heard-stopped _ _ _ _ _ _ _ _ _ _ _ c.loop.invariant.stays.same c.hear.ensures.sent c.play_line.ensures.heard (heard _ _ _ _ _ _ c.in-Line.is c.in_ok-hear.ensures.hears) (c.loop.invariant.so_far opens) (c.in_err-play_line-in-Line.ensures.serves opens))

pub returns-then-branch-clause-plays : goal.returns-then-branch-clause-plays
returns-then-branch-clause-plays g c = λ opens. line-heard-left _ _ _ _ _ _ _ _ _ _ _ c.if-branch.true c.loop.invariant.stays.same c.hear.ensures.sent c.play_line.ensures.heard (heard _ _ _ _ _ _ c.in-Line.is c.in_ok-hear.ensures.hears) (c.loop.invariant.so_far opens) (c.in_ok-play_line-in-Line.ensures.serves opens)

pub loop-preserved-else-branch : goal.loop-preserved-else-branch
loop-preserved-else-branch g c = record {
  stays = stays-then c.loop.invariant.stays c.play_line.ensures.stays;
  kept = c.play_line.ensures.kept ∙ c.loop.invariant.kept;
  whole = whole-still c.loop.invariant.whole c.in_ok-play_line-in-Line.ensures.whole;
  so_far = λ opens. heard-still _ _ _ _ _ _ _ c.play_line.ensures.reading (line-heard _ _ _ _ _ _ _ _ _ _ _ c.if-branch.false c.loop.invariant.stays.same c.hear.ensures.sent c.play_line.ensures.heard (heard _ _ _ _ _ _ c.in-Line.is c.in_ok-hear.ensures.hears) (c.loop.invariant.so_far opens) (c.in_ok-play_line-in-Line.ensures.serves opens));
  faults = c.play_line.ensures.heard.1 ∙ (let f = rw c.in-Line.is at c.in_ok-hear.ensures.fault in f) ∙ c.loop.invariant.faults;
  counted = c.in_ok-play_line-in-Line.ensures.cause ∙ ap (λ o. o.faults) c.hear.ensures.sent ∙ c.loop.invariant.counted;
  drawn = λ d. line-draws g.S.Seat.gives g.Q.Reader.reads [] _ _ _ _ _ _ _ c.loop.invariant.stays.same.number (c.in_ok-play_line-in-Line.ensures.serves []) (c.loop.invariant.drawn d);
  told = told-trans _ _ _ c.loop.invariant.told (told-trans _ _ _ c.hear.ensures.no_more c.play_line.ensures.no_more);
}

pub returns-in_err-leaving-in-Last-clause-plays : goal.returns-in_err-leaving-in-Last-clause-plays
returns-in_err-leaving-in-Last-clause-plays g c =
    let p = err_from_is_err_and c.from_residual-in_err-leaving-in-Last.result c.from_residual-in_err-leaving-in-Last.ensures.1 in
    rw (p.1, p.2) (λ opens. last-heard-stopped _ _ _ _ _ _ _ _ _ _ _ c.loop.invariant.stays.same c.hear.ensures.sent c.play_line-in-Last.ensures.heard (heard _ _ _ _ _ _ c.in-Last.is c.in_ok-hear.ensures.hears) (c.loop.invariant.so_far opens) (c.in_err-leaving-in-Last.ensures.serves opens))

pub returns-then-leaving-clause-plays : goal.returns-then-leaving-clause-plays
returns-then-leaving-clause-plays g c = λ opens. last-heard-left _ _ _ _ _ _ _ _ _ _ _ c.if-leaving.true c.loop.invariant.stays.same c.hear.ensures.sent c.play_line-in-Last.ensures.heard (heard _ _ _ _ _ _ c.in-Last.is c.in_ok-hear.ensures.hears) (c.loop.invariant.so_far opens) (c.in_ok-leaving-in-Last.ensures.serves opens)

pub returns-in-Last-clause-plays : goal.returns-in-Last-clause-plays
returns-in-Last-clause-plays g c = λ opens. last-heard _ _ _ _ _ _ _ _ _ _ _ c.if-leaving.false c.loop.invariant.stays.same c.hear.ensures.sent c.play_line-in-Last.ensures.heard (heard _ _ _ _ _ _ c.in-Last.is c.in_ok-hear.ensures.hears) (c.loop.invariant.so_far opens) (c.in_ok-leaving-in-Last.ensures.serves opens)

pub returns-in-Ended-clause-plays : goal.returns-in-Ended-clause-plays
returns-in-Ended-clause-plays g c = λ opens. link-ended _ _ _ _ _ _ _ _ c.hear.ensures.sent (heard _ _ _ _ _ _ c.in-Ended.is c.in_ok-hear.ensures.hears) (c.loop.invariant.so_far opens)

pub loop-preserved : goal.loop-preserved
loop-preserved g c = record {
  stays = stays-then c.loop.invariant.stays c.draw_missed.ensures.stays;
  kept = c.draw_missed.ensures.kept ∙ c.loop.invariant.kept;
  whole = whole-still c.loop.invariant.whole c.in_ok-draw_missed-in-Idle.ensures.whole;
  so_far = λ opens. heard-still _ _ _ _ _ _ _ (ap (λ t. t.reading) c.draw_missed.ensures.same) (idle-heard c.in_ok-draw_missed-in-Idle.field-0 _ _ _ _ _ _ _ _ _ _ c.loop.invariant.stays.same c.hear.ensures.sent c.draw_missed.ensures.heard (heard _ _ _ _ _ _ c.in-Idle.is c.in_ok-hear.ensures.hears) (c.loop.invariant.so_far opens) (unasked _ _ _ _ _ _ (c.in_ok-draw_missed-in-Idle.ensures.draws g.Q.Reader.reads opens)));
  faults = c.draw_missed.ensures.heard.1 ∙ (let f = rw c.in-Idle.is at c.in_ok-hear.ensures.fault in f) ∙ c.loop.invariant.faults;
  counted = c.in_ok-draw_missed-in-Idle.ensures.cause ∙ ap (λ o. o.faults) c.hear.ensures.sent ∙ c.loop.invariant.counted;
  drawn = λ d. missed-draws (Ok c.in_ok-draw_missed-in-Idle.field-0) (service g.S.Seat.gives g.Q.Reader.reads []) (g.S.Seat.seated c.loop.seat) (g.S.Seat.seated c.draw_missed.new.seat) (g.L.Link.wire c.hear.new.link).outlet (g.L.Link.wire c.draw_missed.new.link).outlet _ refl c.loop.invariant.stays.same.number (c.in_ok-draw_missed-in-Idle.ensures.draws g.Q.Reader.reads []) (c.loop.invariant.drawn d);
  told = told-trans _ _ _ c.loop.invariant.told (told-trans _ _ _ c.hear.ensures.no_more c.draw_missed.ensures.no_more);
}

pub returns-in_err-draw_missed-in-Idle-clause-plays : goal.returns-in_err-draw_missed-in-Idle-clause-plays
returns-in_err-draw_missed-in-Idle-clause-plays g c =
    let p = err_from_is_err_and c.from_residual-in_err-draw_missed-in-Idle.result c.from_residual-in_err-draw_missed-in-Idle.ensures.1 in
    rw (p.1, p.2) (λ opens. idle-stopped {A = Unit {0}} _ _ _ _ _ _ _ _ _ _ _ c.loop.invariant.stays.same c.hear.ensures.sent c.draw_missed.ensures.heard (heard _ _ _ _ _ _ c.in-Idle.is c.in_ok-hear.ensures.hears) (c.loop.invariant.so_far opens) (unasked _ _ _ _ _ _ (c.in_err-draw_missed-in-Idle.ensures.draws g.Q.Reader.reads opens)))

pub returns-in-ReadFault-clause-plays : goal.returns-in-ReadFault-clause-plays
returns-in-ReadFault-clause-plays g c = λ opens. link-failed _ _ _ _ _ _ _ _ c.hear.ensures.sent (heard _ _ _ _ _ _ c.in-ReadFault.is c.in_ok-hear.ensures.hears) (c.loop.invariant.so_far opens)

pub returns-in-Full-clause-plays : goal.returns-in-Full-clause-plays
returns-in-Full-clause-plays g c = λ opens. link-full _ _ _ _ _ _ _ _ c.hear.ensures.sent (heard _ _ _ _ _ _ c.in-Full.is c.in_ok-hear.ensures.hears) (c.loop.invariant.so_far opens)

pub returns-in_err-play_line-in-Line-clause-drawn : goal.returns-in_err-play_line-in-Line-clause-drawn
returns-in_err-play_line-in-Line-clause-drawn g c = λ d. line-draws g.S.Seat.gives g.Q.Reader.reads [] _ _ _ _ _ _ _ c.loop.invariant.stays.same.number (c.in_err-play_line-in-Line.ensures.serves []) (c.loop.invariant.drawn d)

pub returns-then-branch-clause-drawn : goal.returns-then-branch-clause-drawn
returns-then-branch-clause-drawn g c = λ d. line-draws g.S.Seat.gives g.Q.Reader.reads [] _ _ _ _ _ _ _ c.loop.invariant.stays.same.number (c.in_ok-play_line-in-Line.ensures.serves []) (c.loop.invariant.drawn d)

pub returns-in_err-leaving-in-Last-clause-drawn : goal.returns-in_err-leaving-in-Last-clause-drawn
returns-in_err-leaving-in-Last-clause-drawn g c = λ d. line-draws g.S.Seat.gives g.Q.Reader.reads [] _ _ _ _ _ _ _ c.loop.invariant.stays.same.number (c.in_err-leaving-in-Last.ensures.serves []) (c.loop.invariant.drawn d)

pub returns-then-leaving-clause-drawn : goal.returns-then-leaving-clause-drawn
returns-then-leaving-clause-drawn g c = λ d. line-draws g.S.Seat.gives g.Q.Reader.reads [] _ _ _ _ _ _ _ c.loop.invariant.stays.same.number (c.in_ok-leaving-in-Last.ensures.serves []) (c.loop.invariant.drawn d)

pub returns-in-Last-clause-drawn : goal.returns-in-Last-clause-drawn
returns-in-Last-clause-drawn g c = λ d. line-draws g.S.Seat.gives g.Q.Reader.reads [] _ _ _ _ _ _ _ c.loop.invariant.stays.same.number (c.in_ok-leaving-in-Last.ensures.serves []) (c.loop.invariant.drawn d)

pub returns-in_err-draw_missed-in-Idle-clause-drawn : goal.returns-in_err-draw_missed-in-Idle-clause-drawn
returns-in_err-draw_missed-in-Idle-clause-drawn g c = λ d. missed-draws {A = Unit {0}} (Err c.in_err-draw_missed-in-Idle.field-0.0) (service g.S.Seat.gives g.Q.Reader.reads []) (g.S.Seat.seated c.loop.seat) (g.S.Seat.seated c.draw_missed.new.seat) (g.L.Link.wire c.hear.new.link).outlet (g.L.Link.wire c.draw_missed.new.link).outlet _ refl c.loop.invariant.stays.same.number (c.in_err-draw_missed-in-Idle.ensures.draws g.Q.Reader.reads []) (c.loop.invariant.drawn d)
