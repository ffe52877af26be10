use Rattle.std.proofs.Common.{refl, ◌∙◌}
use Rattle.std.proofs.lemmas.Result.{err_from_is_err_and}
use Rattle.std.proofs.KnownBytes.{Appends-nil, Appends-trans}
use Rattle.line_reading.proofs.HearingLemmas.{told-trans, line-heard, part-kept, link-ended, last-heard, pending-still, begin-hearing, told-same, not-some}
use Rattle.line_reading.proofs.TakenLemmas.{more-taken}
use Rattle.line_reading.proofs.reader.LineReader.hear.Goals as goal

pub pieces-init : goal.pieces-init
pieces-init g c = record {
  so_far = begin-hearing _ (g.L.Link.wire c.args.link.now) _ _ _ _ _ c.self.view_is c.self.invariant.0 c.begin_line.ensures c.self.invariant.1;
  received = Appends-nil _;
  not_given = refl;
  sent = refl;
  told = told-same _;
}

pub pieces-preserved : goal.pieces-preserved
pieces-preserved g c =
    let m = rw c.if-branch.false at c.in_ok-move_line.ensures in
    let f = c.in-Got.ensures.fills in
    record {
      so_far = more-taken _ _ _ _ _ _ _ _ _ c.in-Got.count c.in-Some.room m.0 m.1 f.0 c.in-Some.ensures.some.1 c.in-Some.ensures.some.2 refl c.in-Got.ensures.counted c.pieces.invariant.so_far;
      received = Appends-trans _ _ _ _ _ c.pieces.invariant.received f.1;
      not_given = c.pieces.invariant.not_given;
      sent = c.hear.ensures.sent ∙ c.pieces.invariant.sent;
      told = told-trans _ _ _ c.pieces.invariant.told c.hear.ensures.told;
    }

pub returns-in_err-move_line-clause-hears : goal.returns-in_err-move_line-clause-hears
returns-in_err-move_line-clause-hears g c =
    let p = err_from_is_err_and c.from_residual.result c.from_residual.ensures.1 in
    let m = c.in_err-move_line.ensures in
    rw (p.1, p.2) (line-heard _ _ _ (g.L.Link.wire c.args.link.now) (g.L.Link.wire c.pieces.link) (g.L.Link.wire c.pieces.link) _ _ _ c.pieces.invariant.so_far c.pieces.invariant.received (refl, refl) refl (pending-still _ _ _ _ _ _ c.pieces.invariant.not_given m.0 m.1 c.pieces.invariant.so_far.all))

pub returns-then-branch-clause-hears : goal.returns-then-branch-clause-hears
returns-then-branch-clause-hears g c =
    let s = c.pieces.invariant.so_far in
    let m = rw c.if-branch.true at c.in_ok-move_line.ensures in
    line-heard _ _ _ (g.L.Link.wire c.args.link.now) (g.L.Link.wire c.pieces.link) (g.L.Link.wire c.pieces.link) _ _ _ s c.pieces.invariant.received (refl, refl) refl (record { split = s.all ∙ m.0; first = m.1 s.none })

pub returns-in_default-clause-hears : goal.returns-in_default-clause-hears
returns-in_default-clause-hears g c =
    let s = c.pieces.invariant.so_far in
    let m = rw c.if-branch.false at c.in_ok-move_line.ensures in
    line-heard _ _ _ (g.L.Link.wire c.args.link.now) (g.L.Link.wire c.pieces.link) (g.L.Link.wire c.pieces.link) _ _ _ s c.pieces.invariant.received (refl, refl) refl (part-kept _ (g.L.Link.wire c.args.link.now) (g.L.Link.wire c.pieces.link) _ _ _ _ _ _ s c.pieces.invariant.not_given m.0 m.1 m.2, c.room_behind.ensures.none (not-some _ c.in_default.not-Some))

pub returns-in-End-clause-hears : goal.returns-in-End-clause-hears
returns-in-End-clause-hears g c =
    let s = c.pieces.invariant.so_far in
    let m = rw c.if-branch.false at c.in_ok-move_line.ensures in
    let f = c.in-End.ensures.fills in
    line-heard _ _ _ (g.L.Link.wire c.args.link.now) (g.L.Link.wire c.pieces.link) (g.L.Link.wire c.hear.new.link) _ _ _ s c.pieces.invariant.received f.1 refl (link-ended _ (g.L.Link.wire c.args.link.now) (g.L.Link.wire c.pieces.link) _ _ _ _ _ _ s c.pieces.invariant.not_given f.0 m.0 (c.is_empty.ensures.none c.if-is_empty.true) f.2)

pub returns-in-End-2-clause-hears : goal.returns-in-End-2-clause-hears
returns-in-End-2-clause-hears g c =
    let s = c.pieces.invariant.so_far in
    let m = rw c.if-branch.false at c.in_ok-move_line.ensures in
    let f = c.in-End-2.ensures.fills in
    line-heard _ _ _ (g.L.Link.wire c.args.link.now) (g.L.Link.wire c.pieces.link) (g.L.Link.wire c.hear.new.link) _ _ _ s c.pieces.invariant.received f.1 refl (last-heard _ (g.L.Link.wire c.args.link.now) (g.L.Link.wire c.pieces.link) _ _ _ _ _ s f.0 m.0 m.1 (c.is_empty.ensures.some c.if-is_empty.false) f.2)

pub returns-in-Idle-clause-hears : goal.returns-in-Idle-clause-hears
returns-in-Idle-clause-hears g c =
    let s = c.pieces.invariant.so_far in
    let m = rw c.if-branch.false at c.in_ok-move_line.ensures in
    let f = c.in-Idle.ensures.fills in
    line-heard _ _ _ (g.L.Link.wire c.args.link.now) (g.L.Link.wire c.pieces.link) (g.L.Link.wire c.hear.new.link) _ _ _ s c.pieces.invariant.received f.0 refl (part-kept _ (g.L.Link.wire c.args.link.now) (g.L.Link.wire c.pieces.link) _ _ _ _ _ _ s c.pieces.invariant.not_given m.0 m.1 f.1)

pub returns-in-Failed-clause-hears : goal.returns-in-Failed-clause-hears
returns-in-Failed-clause-hears g c =
    let s = c.pieces.invariant.so_far in
    let m = rw c.if-branch.false at c.in_ok-move_line.ensures in
    let f = c.in-Failed.ensures.fills in
    line-heard _ _ _ (g.L.Link.wire c.args.link.now) (g.L.Link.wire c.pieces.link) (g.L.Link.wire c.hear.new.link) _ _ _ s c.pieces.invariant.received f.0 refl (part-kept _ (g.L.Link.wire c.args.link.now) (g.L.Link.wire c.pieces.link) _ _ _ _ _ _ s c.pieces.invariant.not_given m.0 m.1 f.1)
