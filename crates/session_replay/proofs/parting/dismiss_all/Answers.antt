use Rattle.std.proofs.Common.{refl, sym, ap, ◌∙◌, subst, arith, ◌<◌, ◌≡◌, ℕ, List, [], length}
use Rattle.std.proofs.lemmas.Result.{err_from_is_err_and}
use Rattle.session_replay.proofs.StayingLemmas.{still-first, still-then, still-done}
use Rattle.session_replay.proofs.LeavingLemmas.{leaving-goes, leaving-passes}
use Rattle.session_replay.proofs.DismissingLemmas.{may-leave, here-in, here-boxed, off-gone, off-keeps, leaving-lost, leaving-all, begins-grown, begins-same}
use Rattle.session_replay.proofs.parting.dismiss_all.Goals as goal
use Rattle.session_replay.proofs.parting.dismiss_all.Goals.{then-is_here+in_ok-dismiss, else-is_here}

pub loop-who-init : goal.loop-who-init
loop-who-init g c = record { still = still-first _ _ c.args.players.now c.requires.legal; within = omega arith; grows = begins-same _; leaving = λ kinds hows lines before many l. l }

pub dismiss-requires-clause-here : goal.dismiss-requires-clause-here
dismiss-requires-clause-here g c =
    let m = c.requires.may in
    here-in _ m.kinds m.hows _ c.loop-who.who m.lines _ _ _ (c.loop-who.invariant.leaving m.kinds m.hows m.lines _ m.many (may-leave _ _ _ _ m)) (omega (arith, m.many, c.loop-who-test.true, c.count-who-end.ensures)) (c.is_here.ensures.here c.if-is_here.true)

pub dismiss-requires-clause-boxed : goal.dismiss-requires-clause-boxed
dismiss-requires-clause-boxed g c =
    let m = c.requires.may in
    here-boxed _ m.kinds m.hows _ c.loop-who.who m.lines _ _ _ (c.loop-who.invariant.leaving m.kinds m.hows m.lines _ m.many (may-leave _ _ _ _ m)) (omega (arith, m.many, c.loop-who-test.true, c.count-who-end.ensures)) (c.is_here.ensures.here c.if-is_here.true)

pub returns-in_err-dismiss-clause-leaving : goal.returns-in_err-dismiss-clause-leaving
returns-in_err-dismiss-clause-leaving g c =
    let p = err_from_is_err_and c.from_residual.result c.from_residual.ensures.1 in
    rw (p.1, p.2) (λ kinds hows lines before many ending l.
    leaving-lost _ kinds hows c.loop-who.who lines before _ _ _ _ (c.loop-who.invariant.leaving kinds hows lines before many l) ending (omega (arith, many, c.loop-who-test.true, c.count-who-end.ensures)) (c.is_here.ensures.here c.if-is_here.true) c.dismiss.ensures.alone.grows
    (λ how mine told got. c.in_err-dismiss.ensures.lost how mine told got))

pub loop-who-preserved : goal.loop-who-preserved
loop-who-preserved g c = elim c.if-is_here.branch [
  | then-is_here+in_ok-dismiss w ↦ rw w.players-is (record {
    still = still-done _ _ (still-then _ _ c.loop-who.invariant.still w.in_ok-dismiss.ensures.still);
    within = omega (arith, c.loop-who-test.true, c.count-who-end.ensures);
    grows = begins-grown _ _ _ _ _ c.loop-who.invariant.grows w.dismiss.ensures.alone.grows;
    leaving = λ kinds hows lines before many l.
        leaving-goes _ kinds hows c.loop-who.who lines before _ _ _ _ (c.loop-who.invariant.leaving kinds hows lines before many l) w.in_ok-dismiss.ensures.leaves (omega (arith, many, c.loop-who-test.true, c.count-who-end.ensures)) w.dismiss.ensures.alone.others
        (c.is_here.ensures.here w.if-is_here.true) (off-gone _ _ w.in_ok-dismiss.ensures.off) (off-keeps _ _ w.in_ok-dismiss.ensures.off);
  })
  | else-is_here w ↦ rw w.players-is (record {
    still = c.loop-who.invariant.still;
    within = omega (arith, c.loop-who-test.true, c.count-who-end.ensures);
    grows = c.loop-who.invariant.grows;
    leaving = λ kinds hows lines before many l.
        leaving-passes _ kinds hows c.loop-who.who lines before _ _ (c.loop-who.invariant.leaving kinds hows lines before many l) (c.is_here.ensures.away w.if-is_here.false);
  })
]

pub returns-clause-leaving : goal.returns-clause-leaving
returns-clause-leaving g c = λ kinds hows lines before many ending l.
    leaving-all _ kinds hows c.loop-who.who lines before _ _ (omega (arith, many, c.loop-who.invariant.within, c.loop-who-test.false, c.count-who-end.ensures)) (c.loop-who.invariant.leaving kinds hows lines before many l)

pub returns-in_err-dismiss-clause-still : goal.returns-in_err-dismiss-clause-still
returns-in_err-dismiss-clause-still g c =
    let p = err_from_is_err_and c.from_residual.result c.from_residual.ensures.1 in
    rw (p.1, p.2) (still-then _ _ c.loop-who.invariant.still c.in_err-dismiss.ensures.still)
