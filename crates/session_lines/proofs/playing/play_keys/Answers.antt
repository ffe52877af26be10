use Rattle.std.proofs.Common.{refl, ◌∙◌}
use Rattle.std.proofs.lemmas.Result.{err_from_is_err_and}
use Rattle.session_lines.proofs.StayingLemmas.{stays-still, stays-then, whole-still, whole-then}
use Rattle.session_lines.proofs.TakingLemmas.{none-taken, struck-more, keys-cut, draw-cut, keys-taken, keys-answered}
use Rattle.session_lines.proofs.playing.play_keys.Goals as goal

pub loop-key-init : goal.loop-key-init
loop-key-init g c = record { stays = stays-still _ c.requires; kept = refl; whole = λ m. m; so_far = none-taken _ _ }

pub loop-key-preserved : goal.loop-key-preserved
loop-key-preserved g c = record {
  stays = stays-then c.loop-key.invariant.stays c.act.ensures.stays;
  kept = c.act.ensures.kept ∙ c.loop-key.invariant.kept;
  whole = whole-still c.loop-key.invariant.whole c.in_ok-leaving.ensures.whole;
  so_far = struck-more _ _ _ _ c.args.keys.now c.loop-key.key-index _ _ _ c.loop-key-test.true c.loop-key.invariant.stays.same c.loop-key.invariant.so_far c.in_ok-leaving.ensures.takes;
}

pub returns-in_err-leaving-clause-answers : goal.returns-in_err-leaving-clause-answers
returns-in_err-leaving-clause-answers g c =
    let p = err_from_is_err_and c.from_residual.result c.from_residual.ensures.1 in
    rw (p.1, p.2) (keys-cut _ _ _ _ c.args.keys.now c.loop-key.key-index _ _ _ _ c.loop-key-test.true c.loop-key.invariant.stays.same c.loop-key.invariant.so_far c.in_err-leaving.ensures.takes)

pub returns-in_err-telling-clause-answers : goal.returns-in_err-telling-clause-answers
returns-in_err-telling-clause-answers g c =
    let p = err_from_is_err_and c.from_residual-in_err-telling.result c.from_residual-in_err-telling.ensures.1 in
    rw (p.1, p.2) (draw-cut _ _ _ _ c.args.keys.now c.loop-key.key-index _ _ _ c.loop-key-test.false c.loop-key.invariant.stays.same c.loop-key.invariant.so_far c.in_err-telling.ensures.takes)

pub returns-clause-answers : goal.returns-clause-answers
returns-clause-answers g c = keys-answered _ _ _ _ _ (keys-taken _ _ _ _ c.args.keys.now c.loop-key.key-index _ _ c.loop-key-test.false c.loop-key.invariant.stays.same c.loop-key.invariant.so_far c.in_ok-telling.ensures.takes)

pub returns-in_err-leaving-clause-whole : goal.returns-in_err-leaving-clause-whole
returns-in_err-leaving-clause-whole g c =
    let p = err_from_is_err_and c.from_residual.result c.from_residual.ensures.1 in
    rw (p.1, p.2) (whole-then _ _ _ _ c.loop-key.invariant.whole c.in_err-leaving.ensures.whole)

pub returns-in_err-telling-clause-whole : goal.returns-in_err-telling-clause-whole
returns-in_err-telling-clause-whole g c =
    let p = err_from_is_err_and c.from_residual-in_err-telling.result c.from_residual-in_err-telling.ensures.1 in
    rw (p.1, p.2) (whole-then _ _ _ _ c.loop-key.invariant.whole c.in_err-telling.ensures.whole)

pub returns-clause-whole : goal.returns-clause-whole
returns-clause-whole g c = whole-still c.loop-key.invariant.whole c.in_ok-telling.ensures.whole
