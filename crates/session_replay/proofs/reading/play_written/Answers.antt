use Rattle.std.proofs.Common.{sym, ◌∙◌}
use Rattle.std.proofs.lemmas.Result.{err_from_is_err_and}
use Rattle.session_replay.proofs.PhaseLemmas.{plays-stayed, plays-left, plays-over, plays-bad}
use Rattle.session_replay.proofs.reading.play_written.Goals as goal

pub returns-in-Stayed-clause-plays : goal.returns-in-Stayed-clause-plays
returns-in-Stayed-clause-plays g c = λ limit kinds lines many p. plays-stayed _ limit kinds lines _ _ _ _ _ _ c.in-Stayed.is p (c.in_ok-take_written.ensures.takes kinds lines many p.moment)

pub returns-in_err-take_written-clause-plays : goal.returns-in_err-take_written-clause-plays
returns-in_err-take_written-clause-plays g c =
    let p = err_from_is_err_and c.from_residual.result c.from_residual.ensures.1 in
    rw (p.1, p.2) (λ limit kinds lines many p. c.in_err-take_written.ensures.takes kinds lines many p.moment)

pub returns-in-Bad-clause-plays : goal.returns-in-Bad-clause-plays
returns-in-Bad-clause-plays g c = λ limit kinds lines many p. plays-bad _ limit kinds lines _ _ _ _ _ _ c.in-Bad.is p (c.in_ok-take_written.ensures.takes kinds lines many p.moment)

pub returns-then-is_anybody_here-clause-plays : goal.returns-then-is_anybody_here-clause-plays
returns-then-is_anybody_here-clause-plays g c = λ limit kinds lines many p.
    plays-left _ limit _ kinds lines _ _ _ _ _ _ c.in-Left.is (many ∙ sym c.take_written.ensures.still.count) p (c.in_ok-take_written.ensures.takes kinds lines many p.moment) (c.is_anybody_here.ensures.yes c.if-is_anybody_here.true)

pub returns-else-is_anybody_here-clause-plays : goal.returns-else-is_anybody_here-clause-plays
returns-else-is_anybody_here-clause-plays g c = λ limit kinds lines many p.
    plays-over _ limit _ kinds lines _ _ _ _ _ _ c.in-Left.is (many ∙ sym c.take_written.ensures.still.count) p (c.in_ok-take_written.ensures.takes kinds lines many p.moment) (c.is_anybody_here.ensures.no c.if-is_anybody_here.false)
