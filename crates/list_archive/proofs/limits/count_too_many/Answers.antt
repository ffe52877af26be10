use Rattle.std.proofs.Common.{◌≡◌, true, false, drop, ap, sym, ◌∙◌, arith}
use Rattle.list_archive.specs.Limits.{fits}
use Rattle.list_archive.specs.Archives.{stored_size}
use Rattle.list_archive.proofs.LimitLemmas.{newest-all}
use Rattle.list_archive.proofs.CountLemmas.{to-end, newest-skip, newest-few}
use Rattle.list_archive.proofs.limits.count_too_many.Goals as goal

pub returns-then-fits-clause-newest : goal.returns-then-fits-clause-newest
returns-then-fits-clause-newest c =
    let all : fits stored_size (drop c.loop-oldest.oldest c.args.lags.now) ≡ true = ap (fits stored_size) (sym (to-end c.loop-oldest.oldest c.args.lags.now)) ∙ sym c.fits.ensures ∙ c.if-fits.true in
    sym (newest-all stored_size (drop c.loop-oldest.oldest c.args.lags.now) all) ∙ c.loop-oldest.invariant.newest

pub loop-oldest-preserved : goal.loop-oldest-preserved
loop-oldest-preserved c =
    let more : fits stored_size (drop c.loop-oldest.oldest c.args.lags.now) ≡ false = ap (fits stored_size) (sym (to-end c.loop-oldest.oldest c.args.lags.now)) ∙ sym c.fits.ensures ∙ c.if-fits.false in
    record {
      within = omega (arith, c.loop-oldest-test.true);
      newest = newest-skip stored_size c.args.lags.now c.loop-oldest.oldest (omega (arith, c.loop-oldest-test.true)) more ∙ c.loop-oldest.invariant.newest;
    }

pub returns-clause-newest : goal.returns-clause-newest
returns-clause-newest c = newest-few stored_size c.args.lags.now c.loop-oldest.oldest (omega (arith, c.loop-oldest-test.false)) ∙ c.loop-oldest.invariant.newest
