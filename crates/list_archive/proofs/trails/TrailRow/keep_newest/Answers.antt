use Rattle.std.proofs.Common.{◌≡◌, ◌≤◌, true, false, List, take, drop, ap, sym, subst, ◌∙◌, arith}
use Rattle.list_shelf.specs.declared.lag.Lag.{Lag}
use Rattle.list_archive.specs.Limits.{fits, newest}
use Rattle.list_archive.specs.Trails.{Trail}
use Rattle.list_archive.specs.Archives.{stored_size, newest_lags, AreAllLagging}
use Rattle.list_archive.proofs.CodeLemmas.{trail_by}
use Rattle.list_archive.proofs.CountLemmas.{take-few, newest-there, newest-cut}
use Rattle.list_archive.proofs.trails.TrailRow.keep_newest.Goals as goal

pub returns-then-fits : goal.returns-then-fits
returns-then-fits c =
    let all : fits stored_size (take c.self.inside.past c.self.inside.lags.items) ≡ true = ap (λ l. fits stored_size (take c.self.inside.past l)) (sym c.deref.ensures.value) ∙ sym c.fits.ensures ∙ c.if-fits.true in
    subst (λ (t : Trail Lag). t ≡ trail_by t.who (newest_lags c.args.log.now t.past) t.ahead) c.self.view_is
    (newest-there c.args.log.now c.self.inside.who c.self.inside.past c.self.inside.lags.items all)

pub bring_first-requires-clause-lagging : goal.bring_first-requires-clause-lagging
bring_first-requires-clause-lagging c = subst (λ (t : Trail Lag). AreAllLagging c.args.log.now t.past) (sym c.self.view_is) c.requires

pub returns : goal.returns
returns c =
    let more : fits stored_size (take c.self.inside.past c.self.inside.lags.items) ≡ false = ap (λ l. fits stored_size (take c.self.inside.past l)) (sym c.deref.ensures.value) ∙ sym c.fits.ensures ∙ c.if-fits.false in
    let few : c.count_too_many-less.result ≤ c.self.inside.past = omega (arith, c.count_too_many-less.ensures.within, take-few c.self.inside.past c.deref-2.result.now) in
    let newest_are : drop c.count_too_many-less.result (take c.self.inside.past c.bring_first.new.lags.items) ≡ newest stored_size (take c.self.inside.past c.bring_first.new.lags.items) =
    subst (λ (l : List Lag). drop c.count_too_many-less.result (take c.self.inside.past l) ≡ newest stored_size (take c.self.inside.past l)) c.deref-2.ensures.value c.count_too_many-less.ensures.newest in
    newest-cut c.args.log.now c.self.inside.who c.self.inside.past c.count_too_many-less.result c.self.inside.lags.items c.bring_first.new.lags.items _ c.self.invariant more c.bring_first.ensures few newest_are
    (c.drop.ensures.items ∙ c.drain.ensures.kept)
    ∙ ap (λ (t : Trail Lag). trail_by t.who (newest_lags c.args.log.now t.past) t.ahead) c.self.view_is
