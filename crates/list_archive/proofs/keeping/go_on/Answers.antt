use Rattle.std.proofs.Common.{◌≡◌, ◌<◌, ◌≤◌, ◌++◌, ◌∷◌, [], length, ap, sym, subst, ◌∙◌, arith}
use Rattle.tables.specs.Tables.{place_where}
use Rattle.list_shelf.specs.declared.lag.Lag.{Lag}
use Rattle.list_shelf.specs.Lagging.{IsLagging}
use Rattle.list_shelf.proofs.CodeLemmas.{on-ok}
use Rattle.list_archive.specs.Trails.{Trail, is_trail_of, trail_of}
use Rattle.list_archive.specs.Archives.{newest_lags, AreAllLagging}
use Rattle.list_archive.proofs.PlaceLemmas.{trail-read}
use Rattle.list_archive.proofs.UndoLemmas.{last-holds, went-on, went-first, alone-stays}
use Rattle.list_archive.proofs.keeping.go_on.Goals as goal

pub go_on-requires : goal.go_on-requires
go_on-requires c =
    let at : c.place_of_trail-at.result ≡ place_where (is_trail_of c.args.who) c.args.trails.now.items = c.place_of_trail-at.ensures ∙ ap (place_where (is_trail_of c.args.who)) c.as_slice.ensures.value in
    let below : c.place_of_trail-at.result < length c.args.trails.now.items = omega (arith, c.if-at-len.true, c.len.ensures, c.args.trails.now.ok.0) in
    subst (λ (t : Trail Lag). AreAllLagging c.args.log.now (t.past ++ c.args.lag ∷ []))
    (sym (trail-read c.args.who c.args.trails.now.items c.place_of_trail-at.result c.index_mut-trail.result.now at below c.index_mut-trail.ensures.value)) c.requires.lagging

pub returns-then-at-len-clause-ok : goal.returns-then-at-len-clause-ok
returns-then-at-len-clause-ok c =
    let at : c.place_of_trail-at.result ≡ place_where (is_trail_of c.args.who) c.args.trails.now.items = c.place_of_trail-at.ensures ∙ ap (place_where (is_trail_of c.args.who)) c.as_slice.ensures.value in
    let below : c.place_of_trail-at.result < length c.args.trails.now.items = omega (arith, c.if-at-len.true, c.len.ensures, c.args.trails.now.ok.0) in
    on-ok c.go_on.result c.go_on.ensures.ok (λ is.
    went-on (newest_lags c.args.log.now) c.args.who c.args.lag c.args.trails.now.items c.place_of_trail-at.result c.index_mut-trail.result.now c.go_on.new.self at below c.index_mut-trail.ensures.value is)

pub returns-clause-ok : goal.returns-clause-ok
returns-clause-ok c =
    let at : c.place_of_trail-at.result ≡ place_where (is_trail_of c.args.who) c.args.trails.now.items = c.place_of_trail-at.ensures ∙ ap (place_where (is_trail_of c.args.who)) c.as_slice.ensures.value in
    let past : length c.args.trails.now.items ≤ c.place_of_trail-at.result = omega (arith, c.if-at-len.false, c.len.ensures, c.args.trails.now.ok.0) in
    let lagging : IsLagging c.args.log.now c.args.lag = last-holds (IsLagging c.args.log.now) (trail_of c.args.who c.args.trails.now.items).past c.args.lag c.requires.lagging in
    c.in_ok-push.ensures.items
    ∙ went-first (newest_lags c.args.log.now) c.args.who c.args.lag c.args.trails.now.items c.place_of_trail-at.result c.in_ok-new.field-0 at past (alone-stays c.args.log.now c.args.lag lagging c.requires.up) c.in_ok-new.ensures
