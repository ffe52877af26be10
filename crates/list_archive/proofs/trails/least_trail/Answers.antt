use Rattle.std.proofs.Common.{◌≡◌, ◌+◌, List, ◌∷◌, drop, sym, ap, ◌∙◌}
use Rattle.std.proofs.lemmas.List.{drop_more, drop_all}
use Rattle.list_shelf.specs.declared.lag.Lag.{Lag}
use Rattle.list_archive.specs.Trails.{Trail}
use Rattle.list_archive.specs.Archives.{least_trail}
use Rattle.list_archive.proofs.trails.least_trail.Goals as goal

pub loop-trail-preserved : goal.loop-trail-preserved
loop-trail-preserved c =
    let rest : List (Trail Lag) = drop (c.loop-trail.trail-index + 1) c.args.trails.now in
    let next : drop c.loop-trail.trail-index c.args.trails.now ≡ c.trail-item.result ∷ rest = drop_more c.args.trails.now c.loop-trail.trail-index c.trail-item.result c.loop-trail-test.true ∙ ap (λ r. r ∷ rest) (sym c.trail-item.is) in
    ap (λ n. least_trail n rest) c.least-least.ensures ∙ sym (ap (least_trail c.loop-trail.least) next) ∙ c.loop-trail.invariant

pub returns : goal.returns
returns c = sym (ap (least_trail c.loop-trail.least) (drop_all c.loop-trail.trail-index c.args.trails.now c.loop-trail-test.false)) ∙ c.loop-trail.invariant
