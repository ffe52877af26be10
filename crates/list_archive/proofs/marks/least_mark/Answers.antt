use Rattle.std.proofs.Common.{◌≡◌, ◌+◌, min, List, ◌∷◌, drop, sym, ap, ◌∙◌}
use Rattle.std.proofs.lemmas.List.{drop_more, drop_all}
use Rattle.list_shelf.specs.declared.lag.Lag.{Lag}
use Rattle.list_archive.specs.Trails.{Mark}
use Rattle.list_archive.specs.Archives.{least_mark}
use Rattle.list_archive.proofs.marks.least_mark.Goals as goal

pub loop-mark-preserved : goal.loop-mark-preserved
loop-mark-preserved c =
    let rest : List (Mark Lag) = drop (c.loop-mark.mark-index + 1) c.args.marks.now in
    let next : drop c.loop-mark.mark-index c.args.marks.now ≡ c.mark-item.result ∷ rest = drop_more c.args.marks.now c.loop-mark.mark-index c.mark-item.result c.loop-mark-test.true ∙ ap (λ r. r ∷ rest) (sym c.mark-item.is) in
    ap (λ n. least_mark n rest) (c.lesser-least.ensures ∙ ap (λ (l : Lag). min c.loop-mark.least l.stamp) c.lag.ensures) ∙ sym (ap (least_mark c.loop-mark.least) next) ∙ c.loop-mark.invariant

pub returns : goal.returns
returns c = sym (ap (least_mark c.loop-mark.least) (drop_all c.loop-mark.mark-index c.args.marks.now c.loop-mark-test.false)) ∙ c.loop-mark.invariant
