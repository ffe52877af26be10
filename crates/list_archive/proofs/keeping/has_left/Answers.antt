use Rattle.std.proofs.Common.{◌&&◌, not, ap, sym, ◌∙◌}
use Rattle.std.proofs.lemmas.Bool.{eq-eqb}
use Rattle.list_archive.specs.Archives.{own_lag, alike_listed}
use Rattle.list_archive.proofs.keeping.has_left.Goals as goal

pub returns : goal.returns
returns c =
    ap not (c.alike.ensures ∙ ap (alike_listed c.args.lag.now.sels) c.sels.ensures)
    ∙ sym (ap (λ b. b && not (alike_listed c.args.lag.now.sels (own_lag c.args.who c.args.shelf.now).sels)) (eq-eqb c.args.number c.args.who c.if-number-who.false))
