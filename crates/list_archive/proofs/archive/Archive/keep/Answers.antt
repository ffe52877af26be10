use Rattle.std.proofs.Common.{ap, sym, subst, ◌∙◌}
use Rattle.list_archive.specs.Archives.{Archived, saved_kept_in, CanStandWith}
use Rattle.list_archive.proofs.UndoLemmas.{going-on_up, kept-as_is}
use Rattle.list_archive.proofs.archive.Archive.keep.Goals as goal

pub go_on-requires-clause-lagging : goal.go_on-requires-clause-lagging
go_on-requires-clause-lagging c =
    let can = subst (λ (a : Archived). CanStandWith c.args.shelf.now a) (sym c.self.view_is) c.requires.can in
    going-on_up c.args.shelf.now _ c.args.who c.in-Own.number c.in-Own.lag c.catch_up.new.lag c.log-log.result.now can (sym c.replace.ensures.value ∙ c.in-Own.is) c.catch_up.ensures c.log-log.ensures

pub returns-clause-ok : goal.returns-clause-ok
returns-clause-ok c =
    kept-as_is c.args.shelf.now _ c.args.who c.in-Own.number c.in-Own.lag c.catch_up.new.lag c.replace.new.dest c.log-log.result.now (sym c.replace.ensures.value ∙ c.in-Own.is) c.replace.ensures.after c.catch_up.ensures c.log-log.ensures
    (sym c.if-has_left.false ∙ c.has_left.ensures)
    ∙ ap (saved_kept_in c.args.who c.args.shelf.now) c.self.view_is
