use Rattle.std.proofs.Common.{◌≡◌, ◌≤◌, sym, ap, subst, ◌∙◌}
use Rattle.change_list.specs.Logs.{stamp_of, trimmed}
use Rattle.list_shelf.specs.Shelves.{Shelved, least}
use Rattle.list_archive.specs.Archives.{least_kept}
use Rattle.list_archive.proofs.NoteLemmas.{shelf-stands}
use Rattle.list_archive.proofs.TrimLemmas.{kept-below, kept-from}
use Rattle.list_archive.proofs.archive.Archive.trim.Goals as goal

pub trim_before-requires-clause-can : goal.trim_before-requires-clause-can
trim_before-requires-clause-can c = shelf-stands c.args.shelf.now c.args.self.now c.requires

pub trim_before-requires-clause-first : goal.trim_before-requires-clause-first
trim_before-requires-clause-first c =
    let to : c.least-to.result ≡ least_kept (stamp_of c.args.shelf.now.log) c.args.self.now = c.least-to.ensures ∙ ap (λ n. least_kept n c.args.self.now) (c.stamp.ensures.value ∙ ap stamp_of c.log.ensures) in
    subst (λ n. c.args.shelf.now.log.first ≤ n) (sym to) (kept-from c.requires.text c.args.shelf.now c.args.self.now c.requires.stands)

pub trim_before-requires-clause-last : goal.trim_before-requires-clause-last
trim_before-requires-clause-last c =
    let to : c.least-to.result ≡ least_kept (stamp_of c.args.shelf.now.log) c.args.self.now = c.least-to.ensures ∙ ap (λ n. least_kept n c.args.self.now) (c.stamp.ensures.value ∙ ap stamp_of c.log.ensures) in
    subst (λ n. n ≤ stamp_of c.args.shelf.now.log) (sym to) (kept-below (stamp_of c.args.shelf.now.log) c.args.self.now)

pub returns : goal.returns
returns c =
    let to : c.least-to.result ≡ least_kept (stamp_of c.args.shelf.now.log) c.args.self.now = c.least-to.ensures ∙ ap (λ n. least_kept n c.args.self.now) (c.stamp.ensures.value ∙ ap stamp_of c.log.ensures) in
    c.trim_before.ensures ∙ ap (λ n. let x : Shelved = record { limit = c.args.shelf.now.limit; log = trimmed c.args.shelf.now.log (least n c.args.shelf.now.rows); rows = c.args.shelf.now.rows } in x) to
