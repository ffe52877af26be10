use Rattle.std.proofs.Common.{not, List, ap, ◌∙◌, rules}
use Rattle.std.proofs.lemmas.Fn.{filter_same}
use Rattle.list_shelf.specs.declared.lag.Lag.{Lag}
use Rattle.list_archive.specs.Trails.{Mark, is_mark_of, unmarked}
use Rattle.list_archive.specs.Archives.{Archived}
use Rattle.list_archive.proofs.archive.Archive.unmark.Goals as goal

pub returns : goal.returns
returns c =
    ap (λ (marks : List (Mark Lag)). let x : Archived = record { saved = c.self.inside.saved; trails = c.self.inside.trails.items; marks = marks } in x)
    (filter_same _ (λ (m : Mark Lag). not (is_mark_of c.args.register m)) _ (λ x b f' k. search rules) _ _ c.retain.ensures.filtered)
    ∙ ap (λ (a : Archived). let x : Archived = record { saved = a.saved; trails = a.trails; marks = unmarked c.args.register a.marks } in x) c.self.view_is
