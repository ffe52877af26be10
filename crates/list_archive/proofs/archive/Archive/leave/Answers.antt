use Rattle.std.proofs.Common.{not, List, [], ap, ◌∙◌, rules}
use Rattle.std.proofs.lemmas.Fn.{filter_same}
use Rattle.list_shelf.specs.declared.lag.Lag.{Lag}
use Rattle.list_archive.specs.declared.saved.Saved.{Saved}
use Rattle.list_archive.specs.Trails.{Trail, is_trail_of}
use Rattle.list_archive.specs.Archives.{Archived, archived_without}
use Rattle.list_archive.proofs.archive.Archive.leave.Goals as goal

pub returns : goal.returns
returns c =
    ap (λ (saved : Saved). let x : Archived = record { saved = saved; trails = c.retain.new.self.items; marks = c.self.inside.marks.items } in x) c.forget.ensures
    ∙ ap (λ (trails : List (Trail Lag)). let x : Archived = record { saved = (archived_without c.args.who (record { saved = c.self.inside.saved; trails = []; marks = [] })).saved; trails = trails; marks = c.self.inside.marks.items } in x)
    (filter_same _ (λ (t : Trail Lag). not (is_trail_of c.args.who t)) _ (λ x b f' k. search rules) _ _ c.retain.ensures.filtered)
    ∙ ap (archived_without c.args.who) c.self.view_is
