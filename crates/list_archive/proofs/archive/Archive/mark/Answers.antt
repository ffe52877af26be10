use Rattle.std.proofs.Common.{◌≡◌, ◌<◌, ◌≤◌, List, ◌++◌, ◌∷◌, [], length, set, ap, ◌∙◌, arith}
use Rattle.tables.specs.Tables.{place_where}
use Rattle.list_shelf.specs.declared.lag.Lag.{Lag}
use Rattle.list_archive.specs.Trails.{Mark, is_mark_of, marked}
use Rattle.list_archive.specs.Archives.{Archived, own_up}
use Rattle.list_archive.proofs.PlaceLemmas.{mark-set, mark-added}
use Rattle.list_archive.proofs.archive.Archive.mark.Goals as goal

pub returns-then-at-len-clause-ok : goal.returns-then-at-len-clause-ok
returns-then-at-len-clause-ok c =
    let at : c.place_of_mark-at.result ≡ place_where (is_mark_of c.args.register) c.self.inside.marks.items = c.place_of_mark-at.ensures ∙ ap (place_where (is_mark_of c.args.register)) c.as_slice.ensures.value in
    let below : c.place_of_mark-at.result < length c.self.inside.marks.items = omega (arith, c.if-at-len.true, c.len.ensures, c.self.inside.marks.ok.0) in
    ap (λ (marks : List (Mark Lag)). let x : Archived = record { saved = c.self.inside.saved; trails = c.self.inside.trails.items; marks = marks } in x)
    (ap (set c.self.inside.marks.items c.place_of_mark-at.result)
    (c.set_lag.ensures ∙ ap (λ (lag : Lag). let x : Mark Lag = record { register = c.index_mut-mark.result.now.register; list = lag } in x) c.in_ok-lag.ensures.ok)
    ∙ mark-set c.args.register c.self.inside.marks.items c.place_of_mark-at.result c.index_mut-mark.result.now (own_up c.args.who c.args.shelf.now) at below c.index_mut-mark.ensures.value)
    ∙ ap (λ (a : Archived). let x : Archived = record { saved = a.saved; trails = a.trails; marks = marked c.args.register (own_up c.args.who c.args.shelf.now) a.marks } in x) c.self.view_is

pub returns-clause-ok : goal.returns-clause-ok
returns-clause-ok c =
    let at : c.place_of_mark-at.result ≡ place_where (is_mark_of c.args.register) c.self.inside.marks.items = c.place_of_mark-at.ensures ∙ ap (place_where (is_mark_of c.args.register)) c.as_slice.ensures.value in
    let past : length c.self.inside.marks.items ≤ c.place_of_mark-at.result = omega (arith, c.if-at-len.false, c.len.ensures, c.self.inside.marks.ok.0) in
    ap (λ (marks : List (Mark Lag)). let x : Archived = record { saved = c.self.inside.saved; trails = c.self.inside.trails.items; marks = marks } in x)
    (c.in_ok-push.ensures.items
    ∙ ap (λ (m : Mark Lag). c.self.inside.marks.items ++ m ∷ [])
    (c.new.ensures ∙ ap (λ (lag : Lag). let x : Mark Lag = record { register = c.args.register; list = lag } in x) c.in_ok-lag.ensures.ok)
    ∙ mark-added c.args.register c.self.inside.marks.items c.place_of_mark-at.result (own_up c.args.who c.args.shelf.now) at past)
    ∙ ap (λ (a : Archived). let x : Archived = record { saved = a.saved; trails = a.trails; marks = marked c.args.register (own_up c.args.who c.args.shelf.now) a.marks } in x) c.self.view_is
