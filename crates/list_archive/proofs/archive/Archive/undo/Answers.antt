use Rattle.std.proofs.Common.{◌≡◌, ◌<◌, ◌≤◌, false, length, set, ap, sym, subst, ◌∙◌, arith}
use Rattle.tables.specs.Tables.{place_where}
use Rattle.list_archive.specs.Trails.{is_trail_of, last_before}
use Rattle.list_archive.specs.Archives.{Archived, WasUndone, CanStandWith}
use Rattle.list_archive.proofs.UndoLemmas.{trail-lagging, trail-listed, none-undone, was-undone}
use Rattle.list_archive.proofs.archive.Archive.undo.Goals as goal

pub returns-then-at-len : goal.returns-then-at-len
returns-then-at-len c =
    let at : c.place_of_trail-at.result ≡ place_where (is_trail_of c.args.who) c.self.inside.trails.items = c.place_of_trail-at.ensures ∙ ap (place_where (is_trail_of c.args.who)) c.as_slice.ensures.value in
    let past : length c.self.inside.trails.items ≤ c.place_of_trail-at.result = omega (arith, c.if-at-len.true, c.len.ensures, c.self.inside.trails.ok.0) in
    subst (λ (a : Archived). WasUndone c.args.who (last_before c.args.who a.trails) false c.args.shelf.now a c.args.shelf.now a) c.self.view_is (none-undone c.args.shelf.now (record { saved = c.self.inside.saved; trails = c.self.inside.trails.items; marks = c.self.inside.marks.items }) c.args.who c.place_of_trail-at.result at past)

pub go_back-requires-clause-list : goal.go_back-requires-clause-list
go_back-requires-clause-list c =
    let at : c.place_of_trail-at.result ≡ place_where (is_trail_of c.args.who) c.self.inside.trails.items = c.place_of_trail-at.ensures ∙ ap (place_where (is_trail_of c.args.who)) c.as_slice.ensures.value in
    let below : c.place_of_trail-at.result < length c.self.inside.trails.items = omega (arith, c.if-at-len.false, c.len.ensures, c.self.inside.trails.ok.0) in
    trail-listed c.args.shelf.now (record { saved = c.self.inside.saved; trails = c.self.inside.trails.items; marks = c.self.inside.marks.items }) c.args.who c.place_of_trail-at.result c.index_mut-trail.result.now c.requires.list at below c.index_mut-trail.ensures.value

pub go_back-requires-clause-lagging : goal.go_back-requires-clause-lagging
go_back-requires-clause-lagging c =
    let at : c.place_of_trail-at.result ≡ place_where (is_trail_of c.args.who) c.self.inside.trails.items = c.place_of_trail-at.ensures ∙ ap (place_where (is_trail_of c.args.who)) c.as_slice.ensures.value in
    let below : c.place_of_trail-at.result < length c.self.inside.trails.items = omega (arith, c.if-at-len.false, c.len.ensures, c.self.inside.trails.ok.0) in
    let can = subst (λ (a : Archived). CanStandWith c.args.shelf.now a) (sym c.self.view_is) c.requires.can in
    (trail-lagging c.args.shelf.now _ c.args.who c.place_of_trail-at.result c.index_mut-trail.result.now can at below c.index_mut-trail.ensures.value).0

pub returns : goal.returns
returns c =
    let at : c.place_of_trail-at.result ≡ place_where (is_trail_of c.args.who) c.self.inside.trails.items = c.place_of_trail-at.ensures ∙ ap (place_where (is_trail_of c.args.who)) c.as_slice.ensures.value in
    let below : c.place_of_trail-at.result < length c.self.inside.trails.items = omega (arith, c.if-at-len.false, c.len.ensures, c.self.inside.trails.ok.0) in
    subst (λ (a : Archived). WasUndone c.args.who (last_before c.args.who a.trails) c.go_back.result c.args.shelf.now a c.go_back.new.shelf (let x : Archived = record { saved = c.self.inside.saved; trails = set c.self.inside.trails.items c.place_of_trail-at.result c.go_back.new.self; marks = c.self.inside.marks.items } in x)) c.self.view_is
    (was-undone c.args.shelf.now c.go_back.new.shelf (record { saved = c.self.inside.saved; trails = c.self.inside.trails.items; marks = c.self.inside.marks.items }) c.args.who c.place_of_trail-at.result c.go_back.result c.index_mut-trail.result.now c.go_back.new.self at below c.index_mut-trail.ensures.value c.go_back.ensures)
