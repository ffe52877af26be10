use Rattle.std.proofs.Common.{◌≡◌, ◌<◌, ◌≤◌, length, ap, sym, ◌∙◌, arith}
use Rattle.std.specs.Prelude.{Some, option_map}
use Rattle.tables.specs.Tables.{place_where}
use Rattle.list_shelf.specs.Lagging.{seen_by}
use Rattle.list_archive.specs.Trails.{is_mark_of, mark_of}
use Rattle.list_archive.specs.Archives.{Archived}
use Rattle.list_archive.proofs.PlaceLemmas.{mark-none, mark-read}
use Rattle.list_archive.proofs.archive.Archive.copy_of_mark.Goals as goal

pub returns-then-at-len : goal.returns-then-at-len
returns-then-at-len c =
    let at : c.place_of_mark-at.result ≡ place_where (is_mark_of c.args.register) c.self.inside.marks.items = c.place_of_mark-at.ensures ∙ ap (place_where (is_mark_of c.args.register)) c.as_slice.ensures.value in
    let past : length c.self.inside.marks.items ≤ place_where (is_mark_of c.args.register) c.self.inside.marks.items = omega (arith, at, c.if-at-len.true, c.len.ensures, c.self.inside.marks.ok.0) in
    sym (ap (option_map (seen_by c.args.log.now)) (mark-none c.args.register c.self.inside.marks.items past))
    ∙ ap (λ (a : Archived). option_map (seen_by c.args.log.now) (mark_of c.args.register a.marks)) c.self.view_is

pub returns : goal.returns
returns c =
    let at : c.place_of_mark-at.result ≡ place_where (is_mark_of c.args.register) c.self.inside.marks.items = c.place_of_mark-at.ensures ∙ ap (place_where (is_mark_of c.args.register)) c.as_slice.ensures.value in
    let below : c.place_of_mark-at.result < length c.self.inside.marks.items = omega (arith, c.if-at-len.false, c.len.ensures, c.self.inside.marks.ok.0) in
    ap (λ s. Some s) (c.in_ok-copy_up.ensures.ok ∙ ap (seen_by c.args.log.now) c.lag.ensures)
    ∙ sym (ap (option_map (seen_by c.args.log.now)) (mark-read c.args.register c.self.inside.marks.items c.place_of_mark-at.result c.index-mark.result.now at below c.index-mark.ensures))
    ∙ ap (λ (a : Archived). option_map (seen_by c.args.log.now) (mark_of c.args.register a.marks)) c.self.view_is
