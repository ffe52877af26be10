use Rattle.std.proofs.Common.{ap, ◌∙◌}
use Rattle.list_archive.specs.Archives.{Archived, least_trail, least_mark, least_kept}
use Rattle.list_archive.proofs.archive.Archive.least.Goals as goal

pub returns : goal.returns
returns c =
    c.least_mark.ensures
    ∙ ap (least_mark c.least_trail-trails.result) c.as_slice-2.ensures.value
    ∙ ap (λ n. least_mark n c.self.inside.marks.items)
    (c.least_trail-trails.ensures ∙ ap (least_trail c.least-saved.result) c.as_slice.ensures.value ∙ ap (λ n. least_trail n c.self.inside.trails.items) c.least-saved.ensures)
    ∙ ap (λ (a : Archived). least_kept c.args.stamp a) c.self.view_is
