use Rattle.std.proofs.Common.{List, ap, ap₂, sym, subst, ◌∙◌}
use Rattle.list_shelf.specs.declared.lag.Lag.{Lag}
use Rattle.list_archive.specs.declared.saved.Saved.{Saved}
use Rattle.list_archive.specs.Trails.{Trail, Mark}
use Rattle.list_archive.specs.Archives.{Archived, saved_carried, archive_carried, IsArchiveCarriable}
use Rattle.list_archive.proofs.archive.Archive.carry.Goals as goal

abbrev archived_by : Saved → List (Trail Lag) → List (Mark Lag) → Archived
archived_by saved trails marks = record { saved = saved; trails = trails; marks = marks }

pub carry-requires : goal.carry-requires
carry-requires c = (subst (λ (a : Archived). IsArchiveCarriable c.args.log.now c.args.shifts.now a) (sym c.self.view_is) c.requires).saved

pub carry_trails-requires : goal.carry_trails-requires
carry_trails-requires c = (subst (λ (a : Archived). IsArchiveCarriable c.args.log.now c.args.shifts.now a) (sym c.self.view_is) c.requires).trails

pub carry_marks-requires : goal.carry_marks-requires
carry_marks-requires c = (subst (λ (a : Archived). IsArchiveCarriable c.args.log.now c.args.shifts.now a) (sym c.self.view_is) c.requires).marks

pub returns : goal.returns
returns c =
    ap (λ s. archived_by s c.carry_trails.new.trails.items c.carry_marks.new.marks.items) c.carry.ensures
    ∙ ap₂ (archived_by (saved_carried c.args.log.now c.args.shifts.now c.self.inside.saved)) c.carry_trails.ensures c.carry_marks.ensures
    ∙ ap (archive_carried c.args.log.now c.args.shifts.now) c.self.view_is
