use Rattle.std.proofs.Common.{ap, ◌∙◌}
use Rattle.change_list.specs.Logs.{stamp_of}
use Rattle.list_shelf.specs.declared.holder.Holder.TheVariants.{Of}
use Rattle.list_shelf.specs.Shelves.{with_lag_of}
use Rattle.list_archive.proofs.archive.Archive.set_sels.Goals as goal

pub returns-clause-shelf : goal.returns-clause-shelf
returns-clause-shelf c =
    c.swap_lag.ensures.shelf
    ∙ ap (λ n. with_lag_of (Of c.args.who) (record { stamp = n; sels = c.args.sels }) c.args.shelf.now) (c.stamp.ensures.value ∙ ap stamp_of c.log.ensures)
