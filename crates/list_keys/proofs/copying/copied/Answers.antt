use Rattle.std.proofs.Common.{◌<◌, length, Some, refl, ap, arith}
use Rattle.std.proofs.lemmas.List.{length-map}
use Rattle.selection_set.specs.Inside.{range_of}
use Rattle.selection_set.specs.Held.{selected}
use Rattle.list_keys.specs.Copies.{copy_of}
use Rattle.list_keys.specs.Rows.{with_copies, main_copied}
use Rattle.list_keys.proofs.RowLemmas.{copied-below, given-selected}
use Rattle.list_keys.proofs.copying.copied.Goals as goal

pub of_vec-requires : goal.of_vec-requires
of_vec-requires c = omega (arith, c.in-Ok.ensures.main, copied-below c.args.lines.now (copy_of c.args.direction c.args.lines.now) c.args.sels.now c.requires, ap length c.in-Ok.ensures.ranges, length-map c.in-Ok.list.items (range_of c.args.lines.now))

pub returns-in_ok-copied-in-Ok-clause-copies : goal.returns-in_ok-copied-in-Ok-clause-copies
returns-in_ok-copied-in-Ok-clause-copies c =
    let below : c.in-Ok.main < length c.in-Ok.list.items = omega (arith, c.in-Ok.ensures.main, copied-below c.args.lines.now (copy_of c.args.direction c.args.lines.now) c.args.sels.now c.requires, ap length c.in-Ok.ensures.ranges, length-map c.in-Ok.list.items (range_of c.args.lines.now)) in
    ap Some (given-selected c.args.lines.now _ c.in-Ok.list.items c.in-Ok.main (record { list = with_copies (copy_of c.args.direction c.args.lines.now) (selected c.args.lines.now c.args.sels.now); main = main_copied (copy_of c.args.direction c.args.lines.now) (selected c.args.lines.now c.args.sels.now) }) c.in_ok-copied-in-Ok.copied
    refl c.in-Ok.ensures.inside c.in-Ok.ensures.ranges c.in-Ok.ensures.main below c.in_ok-copied-in-Ok.ensures.settles)
