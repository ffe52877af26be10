use Rattle.std.proofs.Common.{◌+◌, length, take, flat_map, refl, ap, arith, length-append}
use Rattle.selection_set.specs.Inside.{range_of, IsInside}
use Rattle.selection_set.specs.Listing.{ranges_of}
use Rattle.selection_set.specs.declared.sel.Sel.{Sel}
use Rattle.std.specs.Prelude.{slice_index_or}
use Rattle.selection_set.proofs.HeldLemmas.{zero_sel, all-at}
use Rattle.list_keys.specs.Cuts.{split_by}
use Rattle.list_keys.proofs.CopyLemmas.{spans}
use Rattle.list_keys.proofs.EachLemmas.{parts-more, parts-le}
use Rattle.list_keys.proofs.splitting.all_count.Goals as goal

pub part_count-count-requires : goal.part_count-count-requires
part_count-count-requires c = spans c.args.lines.now _ (all-at (IsInside c.args.lines.now) c.args.sels.now c.loop-sel.sel-index zero_sel c.loop-sel-test.true c.requires)

pub returns-then-count-gt-MAX_SELECTIONS-clause-value : goal.returns-then-count-gt-MAX_SELECTIONS-clause-value
returns-then-count-gt-MAX_SELECTIONS-clause-value c =
    let x : Sel = slice_index_or c.args.sels.now c.loop-sel.sel-index zero_sel in
    omega (
      arith,
      c.if-count-gt-MAX_SELECTIONS.true,
      c.loop-sel.invariant.value,
      c.part_count-count.ensures.value c.args.lines.now c.len-stored.ensures.valid.is_text (all-at (IsInside c.args.lines.now) c.args.sels.now c.loop-sel.sel-index zero_sel c.loop-sel-test.true c.requires),
      ap length (parts-more c.args.lines.now (split_by c.args.how c.args.lines.now) c.args.sels.now c.loop-sel.sel-index zero_sel x c.loop-sel-test.true refl),
      length-append (flat_map (split_by c.args.how c.args.lines.now) (ranges_of c.args.lines.now (take c.loop-sel.sel-index c.args.sels.now))) (split_by c.args.how c.args.lines.now (range_of c.args.lines.now x)),
      parts-le c.args.lines.now (split_by c.args.how c.args.lines.now) c.args.sels.now (c.loop-sel.sel-index + 1),
    )

pub loop-sel-preserved : goal.loop-sel-preserved
loop-sel-preserved c =
    let x : Sel = slice_index_or c.args.sels.now c.loop-sel.sel-index zero_sel in
    record {
      value =
          omega (
            arith,
            c.loop-sel.invariant.value,
            c.part_count-count.ensures.value c.args.lines.now c.len-stored.ensures.valid.is_text (all-at (IsInside c.args.lines.now) c.args.sels.now c.loop-sel.sel-index zero_sel c.loop-sel-test.true c.requires),
            ap length (parts-more c.args.lines.now (split_by c.args.how c.args.lines.now) c.args.sels.now c.loop-sel.sel-index zero_sel x c.loop-sel-test.true refl),
            length-append (flat_map (split_by c.args.how c.args.lines.now) (ranges_of c.args.lines.now (take c.loop-sel.sel-index c.args.sels.now))) (split_by c.args.how c.args.lines.now (range_of c.args.lines.now x)),
          );
      some = omega (arith, c.loop-sel.invariant.some, c.part_count-count.ensures.some);
      few = omega (arith, c.if-count-gt-MAX_SELECTIONS.false);
    }
