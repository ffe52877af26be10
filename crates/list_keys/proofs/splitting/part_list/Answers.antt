use Rattle.std.proofs.Common.{◌+◌, ◌++◌, List, length, take, flat_map, refl, sym, ap, ◌∙◌, arith, length-append}
use Rattle.std.proofs.lemmas.List.{length-map}
use Rattle.list_model.specs.Ranges.{Range}
use Rattle.selection_set.specs.Inside.{range_of, IsInside}
use Rattle.selection_set.specs.Listing.{ranges_of}
use Rattle.selection_set.specs.declared.sel.Sel.{Sel}
use Rattle.std.specs.Prelude.{slice_index_or}
use Rattle.selection_set.proofs.HeldLemmas.{zero_sel, all-at}
use Rattle.list_keys.specs.Cuts.{split_by}
use Rattle.list_keys.proofs.EachLemmas.{parts-more, parts-le}
use Rattle.list_keys.proofs.splitting.part_list.Goals as goal

pub push_parts-requires-clause-inside : goal.push_parts-requires-clause-inside
push_parts-requires-clause-inside c = all-at (IsInside c.args.lines.now) c.args.sels.now c.loop-sel.sel-index zero_sel c.loop-sel-test.true c.requires.inside

pub push_parts-requires-clause-room : goal.push_parts-requires-clause-room
push_parts-requires-clause-room c =
    let x : Sel = slice_index_or c.args.sels.now c.loop-sel.sel-index zero_sel in
    omega (
      arith,
      c.requires.all,
      c.loop-sel.invariant.room,
      ap length c.loop-sel.invariant.ranges,
      length-map c.loop-sel.list.items (range_of c.args.lines.now),
      ap length (parts-more c.args.lines.now (split_by c.args.how c.args.lines.now) c.args.sels.now c.loop-sel.sel-index zero_sel x c.loop-sel-test.true refl),
      length-append (flat_map (split_by c.args.how c.args.lines.now) (ranges_of c.args.lines.now (take c.loop-sel.sel-index c.args.sels.now))) (split_by c.args.how c.args.lines.now (range_of c.args.lines.now x)),
      parts-le c.args.lines.now (split_by c.args.how c.args.lines.now) c.args.sels.now (c.loop-sel.sel-index + 1),
    )

pub loop-sel-preserved : goal.loop-sel-preserved
loop-sel-preserved c =
    let x : Sel = slice_index_or c.args.sels.now c.loop-sel.sel-index zero_sel in
    record {
      ranges =
          c.push_parts.ensures.ranges ∙ ap (λ (l : List Range). l ++ split_by c.args.how c.args.lines.now (range_of c.args.lines.now x)) c.loop-sel.invariant.ranges
          ∙ sym (parts-more c.args.lines.now (split_by c.args.how c.args.lines.now) c.args.sels.now c.loop-sel.sel-index zero_sel x c.loop-sel-test.true refl);
      inside = c.push_parts.ensures.inside;
      room = omega (arith, c.loop-sel.invariant.room, c.push_parts.ensures.capacity);
    }
