use Rattle.std.proofs.Common.{◌≡◌, ◌≤◌, length, take, flat_map}
use Rattle.text_model.specs.declared.TheConstants.{MAX_SELECTIONS}
use Rattle.selection_set.specs.Listing.{ranges_of}
use Rattle.list_keys.specs.Cuts.{split_by}
use Rattle.list_keys.proofs.splitting.all_count.Given as goal

abbrev pub invariant-loop-sel : goal.invariant-loop-sel
invariant-loop-sel l = record {
  value : l.count ≡ length (flat_map (split_by l.how l.lines) (ranges_of l.lines (take l.sel-index l.sels)));
  some : l.sel-index ≤ l.count;
  few : l.count ≤ MAX_SELECTIONS;
}
