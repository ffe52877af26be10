use Rattle.std.proofs.Common.{◌≡◌, ◌≤◌, length, take, flat_map}
use Rattle.text_model.specs.declared.TheConstants.{MAX_SELECTIONS}
use Rattle.selection_set.specs.Listing.{AreInside, ranges_of}
use Rattle.regex_select.specs.Taking.{taken_in}
use Rattle.regex_select.proofs.matching.select.Given as goal

abbrev pub invariant-loop-n : goal.invariant-loop-n
invariant-loop-n g l = record {
  inside : AreInside l.lines l.list.items;
  ranges : ranges_of l.lines l.list.items ≡ flat_map (taken_in l.what (g.P.Pattern.source l.pattern) l.lines) (ranges_of l.lines (take l.n l.sels.list));
  few : length l.list.items ≤ MAX_SELECTIONS;
}
