-- What stands in the list, and the parts from the place that is reached.
use Rattle.std.proofs.Common.{◌≡◌, ◌-◌, ◌≤◌, ◌++◌}
use Rattle.text_model.specs.Texts.{IsPlace, offset}
use Rattle.selection_set.specs.Inside.{range_of}
use Rattle.selection_set.specs.Listing.{AreInside, ranges_of}
use Rattle.list_keys.specs.Cuts.{parts_of}
use Rattle.list_keys.proofs.PartLemmas.{parts_from}
use Rattle.list_keys.proofs.parts.push_line_parts.Given as goal

abbrev pub invariant-loop-from : goal.invariant-loop-from
invariant-loop-from l = record {
  place : IsPlace l.lines l.from;
  ordered : offset l.lines l.from ≤ offset l.lines l.sel.high;
  upto : l.from.line ≤ l.sel.high.line;
  parts : ranges_of l.lines l.list.items ++ parts_from l.lines l.sel.turned (offset l.lines l.sel.high) (offset l.lines l.from) ≡ ranges_of l.lines l.fn.list.items ++ parts_of l.lines (range_of l.lines l.sel);
  inside : AreInside l.lines l.list.items;
  capacity : l.list.capacity ≡ l.fn.list.capacity;
}

abbrev pub decreases-loop-from : goal.decreases-loop-from
decreases-loop-from l = l.sel.high.line - l.from.line
