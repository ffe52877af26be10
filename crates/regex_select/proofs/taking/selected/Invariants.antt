use Rattle.std.proofs.Common.{◌≡◌, take, flat_map}
use Rattle.text_model.specs.Texts.{offset}
use Rattle.selection_set.specs.Listing.{AreInside, ranges_of}
use Rattle.regex_select.specs.Selecting.{selected_by}
use Rattle.regex_select.specs.Walks.{own_chars, IsWalk}
use Rattle.regex_select.proofs.taking.selected.Given as goal

abbrev pub invariant-loop-span : goal.invariant-loop-span
invariant-loop-span l = record {
  walk : IsWalk l.lines l.sel l.walk;
  inside : AreInside l.lines l.list.items;
  ranges : ranges_of l.lines l.list.items ≡ flat_map (selected_by (own_chars l.lines l.sel) (offset l.lines l.sel.low)) (take l.span-index l.spans);
}
