use Rattle.std.proofs.Common.{◌≤◌, length}
use Rattle.text_model.specs.declared.TheConstants.{MAX_SELECTIONS}
use Rattle.text_model.specs.Texts.{offset}
use Rattle.selection_set.specs.Listing.{AreInside}
use Rattle.regex_select.specs.Walks.{own_chars, IsWalk}
use Rattle.regex_select.proofs.PartLemmas.{AreToCome}
use Rattle.regex_select.proofs.taking.push_parts.Given as goal

abbrev pub invariant-loop-span : goal.invariant-loop-span
invariant-loop-span l = record {
  walk : IsWalk l.lines l.sel l.from;
  inside : AreInside l.lines l.list.items;
  come : AreToCome l.lines (own_chars l.lines l.sel) (offset l.lines l.sel.low) l.spans l.span-index l.fn.list.items l.list.items l.from.passed;
  few : length l.list.items ≤ MAX_SELECTIONS;
}
