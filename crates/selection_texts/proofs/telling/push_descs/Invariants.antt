use Rattle.std.proofs.Common.{◌≡◌, ◌++◌, take, map}
use Rattle.selection_set.specs.Listing.{ranges_of}
use Rattle.selection_texts.specs.Telling.{told_text}
use Rattle.selection_texts.proofs.telling.push_descs.Given as goal

abbrev pub invariant-loop-sel : goal.invariant-loop-sel
invariant-loop-sel l = l.out ≡ l.fn.out ++ map (told_text l.lines) (ranges_of l.lines (take l.sel-index l.sels))
