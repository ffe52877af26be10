use Rattle.std.proofs.Common.{◌≡◌, length, take, map}
use Rattle.std.specs.List.{AllByRecursion}
use Rattle.selection_set.specs.Listing.{IsPairInside, range_of_pair}
use Rattle.selection_texts.specs.Meaning.{meant}
use Rattle.selection_texts.proofs.meaning.pairs_meant.Given as goal

abbrev pub invariant-loop-d : goal.invariant-loop-d
invariant-loop-d l = record {
  inside : AllByRecursion (IsPairInside l.lines) l.pairs.items;
  value : map (range_of_pair l.lines) l.pairs.items ≡ map (meant l.columns l.lines) (take l.d-index l.described);
  count : length l.pairs.items ≡ l.d-index;
}
