use Rattle.std.proofs.Common.{◌≡◌, ◌≤◌, length, take, map}
use Rattle.std.specs.Prelude.{string_bytes, encode_utf8_all}
use Rattle.std.specs.Vec.{vec_capacity}
use Rattle.selection_set.specs.Listing.{ranges_of}
use Rattle.edit_ops.specs.Reading.{texts_of}
use Rattle.edit_ops.proofs.reading.strings.Given as goal

abbrev pub invariant-loop-sel : goal.invariant-loop-sel
invariant-loop-sel l = record {
  so_far : map (λ s. string_bytes s) l.strings.items ≡ map (λ s. encode_utf8_all s) (texts_of l.lines (ranges_of l.lines (take l.sel-index l.sels.list)));
  count : length l.strings.items ≡ l.sel-index;
  reserved : length l.sels.list ≤ vec_capacity l.strings;
}
