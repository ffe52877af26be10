use Rattle.std.proofs.Common.{◌≡◌, ◌≤◌, length, take, map}
use Rattle.std.specs.Prelude.{chars}
use Rattle.std.specs.Vec.{vec_capacity}
use Rattle.edit_ops.proofs.putting.strings_of.Given as goal

abbrev pub invariant-loop-n : goal.invariant-loop-n
invariant-loop-n l = record {
  so_far : l.strings.items ≡ map (λ w. chars w) (take l.n l.words);
  count : length l.strings.items ≡ l.n;
  reserved : length l.words ≤ vec_capacity l.strings;
}
