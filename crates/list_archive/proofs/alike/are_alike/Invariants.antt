-- What is still to come is alike where the whole is.
use Rattle.std.proofs.Common.{◌≡◌, drop}
use Rattle.list_archive.specs.Archives.{are_alike_sels}
use Rattle.list_archive.proofs.alike.are_alike.Given as goal

abbrev pub invariant-loop-n : goal.invariant-loop-n
invariant-loop-n l = are_alike_sels (drop l.n l.a) (drop l.n l.b) ≡ are_alike_sels l.a l.b
