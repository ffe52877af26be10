-- The character was added so many times.
use Rattle.std.proofs.Common.{◌≡◌, ◌++◌, replicate}
use Rattle.line_painting.proofs.growing.add_times.Given as goal

abbrev pub invariant-loop : goal.invariant-loop
invariant-loop l = l.chars ≡ l.fn.chars ++ replicate l.counter l.c
