use Rattle.std.proofs.Common.{◌≡◌}
use Rattle.key_rows.specs.Reading.{numbers_from}
use Rattle.key_rows.proofs.reading.numbers.Given as goal

-- the numbers so far
abbrev pub invariant-loop-n : goal.invariant-loop-n
invariant-loop-n l = l.words ≡ numbers_from 1 l.n
