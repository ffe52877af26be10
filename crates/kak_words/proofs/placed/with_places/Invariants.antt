use Rattle.std.proofs.Common.{◌≡◌, ◌++◌, drop}
use Rattle.kak_words.specs.Closing.{placed_from}
use Rattle.kak_words.proofs.placed.with_places.Given as goal

abbrev pub invariant-loop-at : goal.invariant-loop-at
invariant-loop-at l = l.list.items ++ placed_from l.at (drop l.at l.c-items) ≡ placed_from 0 l.c-items
