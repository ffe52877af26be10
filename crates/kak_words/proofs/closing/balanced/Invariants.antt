use Rattle.std.proofs.Common.{◌≡◌, ◌≤◌, drop}
use Rattle.kak_words.specs.Closing.{balanced}
use Rattle.kak_words.proofs.ClosingLemmas.{before_all}
use Rattle.kak_words.proofs.closing.balanced.Given as goal

abbrev pub invariant-loop-i : goal.invariant-loop-i
invariant-loop-i l =
    (l.depth ≤ l.i)
    × (before_all l.inside.items (balanced l.opening l.closing l.depth (drop l.i l.text)) ≡ balanced l.opening l.closing 0 l.text)
