use Rattle.std.proofs.Common.{◌≡◌, ◌≤◌, ℕ, length}
use Rattle.std.specs.Str.{chars}
use Rattle.kak_words.specs.Reading.{commands_from, commands_of}
use Rattle.kak_words.proofs.ReadingLemmas.{commands_before}
use Rattle.kak_words.proofs.reading.read_commands.Given as goal

abbrev pub invariant-loop-p : goal.invariant-loop-p
invariant-loop-p l =
    (n : ℕ) × (length l.rest ≤ n) × (commands_before l.commands.items (commands_from n l.words.items l.rest) ≡ commands_of (chars l.text))

abbrev pub decreases-loop-p : goal.decreases-loop-p
decreases-loop-p l = length l.rest
