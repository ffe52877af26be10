use Rattle.std.proofs.Common.{length, ◌-◌, ◌≡◌, ◌≤◌, drop, None}
use Rattle.key_names.specs.Reading.{read_text, keys_from, written_in}
use Rattle.key_names.proofs.ReadingLemmas.{keys_before}
use Rattle.key_names.proofs.reading.read_characters.Given as goal

abbrev pub invariant-loop-at : goal.invariant-loop-at
invariant-loop-at l =
    (l.at ≤ length l.text)
    × (keys_before l.keys.items (keys_from l.at (written_in None (drop l.at l.text))) ≡ read_text l.text)

abbrev pub decreases-loop-at : goal.decreases-loop-at
decreases-loop-at l = length l.text - l.at
