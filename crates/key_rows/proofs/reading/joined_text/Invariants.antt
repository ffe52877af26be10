use Rattle.std.proofs.Common.{◌≡◌, take}
use Rattle.key_rows.specs.Reading.{joined_text}
use Rattle.key_rows.proofs.reading.joined_text.Given as goal

-- the strings so far are joined
abbrev pub invariant-loop-n : goal.invariant-loop-n
invariant-loop-n l = l.text ≡ joined_text (take l.n l.strings)
