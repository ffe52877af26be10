use Rattle.std.proofs.Common.{◌≡◌, ◌++◌, take, string_bytes}
use Rattle.key_rows.specs.Reading.{spaced_texts}
use Rattle.command_set.proofs.options.push_spaced.Given as goal

-- the words so far stand behind the text
abbrev pub invariant-loop-n : goal.invariant-loop-n
invariant-loop-n l = string_bytes l.text ≡ string_bytes l.fn.text ++ spaced_texts (take l.n l.words)
