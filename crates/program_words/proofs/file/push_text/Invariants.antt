use Rattle.std.proofs.Common.{◌≡◌, ◌++◌, map}
use Rattle.program_words.specs.Files.{typed_key}
use Rattle.program_words.proofs.file.push_text.Given as goal

abbrev pub invariant-loop-c : goal.invariant-loop-c
invariant-loop-c l = l.keys.items ≡ l.fn.keys.items ++ map typed_key l.yielded
