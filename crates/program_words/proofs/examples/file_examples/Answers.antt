use Rattle.std.proofs.Common.{refl}
use Rattle.program_words.proofs.examples.file_examples.Goals as goal

pub returns : goal.returns
returns c = record { none = refl; short = refl; spaced = refl; newline = refl; longest = refl; too_long = refl; plain = refl; quoted = refl; bracketed = refl }
