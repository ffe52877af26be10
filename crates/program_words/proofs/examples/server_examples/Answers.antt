use Rattle.std.proofs.Common.{refl}
use Rattle.std.specs.Str.{chars}
use Rattle.program_words.proofs.examples.server_examples.Goals as goal

pub returns : goal.returns
unfolding chars
returns c = record { bare = refl; bare_session = refl; bare_file = refl; filed = refl; filed_session = refl; filed_file = refl; none = refl; no_session = refl; no_flag = refl; other_flag = refl; two_files = refl; file_without_name = refl; file_of_two_lines = refl; all_kinds = refl; empty = refl; longest = refl; too_long = refl; dotted = refl; up = refl; slashed = refl; spaced = refl; foreign = refl; beside = refl }
