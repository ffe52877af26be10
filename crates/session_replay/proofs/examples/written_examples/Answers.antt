use Rattle.std.proofs.Common.{refl}
use Rattle.session_replay.proofs.examples.written_examples.Goals as goal

pub returns : goal.returns
returns c = record { plain = refl; zeros = refl; four_digits = refl; five_digits = refl; highest_number = refl; too_many_digits = refl; spaces = refl; nothing_behind = refl; return_behind = refl; no_space = refl; number_alone = refl; tab = refl; space_before = refl; sign = refl; letter = refl; last_client = refl; behind_the_last = refl; no_client = refl; no_byte = refl; blanks = refl; newline = refl; first_client = refl; second_client = refl }
