use Rattle.std.proofs.Common.{refl}
use Rattle.program_words.proofs.examples.gen_examples.Goals as goal

pub returns : goal.returns
returns c = record { plain = refl; zeros = refl; smallest = refl; greatest = refl; nobody = refl; crowd = refl; too_many_keys = refl; too_great_a_seed = refl; more_than_32_bits = refl; plus = refl; minus = refl; letter = refl; nothing = refl; too_few = refl; too_many = refl; other_word = refl; none = refl }
