-- What an erasure really takes out.
use Rattle.std.specs.Prelude.{ℕ, List}
use Rattle.text_model.specs.Changes.{taken_end, Erasure, Move, move_of}

-- the offsets of the change that an erasure of the range from p to before q really is
abbrev pub taken_move : List ℕ → ℕ → ℕ → Move
taken_move text p q = move_of text (Erasure p (taken_end text p q))
