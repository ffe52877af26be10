-- The first key of a text, for the clauses of the parts of the reader.
use Rattle.std.specs.Prelude.{◌≡◌, ℕ, ◌+◌, List, drop, Some, None, Err}
use Rattle.key_names.specs.declared.key.Key.{Key}
use Rattle.key_names.specs.Reading.{written_in, keys_from, key_before}

-- a text's first key takes so many of its characters: the reading is that key before the reading of the rest
abbrev pub ReadsFirst : List ℕ → Key → ℕ → Type 0
ReadsFirst text key len =
    (at : ℕ) → keys_from at (written_in None text) ≡ key_before (Some key) at (keys_from (at + len) (written_in None (drop len text)))

-- a text's first key has no reading
abbrev pub NoFirst : List ℕ → Type 0
NoFirst text = (at : ℕ) → keys_from at (written_in None text) ≡ Err at
