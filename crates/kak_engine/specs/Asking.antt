-- What the outside was asked for, in order, with what it answered.
use Rattle.std.specs.Prelude.{ℕ, Bool, List, [], ◌∷◌}
use Rattle.kak_files.specs.Exchanges.{Exchange}

-- One thing that the outside was asked for, with what it answered. Patterns are in UTF-8, as names are.
pub data Asked : Type 0 where
  -- the pattern of a text was to be made, and whether it was built
  OfPattern : List ℕ → Bool → Asked
  -- a file was to be read or written
  OfFile : Exchange → Asked

-- what of it was exchanged with the files, in order
abbrev pub files_in : List Asked → List Exchange
files_in [] = []
files_in (OfPattern text built ∷ later) = files_in later
files_in (OfFile exchange ∷ later) = exchange ∷ files_in later
