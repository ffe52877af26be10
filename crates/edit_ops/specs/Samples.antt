-- Selections and lists that examples are made of.
use Rattle.std.specs.Prelude.{ℕ, true, false, None, List, [], ◌∷◌}
use Rattle.list_model.specs.Ranges.{Range, Selected, only}

-- a straight selection
abbrev pub straight : ℕ → ℕ → Range
straight a b = record { low = a; high = b; turned = false; target = None }

-- a turned one
abbrev pub turned : ℕ → ℕ → Range
turned a b = record { low = a; high = b; turned = true; target = None }

-- a list with its main selection
abbrev pub listed : List Range → ℕ → Selected
listed list main = record { list = list; main = main }

-- the two characters between three others
abbrev pub two_marks : List Range
two_marks = only 1 ∷ only 3 ∷ []

-- a character, and the last line behind it
abbrev pub letter_and_rest : List Range
letter_and_rest = only 2 ∷ straight 3 4 ∷ []

-- a word at each of three places
abbrev pub three_words : List Range
three_words = only 0 ∷ straight 2 3 ∷ straight 5 7 ∷ []
