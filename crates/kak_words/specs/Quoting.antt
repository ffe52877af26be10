-- Words in single quotes.
use Rattle.std.specs.Prelude.{ℕ, ◌==◌, List, [], ◌∷◌, ◌++◌, true, if◌then◌else◌}
use Rattle.kak_words.specs.declared.parts.Piece.TheVariants.{Plain}
use Rattle.kak_words.specs.declared.parts.Command.{Command}

-- a text with each single quote (39) doubled
abbrev pub doubled : List ℕ → List ℕ
doubled [] = []
doubled (c ∷ cs) = if c == 39 then 39 ∷ 39 ∷ doubled cs else c ∷ doubled cs

-- a text in single quotes
abbrev pub quoted : List ℕ → List ℕ
quoted text = 39 ∷ (doubled text ++ 39 ∷ [])

-- the command of one quoted word, which is a text as it is
abbrev pub quoted_command : List ℕ → Command
quoted_command text = record { words = record { pieces = Plain text ∷ []; quoted = true } ∷ [] }
