-- What the words of a command stand for, by a table of expansions.
use Rattle.std.specs.Prelude.{List, [], ◌∷◌, ℕ, if◌then◌else◌, Option, Result, Ok, ok_or}
use Rattle.std.specs.List.{join_with_byte}
use Rattle.kak_words.specs.declared.parts.Piece.{Piece}
use Rattle.kak_words.specs.declared.parts.Piece.TheVariants.{Plain, Expansion}
use Rattle.kak_words.specs.declared.parts.Word.{Word}
use Rattle.kak_words.specs.declared.parts.Command.{Command}
use Rattle.kak_words.specs.Results.{then_as, all_of}

-- the strings of a kind and a name, if the table has any
abbrev pub Table : Type 0
Table = List ℕ → List ℕ → Option (List (List ℕ))

-- the strings of a piece, or the name of the expansion that isn't in the table
abbrev pub piece_strings : Table → Piece → Result (List (List ℕ)) (List ℕ)
piece_strings table (Plain text) = Ok (text ∷ [])
piece_strings table (Expansion named) = ok_or (table named.kind named.name) named.name

-- the strings of a piece as one text, joined by spaces (32)
abbrev pub piece_text : Table → Piece → Result (List ℕ) (List ℕ)
piece_text table piece = then_as (join_with_byte 32) (piece_strings table piece)

-- the strings of a word: one where it is quoted, else all that its pieces give
abbrev pub word_strings : Table → Word → Result (List (List ℕ)) (List ℕ)
word_strings table word =
    if word.quoted then then_as (λ text. text ∷ []) (all_of (piece_text table) word.pieces)
    else all_of (piece_strings table) word.pieces

-- the words that a command stands for, or the name of the first expansion that isn't in the table
abbrev pub expanded : Table → Command → Result (List (List ℕ)) (List ℕ)
expanded table command = all_of (word_strings table) command.words
