-- The pieces of a double-quoted word.
use Rattle.std.specs.Prelude.{ℕ, suc, zero, ◌==◌, Bool, true, false, List, [], ◌∷◌, ◌++◌, length, drop, if◌then◌else◌, Option, Some, None, Result, Ok, encode_utf8}
use Rattle.kak_words.specs.declared.placed.Placed.{Placed}
use Rattle.kak_words.specs.declared.parts.Named.{Named}
use Rattle.kak_words.specs.declared.parts.Piece.{Piece}
use Rattle.kak_words.specs.declared.parts.Piece.TheVariants.{Plain, Expansion}
use Rattle.kak_words.specs.Results.{then_with, then_as}
use Rattle.kak_words.specs.Closing.{text_of}
use Rattle.kak_words.specs.Forms.{Form, form_at}

-- a text before pieces: it becomes one with a first plain piece
abbrev pub text_on : List ℕ → List Piece → List Piece
text_on text [] = Plain text ∷ []
text_on text (Plain more ∷ ps) = Plain (text ++ more) ∷ ps
text_on text (Expansion named ∷ ps) = Plain text ∷ Expansion named ∷ ps

-- a character before pieces
abbrev pub char_on : ℕ → List Piece → List Piece
char_on c ps = text_on (encode_utf8 c) ps

-- whether a `%` (37) stands first
abbrev pub begins_percent : List Placed → Bool
begins_percent [] = false
begins_percent (p ∷ ps) = p.c == 37

-- the expansion that a form is: its kind, and its text as the name
abbrev pub named_by : Form → Named
named_by form = record { kind = text_of form.kind; name = text_of form.split.inside }

-- the pieces from a `%` on: a form is an expansion, and otherwise the `%` stands for itself
abbrev pub pieces_on : (List Placed → Result (List Piece) ℕ) → List Placed → Option Form → Result (List Piece) ℕ
pieces_on further ps None = then_as (char_on 37) (further ps)
pieces_on further ps (Some form) = then_as (λ more. Expansion (named_by form) ∷ more) (further form.split.rest)

-- the pieces of a text of at most n characters: a doubled `%` is one, forms with a kind are expansions, and all else
-- stands for itself
abbrev pub pieces_from : ℕ → List Placed → Result (List Piece) ℕ
pieces_from n [] = Ok []
pieces_from zero (p ∷ ps) = Ok []
pieces_from (suc n) (p ∷ ps) =
    if p.c == 37 then (if begins_percent ps then then_as (char_on 37) (pieces_from n (drop 1 ps))
    else then_with (pieces_on (pieces_from n) ps) (form_at true p.at ps))
    else then_as (char_on p.c) (pieces_from n ps)

-- the pieces of what stands between double quotes, or the place of a `%` whose form isn't closed
abbrev pub pieces_of : List Placed → Result (List Piece) ℕ
pieces_of ps = pieces_from (length ps) ps

-- the plain piece of a text, if that isn't empty
abbrev pub flushed : List ℕ → List Piece
flushed [] = []
flushed (b ∷ bs) = Plain (b ∷ bs) ∷ []
