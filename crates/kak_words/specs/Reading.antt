-- Which commands a text is.
use Rattle.std.specs.Prelude.{ℕ, suc, zero, ◌==◌, ◌&&◌, Bool, true, false, List, [], ◌∷◌, ◌++◌, length, if◌then◌else◌, Option, Some, None, Result, Ok, Err}
use Rattle.kak_words.specs.declared.placed.Placed.{Placed}
use Rattle.kak_words.specs.declared.parts.Piece.TheVariants.{Plain, Expansion}
use Rattle.kak_words.specs.declared.parts.Word.{Word}
use Rattle.kak_words.specs.declared.parts.Command.{Command}
use Rattle.kak_words.specs.Results.{then_with, then_as}
use Rattle.kak_words.specs.Characters.{is_blank, ends_command}
use Rattle.kak_words.specs.Closing.{SplitAtMark, placed_from, text_of, up_to, plain}
use Rattle.kak_words.specs.Forms.{Form, is_nameless, form_at}
use Rattle.kak_words.specs.Pieces.{pieces_of, named_by}

-- a word that was read, and what stands behind it
pub record WordRead : Type 0 where
  pub word : Word
  pub rest : List Placed

-- a word of one text
abbrev pub text_word : Bool → SplitAtMark → WordRead
text_word quoted split =
    record { word = record { pieces = Plain (text_of split.inside) ∷ []; quoted = quoted }; rest = split.rest }

-- a single-quoted word: its text as it is
abbrev pub single_word : ℕ → Option SplitAtMark → Result WordRead ℕ
single_word at None = Err at
single_word at (Some split) = Ok (text_word true split)

-- a double-quoted word: its pieces
abbrev pub double_word : ℕ → Option SplitAtMark → Result WordRead ℕ
double_word at None = Err at
double_word at (Some split) =
    then_as (λ pieces. record { word = record { pieces = pieces; quoted = true }; rest = split.rest }) (pieces_of split.inside)

-- the word of a form: its text as it is, or, where it has a kind, an expansion that may give several words
abbrev pub form_word : Form → WordRead
form_word form =
    if is_nameless form.kind then text_word true form.split
    else record { word = record { pieces = Expansion (named_by form) ∷ []; quoted = false }; rest = form.split.rest }

-- the word of a `%`: its form, or else a plain word, which is given
abbrev pub percent_word : WordRead → Option Form → WordRead
percent_word otherwise None = otherwise
percent_word otherwise (Some form) = form_word form

-- the word that begins with a character, by that and by what stands behind it: ' (39), " (34), % (37), or a plain one
abbrev pub first_word : Placed → List Placed → Result WordRead ℕ
first_word p ps =
    if p.c == 39 then single_word p.at (up_to 39 false ps) else
    (if p.c == 34 then double_word p.at (up_to 34 false ps) else
    (if p.c == 37 then then_as (percent_word (text_word false (plain true false (p ∷ ps)))) (form_at false p.at ps)
    else Ok (text_word false (plain true false (p ∷ ps)))))

-- from the newline on that ends a comment
abbrev pub past_comment : List Placed → List Placed
past_comment [] = []
past_comment (p ∷ ps) = if p.c == 10 then p ∷ ps else past_comment ps

-- the words of a command before other commands; no words are no command
abbrev pub command_on : List Word → List Command → List Command
command_on [] commands = commands
command_on (w ∷ ws) commands = record { words = w ∷ ws } ∷ commands

-- whether no word of a command was read
abbrev pub is_fresh : List Word → Bool
is_fresh [] = true
is_fresh (w ∷ ws) = false

-- whether a character begins a comment behind some words of a command: `#` (35), where a command would begin
abbrev pub begins_comment : ℕ → List Word → Bool
begins_comment c words = c == 35 && is_fresh words

-- the commands of a text of at most n characters, where some words of the first were read already
abbrev pub commands_from : ℕ → List Word → List Placed → Result (List Command) ℕ
commands_from n words [] = Ok (command_on words [])
commands_from zero words (p ∷ ps) = Ok []
commands_from (suc n) words (p ∷ ps) =
    if is_blank p.c then commands_from n words ps else
    (if ends_command p.c then then_as (command_on words) (commands_from n [] ps) else
    (if begins_comment p.c words then commands_from n words (past_comment ps) else
    then_with (λ r. commands_from n (words ++ r.word ∷ []) r.rest) (first_word p ps)))

-- the commands of a text, or the place, in characters from 0, of the first quote or `%` that isn't closed
abbrev pub commands_of : List ℕ → Result (List Command) ℕ
commands_of text = commands_from (length text) [] (placed_from 0 text)
