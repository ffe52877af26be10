-- Highlighters, as commands order them.
use Rattle.std.specs.Prelude.{ℕ, Bool, List, [], ◌∷◌, Option, Some, None, unwrap_or, Result, Ok, Err, codes}
use Rattle.command_forms.specs.declared.order.Order.{Order}
use Rattle.command_forms.specs.declared.order.Order.TheVariants.{Highlighter}
use Rattle.command_forms.specs.declared.painters.HighlighterType.{HighlighterType}
use Rattle.command_forms.specs.declared.painters.HighlighterType.TheVariants as type
use Rattle.command_forms.specs.declared.painters.HighlighterOrder.TheVariants.{Add, Remove}
use Rattle.command_forms.specs.declared.painters.PainterWords.{PainterWords}
use Rattle.command_forms.specs.declared.painters.PainterWords.TheVariants as paints
use Rattle.command_forms.specs.declared.painters.PlaceFace.{PlaceFace}
use Rattle.command_forms.specs.declared.switches.Given.{Given}
use Rattle.command_forms.specs.declared.switches.Switch.TheVariants.{Override, HlCursor, Separator}
use Rattle.command_forms.specs.declared.switches.Owner.TheVariants as owner
use Rattle.command_forms.specs.declared.error.OrderError.{OrderError}
use Rattle.command_forms.specs.declared.error.OrderError.TheVariants.{WrongArgumentCount, NoSuchHighlighter}
use Rattle.command_forms.specs.Results.{then_as, then_with}
use Rattle.command_forms.specs.Lookup.{row, looked_up}
use Rattle.command_forms.specs.Switches.{TakenSwitches, is_given, word_given, taken}
use Rattle.command_forms.specs.Arguments.{Paired, no_words, one_word, paired}

-- the type of highlighters that a word names
abbrev pub highlighter_type : List ℕ → Option HighlighterType
highlighter_type word =
    looked_up word
    (row (codes "fill") type.Fill ∷ row (codes "regex") type.Regex ∷ row (codes "number-lines") type.NumberLines
    ∷ row (codes "line") type.Line ∷ row (codes "column") type.Column ∷ row (codes "show-whitespaces") type.ShowWhitespaces
    ∷ row (codes "group") type.Group ∷ [])

-- what stands behind the numbers of lines: what the switch says, or else a vertical line, U+2502, in UTF-8
abbrev pub separator_given : List Given → List ℕ
separator_given given = unwrap_or (word_given Separator given) (226 ∷ 148 ∷ 130 ∷ [])

-- numbering lines takes switches alone
abbrev pub numbers_by : TakenSwitches → Result PainterWords OrderError
numbers_by t = no_words (paints.NumberLines (record { marked = is_given HlCursor t.given; separator = separator_given t.given })) t.words

abbrev pub line_numbers : List (List ℕ) → Result PainterWords OrderError
line_numbers ws = then_with numbers_by (taken owner.NumberLines None ws)

-- matches take a pattern, and one group at least
abbrev pub matches : List (List ℕ) → Result PainterWords OrderError
matches [] = Err WrongArgumentCount
matches (w ∷ []) = Err WrongArgumentCount
matches (w ∷ g ∷ gs) = Ok (paints.Regex (record { pattern = w; groups = g ∷ gs }))

-- a line or a column takes a number and a face
abbrev pub placed : List (List ℕ) → Result PlaceFace OrderError
placed ws = then_with (λ (p : Paired). no_words (record { number = p.first; face = p.second }) p.more) (paired ws)

-- what a highlighter of a type does, by the words behind the type
abbrev pub painter_by : HighlighterType → List (List ℕ) → Result PainterWords OrderError
painter_by type.Fill ws = then_as paints.Fill (one_word ws)
painter_by type.Regex ws = matches ws
painter_by type.NumberLines ws = line_numbers ws
painter_by type.Line ws = then_as paints.Line (placed ws)
painter_by type.Column ws = then_as paints.Column (placed ws)
painter_by type.ShowWhitespaces ws = no_words paints.ShowWhitespaces ws
painter_by type.Group ws = no_words paints.Group ws

-- what one does, if there is the type that a word names
abbrev pub painter_of : Option HighlighterType → List ℕ → List (List ℕ) → Result PainterWords OrderError
painter_of None word ws = Err (NoSuchHighlighter word)
painter_of (Some type) word ws = painter_by type ws

abbrev pub painter_after : List ℕ → List (List ℕ) → Result PainterWords OrderError
painter_after word ws = painter_of (highlighter_type word) word ws

-- the order to add a highlighter
abbrev pub adding : Bool → Paired → PainterWords → Order
adding replace p painter =
    Highlighter (Add (record { replace = replace; path = p.first; words = p.second ∷ p.more; painter = painter }))

-- adding a highlighter takes a path, a type, and the words of that
abbrev pub highlighter_added : List Given → List (List ℕ) → Result Order OrderError
highlighter_added given ws = then_with (λ (p : Paired). then_as (adding (is_given Override given) p) (painter_after p.second p.more)) (paired ws)

-- removing one takes its path
abbrev pub highlighter_removed : List (List ℕ) → Result Order OrderError
highlighter_removed ws = then_as (λ path. Highlighter (Remove path)) (one_word ws)
