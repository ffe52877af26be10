-- Which order the words of a command are, or why they are none.
use Rattle.std.specs.Prelude.{ℕ, Bool, List, [], ◌∷◌, if◌then◌else◌, Option, Some, None, Result, Ok, Err, codes}
use Rattle.scope_options.specs.declared.value.OptionType.{OptionType}
use Rattle.scope_options.specs.declared.value.OptionType.TheVariants as kind
use Rattle.command_forms.specs.declared.names.CommandName.{CommandName}
use Rattle.command_forms.specs.declared.names.CommandName.TheVariants as name
use Rattle.command_forms.specs.declared.switches.Given.{Given}
use Rattle.command_forms.specs.declared.switches.Switch.TheVariants.{Add, Codepoint, Title}
use Rattle.command_forms.specs.declared.switches.Owner.TheVariants as owner
use Rattle.command_forms.specs.declared.places.Columns.{Columns}
use Rattle.command_forms.specs.declared.places.Columns.TheVariants.{Bytes, Characters}
use Rattle.command_forms.specs.declared.order.Order.{Order}
use Rattle.command_forms.specs.declared.order.Order.TheVariants as order
use Rattle.command_forms.specs.declared.error.OrderError.{OrderError}
use Rattle.command_forms.specs.declared.error.OrderError.TheVariants.{WrongArgumentCount, BadValue}
use Rattle.command_forms.specs.Results.{then_as, then_with}
use Rattle.command_forms.specs.Lookup.{row, looked_up}
use Rattle.command_forms.specs.Switches.{TakenSwitches, is_given, word_or_empty, taken}
use Rattle.command_forms.specs.Arguments.{Headed, Paired, no_words, one_word, optional_word, headed, paired}
use Rattle.command_forms.specs.Places.{descriptions}
use Rattle.command_forms.specs.Painters.{highlighter_added, highlighter_removed}
use Rattle.command_forms.specs.TableOrders.{mapping, unmapping, aliasing, unaliasing, defining, hooking, hooks_removed}
use Rattle.command_forms.specs.Runs.{playing, trying}

-- the type that a word names
abbrev pub type_named : List ℕ → Option OptionType
type_named word =
    looked_up word (row (codes "int") kind.Int ∷ row (codes "bool") kind.Bool ∷ row (codes "str") kind.Str ∷ row (codes "str-list") kind.StrList ∷ [])

-- the words of the value that an option has where none is given
abbrev pub empty_value : OptionType → List (List ℕ)
empty_value kind.Int = codes "0" ∷ []
empty_value kind.Bool = codes "false" ∷ []
empty_value kind.Str = [] ∷ []
empty_value kind.StrList = []

-- the words of a value: those that are given, if there are any
abbrev pub value_words : OptionType → List (List ℕ) → List (List ℕ)
value_words type [] = empty_value type
value_words type (w ∷ ws) = w ∷ ws

-- the declaration of an option of a type, if there is that type
abbrev pub declaration_as : Option OptionType → Paired → Result Order OrderError
declaration_as None words = Err BadValue
declaration_as (Some type) words =
    Ok (order.Declare (record { kind = type; name = words.second; values = value_words type words.more }))

-- declaring takes a type, a name and the words of a value
abbrev pub declaration : List (List ℕ) → Result Order OrderError
declaration ws = then_with (λ (p : Paired). declaration_as (type_named p.first) p) (paired ws)

-- setting takes a scope, a name and the words of a value
abbrev pub setting : Bool → List (List ℕ) → Result Order OrderError
setting add ws =
    then_as (λ (p : Paired). order.Set (record { add = add; option = record { scope = p.first; name = p.second }; values = p.more })) (paired ws)

-- unsetting takes a scope and a name
abbrev pub unsetting : List (List ℕ) → Result Order OrderError
unsetting ws =
    then_with (λ (p : Paired). no_words (order.Unset (record { scope = p.first; name = p.second })) p.more) (paired ws)

-- setting a register takes its name and its strings
abbrev pub register_set : List (List ℕ) → Result Order OrderError
register_set ws = then_as (λ (h : Headed). order.SetRegister (record { name = h.head; values = h.more })) (headed ws)

-- what the columns of a selection count: bytes, unless the switch says characters
abbrev pub columns_of : List Given → Columns
columns_of given = if is_given Codepoint given then Characters else Bytes

-- selecting takes descriptions, one at least
abbrev pub selection : Columns → List (List ℕ) → Result Order OrderError
selection columns [] = Err WrongArgumentCount
selection columns (w ∷ ws) =
    then_as (λ ranges. order.Select (record { columns = columns; ranges = ranges })) (descriptions (w ∷ ws))

-- a box takes a text or none
abbrev pub info : List Given → List (List ℕ) → Result Order OrderError
info given ws = then_as (λ text. order.Info (record { title = word_or_empty Title given; text = text })) (optional_word ws)

-- setting a face takes a scope, a name and a face
abbrev pub face_set : List (List ℕ) → Result Order OrderError
face_set ws =
    then_with (λ (p : Paired). then_as (λ face. order.SetFace (record { scope = p.first; name = p.second; face = face })) (one_word p.more)) (paired ws)

-- unsetting one takes a scope and a name
abbrev pub face_unset : List (List ℕ) → Result Order OrderError
face_unset ws = then_with (λ (p : Paired). no_words (order.UnsetFace (record { scope = p.first; name = p.second })) p.more) (paired ws)

-- the order of a command, by the switches that it was given and its other words
abbrev pub order_by : CommandName → List Given → List (List ℕ) → Result Order OrderError
order_by name.Edit given ws = then_as order.Edit (one_word ws)
order_by name.Write given ws = then_as order.Write (optional_word ws)
order_by name.WriteQuit given ws = no_words order.WriteQuit ws
order_by name.Quit given ws = no_words order.Quit ws
order_by name.QuitForced given ws = no_words order.QuitForced ws
order_by name.Buffer given ws = then_as order.Buffer (one_word ws)
order_by name.Delete given ws = then_as order.Delete (optional_word ws)
order_by name.DeleteForced given ws = then_as order.DeleteForced (optional_word ws)
order_by name.Declare given ws = declaration ws
order_by name.Set given ws = setting (is_given Add given) ws
order_by name.Unset given ws = unsetting ws
order_by name.SetRegister given ws = register_set ws
order_by name.Select given ws = selection (columns_of given) ws
order_by name.Echo given ws = Ok (order.Echo ws)
order_by name.Fail given ws = then_as order.Fail (optional_word ws)
order_by name.Nop given ws = no_words order.Nothing ws
order_by name.Info given ws = info given ws
order_by name.SetFace given ws = face_set ws
order_by name.UnsetFace given ws = face_unset ws
order_by name.AddHighlighter given ws = highlighter_added given ws
order_by name.RemoveHighlighter given ws = highlighter_removed ws
order_by name.Map given ws = then_as order.Table (mapping ws)
order_by name.Unmap given ws = then_as order.Table (unmapping ws)
order_by name.Alias given ws = then_as order.Table (aliasing ws)
order_by name.Unalias given ws = then_as order.Table (unaliasing ws)
order_by name.Define given ws = then_as order.Table (defining given ws)
order_by name.Hook given ws = then_as order.Table (hooking given ws)
order_by name.RemoveHooks given ws = then_as order.Table (hooks_removed ws)
order_by name.ExecuteKeys given ws = playing given ws
order_by name.Evaluate given ws = then_as order.Eval (one_word ws)
order_by name.Try given ws = trying ws

-- the order of a command by the words behind its name: the switches are judged first
abbrev pub order_after : CommandName → List (List ℕ) → Result Order OrderError
order_after name ws = then_with (λ (t : TakenSwitches). order_by name t.given t.words) (taken (owner.Command name) None ws)
