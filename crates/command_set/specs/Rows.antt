-- The commands: what each does.
use Rattle.std.specs.Prelude.{ℕ, true, false, List, [], ◌∷◌, unwrap_or, None, Some, Ok, Err}
use Rattle.std.specs.declared.option.Option.{Option}
use Rattle.std.specs.declared.result.Result.{Result}
use Rattle.kak_words.specs.declared.parts.Command.{Command}
use Rattle.kak_words.specs.Expanding.{expanded}
use Rattle.command_forms.specs.declared.order.Order.{Order}
use Rattle.command_forms.specs.declared.order.Order.TheVariants as order
use Rattle.command_forms.specs.declared.error.OrderError.{OrderError}
use Rattle.command_forms.specs.declared.error.OrderError.TheVariants as forms
use Rattle.command_forms.specs.declared.names.CommandName.{CommandName}
use Rattle.command_forms.specs.Names.{named}
use Rattle.command_forms.specs.Orders.{order_after}
use Rattle.scope_tables.specs.Aliases.{command_for}
use Rattle.scope_tables.specs.Definitions.{definition_of}
use Rattle.kak_world.specs.declared.ask.Ask.TheVariants.{Leave}
use Rattle.kak_world.specs.declared.ask.EditError.{EditError}
use Rattle.kak_world.specs.declared.ask.EditError.TheVariants.{Command as OfCommand, NoMemory}
use Rattle.kak_world.specs.declared.command_error.CommandError.TheVariants.{WrongArgumentCount, UnknownSwitch, BadValue, NoSuchHighlighter, BadSelection, UnknownExpansion}
use Rattle.kak_world.specs.Flat.{Flat, shown_of, tables_of}
use Rattle.kak_world.specs.Rows.{RowEnd, does, fails}
use Rattle.command_set.specs.Buffers.{asks, refuses, show_row, edit_named_row, drop_row, quit_row, write_row}
use Rattle.command_set.specs.Options.{declare_row, set_option_row, unset_option_row}
use Rattle.command_set.specs.Registers.{register_row, echo_row, failing}
use Rattle.command_set.specs.Selecting.{select_row}
use Rattle.command_set.specs.Boxes.{info_row}
use Rattle.command_set.specs.Faces.{set_face_row, unset_face_row}
use Rattle.command_set.specs.Painting.{highlighter_row}
use Rattle.command_set.specs.Tables.{table_row}
use Rattle.command_set.specs.Running.{play_row, eval_row, try_row, call_row}
use Rattle.command_set.specs.Expanding.{table_of}

-- the row of an order
abbrev pub row_order : Order → ℕ → Flat → RowEnd
row_order order.Nothing who flat = does flat
row_order (order.Edit name) who flat = edit_named_row name who flat
row_order (order.Write file) who flat = write_row file false who flat
row_order order.WriteQuit who flat = write_row None true who flat
row_order order.Quit who flat = quit_row who flat
row_order order.QuitForced who flat = asks Leave flat
row_order (order.Buffer name) who flat = show_row name who flat
row_order (order.Delete name) who flat = drop_row false name who flat
row_order (order.DeleteForced name) who flat = drop_row true name who flat
row_order (order.Declare d) who flat = declare_row d.kind d.name d.values flat
row_order (order.Set s) who flat = set_option_row s.add s.option.scope s.option.name s.values who flat
row_order (order.Unset o) who flat = unset_option_row o.scope o.name who flat
row_order (order.SetRegister r) who flat = register_row r.name r.values who flat
row_order (order.Select s) who flat = select_row s who flat
row_order (order.Echo words) who flat = echo_row words who flat
row_order (order.Fail text) who flat = fails (failing text) flat
row_order (order.Info i) who flat = info_row i.title i.text who flat
row_order (order.SetFace f) who flat = set_face_row f.scope f.name f.face flat
row_order (order.UnsetFace f) who flat = unset_face_row f.scope f.name flat
row_order (order.Highlighter h) who flat = highlighter_row h who flat
row_order (order.Table t) who flat = table_row t who flat
row_order (order.Play p) who flat = play_row p flat
row_order (order.Eval text) who flat = eval_row text flat
row_order (order.Try t) who flat = try_row t flat

-- by what a client is told why words are no order
abbrev pub order_refusal : OrderError → EditError
order_refusal forms.WrongArgumentCount = OfCommand WrongArgumentCount
order_refusal (forms.UnknownSwitch word) = OfCommand (UnknownSwitch word)
order_refusal forms.BadValue = OfCommand BadValue
order_refusal (forms.NoSuchHighlighter word) = OfCommand (NoSuchHighlighter word)
order_refusal (forms.BadSelection word) = OfCommand (BadSelection word)
order_refusal forms.NoMemory = NoMemory

-- the row of an order, or why words are none
abbrev pub row_read_order : Result Order OrderError → ℕ → Flat → RowEnd
row_read_order (Ok o) who flat = row_order o who flat
row_read_order (Err e) who flat = fails (order_refusal e) flat

-- the row of a command by the words behind the one that names it: one of the table, or else what a name was defined as
abbrev pub row_named : Option CommandName → List ℕ → List ℕ → List (List ℕ) → ℕ → Flat → RowEnd
row_named None name word words who flat = call_row (definition_of name (tables_of flat).definitions) word words flat
row_named (Some command) name word words who flat = row_read_order (order_after command words) who flat

-- the same by the name that was meant, and the word that was typed
abbrev pub row_meant : List ℕ → List ℕ → List (List ℕ) → ℕ → Flat → RowEnd
row_meant name word words who flat = row_named (named name) name word words who flat

-- the command that a word stands for, for a client: the one of its alias, if it has one, and else the word itself
abbrev pub meant : List ℕ → ℕ → Flat → List ℕ
meant word who flat = unwrap_or (command_for (shown_of who flat) who word (tables_of flat).aliases) word

-- the row of a command's words, of which the first names it; no words do nothing
unfoldable pub row_words : List (List ℕ) → ℕ → Flat → RowEnd
row_words [] who flat = does flat
row_words (w ∷ ws) who flat = row_meant (meant w who flat) w ws who flat

-- the row of the words that a command stands for, or the name of an expansion that there isn't
abbrev pub row_expanded : Result (List (List ℕ)) (List ℕ) → ℕ → Flat → RowEnd
row_expanded (Ok words) who flat = row_words words who flat
row_expanded (Err name) who flat = refuses (UnknownExpansion name) flat

-- the row of a command, whose words are expanded first
unfoldable pub row_command : Command → ℕ → Flat → RowEnd
row_command command who flat = row_expanded (expanded (table_of who flat) command) who flat
