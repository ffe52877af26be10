-- The definitions at given words.
use Rattle.std.specs.Prelude.{◌≡◌, ℕ, ◌==◌, Bool, List, [], ◌∷◌, true, false, if◌then◌else◌, Option, Some, None, option_map, Result, Ok, Err, codes}
use Rattle.scope_options.specs.declared.value.OptionType.{OptionType}
use Rattle.scope_options.specs.declared.value.OptionType.TheVariants as kind
use Rattle.command_forms.specs.declared.names.CommandName.{CommandName}
use Rattle.command_forms.specs.declared.names.CommandName.TheVariants as name
use Rattle.command_forms.specs.declared.places.Columns.{Columns}
use Rattle.command_forms.specs.declared.places.Columns.TheVariants.{Bytes, Characters}
use Rattle.command_forms.specs.declared.places.Described.{Described}
use Rattle.command_forms.specs.declared.order.Order.{Order}
use Rattle.command_forms.specs.declared.order.Order.TheVariants as order
use Rattle.command_forms.specs.declared.error.OrderError.{OrderError}
use Rattle.command_forms.specs.declared.error.OrderError.TheVariants.{WrongArgumentCount, UnknownSwitch, BadValue, NoSuchHighlighter, BadSelection}
use Rattle.command_forms.specs.declared.painters.HighlighterOrder.TheVariants.{Add as AddHighlighter, Remove as RemoveHighlighter}
use Rattle.command_forms.specs.declared.painters.PainterWords.{PainterWords}
use Rattle.command_forms.specs.declared.painters.PainterWords.TheVariants as paints
use Rattle.command_forms.specs.declared.table_orders.TableOrder.{TableOrder}
use Rattle.command_forms.specs.declared.table_orders.TableOrder.TheVariants as table
use Rattle.command_forms.specs.Names.{named}
use Rattle.command_forms.specs.Orders.{order_after}
use Rattle.command_forms.specs.Parameters.{allowed}

-- a text of words with a space between each two
abbrev pub onto_first_word : ℕ → List (List ℕ) → List (List ℕ)
onto_first_word c [] = (c ∷ []) ∷ []
onto_first_word c (w ∷ ws) = (c ∷ w) ∷ ws

abbrev pub words : List ℕ → List (List ℕ)
words [] = [] ∷ []
words (c ∷ cs) = if c == 32 then [] ∷ words cs else onto_first_word c (words cs)

-- the order of words of which the first names a command, or why there is none; none where it names no command
abbrev pub order_of : List (List ℕ) → Option (Result Order OrderError)
order_of [] = None
order_of (w ∷ ws) = option_map (λ name. order_after name ws) (named w)

abbrev pub order_in : List ℕ → Option (Result Order OrderError)
order_in text = order_of (words text)

abbrev pub reads : Order → Option (Result Order OrderError)
reads o = Some (Ok o)

abbrev pub refuses : OrderError → Option (Result Order OrderError)
refuses e = Some (Err e)

-- a declaration, a setting and a selection
abbrev pub declaring : OptionType → List ℕ → List (List ℕ) → Option (Result Order OrderError)
declaring type name values = reads (order.Declare (record { kind = type; name = name; values = values }))

abbrev pub described : ℕ → ℕ → ℕ → ℕ → Described
described al ac cl cc = record { anchor = record { line = al; column = ac }; cursor = record { line = cl; column = cc } }

abbrev pub selecting_order : Columns → List Described → Option (Result Order OrderError)
selecting_order columns ranges = reads (order.Select (record { columns = columns; ranges = ranges }))

-- a box, a highlighter, a change of a table, and what is run
abbrev pub info_of : List ℕ → Option (List ℕ) → Option (Result Order OrderError)
info_of title text = reads (order.Info (record { title = title; text = text }))

abbrev pub highlighter_of : Bool → List ℕ → List (List ℕ) → PainterWords → Option (Result Order OrderError)
highlighter_of replace path words painter =
    reads (order.Highlighter (AddHighlighter (record { replace = replace; path = path; words = words; painter = painter })))

abbrev pub numbering : Bool → List ℕ → PainterWords
numbering marked separator = paints.NumberLines (record { marked = marked; separator = separator })

abbrev pub tables_to : TableOrder → Option (Result Order OrderError)
tables_to change = reads (order.Table change)

abbrev pub defining_order : ℕ → ℕ → List ℕ → List ℕ → Option (Result Order OrderError)
defining_order least most name commands =
    tables_to (table.Define (record { name = name; allowed = allowed least most; commands = commands }))

abbrev pub hooking_order : List ℕ → Bool → Option (Result Order OrderError)
hooking_order group once =
    tables_to (table.Hook (record { scope = codes "global"; name = codes "N"; pattern = codes "p"; commands = codes "c"; group = group; once = once }))

abbrev pub playing_order : Bool → Bool → Option (Result Order OrderError)
playing_order hooks maps = reads (order.Play (record { keys = codes "l"; hooks = hooks; maps = maps }))

abbrev pub trying_order : List ℕ → Option (Result Order OrderError)
trying_order catching = reads (order.Try (record { first = codes "a"; catching = catching }))

-- the table of examples
pub record WorkedExamples : Type 0 where
  -- names
  pub nop : order_in (codes "nop") ≡ reads order.Nothing
  pub unknown : order_in (codes "editx a") ≡ None
  pub empty_name : order_of ([] ∷ []) ≡ None
  pub dash_is_no_command : order_in (codes "-x") ≡ None
  -- one word, one at most, and none
  pub edit : order_in (codes "e a") ≡ reads (order.Edit (codes "a"))
  pub edit_of_none : order_in (codes "edit") ≡ refuses WrongArgumentCount
  pub edit_of_two : order_in (codes "edit a b") ≡ refuses WrongArgumentCount
  pub edit_of_empty_word : order_of (codes "edit" ∷ [] ∷ []) ≡ reads (order.Edit [])
  pub buffer : order_in (codes "buffer *scratch*") ≡ reads (order.Buffer (codes "*scratch*"))
  pub write : order_in (codes "write") ≡ reads (order.Write None)
  pub write_to : order_in (codes "w f") ≡ reads (order.Write (Some (codes "f")))
  pub write_of_two : order_in (codes "w f g") ≡ refuses WrongArgumentCount
  pub delete : order_in (codes "db f") ≡ reads (order.Delete (Some (codes "f")))
  pub delete_forced : order_in (codes "delete-buffer!") ≡ reads (order.DeleteForced None)
  pub quit : order_in (codes "q") ≡ reads order.Quit
  pub quit_forced : order_in (codes "q!") ≡ reads order.QuitForced
  pub write_quit : order_in (codes "wq") ≡ reads order.WriteQuit
  pub quit_of_one : order_in (codes "quit x") ≡ refuses WrongArgumentCount
  pub nop_of_one : order_in (codes "nop x") ≡ refuses WrongArgumentCount
  pub fail : order_in (codes "fail") ≡ reads (order.Fail None)
  pub fail_of_two : order_in (codes "fail a b") ≡ refuses WrongArgumentCount
  -- switches come before other words, of commands that have none too
  pub echo : order_in (codes "echo a -n") ≡ reads (order.Echo (codes "a" ∷ codes "-n" ∷ []))
  pub echo_switch : order_in (codes "echo -n") ≡ refuses (UnknownSwitch (codes "-n"))
  pub lone_dash : order_in (codes "echo - x") ≡ refuses (UnknownSwitch (codes "-"))
  pub ended : order_in (codes "echo -- -n -- x") ≡ reads (order.Echo (codes "-n" ∷ codes "--" ∷ codes "x" ∷ []))
  pub switch_before_count : order_in (codes "quit -x y") ≡ refuses (UnknownSwitch (codes "-x"))
  pub switch_of_another : order_in (codes "set -hidden global t x") ≡ refuses (UnknownSwitch (codes "-hidden"))
  pub longer_switch : order_in (codes "set -added global t x") ≡ refuses (UnknownSwitch (codes "-added"))
  -- options
  pub declared : order_in (codes "decl -hidden -docstring -hidden int n -5") ≡ declaring kind.Int (codes "n") (codes "-5" ∷ [])
  pub docstring_alone : order_in (codes "decl -docstring") ≡ refuses WrongArgumentCount
  pub docstring_takes_the_end : order_in (codes "decl -docstring -- -x") ≡ refuses (UnknownSwitch (codes "-x"))
  pub number_of_none : order_in (codes "decl int n") ≡ declaring kind.Int (codes "n") (codes "0" ∷ [])
  pub truth_of_none : order_in (codes "decl bool b") ≡ declaring kind.Bool (codes "b") (codes "false" ∷ [])
  pub text_of_none : order_in (codes "decl str s") ≡ declaring kind.Str (codes "s") ([] ∷ [])
  pub list_of_none : order_in (codes "decl str-list l") ≡ declaring kind.StrList (codes "l") []
  pub list_of_two : order_in (codes "decl str-list l a b") ≡ declaring kind.StrList (codes "l") (codes "a" ∷ codes "b" ∷ [])
  pub no_type : order_in (codes "decl float f") ≡ refuses BadValue
  pub count_before_type : order_in (codes "decl float") ≡ refuses WrongArgumentCount
  pub set : order_in (codes "set-option global tabstop 4") ≡ reads (order.Set (record { add = false; option = record { scope = codes "global"; name = codes "tabstop" }; values = codes "4" ∷ [] }))
  pub added : order_in (codes "set -add -- buffer l a b") ≡ reads (order.Set (record { add = true; option = record { scope = codes "buffer"; name = codes "l" }; values = codes "a" ∷ codes "b" ∷ [] }))
  pub set_to_none : order_in (codes "set global l") ≡ reads (order.Set (record { add = false; option = record { scope = codes "global"; name = codes "l" }; values = [] }))
  pub set_without_name : order_in (codes "set global") ≡ refuses WrongArgumentCount
  pub unset : order_in (codes "unset-option window l") ≡ reads (order.Unset (record { scope = codes "window"; name = codes "l" }))
  pub unset_of_one : order_in (codes "unset l") ≡ refuses WrongArgumentCount
  pub unset_of_three : order_in (codes "unset window l x") ≡ refuses WrongArgumentCount
  -- registers
  pub register : order_in (codes "reg a x y") ≡ reads (order.SetRegister (record { name = codes "a"; values = codes "x" ∷ codes "y" ∷ [] }))
  pub register_of_none : order_in (codes "set-register slash") ≡ reads (order.SetRegister (record { name = codes "slash"; values = [] }))
  pub no_register : order_in (codes "reg") ≡ refuses WrongArgumentCount
  -- selections
  pub select : order_in (codes "select 1.2,3.04 5.6,1.1") ≡ selecting_order Bytes (described 1 2 3 4 ∷ described 5 6 1 1 ∷ [])
  pub select_characters : order_in (codes "select -codepoint 1.2,3.4") ≡ selecting_order Characters (described 1 2 3 4 ∷ [])
  pub select_far : order_in (codes "select 1.4294967295,4294967296.99999999999") ≡ selecting_order Bytes (described 1 4294967295 4294967295 4294967295 ∷ [])
  pub select_none : order_in (codes "select") ≡ refuses WrongArgumentCount
  pub select_zero : order_in (codes "select 1.1,1.2 1.00,1.1 x") ≡ refuses (BadSelection (codes "1.00,1.1"))
  pub one_place : order_in (codes "select 1.1") ≡ refuses (BadSelection (codes "1.1"))
  pub three_places : order_in (codes "select 1.1,1.1,1.1") ≡ refuses (BadSelection (codes "1.1,1.1,1.1"))
  pub signed_number : order_in (codes "select 1.1,+1.1") ≡ refuses (BadSelection (codes "1.1,+1.1"))
  pub no_column : order_in (codes "select 1.,1.1") ≡ refuses (BadSelection (codes "1.,1.1"))
  pub three_numbers : order_in (codes "select 1.1.1,1.1") ≡ refuses (BadSelection (codes "1.1.1,1.1"))
  -- boxes
  pub info : order_in (codes "info hi") ≡ info_of [] (Some (codes "hi"))
  pub info_hidden : order_in (codes "info") ≡ info_of [] None
  pub info_titled : order_in (codes "info -title t -- -x") ≡ info_of (codes "t") (Some (codes "-x"))
  pub title_alone : order_in (codes "info -title t") ≡ info_of (codes "t") None
  pub last_title : order_in (codes "info -title a -title b x") ≡ info_of (codes "b") (Some (codes "x"))
  pub title_lacks : order_in (codes "info -title") ≡ refuses WrongArgumentCount
  pub info_of_two : order_in (codes "info a b") ≡ refuses WrongArgumentCount
  -- faces
  pub face : order_in (codes "face global A red@B") ≡ reads (order.SetFace (record { scope = codes "global"; name = codes "A"; face = codes "red@B" }))
  pub set_face_of_two : order_in (codes "set-face global A") ≡ refuses WrongArgumentCount
  pub set_face_of_four : order_in (codes "set-face global A red blue") ≡ refuses WrongArgumentCount
  pub unset_face : order_in (codes "unset-face window A") ≡ reads (order.UnsetFace (record { scope = codes "window"; name = codes "A" }))
  pub unset_face_of_one : order_in (codes "unset-face A") ≡ refuses WrongArgumentCount
  pub face_switch : order_in (codes "face -docstring d global A red") ≡ refuses (UnknownSwitch (codes "-docstring"))
  -- highlighters
  pub fill : order_in (codes "addhl global/ fill red") ≡ highlighter_of false (codes "global/") (codes "fill" ∷ codes "red" ∷ []) (paints.Fill (codes "red"))
  pub overridden : order_in (codes "add-highlighter -override window/a group") ≡ highlighter_of true (codes "window/a") (codes "group" ∷ []) paints.Group
  pub regex : order_in (codes "addhl b/ regex x+ 0:red 1:B") ≡ highlighter_of false (codes "b/") (codes "regex" ∷ codes "x+" ∷ codes "0:red" ∷ codes "1:B" ∷ []) (paints.Regex (record { pattern = codes "x+"; groups = codes "0:red" ∷ codes "1:B" ∷ [] }))
  pub regex_without_face : order_in (codes "addhl b/ regex x+") ≡ refuses WrongArgumentCount
  pub numbers : order_in (codes "addhl g/ number-lines") ≡ highlighter_of false (codes "g/") (codes "number-lines" ∷ []) (numbering false (226 ∷ 148 ∷ 130 ∷ []))
  pub numbers_marked : order_in (codes "addhl g/ number-lines -separator : -hlcursor --") ≡ highlighter_of false (codes "g/") (codes "number-lines" ∷ codes "-separator" ∷ codes ":" ∷ codes "-hlcursor" ∷ codes "--" ∷ []) (numbering true (codes ":"))
  pub numbers_of_one : order_in (codes "addhl g/ number-lines x") ≡ refuses WrongArgumentCount
  pub numbers_switch : order_in (codes "addhl g/ number-lines -override") ≡ refuses (UnknownSwitch (codes "-override"))
  pub separator_lacks : order_in (codes "addhl g/ number-lines -separator") ≡ refuses WrongArgumentCount
  pub line : order_in (codes "addhl g/ line 3 red") ≡ highlighter_of false (codes "g/") (codes "line" ∷ codes "3" ∷ codes "red" ∷ []) (paints.Line (record { number = codes "3"; face = codes "red" }))
  pub column : order_in (codes "addhl g/ column x y") ≡ highlighter_of false (codes "g/") (codes "column" ∷ codes "x" ∷ codes "y" ∷ []) (paints.Column (record { number = codes "x"; face = codes "y" }))
  pub column_of_one : order_in (codes "addhl g/ column 3") ≡ refuses WrongArgumentCount
  pub whitespace : order_in (codes "addhl g/ show-whitespaces") ≡ highlighter_of false (codes "g/") (codes "show-whitespaces" ∷ []) paints.ShowWhitespaces
  pub group_of_one : order_in (codes "addhl g/ group x") ≡ refuses WrongArgumentCount
  pub no_highlighter_type : order_in (codes "addhl g/ wrap x y") ≡ refuses (NoSuchHighlighter (codes "wrap"))
  pub type_before_count : order_in (codes "addhl g/ fills") ≡ refuses (NoSuchHighlighter (codes "fills"))
  pub count_before_highlighter_type : order_in (codes "addhl fills") ≡ refuses WrongArgumentCount
  pub switch_before_type : order_in (codes "addhl -hlcursor g/ fills") ≡ refuses (UnknownSwitch (codes "-hlcursor"))
  pub removed : order_in (codes "rmhl global/a") ≡ reads (order.Highlighter (RemoveHighlighter (codes "global/a")))
  pub removed_of_none : order_in (codes "remove-highlighter") ≡ refuses WrongArgumentCount
  -- maps and aliases
  pub map : order_in (codes "map -docstring d global normal a <ret>") ≡ tables_to (table.Map (record { scope = codes "global"; mode = codes "normal"; key = codes "a"; keys = codes "<ret>" }))
  pub map_of_three : order_in (codes "map global normal a") ≡ refuses WrongArgumentCount
  pub unmap : order_in (codes "unmap buffer prompt a") ≡ tables_to (table.Unmap (record { scope = codes "buffer"; mode = codes "prompt"; key = codes "a" }))
  pub unmap_of_four : order_in (codes "unmap buffer prompt a b") ≡ refuses WrongArgumentCount
  pub alias : order_in (codes "alias window x exec") ≡ tables_to (table.Alias (record { scope = codes "window"; word = codes "x"; command = codes "exec" }))
  pub alias_of_four : order_in (codes "alias window x exec y") ≡ refuses WrongArgumentCount
  pub unalias : order_in (codes "unalias window x") ≡ tables_to (table.Unalias (record { scope = codes "window"; word = codes "x" }))
  pub unalias_of_three : order_in (codes "unalias window x exec") ≡ refuses WrongArgumentCount
  -- defined commands
  pub define : order_in (codes "def -hidden -override -docstring d x y") ≡ defining_order 0 0 (codes "x") (codes "y")
  pub parameters : order_in (codes "def -params 02 x y") ≡ defining_order 2 2 (codes "x") (codes "y")
  pub parameter_range : order_in (codes "define-command -params 2..10 x y") ≡ defining_order 2 10 (codes "x") (codes "y")
  pub parameters_to : order_in (codes "def -params ..3 x y") ≡ defining_order 0 3 (codes "x") (codes "y")
  pub fits_none : order_in (codes "def -params 2..1 x y") ≡ defining_order 2 1 (codes "x") (codes "y")
  pub last_parameters : order_in (codes "def -params 1 -params 2 x y") ≡ defining_order 2 2 (codes "x") (codes "y")
  pub parameters_from : order_in (codes "def -params 1.. x y") ≡ refuses BadValue
  pub parameters_of_dots : order_in (codes "def -params .. x y") ≡ refuses BadValue
  pub parameters_of_three_dots : order_in (codes "def -params 1...2 x y") ≡ refuses BadValue
  pub parameters_of_one_dot : order_in (codes "def -params 1.2 x y") ≡ refuses BadValue
  pub parameters_of_word : order_in (codes "def -params x -y") ≡ refuses BadValue
  pub parameters_lack : order_in (codes "def -params") ≡ refuses WrongArgumentCount
  pub define_of_one : order_in (codes "def x") ≡ refuses WrongArgumentCount
  -- hooks
  pub hook : order_in (codes "hook global N p c") ≡ hooking_order [] false
  pub hook_of_group : order_in (codes "hook -once -group g -always global N p c") ≡ hooking_order (codes "g") true
  pub last_group : order_in (codes "hook -group g -group h global N p c") ≡ hooking_order (codes "h") false
  pub hook_of_three : order_in (codes "hook global N p") ≡ refuses WrongArgumentCount
  pub hooks_removed : order_in (codes "rmhooks global g") ≡ tables_to (table.RemoveHooks (record { scope = codes "global"; group = codes "g" }))
  pub hooks_removed_of_one : order_in (codes "remove-hooks global") ≡ refuses WrongArgumentCount
  -- what is run
  pub keys : order_in (codes "exec l") ≡ playing_order false false
  pub keys_with_maps : order_in (codes "execute-keys -with-maps l") ≡ playing_order false true
  pub keys_with_hooks : order_in (codes "exec -with-hooks l") ≡ playing_order true false
  pub keys_of_two : order_in (codes "exec l l") ≡ refuses WrongArgumentCount
  pub keys_of_none : order_in (codes "exec -with-maps") ≡ refuses WrongArgumentCount
  pub evaluated : order_in (codes "eval nop") ≡ reads (order.Eval (codes "nop"))
  pub hooks_of_text : order_in (codes "eval -with-hooks nop") ≡ refuses (UnknownSwitch (codes "-with-hooks"))
  pub evaluated_of_two : order_in (codes "eval nop nop") ≡ refuses WrongArgumentCount
  pub tried : order_in (codes "try a") ≡ trying_order []
  pub caught : order_in (codes "try a catch b") ≡ trying_order (codes "b")
  pub caught_by_another : order_in (codes "try a except b") ≡ refuses WrongArgumentCount
  pub tried_of_two : order_in (codes "try a catch") ≡ refuses WrongArgumentCount
  pub tried_of_four : order_in (codes "try a catch b c") ≡ refuses WrongArgumentCount
  -- commands without a short name of that kind
  pub no_short_names : named (codes "exe") ≡ None
  pub forced_name : named (codes "write!") ≡ None
  pub unset_by_face : named (codes "unset") ≡ Some name.Unset
