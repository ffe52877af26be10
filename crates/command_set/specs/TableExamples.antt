-- Key maps, aliases, defined commands and hooks, at given words and worlds.
use Rattle.std.specs.Prelude.{◌≡◌, ℕ, Bool, true, false, List, [], ◌∷◌, None, Ok, Err, codes}
use Rattle.std.specs.declared.result.Result.{Result}
use Rattle.key_names.specs.declared.key.Key.{Key}
use Rattle.key_names.specs.declared.key.Base.TheVariants.{Char, Ret}
use Rattle.key_names.specs.Reading.{bare}
use Rattle.scope_options.specs.declared.scope.Scope.TheVariants.{Global, Buffer}
use Rattle.scope_tables.specs.declared.maps.Mode.TheVariants.{Normal}
use Rattle.scope_tables.specs.declared.names.HookName.TheVariants.{NormalKey}
use Rattle.scope_tables.specs.Aliases.{with_alias}
use Rattle.scope_tables.specs.Maps.{with_map}
use Rattle.scope_tables.specs.Definitions.{with_definition}
use Rattle.command_forms.specs.declared.table_orders.TableOrder.TheVariants as order
use Rattle.command_forms.specs.Parameters.{allowed}
use Rattle.kak_world.specs.declared.ask.Ask.TheVariants.{Make}
use Rattle.kak_world.specs.declared.ask.EditError.{EditError}
use Rattle.kak_world.specs.declared.ask.EditError.TheVariants.{Command, BadPattern}
use Rattle.kak_world.specs.declared.command_error.CommandError.TheVariants.{BadKey, NoSuchScope, NoSuchMode, NoSuchHook, NoSuchCommand}
use Rattle.kak_world.specs.declared.purpose.NewHook.{NewHook}
use Rattle.kak_world.specs.declared.purpose.Wanted.TheVariants.{Hooks}
use Rattle.kak_world.specs.Flat.{Flat, opening}
use Rattle.kak_world.specs.Scoping.{with_aliases, with_definitions, with_maps}
use Rattle.kak_world.specs.Rows.{RowEnd, does, fails}
use Rattle.command_set.specs.Buffers.{asks, refuses}
use Rattle.command_set.specs.Finishing.{row_finish}
use Rattle.command_set.specs.Registers.{echo_row}
use Rattle.command_set.specs.Rows.{row_words}
use Rattle.command_set.specs.Tables.{key_told, table_row}

abbrev pub bad_key : ℕ → Result Key EditError
bad_key at = Err (Command (BadKey at))

pub record KeyExamples : Type 0 where
  pub one : key_told (codes "<ret>") ≡ Ok (bare Ret)
  pub none : key_told [] ≡ bad_key 0
  pub several : key_told (codes "ab") ≡ bad_key 0
  pub no_reading : key_told (codes "a<nope>") ≡ bad_key 1

-- rows where nothing happened before
abbrev pub mapped : List ℕ → List ℕ → List ℕ → List ℕ → RowEnd
mapped scope mode key keys = table_row (order.Map (record { scope = scope; mode = mode; key = key; keys = keys })) 0 opening

abbrev pub hooked : List ℕ → List ℕ → RowEnd
hooked scope name =
    table_row (order.Hook (record { scope = scope; name = name; pattern = codes "x"; commands = codes "nop"; group = codes "g"; once = true })) 0 opening

abbrev pub waiting : NewHook
waiting = record { scope = Global; name = NormalKey; group = codes "g"; once = true; commands = codes "nop" }

-- a world with aliases at every scope
abbrev pub aliased : List ℕ → List ℕ → Flat
aliased word command = with_aliases (with_alias Global word command) opening

pub record MapExamples : Type 0 where
  pub taken : mapped (codes "global") (codes "normal") (codes "a") (codes "l<ret>") ≡ does (with_maps (with_map Global Normal (bare (Char 97)) (bare (Char 108) ∷ bare Ret ∷ [])) opening)
  pub to_none : mapped (codes "buffer") (codes "normal") (codes "a") [] ≡ does (with_maps (with_map (Buffer 0) Normal (bare (Char 97)) []) opening)
  -- from the left
  pub scope_first : mapped (codes "client") (codes "visual") (codes "ab") (codes "<") ≡ refuses (NoSuchScope (codes "client")) opening
  pub then_mode : mapped (codes "global") (codes "visual") (codes "ab") (codes "<") ≡ refuses (NoSuchMode (codes "visual")) opening
  pub then_key : mapped (codes "global") (codes "normal") (codes "ab") (codes "l<") ≡ refuses (BadKey 0) opening
  pub then_keys : mapped (codes "global") (codes "normal") (codes "a") (codes "l<") ≡ refuses (BadKey 1) opening

pub record HookExamples : Type 0 where
  pub asked : hooked (codes "global") (codes "NormalKey") ≡ asks (Make (record { pattern = codes "x"; then = Hooks waiting })) opening
  pub scope_first : hooked (codes "all") (codes "normalkey") ≡ refuses (NoSuchScope (codes "all")) opening
  pub then_name : hooked (codes "global") (codes "normalkey") ≡ refuses (NoSuchHook (codes "normalkey")) opening
  -- a pattern that was refused leaves no hook
  pub refused_pattern : row_finish (Hooks waiting) None 0 opening ≡ fails BadPattern opening

pub record AliasExamples : Type 0 where
  pub defined : table_row (order.Define (record { name = codes "x"; allowed = allowed 1 2; commands = codes "nop" })) 0 opening
      ≡ does (with_definitions (with_definition (codes "x") (record { least = 1; most = 2 }) (codes "nop")) opening)
  pub no_alias : row_words (codes "x" ∷ []) 0 opening ≡ refuses (NoSuchCommand (codes "x")) opening
  pub short_name : row_words (codes "x" ∷ codes "a" ∷ []) 0 (aliased (codes "x") (codes "reg")) ≡ row_words (codes "set-register" ∷ codes "a" ∷ []) 0 (aliased (codes "x") (codes "reg"))
  -- an alias comes before the commands, and isn't looked up again; the word is told as it was typed
  pub before_commands : row_words (codes "fail" ∷ codes "a" ∷ []) 0 (aliased (codes "fail") (codes "echo")) ≡ echo_row (codes "a" ∷ []) 0 (aliased (codes "fail") (codes "echo"))
  pub not_twice : row_words (codes "x" ∷ []) 0 (aliased (codes "x") (codes "x")) ≡ refuses (NoSuchCommand (codes "x")) (aliased (codes "x") (codes "x"))
  pub as_typed : row_words (codes "x" ∷ []) 0 (aliased (codes "x") (codes "y")) ≡ refuses (NoSuchCommand (codes "x")) (aliased (codes "x") (codes "y"))

pub record TableExamples : Type 0 where
  pub keys : KeyExamples
  pub maps : MapExamples
  pub hooks : HookExamples
  pub aliases : AliasExamples
