-- The definitions at given tables.
use Rattle.std.specs.Prelude.{◌≡◌, ◌-◌, ◌^◌, ℕ, Bool, true, false, List, [], ◌∷◌, Option, Some, None, map, codes}
use Rattle.key_names.specs.declared.key.Base.TheVariants.{Char, Up, F}
use Rattle.key_names.specs.declared.key.Key.{Key}
use Rattle.scope_options.specs.declared.scope.Scope.{Scope}
use Rattle.scope_options.specs.declared.scope.Scope.TheVariants.{Global, Buffer, Window}
use Rattle.scope_options.specs.Scopes.{is_same_scope, is_of_client, is_of_buffer}
use Rattle.scope_tables.specs.declared.definitions.ParameterCount.{ParameterCount}
use Rattle.scope_tables.specs.declared.hooks.TheConstants.{MAX_SCOPE_HOOKS}
use Rattle.scope_tables.specs.declared.hooks.HookRef.{HookRef}
use Rattle.scope_tables.specs.declared.maps.Mode.TheVariants.{Normal, Insert}
use Rattle.scope_tables.specs.declared.names.HookName.{HookName}
use Rattle.scope_tables.specs.declared.names.HookName.TheVariants.{NormalKey, InsertKey, BufSetOption}
use Rattle.scope_tables.specs.Names.{hook_named}
use Rattle.scope_tables.specs.Whole.{is_whole}
use Rattle.scope_tables.specs.Keys.{is_same_key}
use Rattle.scope_tables.specs.Hooks.{Hook, NumberedHook, ref_of, is_scope_full, hooks_for, hook_at, without_hook, without_once, without_group, is_awaited}
use Rattle.scope_tables.specs.Maps.{key_map, keys_for, with_map, without_map}
use Rattle.scope_tables.specs.Aliases.{alias_row, command_for, with_alias, without_alias}
use Rattle.scope_tables.specs.Definitions.{definition, definition_of, with_definition, is_allowed}
use Rattle.scope_tables.specs.Rows.{TableRows, no_table_rows, with_hook, without_scopes}

-- hooks of a name, with a pattern and a group
abbrev pub on : HookName → List ℕ → List ℕ → Hook
on name pattern group = record { name = name; pattern = pattern; group = group; once = false; commands = codes "nop" }

-- hooks that were added from the inside outward: of the window of client 0 on buffer 3, of buffers 3 and 4, and two global
-- ones without a group
abbrev pub five : TableRows
five =
    with_hook Global (on NormalKey (codes "l|lx") []) (with_hook Global (on NormalKey (codes "l") [])
    (with_hook (Buffer 4) (on NormalKey (codes "l") (codes "g")) (with_hook (Buffer 3) (on NormalKey (codes "l") (codes "g"))
    (with_hook (Window 0 3) (on NormalKey (codes "l") (codes "g")) no_table_rows))))

abbrev pub ref : Scope → ℕ → HookRef
ref scope number = record { scope = scope; number = number }

-- a key that is a character
abbrev pub character : ℕ → Key
character c = record { control = false; alt = false; shift = false; base = Char c }

-- rows of all tables at every scope, beside the five hooks
abbrev pub many : TableRows
many = record five {
  maps = key_map Global Normal (character 119) (character 108 ∷ []) ∷ key_map (Buffer 3) Normal (character 119) [] ∷ key_map (Window 0 3) Normal (character 119) (character 104 ∷ character 106 ∷ []) ∷ [];
  aliases = alias_row (Window 0 3) (codes "e") (codes "nop") ∷ alias_row (Buffer 3) (codes "e") (codes "echo") ∷ alias_row Global (codes "e") (codes "edit") ∷ [];
  definitions = definition (codes "d") (record { least = 2; most = 3 }) (codes "nop") ∷ [];
}

-- patterns that match the whole of a text, or don't
pub record WholeExamples : Type 0 where
  pub whole : is_whole (codes "x*y") (codes "xxy") ≡ true
  pub a_part : is_whole (codes "tabstop") (codes "tabstop=2") ≡ false
  pub behind_a_part : is_whole (codes "b") (codes "ab") ≡ false
  -- the earlier alternative is found, though the later one would be the whole
  pub shorter_first : is_whole (codes "l|lx") (codes "lx") ≡ false
  pub longer_first : is_whole (codes "lx|l") (codes "lx") ≡ true
  -- an empty match is the whole of the empty text alone
  pub empty_text : is_whole (codes "x*") [] ≡ true
  pub empty_match : is_whole (codes "x*") (codes "y") ≡ false
  pub no_pattern : is_whole (codes "(") (codes "(") ≡ false

-- which hooks an event has
pub record HookExamples : Type 0 where
  -- global ones first, then those of the buffer, then those of the window, each in the order in which they were added
  pub outermost_first : hooks_for 3 0 NormalKey (codes "l") five.hooks ≡ ref Global 3 ∷ ref Global 4 ∷ ref (Buffer 3) 1 ∷ ref (Window 0 3) 0 ∷ []
  -- those of another client's window and of another buffer aren't among them
  pub other_client : hooks_for 3 1 NormalKey (codes "l") five.hooks ≡ ref Global 3 ∷ ref Global 4 ∷ ref (Buffer 3) 1 ∷ []
  pub other_buffer : hooks_for 4 0 NormalKey (codes "l") five.hooks ≡ ref Global 3 ∷ ref Global 4 ∷ ref (Buffer 4) 2 ∷ []
  -- a match that is a part isn't enough, and of two alternatives the earlier one is found
  pub a_part : hooks_for 3 0 NormalKey (codes "lx") five.hooks ≡ []
  pub other_name : hooks_for 3 0 InsertKey (codes "l") five.hooks ≡ []
  -- a hook that was removed isn't run, and its number isn't given again
  pub removed : hooks_for 9 0 NormalKey (codes "l") (without_hook (ref Global 3) five.hooks) ≡ ref Global 4 ∷ []
  pub number_is_new : map ref_of (with_hook Global (on NormalKey (codes "l") []) (record five { hooks = without_hook (ref Global 4) five.hooks })).hooks ≡ ref (Window 0 3) 0 ∷ ref (Buffer 3) 1 ∷ ref (Buffer 4) 2 ∷ ref Global 3 ∷ ref Global 5 ∷ []
  -- a hook that is run once goes when it begins, and no other one does
  pub once_goes : map ref_of (without_once (ref Global 0) (with_hook Global (record (on NormalKey (codes "l") []) { once = true }) no_table_rows).hooks) ≡ []
  pub others_stay : map ref_of (without_once (ref Global 3) five.hooks) ≡ map ref_of five.hooks

-- names, limits, maps, aliases and definitions, and what goes with a client and a buffer
pub record WorkedExamples : Type 0 where
  -- names
  pub a_name : hook_named (codes "BufSetOption") ≡ Some BufSetOption
  pub no_name : hook_named (codes "bufsetoption") ≡ None
  -- limits
  pub limit : MAX_SCOPE_HOOKS ≡ 1000
  pub not_full : is_scope_full Global five.hooks five.added ≡ false
  pub none_is_left : is_scope_full Global [] (2 ^ 64 - 1) ≡ true
  -- hooks by scope and number, and by group
  pub found : hook_at (ref (Buffer 3) 1) five.hooks ≡ Some (on NormalKey (codes "l") (codes "g"))
  pub of_another_scope : hook_at (ref Global 1) five.hooks ≡ None
  pub without_a_group : map ref_of (without_group Global [] five.hooks) ≡ ref (Window 0 3) 0 ∷ ref (Buffer 3) 1 ∷ ref (Buffer 4) 2 ∷ []
  pub of_a_group : map ref_of (without_group (Buffer 3) (codes "g") five.hooks) ≡ ref (Window 0 3) 0 ∷ ref (Buffer 4) 2 ∷ ref Global 3 ∷ ref Global 4 ∷ []
  pub awaited : is_awaited NormalKey five.hooks ≡ true
  pub not_awaited : is_awaited InsertKey five.hooks ≡ false
  -- keys
  pub other_character : is_same_key (character 97) (character 98) ≡ false
  pub other_modifier : is_same_key (character 97) (record (character 97) { alt = true }) ≡ false
  pub function_keys : is_same_key (record (character 0) { base = F 1 }) (record (character 0) { base = F 2 }) ≡ false
  pub named_key : is_same_key (record (character 0) { base = Up }) (record (character 0) { base = Up }) ≡ true
  -- the innermost_of map counts, also one to no keys
  pub in_window : keys_for 3 0 Normal (character 119) many.maps ≡ Some (character 104 ∷ character 106 ∷ [])
  pub in_buffer : keys_for 3 1 Normal (character 119) many.maps ≡ Some []
  pub globally : keys_for 4 0 Normal (character 119) many.maps ≡ Some (character 108 ∷ [])
  pub in_another_mode : keys_for 3 0 Insert (character 119) many.maps ≡ None
  pub unmapped : keys_for 3 0 Normal (character 119) (without_map (Window 0 3) Normal (character 119) many.maps) ≡ Some []
  -- the innermost_of alias counts
  pub alias_in_window : command_for 3 0 (codes "e") many.aliases ≡ Some (codes "nop")
  pub alias_in_buffer : command_for 3 1 (codes "e") many.aliases ≡ Some (codes "echo")
  pub alias_globally : command_for 4 0 (codes "e") many.aliases ≡ Some (codes "edit")
  pub no_alias : command_for 4 0 (codes "e") (without_alias Global (codes "e") many.aliases) ≡ None
  -- definitions
  pub redefined : with_definition (codes "d") (record { least = 0; most = 0 }) (codes "x") many.definitions ≡ definition (codes "d") (record { least = 0; most = 0 }) (codes "x") ∷ []
  pub too_few : is_allowed 1 (record { least = 2; most = 3 }) ≡ false
  pub just_enough : is_allowed 2 (record { least = 2; most = 3 }) ≡ true
  pub too_many : is_allowed 4 (record { least = 2; most = 3 }) ≡ false
  -- what goes with a client, and with a buffer
  pub client_hooks : map ref_of (without_scopes (is_of_client 0) many).hooks ≡ ref (Buffer 3) 1 ∷ ref (Buffer 4) 2 ∷ ref Global 3 ∷ ref Global 4 ∷ []
  pub buffer_hooks : map ref_of (without_scopes (is_of_buffer 3) many).hooks ≡ ref (Buffer 4) 2 ∷ ref Global 3 ∷ ref Global 4 ∷ []
  pub buffer_maps : keys_for 3 0 Normal (character 119) (without_scopes (is_of_buffer 3) many).maps ≡ Some (character 108 ∷ [])
  pub buffer_aliases : command_for 3 0 (codes "e") (without_scopes (is_of_buffer 3) many).aliases ≡ Some (codes "edit")
  pub window_alias : command_for 3 0 (codes "e") (without_scopes (λ s. is_same_scope s (Window 0 3)) many).aliases ≡ Some (codes "echo")
