-- What holds of names, keys, hooks and rows, proved as contracts of functions of `laws`.
use Rattle.std.specs.Prelude.{◌≡◌, ℕ, List, [], true, false, Some, None}
use Rattle.key_names.specs.declared.key.Key.{Key}
use Rattle.scope_options.specs.declared.scope.Scope.{Scope}
use Rattle.scope_tables.specs.declared.definitions.ParameterCount.{ParameterCount}
use Rattle.scope_tables.specs.declared.aliases.Alias.{Alias}
use Rattle.scope_tables.specs.declared.definitions.Definition.{Definition}
use Rattle.scope_tables.specs.declared.hooks.HookRef.{HookRef}
use Rattle.scope_tables.specs.declared.maps.KeyMap.{KeyMap}
use Rattle.scope_tables.specs.declared.maps.Mode.{Mode}
use Rattle.scope_tables.specs.declared.names.HookName.{HookName}
use Rattle.scope_tables.specs.Names.{name_text, hook_named, is_same_name}
use Rattle.scope_tables.specs.Keys.{is_same_key}
use Rattle.scope_tables.specs.Hooks.{NumberedHook, hooks_for, hook_at, without_hook, is_ref, is_awaited}
use Rattle.scope_tables.specs.Maps.{is_map, key_map, keys_at, with_map}
use Rattle.scope_tables.specs.Aliases.{is_alias, alias_row, command_at, with_alias}
use Rattle.scope_tables.specs.Definitions.{is_definition_of, definition, definition_of, with_definition}

pub record HookNameLaws : Type 0 where
  -- the text of a name is read as that name
  pub read_back : (name : HookName) → hook_named (name_text name) ≡ Some name
  -- a name is the same as itself, and as no other
  pub same : (name : HookName) → is_same_name name name ≡ true
  pub apart : (a b : HookName) → is_same_name a b ≡ true → a ≡ b

pub record KeyLaws : Type 0 where
  -- a key is the same as itself, and as no other
  pub same : (key : Key) → is_same_key key key ≡ true
  pub apart : (a b : Key) → is_same_key a b ≡ true → a ≡ b

pub record HookLaws : Type 0 where
  -- a hook that was removed isn't found
  pub removed : (at : HookRef) (held : List NumberedHook) → hook_at at (without_hook at held) ≡ None
  -- an event of a name that no hook has is heard by none
  pub unheard : (buffer client : ℕ) (name : HookName) (parameter : List ℕ) (held : List NumberedHook) → is_awaited name held ≡ false → hooks_for buffer client name parameter held ≡ []
  -- every other one is found as before
  pub others : (at other : HookRef) (held : List NumberedHook) → ((h : NumberedHook) → is_ref other h ≡ true → is_ref at h ≡ false) → hook_at other (without_hook at held) ≡ hook_at other held

pub record RowLaws : Type 0 where
  -- a key stands for the keys that it was mapped to, at that scope and in that mode; nothing else changes
  pub mapped : (scope : Scope) (mode : Mode) (key : Key) (keys : List Key) (maps : List KeyMap) → keys_at mode key (with_map scope mode key keys maps) scope ≡ Some keys
  pub other_maps : (scope other : Scope) (mode another_mode : Mode) (key another : Key) (keys : List Key) (maps : List KeyMap) → is_map other another_mode another (key_map scope mode key keys) ≡ false →
      keys_at another_mode another (with_map scope mode key keys maps) other ≡ keys_at another_mode another maps other
  -- a word stands for the command of its alias, at that scope; nothing else changes
  pub aliased : (scope : Scope) (word command : List ℕ) (aliases : List Alias) → command_at word (with_alias scope word command aliases) scope ≡ Some command
  pub other_aliases : (scope other : Scope) (word another command : List ℕ) (aliases : List Alias) → is_alias other another (alias_row scope word command) ≡ false →
      command_at another (with_alias scope word command aliases) other ≡ command_at another aliases other
  -- a name is what it was defined as last; no other name changes
  pub defined : (name : List ℕ) (allowed : ParameterCount) (commands : List ℕ) (rows : List Definition) → definition_of name (with_definition name allowed commands rows) ≡ Some (definition name allowed commands)
  pub other_definitions : (name another : List ℕ) (allowed : ParameterCount) (commands : List ℕ) (rows : List Definition) → is_definition_of another (definition name allowed commands) ≡ false →
      definition_of another (with_definition name allowed commands rows) ≡ definition_of another rows
