-- Hooks, and which of them an event has.
use Rattle.std.specs.Prelude.{ℕ, ◌-◌, ◌^◌, ◌==◌, ◌&&◌, ◌||◌, ◌++◌, nat_le, not, Bool, List, length, filter, find, map, count_by, Option, option_map}
use Rattle.std.specs.List.{list_any}
use Rattle.std.specs.Str.{bytes_eq}
use Rattle.scope_tables.specs.Whole.{is_whole}
use Rattle.scope_options.specs.declared.scope.Scope.{Scope}
use Rattle.scope_options.specs.declared.scope.Scope.TheVariants.{Global, Buffer, Window}
use Rattle.scope_options.specs.Scopes.{is_same_scope}
use Rattle.scope_tables.specs.declared.hooks.TheConstants.{MAX_SCOPE_HOOKS}
use Rattle.scope_tables.specs.declared.hooks.HookRef.{HookRef}
use Rattle.scope_tables.specs.declared.names.HookName.{HookName}
use Rattle.scope_tables.specs.Names.{is_same_name}

-- a hook: its name, the text of its pattern, its group (the empty one where it was given none), whether it is run once, and
-- the commands that it runs
pub record Hook : Type 0 where
  pub name : HookName
  pub pattern : List ℕ
  pub group : List ℕ
  pub once : Bool
  pub commands : List ℕ

-- a hook that is held: at which scope, and how many hooks had ever been added before it
pub record NumberedHook : Type 0 where
  pub scope : Scope
  pub number : ℕ
  pub hook : Hook

abbrev pub held_as : Scope → ℕ → Hook → NumberedHook
held_as scope number hook = record { scope = scope; number = number; hook = hook }

-- what a hook that is held is found by
abbrev pub ref_of : NumberedHook → HookRef
ref_of h = record { scope = h.scope; number = h.number }

-- whether no hook may be added at a scope: 1,000 are held there, or 2^64 - 1 were ever added
abbrev pub is_scope_full : Scope → List NumberedHook → ℕ → Bool
is_scope_full scope held added = nat_le MAX_SCOPE_HOOKS (count_by (λ h. is_same_scope h.scope scope) held) || added == 2 ^ 64 - 1

-- whether a hook is run on an event: it has its name, and one of its pattern's matches in the parameter is the whole of it
abbrev pub is_heard : HookName → List ℕ → Hook → Bool
is_heard name parameter hook = is_same_name hook.name name && is_whole hook.pattern parameter

-- the hooks of a scope that are run on an event, in the order in which they were added
abbrev pub heard_at : HookName → List ℕ → List NumberedHook → Scope → List HookRef
heard_at name parameter held scope =
    map ref_of (filter (λ h. is_same_scope h.scope scope && is_heard name parameter h.hook) held)

-- the hooks that are run on an event, for a client in a buffer: the global ones, then those of the buffer, then those of the
-- window
abbrev pub hooks_for : ℕ → ℕ → HookName → List ℕ → List NumberedHook → List HookRef
hooks_for buffer client name parameter held =
    heard_at name parameter held Global ++ heard_at name parameter held (Buffer buffer)
    ++ heard_at name parameter held (Window client buffer)

-- whether a hook that is held is the one of a scope and a number
abbrev pub is_ref : HookRef → NumberedHook → Bool
is_ref at h = is_same_scope h.scope at.scope && h.number == at.number

-- the hook of a scope and a number, if it is held
abbrev pub hook_at : HookRef → List NumberedHook → Option Hook
hook_at at held = option_map (λ h. h.hook) (find (is_ref at) held)

-- without the hook of a scope and a number
abbrev pub without_hook : HookRef → List NumberedHook → List NumberedHook
without_hook at held = filter (λ h. not (is_ref at h)) held

-- without it where it is run once
abbrev pub without_once : HookRef → List NumberedHook → List NumberedHook
without_once at held = filter (λ h. not (is_ref at h && h.hook.once)) held

-- whether a hook that is held is of a group at a scope
abbrev pub is_grouped : Scope → List ℕ → NumberedHook → Bool
is_grouped scope group h = is_same_scope h.scope scope && bytes_eq h.hook.group group

-- without the hooks of a group at a scope
abbrev pub without_group : Scope → List ℕ → List NumberedHook → List NumberedHook
without_group scope group held = filter (λ h. not (is_grouped scope group h)) held

-- whether any hook is held
abbrev pub is_any : List NumberedHook → Bool
is_any held = not (length held == 0)

-- whether a hook of a name is held, at whatever scope
abbrev pub is_awaited : HookName → List NumberedHook → Bool
is_awaited name held = list_any (λ h. is_same_name h.hook.name name) held
