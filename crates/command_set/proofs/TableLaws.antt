-- What commands do to the tables takes no units, and keeps those that have joined.
use Rattle.std.proofs.Common.{ℕ, List}
use Rattle.std.specs.Prelude.{Some, None}
use Rattle.std.specs.declared.option.Option.{Option}
use Rattle.std.specs.declared.result.Result.{Result}
use Rattle.scope_options.specs.declared.scope.Scope.{Scope}
use Rattle.scope_tables.specs.declared.names.HookName.{HookName}
use Rattle.scope_tables.specs.Names.{hook_named}
use Rattle.command_forms.specs.declared.table_orders.HookWords.{HookWords}
use Rattle.command_forms.specs.declared.table_orders.TableOrder.{TableOrder}
use Rattle.command_forms.specs.declared.table_orders.TableOrder.TheVariants as order
use Rattle.std.specs.Str.{chars}
use Rattle.key_names.specs.declared.key.Key.{Key}
use Rattle.key_names.specs.Reading.{read_text}
use Rattle.scope_tables.specs.declared.maps.Mode.{Mode}
use Rattle.scope_tables.specs.Maps.{with_map, without_map}
use Rattle.kak_world.specs.declared.ask.EditError.{EditError}
use Rattle.kak_world.specs.Flat.{Flat}
use Rattle.kak_world.specs.Scoping.{with_maps}
use Rattle.kak_world.specs.Rows.{RowEnd, does}
use Rattle.command_set.specs.Options.{scope_named}
use Rattle.command_set.specs.Painting.{told_row}
use Rattle.command_set.specs.Tables.{at_scope, hook_named_at, mode_named, mode_told, keys_told, key_told, map_at, unmap_at, table_row}
use Rattle.command_set.specs.Laws.{IsTame}
use Rattle.command_set.proofs.PaintingLaws.{tame-same, tame-scoped, tame-told}

tame-at_scope : (word : List ℕ) (row : Scope → RowEnd) (flat : Flat) (o : Option Scope) → ((scope : Scope) → IsTame flat (row scope)) → IsTame flat (at_scope word row flat o)
tame-at_scope word row flat None h = tame-same flat _
tame-at_scope word row flat (Some scope) h = h scope

tame-hook : (h : HookWords) (flat : Flat) (scope : Scope) (o : Option HookName) → IsTame flat (hook_named_at h flat scope o)
tame-hook h flat scope None = tame-same flat _
tame-hook h flat scope (Some name) = tame-same flat _

tame-mapped : (scope : Scope) (mode : Mode) (key : Key) (keys : Result (List Key) EditError) (flat : Flat) → IsTame flat (told_row (λ keys. does (with_maps (with_map scope mode key keys) flat)) flat keys)
tame-mapped scope mode key keys flat = tame-told (λ keys. does (with_maps (with_map scope mode key keys) flat)) flat keys (λ keys. tame-scoped _ flat)

tame-map-key : (scope : Scope) (mode : Mode) (key : Result Key EditError) (keys : Result (List Key) EditError) (flat : Flat)
    → IsTame flat (told_row (λ key. told_row (λ keys. does (with_maps (with_map scope mode key keys) flat)) flat keys) flat key)
tame-map-key scope mode key keys flat =
    tame-told (λ key. told_row (λ keys. does (with_maps (with_map scope mode key keys) flat)) flat keys) flat key (λ key. tame-mapped scope mode key keys flat)

tame-map : (scope : Scope) (mode : Result Mode EditError) (key : Result Key EditError) (keys : Result (List Key) EditError) (flat : Flat)
    → IsTame flat (told_row (λ mode. told_row (λ key. told_row (λ keys. does (with_maps (with_map scope mode key keys) flat)) flat keys) flat key) flat mode)
tame-map scope mode key keys flat =
    tame-told (λ mode. told_row (λ key. told_row (λ keys. does (with_maps (with_map scope mode key keys) flat)) flat keys) flat key) flat mode (λ mode. tame-map-key scope mode key keys flat)

tame-unmap-key : (scope : Scope) (mode : Mode) (key : Result Key EditError) (flat : Flat) → IsTame flat (told_row (λ key. does (with_maps (without_map scope mode key) flat)) flat key)
tame-unmap-key scope mode key flat = tame-told (λ key. does (with_maps (without_map scope mode key) flat)) flat key (λ key. tame-scoped _ flat)

tame-unmap : (scope : Scope) (mode : Result Mode EditError) (key : Result Key EditError) (flat : Flat)
    → IsTame flat (told_row (λ mode. told_row (λ key. does (with_maps (without_map scope mode key) flat)) flat key) flat mode)
tame-unmap scope mode key flat = tame-told (λ mode. told_row (λ key. does (with_maps (without_map scope mode key) flat)) flat key) flat mode (λ mode. tame-unmap-key scope mode key flat)

pub tame-table : (t : TableOrder) (who : ℕ) (flat : Flat) → IsTame flat (table_row t who flat)
tame-table (order.Map m) who flat =
    tame-at_scope m.scope (map_at m flat) flat (scope_named m.scope who flat) (λ scope. tame-map scope (mode_told m.mode (mode_named m.mode)) (key_told m.key) (keys_told (read_text (chars m.keys))) flat)
tame-table (order.Unmap k) who flat =
    tame-at_scope k.scope (unmap_at k flat) flat (scope_named k.scope who flat) (λ scope. tame-unmap scope (mode_told k.mode (mode_named k.mode)) (key_told k.key) flat)
tame-table (order.Alias a) who flat = tame-at_scope _ _ flat _ (λ scope. tame-scoped _ flat)
tame-table (order.Unalias a) who flat = tame-at_scope _ _ flat _ (λ scope. tame-scoped _ flat)
tame-table (order.Define d) who flat = tame-scoped _ flat
tame-table (order.Hook h) who flat = tame-at_scope _ _ flat _ (λ scope. tame-hook h flat scope (hook_named h.name))
tame-table (order.RemoveHooks g) who flat = tame-at_scope _ _ flat _ (λ scope. tame-scoped _ flat)
