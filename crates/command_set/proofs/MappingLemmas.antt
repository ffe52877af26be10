-- Keys that can't be read refuse a mapping.
use Rattle.std.proofs.Common.{◌≡◌, ℕ, List, ap, sym, subst, ◌∙◌}
use Rattle.std.specs.Prelude.{Some, Ok, Err, IfSome}
use Rattle.std.specs.declared.result.Result.{Result}
use Rattle.std.specs.Str.{chars}
use Rattle.key_names.specs.declared.key.Key.{Key}
use Rattle.key_names.specs.Reading.{read_text}
use Rattle.scope_options.specs.declared.scope.Scope.{Scope}
use Rattle.scope_tables.specs.declared.maps.Mode.{Mode}
use Rattle.scope_tables.specs.Maps.{with_map, without_map}
use Rattle.command_forms.specs.declared.table_orders.KeyMapping.{KeyMapping}
use Rattle.command_forms.specs.declared.table_orders.KeyName.{KeyName}
use Rattle.kak_world.specs.declared.ask.EditError.{EditError}
use Rattle.kak_world.specs.Flat.{Flat}
use Rattle.kak_world.specs.Scoping.{with_maps}
use Rattle.kak_world.specs.Rows.{RowEnd, does, row_of}
use Rattle.command_set.specs.Options.{scope_named}
use Rattle.command_set.specs.Painting.{told_row}
use Rattle.command_set.specs.Tables.{at_scope, mode_named, mode_told, keys_told, key_told, map_at, unmap_at, scoped_row}
use Rattle.command_set.proofs.PlainLemmas.{ArePlain, plain-key, plain-keys, told-refused}

-- a row that comes to what is told, where that is a refusal
refused-there : {A : Type 0} (row : A → RowEnd) (flat : Flat) (r : Result A EditError) (end : RowEnd) (e : EditError) → end ≡ told_row row flat r → ArePlain r
    → IfSome (row_of e) (λ x. r ≡ Err e) → IfSome (row_of e) (λ x. end ≡ record { world = flat; row = x })
refused-there row flat r end e same plain h =
    subst (λ (it : RowEnd). IfSome (row_of e) (λ x. it ≡ record { world = flat; row = x })) (sym same) (told-refused row flat r e plain h)

-- what comes behind the mode of a mapping, and behind its key
abbrev behind_key : KeyMapping → Flat → Scope → Mode → Key → List Key → RowEnd
behind_key m flat scope mode key keys = does (with_maps (with_map scope mode key keys) flat)

abbrev behind_mode : KeyMapping → Flat → Scope → Mode → Key → RowEnd
behind_mode m flat scope mode key = told_row (behind_key m flat scope mode key) flat (keys_told (read_text (chars m.keys)))

abbrev behind_scope : KeyMapping → Flat → Scope → Mode → RowEnd
behind_scope m flat scope mode = told_row (behind_mode m flat scope mode) flat (key_told m.key)

module _ (m : KeyMapping) (who : ℕ) (flat : Flat) (scope : Scope) (mode : Mode) (s : scope_named m.scope who flat ≡ Some scope) (h : mode_told m.mode (mode_named m.mode) ≡ Ok mode) where
  to-key : scoped_row m.scope (map_at m flat) who flat ≡ told_row (behind_mode m flat scope mode) flat (key_told m.key)
  to-key = ap (at_scope m.scope (map_at m flat) flat) s ∙ ap (told_row (behind_scope m flat scope) flat) h

  pub map-key-refused : (e : EditError) → IfSome (row_of e) (λ x. key_told m.key ≡ Err e)
      → IfSome (row_of e) (λ x. scoped_row m.scope (map_at m flat) who flat ≡ record { world = flat; row = x })
  map-key-refused e why = refused-there (behind_mode m flat scope mode) flat (key_told m.key) (scoped_row m.scope (map_at m flat) who flat) e to-key (plain-key m.key) why

  pub map-keys-refused : (key : Key) (e : EditError) → key_told m.key ≡ Ok key → IfSome (row_of e) (λ x. keys_told (read_text (chars m.keys)) ≡ Err e)
      → IfSome (row_of e) (λ x. scoped_row m.scope (map_at m flat) who flat ≡ record { world = flat; row = x })
  map-keys-refused key e k why =
      refused-there (behind_key m flat scope mode key) flat (keys_told (read_text (chars m.keys))) (scoped_row m.scope (map_at m flat) who flat) e (to-key ∙ ap (told_row (behind_mode m flat scope mode) flat) k) (plain-keys (read_text (chars m.keys))) why

-- the same where a key is unmapped
abbrev unmaps : Flat → Scope → Mode → Key → RowEnd
unmaps flat scope mode key = does (with_maps (without_map scope mode key) flat)

abbrev unmaps_told : KeyName → Flat → Scope → Mode → RowEnd
unmaps_told k flat scope mode = told_row (unmaps flat scope mode) flat (key_told k.key)

pub unmap-key-refused : (k : KeyName) (who : ℕ) (flat : Flat) (scope : Scope) (mode : Mode) → scope_named k.scope who flat ≡ Some scope → mode_told k.mode (mode_named k.mode) ≡ Ok mode
    → (e : EditError) → IfSome (row_of e) (λ x. key_told k.key ≡ Err e) → IfSome (row_of e) (λ x. scoped_row k.scope (unmap_at k flat) who flat ≡ record { world = flat; row = x })
unmap-key-refused k who flat scope mode s h e why =
    refused-there (unmaps flat scope mode) flat (key_told k.key) (scoped_row k.scope (unmap_at k flat) who flat) e (ap (at_scope k.scope (unmap_at k flat) flat) s ∙ ap (told_row (unmaps_told k flat scope) flat) h) (plain-key k.key) why
