-- All tables, where one of them was changed.
use Rattle.std.proofs.Common.{◌≡◌, not, Bool, List, ap, ◌∙◌}
use Rattle.std.specs.Prelude.{filter}
use Rattle.scope_options.specs.declared.scope.Scope.{Scope}
use Rattle.scope_tables.specs.declared.aliases.Alias.{Alias}
use Rattle.scope_tables.specs.declared.definitions.Definition.{Definition}
use Rattle.scope_tables.specs.declared.maps.KeyMap.{KeyMap}
use Rattle.scope_tables.specs.Hooks.{NumberedHook}
use Rattle.scope_tables.specs.Rows.{TableRows, without_scopes}

pub with-hooks : (rows old : TableRows) (change : List NumberedHook → List NumberedHook) (hooks : List NumberedHook) → rows ≡ old → hooks ≡ change rows.hooks → (record rows { hooks = hooks }) ≡ (record old { hooks = change old.hooks })
with-hooks rows old change hooks same is = ap (λ (xs : List NumberedHook). record rows { hooks = xs }) is ∙ ap (λ (r : TableRows). record r { hooks = change r.hooks }) same

pub with-maps : (rows old : TableRows) (change : List KeyMap → List KeyMap) (maps : List KeyMap) → rows ≡ old → maps ≡ change rows.maps → (record rows { maps = maps }) ≡ (record old { maps = change old.maps })
with-maps rows old change maps same is = ap (λ (xs : List KeyMap). record rows { maps = xs }) is ∙ ap (λ (r : TableRows). record r { maps = change r.maps }) same

pub with-aliases : (rows old : TableRows) (change : List Alias → List Alias) (aliases : List Alias) → rows ≡ old → aliases ≡ change rows.aliases → (record rows { aliases = aliases }) ≡ (record old { aliases = change old.aliases })
with-aliases rows old change aliases same is = ap (λ (xs : List Alias). record rows { aliases = xs }) is ∙ ap (λ (r : TableRows). record r { aliases = change r.aliases }) same

pub with-definitions : (rows old : TableRows) (change : List Definition → List Definition) (definitions : List Definition) → rows ≡ old → definitions ≡ change rows.definitions → (record rows { definitions = definitions }) ≡ (record old { definitions = change old.definitions })
with-definitions rows old change definitions same is = ap (λ (xs : List Definition). record rows { definitions = xs }) is ∙ ap (λ (r : TableRows). record r { definitions = change r.definitions }) same

pub without-all : (rows old : TableRows) (goes : Scope → Bool) (hooks : List NumberedHook) (maps : List KeyMap) (aliases : List Alias) → rows ≡ old →
    hooks ≡ filter (λ h. not (goes h.scope)) rows.hooks → maps ≡ filter (λ m. not (goes m.scope)) rows.maps → aliases ≡ filter (λ a. not (goes a.scope)) rows.aliases →
    (record rows { hooks = hooks; maps = maps; aliases = aliases }) ≡ without_scopes goes old
without-all rows old goes hooks maps aliases same hs ms ws =
    ap (λ (xs : List NumberedHook). record rows { hooks = xs; maps = maps; aliases = aliases }) hs
    ∙ ap (λ (xs : List KeyMap). record rows { hooks = filter (λ h. not (goes h.scope)) rows.hooks; maps = xs; aliases = aliases }) ms
    ∙ ap (λ (xs : List Alias). record rows { hooks = filter (λ h. not (goes h.scope)) rows.hooks; maps = filter (λ m. not (goes m.scope)) rows.maps; aliases = xs }) ws
    ∙ ap (without_scopes goes) same
