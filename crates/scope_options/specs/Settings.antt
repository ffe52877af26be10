-- What options are set to.
use Rattle.std.specs.Prelude.{ℕ, pos, ◌&&◌, not, Bool, List, [], ◌∷◌, filter, find, Option, option_map, unwrap_or, codes}
use Rattle.std.specs.Str.{bytes_eq}
use Rattle.scope_options.specs.declared.scope.Scope.{Scope}
use Rattle.scope_options.specs.declared.scope.Scope.TheVariants.{Global, Buffer, Window}
use Rattle.scope_options.specs.declared.value.OptionValue.{OptionValue}
use Rattle.scope_options.specs.declared.value.OptionValue.TheVariants.{Int, Str}
use Rattle.scope_options.specs.declared.setting.Setting.{Setting}
use Rattle.scope_options.specs.Scopes.{is_same_scope, is_of_client, is_of_buffer}

-- whether a row is that of a scope and a name
abbrev pub is_at : Scope → List ℕ → Setting → Bool
is_at scope name row = is_same_scope row.scope scope && bytes_eq row.name name

-- the value that is set at a scope itself
abbrev pub value_at : Scope → List ℕ → List Setting → Option OptionValue
value_at scope name rows = option_map (λ r. r.value) (find (is_at scope name) rows)

-- the value seen from a scope outward, where the global one is given
abbrev pub seen_over : OptionValue → Scope → List ℕ → List Setting → OptionValue
seen_over global Global name rows = global
seen_over global (Buffer buffer) name rows = unwrap_or (value_at (Buffer buffer) name rows) global
seen_over global (Window client buffer) name rows =
    unwrap_or (value_at (Window client buffer) name rows) (unwrap_or (value_at (Buffer buffer) name rows) global)

-- the value of an option that is seen from a scope: the innermost one; None where the option isn't declared, as the
-- global values are what declares options
abbrev pub seen_from : Scope → List ℕ → List Setting → Option OptionValue
seen_from scope name rows = option_map (λ global. seen_over global scope name rows) (value_at Global name rows)

-- without what is set under a name at a scope
abbrev pub without : Scope → List ℕ → List Setting → List Setting
without scope name rows = filter (λ r. not (is_at scope name r)) rows

-- without all that is set at a scope
abbrev pub cleared : Scope → List Setting → List Setting
cleared scope rows = filter (λ r. not (is_same_scope r.scope scope)) rows

-- without all that is set in windows of a client
abbrev pub without_client : ℕ → List Setting → List Setting
without_client client rows = filter (λ r. not (is_of_client client r.scope)) rows

-- without all that is set in a buffer, and in windows on it
abbrev pub without_buffer : ℕ → List Setting → List Setting
without_buffer buffer rows = filter (λ r. not (is_of_buffer buffer r.scope)) rows

-- the row of an option at a scope
abbrev pub setting : Scope → List ℕ → OptionValue → Setting
setting scope name value = record { scope = scope; name = name; value = value }

-- an option's row at the global scope
abbrev pub declared_as : List ℕ → OptionValue → Setting
declared_as name value = setting Global name value

-- the options that are given from the start
abbrev pub given : List Setting
given =
    declared_as (codes "tabstop") (Int (pos 8)) ∷ declared_as (codes "indentwidth") (Int (pos 4))
    ∷ declared_as (codes "eolformat") (Str (codes "lf")) ∷ declared_as (codes "BOM") (Str (codes "none"))
    ∷ declared_as (codes "filetype") (Str []) ∷ []
