-- Commands that were defined.
use Rattle.std.specs.Prelude.{ℕ, ◌&&◌, nat_le, Bool, List, find, Option}
use Rattle.std.specs.Str.{bytes_eq}
use Rattle.tables.specs.Tables.{put_where}
use Rattle.scope_tables.specs.declared.definitions.Definition.{Definition}
use Rattle.scope_tables.specs.declared.definitions.ParameterCount.{ParameterCount}

-- whether a number of parameters is one that is allowed
abbrev pub is_allowed : ℕ → ParameterCount → Bool
is_allowed count allowed = nat_le allowed.least count && nat_le count allowed.most

-- whether a definition is that of a name
abbrev pub is_definition_of : List ℕ → Definition → Bool
is_definition_of name d = bytes_eq d.name name

-- the definition of a name
abbrev pub definition : List ℕ → ParameterCount → List ℕ → Definition
definition name allowed commands = record { name = name; allowed = allowed; commands = commands }

-- what a name is defined as, if it is
abbrev pub definition_of : List ℕ → List Definition → Option Definition
definition_of name definitions = find (is_definition_of name) definitions

-- with a name defined, in place of what it was defined as
abbrev pub with_definition : List ℕ → ParameterCount → List ℕ → List Definition → List Definition
with_definition name allowed commands definitions = put_where (is_definition_of name) (definition name allowed commands) definitions
