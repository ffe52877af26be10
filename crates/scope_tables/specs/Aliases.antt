-- Words that stand for commands.
use Rattle.std.specs.Prelude.{ℕ, ◌&&◌, not, Bool, List, filter, find, Option, option_map}
use Rattle.std.specs.Str.{bytes_eq}
use Rattle.tables.specs.Tables.{put_where}
use Rattle.scope_options.specs.declared.scope.Scope.{Scope}
use Rattle.scope_options.specs.Scopes.{is_same_scope}
use Rattle.scope_tables.specs.declared.aliases.Alias.{Alias}
use Rattle.scope_tables.specs.Inner.{innermost_of}

-- whether an alias is that of a word at a scope
abbrev pub is_alias : Scope → List ℕ → Alias → Bool
is_alias scope word a = is_same_scope a.scope scope && bytes_eq a.word word

-- the alias of a word
abbrev pub alias_row : Scope → List ℕ → List ℕ → Alias
alias_row scope word command = record { scope = scope; word = word; command = command }

-- the command that a word stands for at a scope itself, if it is an alias there
abbrev pub command_at : List ℕ → List Alias → Scope → Option (List ℕ)
command_at word aliases scope = option_map (λ a. a.command) (find (is_alias scope word) aliases)

-- the command that a word stands for, for a client in a buffer, if it is an alias
abbrev pub command_for : ℕ → ℕ → List ℕ → List Alias → Option (List ℕ)
command_for buffer client word aliases = innermost_of buffer client (command_at word aliases)

-- with an alias at a scope
abbrev pub with_alias : Scope → List ℕ → List ℕ → List Alias → List Alias
with_alias scope word command aliases = put_where (is_alias scope word) (alias_row scope word command) aliases

-- without the alias of a word at a scope
abbrev pub without_alias : Scope → List ℕ → List Alias → List Alias
without_alias scope word aliases = filter (λ a. not (is_alias scope word a)) aliases
