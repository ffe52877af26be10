-- Which scopes go together.
use Rattle.std.specs.Prelude.{Bool}
use Rattle.scope_options.specs.declared.scope.Scope.{Scope}
use Rattle.scope_options.specs.Scopes.{is_same_scope, is_of_client, is_of_buffer}
use Rattle.scope_tables.specs.declared.scopes.Gone.{Gone}
use Rattle.scope_tables.specs.declared.scopes.Gone.TheVariants.{At, OfClient, OfBuffer}

-- whether a scope goes: a scope itself, the windows of a client, or a buffer with the windows on it
abbrev pub is_gone : Gone → Scope → Bool
is_gone (At scope) s = is_same_scope s scope
is_gone (OfClient client) s = is_of_client client s
is_gone (OfBuffer buffer) s = is_of_buffer buffer s
