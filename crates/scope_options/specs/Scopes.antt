-- Where an option is set.
use Rattle.std.specs.Prelude.{ℕ, ◌==◌, ◌&&◌, Bool, true, false}
use Rattle.scope_options.specs.declared.scope.Scope.{Scope}
use Rattle.scope_options.specs.declared.scope.Scope.TheVariants.{Global, Buffer, Window}

-- whether two scopes are one
abbrev pub is_same_scope : Scope → Scope → Bool
is_same_scope Global Global = true
is_same_scope (Buffer m) (Buffer n) = m == n
is_same_scope (Window k m) (Window l n) = k == l && m == n
is_same_scope _ _ = false

-- whether a scope is a window of a client
abbrev pub is_of_client : ℕ → Scope → Bool
is_of_client client (Window who buffer) = who == client
is_of_client client _ = false

-- whether a scope is a buffer, or a window on it
abbrev pub is_of_buffer : ℕ → Scope → Bool
is_of_buffer buffer (Buffer n) = n == buffer
is_of_buffer buffer (Window who n) = n == buffer
is_of_buffer buffer Global = false
