-- What is looked up by scope.
use Rattle.std.specs.Prelude.{ℕ, Option}
use Rattle.std.specs.Option.{option_or}
use Rattle.scope_options.specs.declared.scope.Scope.{Scope}
use Rattle.scope_options.specs.declared.scope.Scope.TheVariants.{Global, Buffer, Window}

-- what counts for a client in a buffer: what is set at the window, else at the buffer, else globally
abbrev pub innermost_of : {A : Type 0} → ℕ → ℕ → (Scope → Option A) → Option A
innermost_of buffer client at = option_or (at (Window client buffer)) (option_or (at (Buffer buffer)) (at Global))
