-- What is held after a highlighter was added or removed.
use Rattle.std.specs.Prelude.{◌≡◌, ℕ, true, false, List}
use Rattle.scope_options.specs.declared.scope.Scope.{Scope}
use Rattle.scope_options.specs.Scopes.{is_same_scope}
use Rattle.highlight_paint.specs.Painters.{Paints, Highlighter, painting_at}
use Rattle.highlight_paint.specs.Highlighters.{is_held, with_highlighter, without_highlighter}

pub record PathLaws : Type 0 where
  -- a highlighter that was added is held
  pub added : (scope : Scope) (path : List ℕ) (paints : Paints) (rows : List Highlighter) → is_held scope path (with_highlighter scope path paints rows) ≡ true
  -- one that was removed isn't
  pub removed : (scope : Scope) (path : List ℕ) (rows : List Highlighter) → is_held scope path (without_highlighter scope path rows) ≡ false
  -- at other scopes the same is painted
  pub added_elsewhere : (scope other : Scope) (path : List ℕ) (paints : Paints) (rows : List Highlighter) → is_same_scope scope other ≡ false → painting_at other (with_highlighter scope path paints rows) ≡ painting_at other rows
  pub removed_elsewhere : (scope other : Scope) (path : List ℕ) (rows : List Highlighter) → is_same_scope scope other ≡ false → painting_at other (without_highlighter scope path rows) ≡ painting_at other rows
