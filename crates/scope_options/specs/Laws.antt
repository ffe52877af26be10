-- What is set at each scope after an option was set.
use Rattle.std.specs.Prelude.{◌≡◌, ℕ, List, false, Some}
use Rattle.tables.specs.Tables.{put_where}
use Rattle.scope_options.specs.declared.scope.Scope.{Scope}
use Rattle.scope_options.specs.declared.value.OptionValue.{OptionValue}
use Rattle.scope_options.specs.declared.setting.Setting.{Setting}
use Rattle.scope_options.specs.Settings.{is_at, value_at, setting}

-- the laws of setting
pub record SettingLaws : Type 0 where
  -- what was set at a scope stands there
  pub same : (scope : Scope) (name : List ℕ) (value : OptionValue) (rows : List Setting) → value_at scope name (put_where (is_at scope name) (setting scope name value) rows) ≡ Some value
  -- other scopes and other options stay
  pub others : (scope other : Scope) (name another : List ℕ) (value : OptionValue) (rows : List Setting) → is_at other another (setting scope name value) ≡ false → value_at other another (put_where (is_at scope name) (setting scope name value) rows) ≡ value_at other another rows
