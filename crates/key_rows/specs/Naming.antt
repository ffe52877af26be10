-- The register that a key names, where one is waited for.
use Rattle.std.specs.Prelude.{ℕ, if◌then◌else◌, None, Some}
use Rattle.std.specs.declared.option.Option.{Option}
use Rattle.key_names.specs.declared.key.Key.{Key}
use Rattle.key_names.specs.declared.key.Base.{Base}
use Rattle.key_names.specs.declared.key.Base.TheVariants as base
use Rattle.key_names.specs.Modified.{is_modified}

-- any character without modifiers names one
abbrev pub base_register : Base → Option ℕ
base_register (base.Char c) = Some c
base_register _ = None

abbrev pub register_named : Key → Option ℕ
register_named key = if is_modified key then None else base_register key.base
