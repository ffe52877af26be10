-- Keys with modifiers.
use Rattle.std.specs.Prelude.{Bool, true, if◌then◌else◌}
use Rattle.key_names.specs.declared.key.Key.{Key}

-- whether a modifier is held with the key
abbrev pub is_modified : Key → Bool
is_modified key = if key.control then true else (if key.alt then true else key.shift)
