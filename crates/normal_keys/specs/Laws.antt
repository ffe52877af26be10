-- Laws of the rows, each proved as the contract of a function of `laws`.
use Rattle.std.specs.Prelude.{ℕ}
use Rattle.key_names.specs.declared.key.Key.{Key}
use Rattle.kak_world.specs.Flat.{Flat}
use Rattle.kak_world.specs.Keeping.{KeepsClients}
use Rattle.normal_keys.specs.Rows.{row_normal}

-- no key makes a client come or go
abbrev pub RowsKeepClients : Type 0
RowsKeepClients = (key : Key) (who : ℕ) (flat : Flat) → KeepsClients flat (row_normal key who flat).world
