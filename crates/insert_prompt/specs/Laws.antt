-- Laws of the rows, each proved as the contract of a function of `laws`.
use Rattle.std.specs.Prelude.{ℕ}
use Rattle.key_names.specs.declared.key.Key.{Key}
use Rattle.kak_world.specs.Flat.{Flat}
use Rattle.kak_world.specs.Keeping.{KeepsClients}
use Rattle.insert_prompt.specs.Rows.{row_insert, row_prompt}

-- no key makes a client come or go
pub record InsertRowsKeepClients : Type 0 where
  pub insert : (key : Key) (who : ℕ) (flat : Flat) → KeepsClients flat (row_insert key who flat).world
  pub prompt : (key : Key) (who : ℕ) (flat : Flat) → KeepsClients flat (row_prompt key who flat).world
