-- No key of insert mode or of a prompt makes a client come or go, or gives a unit back.
use Rattle.std.proofs.Common.{ℕ, ◌≤◌}
use Rattle.key_names.specs.declared.key.Key.{Key}
use Rattle.kak_world.specs.Flat.{Flat, units_of}
use Rattle.kak_world.specs.Keeping.{KeepsClients}
use Rattle.key_rows.proofs.RowLaws.{TakesUnits, clients_kept, units_taken}
use Rattle.insert_prompt.specs.Rows.{row_insert, row_prompt}
use Rattle.insert_prompt.proofs.RowLaws.{holds_insert, holds_prompt}

pub keeps_insert : (key : Key) (who : ℕ) (flat : Flat) → KeepsClients flat (row_insert key who flat).world
keeps_insert key who flat = holds_insert KeepsClients clients_kept key who flat

pub keeps_prompt : (key : Key) (who : ℕ) (flat : Flat) → KeepsClients flat (row_prompt key who flat).world
keeps_prompt key who flat = holds_prompt KeepsClients clients_kept key who flat

pub insert_units : (key : Key) (who : ℕ) (flat : Flat) → units_of (row_insert key who flat).world ≤ units_of flat
insert_units key who flat = holds_insert TakesUnits units_taken key who flat

pub prompt_units : (key : Key) (who : ℕ) (flat : Flat) → units_of (row_prompt key who flat).world ≤ units_of flat
prompt_units key who flat = holds_prompt TakesUnits units_taken key who flat
