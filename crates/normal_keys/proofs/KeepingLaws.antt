-- No key of normal mode makes a client come or go, or gives a unit back.
use Rattle.std.proofs.Common.{ℕ, ◌≤◌}
use Rattle.std.specs.declared.option.Option.{Option}
use Rattle.key_names.specs.declared.key.Key.{Key}
use Rattle.kak_world.specs.Flat.{Flat, units_of}
use Rattle.kak_world.specs.Keeping.{KeepsClients}
use Rattle.key_rows.proofs.RowLaws.{HoldsIn, TakesUnits, clients_kept, units_taken}
use Rattle.normal_keys.specs.declared.actions.Repeated.{Repeated}
use Rattle.normal_keys.specs.Repeating.{once}
use Rattle.normal_keys.specs.Rows.{row_normal}
use Rattle.normal_keys.proofs.RowLaws.{holds-once, holds_normal}

pub keeps-once : (what : Repeated) (register : Option ℕ) (who : ℕ) → HoldsIn KeepsClients (once what register who)
keeps-once what register who flat = holds-once KeepsClients clients_kept what register who flat

pub keeps_normal : (key : Key) (who : ℕ) (flat : Flat) → KeepsClients flat (row_normal key who flat).world
keeps_normal key who flat = holds_normal KeepsClients clients_kept key who flat

pub normal_units : (key : Key) (who : ℕ) (flat : Flat) → units_of (row_normal key who flat).world ≤ units_of flat
normal_units key who flat = holds_normal TakesUnits units_taken key who flat
