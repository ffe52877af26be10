-- Laws of the rows, each proved as the contract of a function of `laws`.
use Rattle.std.specs.Prelude.{ℕ}
use Rattle.std.specs.declared.option.Option.{Option}
use Rattle.edit_ops.specs.declared.kinds.Put.{Put}
use Rattle.kak_world.specs.Flat.{Flat}
use Rattle.kak_world.specs.Keeping.{KeepsClients}
use Rattle.key_rows.specs.declared.edits.Edit.{Edit}
use Rattle.key_rows.specs.declared.entries.InsertEntry.{InsertEntry}
use Rattle.key_rows.specs.Edits.{fill_row, put_row, edit_done}
use Rattle.key_rows.specs.Entering.{enter_row}

-- no edit makes a client come or go
pub record EditsKeepClients : Type 0 where
  pub edits : (edit : Edit) (register : Option ℕ) (who : ℕ) (flat : Flat) → KeepsClients flat (edit_done edit register who flat).world
  pub puts : (how : Put) (register : Option ℕ) (who : ℕ) (flat : Flat) → KeepsClients flat (put_row how register who flat).world
  pub fills : (c who : ℕ) (flat : Flat) → KeepsClients flat (fill_row c who flat).world
  pub entries : (entry : InsertEntry) (register : Option ℕ) (who : ℕ) (flat : Flat) → KeepsClients flat (enter_row entry register who flat).world
