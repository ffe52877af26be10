-- No edit makes a client come or go.
use Rattle.std.proofs.Common.{◌≡◌, ℕ, true, List, sym, ap, ◌∙◌}
use Rattle.std.specs.declared.option.Option.{Option}
use Rattle.undo_model.specs.Edits.{Splice}
use Rattle.edit_ops.specs.declared.kinds.Put.{Put}
use Rattle.kak_world.specs.Flat.{Flat, acts}
use Rattle.kak_world.specs.Rows.{Row, RowEnd, does}
use Rattle.kak_world.specs.Keeping.{KeepsClients}
use Rattle.kak_world.proofs.KeepingLaws.{acts_kept}
use Rattle.key_rows.specs.declared.edits.Edit.{Edit}
use Rattle.key_rows.specs.declared.entries.InsertEntry.{InsertEntry}
use Rattle.key_rows.specs.Sequence.{behind}
use Rattle.key_rows.specs.Edits.{leaving_row, put_row, edit_done}
use Rattle.key_rows.specs.Entering.{place_row, enter_row}
use Rattle.key_rows.proofs.RowLaws.{HoldsIn, clients_kept, holds_behind, holds_leaving, holds_put, holds_edit, holds_place, holds_entry}

-- the world after a row has the clients of the one before it
abbrev pub KeepsIn : (Flat → RowEnd) → Type 0
KeepsIn row = HoldsIn KeepsClients row

pub keeps_behind : (row : Row) (next : Flat → RowEnd) (old now : Flat) → KeepsClients old now → KeepsIn next → KeepsClients old (behind row next now).world
keeps_behind row next old now k n = holds_behind KeepsClients clients_kept row next old now k n

pub keeps_leaving : (splices : List Splice) (who : ℕ) → KeepsIn (leaving_row splices who)
keeps_leaving splices who flat = holds_leaving KeepsClients clients_kept splices who flat

pub keeps_put : (how : Put) (register : Option ℕ) (who : ℕ) → KeepsIn (put_row how register who)
keeps_put how register who flat = holds_put KeepsClients clients_kept how register who flat

pub keeps_edit : (what : Edit) (register : Option ℕ) (who : ℕ) → KeepsIn (edit_done what register who)
keeps_edit what register who flat = holds_edit KeepsClients clients_kept what register who flat

pub keeps_place : (how : InsertEntry) (register : Option ℕ) (who : ℕ) → KeepsIn (place_row how register who)
keeps_place how register who flat = holds_place KeepsClients clients_kept how register who flat

pub keeps_entry : (how : InsertEntry) (register : Option ℕ) (who : ℕ) → KeepsIn (enter_row how register who)
keeps_entry how register who flat = holds_entry KeepsClients clients_kept how register who flat

-- so a client that acted acts behind a row
pub stays : (row : Flat → RowEnd) (who : ℕ) (old new : Flat) → KeepsIn row → row old ≡ does new → acts who old ≡ true → acts who new ≡ true
stays row who old new k e a = sym (ap (λ (x : RowEnd). acts who x.world) e) ∙ acts_kept who old (row old).world (k old) ∙ a
