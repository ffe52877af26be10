-- What the code hands on for the rows of registers.
use Rattle.std.specs.Prelude.{◌≡◌, ◌⊎◌, ℕ, false, List, length, IfSome}
use Rattle.std.specs.Prelude.{Some, None}
use Rattle.edit_ops.specs.declared.kinds.Put.{Put}
use Rattle.buffer_store.specs.declared.edits.Splice.{Splice}
use Rattle.buffer_store.specs.Buffers.{flat_splices, AreSplicesOf}
use Rattle.kak_world.specs.declared.ask.EditError.{EditError}
use Rattle.kak_world.specs.declared.ask.EditError.TheVariants.{NoSuchRegister, NoMemory}
use Rattle.undo_model.specs.Edits.{Splice as FlatSplice}
use Rattle.edit_ops.specs.Aligning.{shares_line, alignments}
use Rattle.kak_world.specs.Rows.{fails, row_of}
use Rattle.kak_world.specs.Editing.{long_refusal, edit_row}
use Rattle.kak_world.specs.Flat.{Flat, text_of, tabstop_of, sels_of}
use Rattle.key_rows.specs.Reading.{strings_read}
use Rattle.key_rows.specs.Edits.{puts_of, align_row}

-- replacements are those that put the strings of a register at a client's selections
pub record ArePuts (how : Put) (name who : ℕ) (flat : Flat) (splices : List Splice) : Type 0 where
  pub strings : List (List ℕ)
  pub read : strings_read name who flat ≡ Some strings
  pub puts : flat_splices (text_of who flat) splices ≡ puts_of how strings who flat
  pub places : AreSplicesOf (text_of who flat) splices
  pub one_each : length splices ≡ length (sels_of who flat).list

-- why there are none: as an edit they would be refused, since they put in more than a text may have; or memory was wanting
abbrev pub IsTooMuch : EditError → List FlatSplice → ℕ → Flat → Type 0
IsTooMuch error splices who flat = ((error ≡ long_refusal who flat) × (edit_row splices who flat ≡ fails (long_refusal who flat) flat)) ⊎ (error ≡ NoMemory)

-- the strings of a register put in too much, or memory was wanting
pub record PutsTooMuch (error : EditError) (how : Put) (name who : ℕ) (flat : Flat) : Type 0 where
  pub strings : List (List ℕ)
  pub read : strings_read name who flat ≡ Some strings
  pub too_much : IsTooMuch error (puts_of how strings who flat) who flat

-- why there are none: there is no such register; its strings put in too much; or memory was wanting
abbrev pub AreStringsRefused : EditError → Put → ℕ → ℕ → Flat → Type 0
AreStringsRefused error how name who flat = ((error ≡ NoSuchRegister name) × (strings_read name who flat ≡ None)) ⊎ (PutsTooMuch error how name who flat ⊎ (error ≡ NoMemory))

-- replacements are those that bring a client's cursors to one display column
pub record AreAlignments (who : ℕ) (flat : Flat) (splices : List Splice) : Type 0 where
  pub apart : shares_line (text_of who flat) (sels_of who flat).list ≡ false
  pub aligns : flat_splices (text_of who flat) splices ≡ alignments (text_of who flat) (tabstop_of who flat) (sels_of who flat).list
  pub places : AreSplicesOf (text_of who flat) splices

-- why there are none: two selections begin on one line; they put in more than a text may have; or memory was wanting
abbrev pub IsUnaligned : EditError → ℕ → Flat → Type 0
IsUnaligned error who flat = IfSome (row_of error) (λ row. align_row who flat ≡ record { world = flat; row = row })
