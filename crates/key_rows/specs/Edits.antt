-- Edits at the selections of a client, as rows.
use Rattle.std.specs.Prelude.{ℕ, if◌then◌else◌, List, map}
use Rattle.std.specs.declared.option.Option.{Option}
use Rattle.std.specs.Prelude.{Some, None}
use Rattle.std.specs.Str.{chars}
use Rattle.undo_model.specs.Edits.{Splice}
use Rattle.edit_ops.specs.declared.kinds.Erase.TheVariants.{Selection}
use Rattle.edit_ops.specs.declared.kinds.Put.{Put}
use Rattle.edit_ops.specs.declared.kinds.Put.TheVariants.{Over}
use Rattle.directions.specs.declared.direction.Direction.{Direction}
use Rattle.edit_ops.specs.declared.kinds.Indent.{Indent}
use Rattle.edit_ops.specs.Erasing.{erasures}
use Rattle.edit_ops.specs.Opening.{opens}
use Rattle.edit_ops.specs.Rotating.{rotations}
use Rattle.edit_ops.specs.Filling.{fillings}
use Rattle.edit_ops.specs.Indenting.{indents}
use Rattle.edit_ops.specs.Joining.{joins}
use Rattle.edit_ops.specs.Aligning.{shares_line, alignments}
use Rattle.edit_ops.specs.Putting.{puts}
use Rattle.edit_ops.specs.Leaving.{list_left_by}
use Rattle.kak_world.specs.declared.ask.EditError.TheVariants.{NoSuchRegister, SharedLine}
use Rattle.kak_world.specs.Flat.{Flat, text_of, tabstop_of, indentwidth_of, sels_of, with_sels}
use Rattle.kak_world.specs.Rows.{RowEnd, does, fails}
use Rattle.kak_world.specs.Editing.{edit_row}
use Rattle.kak_world.specs.Registers.{set_row}
use Rattle.kak_world.specs.Events.{register_modified}
use Rattle.key_rows.specs.declared.edits.Edit.{Edit}
use Rattle.key_rows.specs.declared.edits.Edit.TheVariants as edit
use Rattle.key_rows.specs.Sequence.{then_row}
use Rattle.key_rows.specs.Reading.{used, own_strings, strings_read}

-- a client's replacements, one for each of its selections, in the text that it sees: its list is then what they leave
unfoldable pub leaving_row : List Splice → ℕ → Flat → RowEnd
leaving_row splices who flat =
    then_row (edit_row splices who flat) (λ w. does (with_sels who (list_left_by (text_of who flat) splices (sels_of who flat).main) w))

-- erasing at each selection, which leaves what stands there then
abbrev pub erase_row : ℕ → Flat → RowEnd
erase_row who flat = leaving_row (erasures Selection (sels_of who flat).list) who flat

-- a line opened below or above each selection, which leaves the new lines
abbrev pub open_row : Direction → ℕ → Flat → RowEnd
open_row direction who flat = leaving_row (opens (text_of who flat) direction (sels_of who flat).list) who flat

-- the texts of the selections go round
abbrev pub rotate_row : Direction → ℕ → Flat → RowEnd
rotate_row direction who flat = leaving_row (rotations (text_of who flat) direction (sels_of who flat).list) who flat

-- the lines that the selections touch are indented, or less so; the list is mapped
abbrev pub indent_row : Indent → ℕ → Flat → RowEnd
indent_row how who flat = edit_row (indents (text_of who flat) how (indentwidth_of who flat) (tabstop_of who flat) (sels_of who flat).list) who flat

-- the lines that the selections touch are joined; the list is mapped
abbrev pub join_row : ℕ → Flat → RowEnd
join_row who flat = edit_row (joins (text_of who flat) (sels_of who flat).list) who flat

-- the cursors are brought to one display column, where each selection begins on a line of its own; the list is mapped
abbrev pub align_row : ℕ → Flat → RowEnd
align_row who flat =
    if shares_line (text_of who flat) (sels_of who flat).list then fails SharedLine flat
    else edit_row (alignments (text_of who flat) (tabstop_of who flat) (sels_of who flat).list) who flat

-- a character takes the place of each one in the selections
abbrev pub fill_row : ℕ → ℕ → Flat → RowEnd
fill_row c who flat = leaving_row (fillings c (sels_of who flat).list) who flat

-- a register is set to the texts of the selections, which hooks hear
abbrev pub keep_row : Option ℕ → ℕ → Flat → RowEnd
keep_row register who flat = then_row (set_row (used register) (own_strings who flat) flat) (λ w. does (register_modified (used register) who w))

-- the same, and then they are erased
abbrev pub cut_row : Option ℕ → ℕ → Flat → RowEnd
cut_row register who flat = then_row (keep_row register who flat) (erase_row who)

-- a row that goes by the strings of a register, where there is such a one
abbrev pub with_strings : Option (List (List ℕ)) → ℕ → (List (List ℕ) → Flat → RowEnd) → Flat → RowEnd
with_strings None name row flat = fails (NoSuchRegister name) flat
with_strings (Some strings) name row flat = row strings flat

-- the replacements that put strings at the selections of a client
abbrev pub puts_of : Put → List (List ℕ) → ℕ → Flat → List Splice
puts_of how strings who flat = puts (text_of who flat) how (map chars strings) (sels_of who flat).list

-- the n-th string of a register is put at the n-th selection
abbrev pub put_row : Put → Option ℕ → ℕ → Flat → RowEnd
put_row how register who flat =
    with_strings (strings_read (used register) who flat) (used register) (λ strings w. leaving_row (puts_of how strings who w) who w) flat

-- what is done once to the texts of the selections
abbrev pub edit_done : Edit → Option ℕ → ℕ → Flat → RowEnd
edit_done edit.Cut register who flat = cut_row register who flat
edit_done edit.Erase register who flat = erase_row who flat
edit_done edit.Keep register who flat = keep_row register who flat
edit_done edit.Replace register who flat = put_row Over register who flat
edit_done (edit.Rotate direction) register who flat = rotate_row direction who flat
edit_done (edit.Indent how) register who flat = indent_row how who flat
edit_done edit.Join register who flat = join_row who flat
edit_done edit.Align register who flat = align_row who flat
