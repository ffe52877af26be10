-- How far a row came for which memory was wanting.
use Rattle.std.specs.Prelude.{◌≡◌, ◌⊎◌, ℕ, true, if◌then◌else◌, List, [], ◌∷◌, length, None, Some}
use Rattle.std.specs.declared.option.Option.{Option}
use Rattle.undo_model.specs.Edits.{Splice}
use Rattle.edit_ops.specs.declared.kinds.Erase.TheVariants.{Selection}
use Rattle.edit_ops.specs.declared.kinds.Put.{Put}
use Rattle.edit_ops.specs.declared.kinds.Put.TheVariants.{Over}
use Rattle.edit_ops.specs.Erasing.{erasures}
use Rattle.edit_ops.specs.Opening.{opens}
use Rattle.edit_ops.specs.Rotating.{rotations}
use Rattle.edit_ops.specs.Filling.{fillings}
use Rattle.edit_ops.specs.Indenting.{indents}
use Rattle.edit_ops.specs.Joining.{joins}
use Rattle.edit_ops.specs.Aligning.{alignments}
use Rattle.edit_ops.specs.Putting.{put_in_at}
use Rattle.kak_world.specs.Flat.{Flat, text_of, tabstop_of, indentwidth_of, sels_of}
use Rattle.kak_world.specs.Changing.{splice_changes_of, IsAfterSomeChanges}
use Rattle.kak_world.specs.Registers.{with_register}
use Rattle.kak_world.specs.Events.{has_hooks, register_modified, WantsEvents}
use Rattle.key_rows.specs.declared.edits.Edit.{Edit}
use Rattle.key_rows.specs.declared.edits.Edit.TheVariants as edit
use Rattle.key_rows.specs.declared.entries.InsertEntry.{InsertEntry}
use Rattle.key_rows.specs.declared.entries.InsertEntry.TheVariants as entry
use Rattle.key_rows.specs.Reading.{used, own_strings, strings_read}
use Rattle.key_rows.specs.Edits.{puts_of}
use Rattle.key_rows.specs.Entering.{reaches_end, place_row}

-- replacements that a client was to make in a world that is made ready came part of the way: nothing is done yet; the world is
-- ready; or some of their single changes are made there, from the first on
abbrev pub IsPartWay : List Splice → ℕ → Flat → Flat → Flat → Type 0
IsPartWay splices who old ready new = (new ≡ old) ⊎ ((new ≡ ready) ⊎ IsAfterSomeChanges who (splice_changes_of splices who ready) ready new)

-- the replacements by the strings of a register; none where there is no such one
abbrev pub puts_read : Put → Option (List (List ℕ)) → ℕ → Flat → List Splice
puts_read how None who flat = []
puts_read how (Some strings) who flat = puts_of how strings who flat

-- a put came part of the way
abbrev pub IsPartOfPut : Put → Option ℕ → ℕ → Flat → Flat → Type 0
IsPartOfPut how register who old new = IsPartWay (puts_read how (strings_read (used register) who old) who old) who old old new

-- a filling came part of the way
abbrev pub IsPartOfFill : ℕ → ℕ → Flat → Flat → Type 0
IsPartOfFill c who old new = IsPartWay (fillings c (sels_of who old).list) who old old new

-- the world in which a register keeps the texts of a client's selections, and hooks are to hear that
abbrev pub kept_in : Option ℕ → ℕ → Flat → Flat
kept_in register who flat = register_modified (used register) who (with_register (used register) (own_strings who flat) flat)

-- a register was to keep them: it doesn't yet; or it does, and hooks aren't to hear that
abbrev pub IsPartOfKeep : Option ℕ → ℕ → Flat → Flat → Type 0
IsPartOfKeep register who old new = (new ≡ old) ⊎ WantsEvents (kept_in register who old) new

-- the world in which an edit makes its replacements: a cut has set its register by then
abbrev pub ready_for : Edit → Option ℕ → ℕ → Flat → Flat
ready_for edit.Cut register who flat = kept_in register who flat
ready_for _ register who flat = flat

-- the replacements of an edit
abbrev pub splices_of : Edit → Option ℕ → ℕ → Flat → List Splice
splices_of edit.Cut register who flat = erasures Selection (sels_of who flat).list
splices_of edit.Erase register who flat = erasures Selection (sels_of who flat).list
splices_of edit.Keep register who flat = []
splices_of edit.Replace register who flat = puts_read Over (strings_read (used register) who flat) who flat
splices_of (edit.Rotate direction) register who flat = rotations (text_of who flat) direction (sels_of who flat).list
splices_of (edit.Indent how) register who flat = indents (text_of who flat) how (indentwidth_of who flat) (tabstop_of who flat) (sels_of who flat).list
splices_of edit.Join register who flat = joins (text_of who flat) (sels_of who flat).list
splices_of edit.Align register who flat = alignments (text_of who flat) (tabstop_of who flat) (sels_of who flat).list

-- an edit came part of the way, from the world in which it makes its replacements on
abbrev pub IsPartOfReady : Edit → Option ℕ → ℕ → Flat → Flat → Type 0
IsPartOfReady edit register who old new =
    let ready : Flat = ready_for edit register who old in IsPartWay (splices_of edit register who ready) who old ready new

-- the same from its beginning on
abbrev pub IsPartOfEdit : Edit → Option ℕ → ℕ → Flat → Flat → Type 0
IsPartOfEdit edit.Cut register who old new = IsPartOfKeep register who old new ⊎ IsPartOfReady edit.Cut register who old new
IsPartOfEdit edit.Keep register who old new = IsPartOfKeep register who old new
IsPartOfEdit edit register who old new = IsPartOfReady edit register who old new

-- the replacements of the edit that goes before insert mode, where no register is set first
abbrev pub splices_before : InsertEntry → ℕ → Flat → List Splice
splices_before entry.Behind who flat =
    if reaches_end (text_of who flat) (sels_of who flat).list then put_in_at (length (text_of who flat)) (10 ∷ []) ∷ [] else []
splices_before entry.Erase who flat = erasures Selection (sels_of who flat).list
splices_before (entry.Open direction) who flat = opens (text_of who flat) direction (sels_of who flat).list
splices_before _ who flat = []

-- what becomes of the selections on the way into insert mode came part of the way
abbrev pub IsPartOfPlace : InsertEntry → Option ℕ → ℕ → Flat → Flat → Type 0
IsPartOfPlace entry.Cut register who old new = IsPartOfEdit edit.Cut register who old new
IsPartOfPlace entry register who old new = IsPartWay (splices_before entry who old) who old old new

-- the way into insert mode was left part of the way, and the mode stayed: that, or all of it was done, and memory was wanting for
-- what hooks are to hear
abbrev pub IsPartOfEntry : InsertEntry → Option ℕ → ℕ → Flat → Flat → Type 0
IsPartOfEntry entry register who old new =
    IsPartOfPlace entry register who old new ⊎ ((has_hooks new ≡ true) × (new ≡ (place_row entry register who old).world))
