-- What a command selects.
use Rattle.std.specs.Prelude.{ℕ, nat_lt, if◌then◌else◌, List, [], ◌∷◌, length}
use Rattle.text_model.specs.declared.TheConstants.{MAX_SELECTIONS}
use Rattle.command_forms.specs.declared.places.Columns.{Columns}
use Rattle.command_forms.specs.declared.places.Described.{Described}
use Rattle.command_forms.specs.declared.places.Selection.{Selection}
use Rattle.selection_texts.specs.Meaning.{list_meant}
use Rattle.kak_world.specs.declared.ask.EditError.TheVariants.{TooManySelections}
use Rattle.kak_world.specs.Flat.{Flat, text_of, with_sels}
use Rattle.kak_world.specs.Rows.{RowEnd, does, fails}

-- what is described is selected, unless it is too much; where nothing is described, the list stays
abbrev pub described_selected : Columns → List Described → ℕ → Flat → RowEnd
described_selected columns [] who flat = does flat
described_selected columns (d ∷ ds) who flat =
    if nat_lt MAX_SELECTIONS (length (d ∷ ds)) then fails TooManySelections flat
    else does (with_sels who (list_meant columns (text_of who flat) (d ∷ ds)) flat)

abbrev pub select_row : Selection → ℕ → Flat → RowEnd
select_row selection who flat = described_selected selection.columns selection.ranges who flat
