-- What is made of a pattern that was asked for, once the outside has answered.
use Rattle.std.specs.Prelude.{ℕ, suc, ◌+◌, nat_lt, Bool, true, false, if◌then◌else◌, List, [], ◌∷◌, length, filter, flat_map}
use Rattle.std.specs.declared.option.Option.{Option}
use Rattle.std.specs.Prelude.{Some, None}
use Rattle.text_model.specs.declared.TheConstants.{MAX_SELECTIONS}
use Rattle.list_model.specs.Ranges.{Range, Selected}
use Rattle.list_model.specs.Settling.{each_settled}
use Rattle.regex_ports.specs.declared.maker.Made.{Made}
use Rattle.regex_ports.specs.declared.maker.Made.TheVariants.{Built, Refused}
use Rattle.regex_select.specs.Rows.{is_kept, kept_each}
use Rattle.regex_select.specs.Selecting.{matched_in, split_in, made_each}
use Rattle.regex_select.specs.Searching.{all_matches, sought, searched, main_settled, main_added}
use Rattle.kak_world.specs.declared.ask.EditError.TheVariants.{BadPattern, NothingSelected, TooManySelections}
use Rattle.kak_world.specs.declared.purpose.Use.{Use}
use Rattle.kak_world.specs.declared.purpose.Use.TheVariants.{Select, Split, Keep, Drop, Search, Reach, Step, Add}
use Rattle.kak_world.specs.declared.purpose.Wanted.{Wanted}
use Rattle.kak_world.specs.declared.purpose.Wanted.TheVariants.{Selects, Paints, Hooks}
use Rattle.kak_world.specs.Flat.{Flat, text_of, sels_of, units_of, with_sels}
use Rattle.kak_world.specs.Rows.{RowEnd, does, fails}
use Rattle.key_rows.specs.Sequence.{then_row, after_unit}
use Rattle.key_rows.specs.Patterns.{asks_for_last}
use Rattle.command_set.specs.Painting.{painted_row}
use Rattle.command_set.specs.Hooking.{hooked_row}

-- the pattern that was made, by the text that it was made of, in UTF-8; none where that was refused
abbrev pub source_of : {P : Type 0} → (P → List ℕ) → Made P → Option (List ℕ)
source_of source (Built pattern) = Some (source pattern)
source_of source Refused = None

-- a row, unless there is nothing to be selected
abbrev pub unless_none : List Range → RowEnd → Flat → RowEnd
unless_none [] row flat = fails NothingSelected flat
unless_none (r ∷ rs) row flat = row

-- the list of a client is taken, of so many selections, unless these are too many
abbrev pub taken_within : ℕ → Selected → ℕ → Flat → RowEnd
taken_within count sels who flat = if nat_lt MAX_SELECTIONS count then fails TooManySelections flat else does (with_sels who sels flat)

-- what is made of the selections is taken
abbrev pub made_taken : (Range → List Range) → ℕ → Flat → RowEnd
made_taken made who flat =
    let rs : List Range = flat_map made (sels_of who flat).list in
    unless_none rs (taken_within (length rs) (made_each made (sels_of who flat)) who flat) flat

-- the selections that pass a test are taken
abbrev pub kept_taken : (Range → Bool) → ℕ → Flat → RowEnd
kept_taken test who flat = unless_none (filter test (sels_of who flat).list) (does (with_sels who (kept_each test (sels_of who flat)) flat)) flat

-- what the matches of the whole text make of the selections is taken
abbrev pub found_taken : List Range → Selected → ℕ → Flat → RowEnd
found_taken matches sels who flat = unless_none matches (does (with_sels who sels flat)) flat

-- the list that a use of a pattern leaves, by the text of the pattern in UTF-8
abbrev pub list_used : Use → List ℕ → ℕ → Flat → RowEnd
list_used Select source who flat = made_taken (matched_in source (text_of who flat)) who flat
list_used Split source who flat = made_taken (split_in source (text_of who flat)) who flat
list_used Keep source who flat = kept_taken (is_kept true source (text_of who flat)) who flat
list_used Drop source who flat = kept_taken (is_kept false source (text_of who flat)) who flat
list_used (Search direction) source who flat =
    let matches : List Range = all_matches source (text_of who flat) in
    found_taken matches (each_settled (searched (record { direction = direction; extend = false }) matches) (sels_of who flat)) who flat
list_used (Reach direction) source who flat =
    let matches : List Range = all_matches source (text_of who flat) in
    found_taken matches (each_settled (searched (record { direction = direction; extend = true }) matches) (sels_of who flat)) who flat
list_used (Step direction further) source who flat =
    let matches : List Range = all_matches source (text_of who flat) in
    found_taken matches (main_settled (sought direction matches) (sels_of who flat)) who flat
list_used (Add direction further) source who flat =
    let matches : List Range = all_matches source (text_of who flat) in
    unless_none matches (taken_within (length (sels_of who flat).list + 1) (main_added (sought direction matches) (sels_of who flat)) who flat) flat

-- what comes behind a use: a further one where it is to be made more often
abbrev pub next_use : Use → Option Use
next_use (Step direction (suc further)) = Some (Step direction further)
next_use (Add direction (suc further)) = Some (Add direction further)
next_use _ = None

-- a further use takes a unit, and asks for the pattern again
abbrev pub further_asked : Option Use → Flat → RowEnd
further_asked None flat = does flat
further_asked (Some next) flat = after_unit (units_of flat) (asks_for_last next) flat

-- a use of the pattern that a text is
abbrev pub pattern_used : Use → List ℕ → ℕ → Flat → RowEnd
pattern_used wanted source who flat = then_row (list_used wanted source who flat) (further_asked (next_use wanted))

-- what is made of the pattern that a text is: a use of its matches, a highlighter, or a hook
abbrev pub made_row : Wanted → List ℕ → ℕ → Flat → RowEnd
made_row (Selects what) source who flat = pattern_used what source who flat
made_row (Paints new) source who flat = painted_row new source flat
made_row (Hooks new) source who flat = hooked_row new source flat

-- the row of what was asked for a pattern: what is made of it, or that it was refused
unfoldable pub row_finish : Wanted → Option (List ℕ) → ℕ → Flat → RowEnd
row_finish wanted None who flat = fails BadPattern flat
row_finish wanted (Some source) who flat = made_row wanted source who flat
