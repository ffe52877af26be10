-- The keys that change a client's list of selections as a whole.
use Rattle.std.specs.Prelude.{ℕ, nat_lt, if◌then◌else◌, None, Some}
use Rattle.std.specs.declared.option.Option.{Option}
use Rattle.text_model.specs.declared.TheConstants.{MAX_SELECTIONS}
use Rattle.list_model.specs.Ranges.{Selected}
use Rattle.directions.specs.declared.direction.Direction.{Direction}
use Rattle.list_keys.specs.declared.changes.ListChange.{ListChange}
use Rattle.list_keys.specs.Changes.{changed_list, made_count}
use Rattle.list_keys.specs.Rows.{main_turned}
use Rattle.kak_world.specs.declared.ask.EditError.TheVariants.{NothingSelected, TooManySelections}
use Rattle.kak_world.specs.Flat.{Flat, text_of, sels_of, with_sels}
use Rattle.kak_world.specs.Rows.{RowEnd, does, fails}

-- a list becomes a client's own; where there is none, the key fails and the selections stay
abbrev pub taken_if_any : Option Selected → ℕ → Flat → RowEnd
taken_if_any None who flat = fails NothingSelected flat
taken_if_any (Some sels) who flat = does (with_sels who sels flat)

-- the same for a list that was settled from so many selections; where these are more than a list may have, the key fails
abbrev pub taken_if_few : ℕ → Option Selected → ℕ → Flat → RowEnd
taken_if_few count found who flat = if nat_lt MAX_SELECTIONS count then fails TooManySelections flat else taken_if_any found who flat

-- the world after a change of a client's list
abbrev pub list_changed : ListChange → ℕ → Flat → RowEnd
list_changed change who flat = taken_if_few (made_count change (text_of who flat) (sels_of who flat)) (changed_list change (text_of who flat) (sels_of who flat)) who flat

-- another selection of a client becomes its main one: that behind the main one, or that before it, round the ends
abbrev pub main_moved : Direction → ℕ → Flat → Flat
main_moved direction who flat = with_sels who (main_turned direction (sels_of who flat)) flat
