-- Why no list was made by a pattern, as the client is told.
use Rattle.std.specs.Prelude.{◌≡◌, ℕ, List, Ok, Err, IfSome}
use Rattle.std.specs.declared.result.Result.{Result}
use Rattle.selection_set.specs.Listing.{Listed}
use Rattle.selection_set.specs.Held.{selected}
use Rattle.regex_select.specs.declared.error.SelectError.{SelectError}
use Rattle.regex_select.specs.declared.error.SelectError.TheVariants.{NoMatch, TooMany, NoMemory as Wanting}
use Rattle.kak_world.specs.declared.ask.EditError.{EditError}
use Rattle.kak_world.specs.declared.ask.EditError.TheVariants.{NothingSelected, TooManySelections, NoMemory, Command as OfCommand}
use Rattle.kak_world.specs.declared.command_error.CommandError.TheVariants.{UnknownExpansion}
use Rattle.kak_world.specs.Flat.{Flat, text_of, with_sels}
use Rattle.kak_world.specs.Rows.{RowEnd, does, row_of}

-- by what the client is told
abbrev pub refusal_of : SelectError → EditError
refusal_of NoMatch = NothingSelected
refusal_of TooMany = TooManySelections
refusal_of Wanting = NoMemory

-- a list is what a row makes the client's, or a refusal is the row's, which leaves the world
abbrev pub IsListOf : Result Listed SelectError → RowEnd → ℕ → Flat → Type 0
IsListOf (Ok sels) row who flat = row ≡ does (with_sels who (selected (text_of who flat) sels) flat)
IsListOf (Err error) row who flat = IfSome (row_of (refusal_of error)) (λ r. row ≡ record { world = flat; row = r })

-- an expansion that there isn't is told by its name; memory may run out at any time
abbrev pub IsUnexpanded : EditError → Result (List (List ℕ)) (List ℕ) → Type 0
IsUnexpanded error expansion = IfSome (row_of error) (λ row. (name : List ℕ) × (expansion ≡ Err name) × (error ≡ OfCommand (UnknownExpansion name)))
