-- How the answers of a step, what the outside was asked for in it, and the outside belong together.
use Rattle.std.specs.Prelude.{◌≡◌, ◌≤◌, ◌-◌, ◌^◌, ℕ, Bool, true, false, List, [], ◌∷◌, ◌++◌, min, Some, None}
use Rattle.std.specs.declared.option.Option.{Option}
use Rattle.std.specs.List.{list_any}
use Rattle.kak_files.specs.Files.{Shelf, ToldFiles}
use Rattle.kak_files.specs.declared.files.FileRead.{FileRead}
use Rattle.kak_files.specs.Exchanges.{Exchange, Read as WasRead, Written, Leads, Passed}
use Rattle.kak_ports.specs.declared.sink.Put.{Put}
use Rattle.regex_ports.specs.declared.maker.Made.{Made}
use Rattle.regex_ports.specs.Making.{Rose}
use Rattle.session_events.specs.declared.event.Answered.{Answered}
use Rattle.session_events.specs.declared.event.Answered.TheVariants.{Refused}
use Rattle.kak_engine.specs.Answering.{made_told, is_built, read_told, put_told}
use Rattle.kak_engine.specs.Asking.{Asked, OfPattern, OfFile, files_in}

-- The outside of an engine.
pub record Outside : Type 0 where
  -- what its files are seen as
  pub shelf : Shelf
  -- how often its maker of patterns has refused
  pub refusals : ℕ
  -- all that it was asked for so far, in order
  pub asked : List Asked

-- files and a maker of patterns that were asked for nothing yet
abbrev pub outside_of : Shelf → ℕ → Outside
outside_of shelf refusals = record { shelf = shelf; refusals = refusals; asked = [] }

-- an outside without files, which was asked for nothing yet
abbrev pub no_outside : Outside
no_outside = outside_of (record { told = Some (record { opening = []; held = []; spare = true }); faults = 0 }) 0

-- what files held when they were made, as what they hold
abbrev pub at_opening : Option ToldFiles → Option ToldFiles
at_opening None = None
at_opening (Some told) = Some (record told { held = told.opening })

-- the files hold what they held when they were made, where that is told
abbrev pub IsUntouched : Option ToldFiles → Type 0
IsUntouched told = told ≡ at_opening told

-- an answer is that a pattern was refused
abbrev pub is_refused : Answered → Bool
is_refused Refused = true
is_refused _ = false

-- a count hasn't fallen, as far as to the end of its range
abbrev pub Stood : ℕ → ℕ → Type 0
Stood before now = min before (2 ^ 64 - 1) ≤ now

-- the count of refusals, by whether a pattern was refused: it rose where one was, and fell nowhere
abbrev pub CountsRefusal : Bool → ℕ → ℕ → Type 0
CountsRefusal true before now = Rose before now
CountsRefusal false before now = Stood before now

-- Among the answers is one that a pattern was refused only where the maker's count rose. What was exchanged with the files
-- is all that passed there: they were read and written so, and in that order, and their count rose once for each call that
-- failed. The outside was asked for this, in this order, and for nothing else.
pub record IsHonest (answers : List Answered) (asked : List Asked) (before now : Outside) : Type 0 where
  pub refusals : CountsRefusal (list_any is_refused answers) before.refusals now.refusals
  pub files : Passed (files_in asked) before.shelf now.shelf
  pub trace : now.asked ≡ before.asked ++ asked

-- the outside was asked for the pattern of a text, for a file to be read, and for one to be written, and answered this
abbrev pub MakesPattern : {P : Type 0} → Made P → List ℕ → Outside → Outside → Type 0
MakesPattern made text before now = IsHonest (made_told made ∷ []) (OfPattern text (is_built made) ∷ []) before now

abbrev pub ReadsFile : FileRead → List ℕ → Outside → Outside → Type 0
ReadsFile read name before now = IsHonest (read_told read ∷ []) (OfFile (WasRead name read) ∷ []) before now

abbrev pub WritesFile : Put → List ℕ → List ℕ → Outside → Outside → Type 0
WritesFile put name bytes before now = IsHonest (put_told put ∷ []) (OfFile (Written name bytes put) ∷ []) before now

-- Some exchanges led from what the files held when they were made to what they hold, where that is told: each read was
-- answered by what was held behind the exchanges before it, and each name stands for what the last of its writes left.
abbrev pub IsKept : List Exchange → Shelf → Type 0
IsKept exchanges shelf = Leads exchanges (at_opening shelf.told) shelf.told
