-- Selections as the words of commands describe them: `l.c,l.c`, anchor and cursor, in decimal numbers from 1.
use Rattle.std.specs.Prelude.{ℕ, List, [], ◌∷◌, Option, Some, None, option_and_then, Result, Ok, Err}
use Rattle.command_forms.specs.declared.places.ArgumentPlace.{ArgumentPlace}
use Rattle.command_forms.specs.declared.places.Described.{Described}
use Rattle.command_forms.specs.declared.error.OrderError.{OrderError}
use Rattle.command_forms.specs.declared.error.OrderError.TheVariants.{BadSelection}
use Rattle.command_forms.specs.Numbers.{number_of}
use Rattle.command_forms.specs.Parting.{Parts, parted}
use Rattle.command_forms.specs.Results.{then_as, then_with}

-- the place of two numbers
abbrev pub place_by : Option ℕ → Option ℕ → Option ArgumentPlace
place_by (Some line) (Some column) = Some (record { line = line; column = column })
place_by _ _ = None

-- the place that a text is: a line and a column with a point (46) between
abbrev pub place_of : List ℕ → Option ArgumentPlace
place_of text = option_and_then (λ (p : Parts). place_by (number_of p.before) (number_of p.behind)) (parted 46 text)

-- the selection of two places
abbrev pub described_by : Option ArgumentPlace → Option ArgumentPlace → Option Described
described_by (Some anchor) (Some cursor) = Some (record { anchor = anchor; cursor = cursor })
described_by _ _ = None

-- the selection that a word describes: two places with a comma (44) between
abbrev pub described_of : List ℕ → Option Described
described_of word = option_and_then (λ (p : Parts). described_by (place_of p.before) (place_of p.behind)) (parted 44 word)

-- the selection that a word describes, or that it describes none
abbrev pub description : List ℕ → Option Described → Result Described OrderError
description word (Some d) = Ok d
description word None = Err (BadSelection word)

-- the selections that words describe, or the first word that describes none
abbrev pub descriptions : List (List ℕ) → Result (List Described) OrderError
descriptions [] = Ok []
descriptions (w ∷ ws) = then_with (λ d. then_as (λ ds. d ∷ ds) (descriptions ws)) (description w (described_of w))
