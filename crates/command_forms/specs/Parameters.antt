-- How many parameters a command that is defined may be given.
use Rattle.std.specs.Prelude.{ℕ, ◌==◌, List, [], ◌∷◌, if◌then◌else◌, Option, Some, None, option_and_then, unwrap_or}
use Rattle.command_forms.specs.declared.parameters.Allowed.{Allowed}
use Rattle.command_forms.specs.Numbers.{whole_number}
use Rattle.command_forms.specs.Parting.{Parts, parted}

-- from one number to another
abbrev pub allowed : ℕ → ℕ → Allowed
allowed least most = record { least = least; most = most }

-- the least number of a range, by what stands before its dots: where nothing does, 0
abbrev pub least_of : List ℕ → Option ℕ
least_of [] = Some 0
least_of (d ∷ ds) = whole_number (d ∷ ds)

-- the greatest number of a range, by what stands behind its first dot: another one (46), and a number
abbrev pub most_of : List ℕ → Option ℕ
most_of [] = None
most_of (c ∷ ds) = if c == 46 then whole_number ds else None

-- the range of two numbers
abbrev pub range_by : Option ℕ → Option ℕ → Option Allowed
range_by (Some least) (Some most) = Some (allowed least most)
range_by _ _ = None

-- the numbers from one to another, with two dots between
abbrev pub allowed_between : List ℕ → Option Allowed
allowed_between text = option_and_then (λ (p : Parts). range_by (least_of p.before) (most_of p.behind)) (parted 46 text)

-- a number by itself, if there is one, or else a range
abbrev pub exactly_or : Option ℕ → Option Allowed → Option Allowed
exactly_or (Some n) range = Some (allowed n n)
exactly_or None range = range

-- the numbers of parameters that a word says: `n`, `a..b` or `..b`
abbrev pub allowed_of : List ℕ → Option Allowed
allowed_of word = exactly_or (whole_number word) (allowed_between word)
