-- What a line of a replay is: the number of a client, a space, and the line that the client sends.
use Rattle.std.specs.Prelude.{ℕ, ◌+◌, ◌-◌, ◌*◌, Bool, ◌&&◌, ◌||◌, ◌==◌, nat_lt, if◌then◌else◌, List, [], ◌∷◌, ◌++◌, Option, Some, None}
use Rattle.std.specs.List.{list_all}
use Rattle.std.specs.Char.{is_ascii_digit}

-- What a line of a replay is.
pub data Written : Type 0 where
  -- nothing but spaces, tabs and carriage returns, if anything
  Blank : Written
  -- a line of that client
  Of : (who : ℕ) → (line : List ℕ) → Written
  -- anything else
  Bad : Written

-- a space, a tab or a carriage return
abbrev pub is_blank : ℕ → Bool
is_blank byte = byte == 32 || byte == 9 || byte == 13

-- how many digits the number of a client may have; zeros may stand in front
abbrev pub max_digits : ℕ
max_digits = 4

-- the number whose digits stand before the first space, and what stands behind that space; `number` is what so many digits
-- before these bytes say
abbrev pub read_number : ℕ → ℕ → List ℕ → Option (ℕ × List ℕ)
read_number number digits [] = None
read_number number digits (byte ∷ bytes) =
    if byte == 32
    then (if nat_lt 0 digits then Some (number, bytes) else None)
    else (if is_ascii_digit byte && nat_lt digits max_digits then read_number (10 * number + (byte - 48)) (digits + 1) bytes else None)

-- a number that is read is a client's where there are more clients
abbrev pub of_number : ℕ → Option (ℕ × List ℕ) → Written
of_number count None = Bad
of_number count (Some read) = if nat_lt read.0 count then Of read.0 read.1 else Bad

-- what a line is in a replay of so many clients
abbrev pub written : ℕ → List ℕ → Written
written count line = if list_all is_blank line then Blank else of_number count (read_number 0 0 line)

-- the line that a written line is for a client: none, where it is blank, bad or another client's
abbrev pub line_for : ℕ → Written → List (List ℕ)
line_for who Blank = []
line_for who (Of other line) = if other == who then line ∷ [] else []
line_for who Bad = []

-- the lines that some written lines are for a client, in order
abbrev pub lines_for : ℕ → ℕ → List (List ℕ) → List (List ℕ)
lines_for count who [] = []
lines_for count who (line ∷ lines) = line_for who (written count line) ++ lines_for count who lines
