-- How a stream of bytes is cut into lines.
use Rattle.std.specs.Prelude.{◌≡◌, ℕ, false, if◌then◌else◌, ◌==◌, List, [], ◌∷◌, ◌++◌, flat_map}
use Rattle.std.specs.List.{list_any}

-- the lines that bytes complete, each without its newline, where `part` has come of the first one already
abbrev pub whole_lines : List ℕ → List ℕ → List (List ℕ)
whole_lines part [] = []
whole_lines part (b ∷ bs) = if b == 10 then part ∷ whole_lines [] bs else whole_lines (part ++ b ∷ []) bs

-- what has come of the next line when the bytes end
abbrev pub last_part : List ℕ → List ℕ → List ℕ
last_part part [] = part
last_part part (b ∷ bs) = if b == 10 then last_part [] bs else last_part (part ++ b ∷ []) bs

-- a last part that isn't empty is a line too
abbrev pub as_line : List ℕ → List (List ℕ)
as_line [] = []
as_line (b ∷ bs) = (b ∷ bs) ∷ []

-- the lines of a whole input
abbrev pub lines_of_input : List ℕ → List (List ℕ)
lines_of_input input = whole_lines [] input ++ as_line (last_part [] input)

-- lines, each with its newline, one after another
abbrev pub with_newlines : List (List ℕ) → List ℕ
with_newlines lines = flat_map (λ line. line ++ 10 ∷ []) lines

-- no byte is a newline
abbrev pub HasNoNewline : List ℕ → Type 0
HasNoNewline bytes = list_any (λ b. b == 10) bytes ≡ false
