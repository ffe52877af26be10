-- The attributes of a face text.
use Rattle.std.specs.Prelude.{ℕ, ◌+◌, ◌==◌, true, List, [], ◌∷◌, length, if◌then◌else◌, Option, Some, None, Result, Ok, Err}
use Rattle.kak_faces.specs.declared.colour.Attributes.{Attributes}
use Rattle.kak_faces.specs.Standard.{no_attributes}

-- attributes with one that says that something is final: f (102), g (103) and a (97), or F (70) for all three
unfoldable pub with_final : Attributes → ℕ → Option Attributes
with_final have letter =
    if letter == 102 then Some (record have { final_fg = true }) else
    (if letter == 103 then Some (record have { final_bg = true }) else
    (if letter == 97 then Some (record have { final_attr = true }) else
    (if letter == 70 then Some (record have { final_fg = true; final_bg = true; final_attr = true }) else None)))

-- attributes with that of a letter: u (117), r (114), b (98), B (66), d (100), i (105), or one of the above
unfoldable pub with_letter : Attributes → ℕ → Option Attributes
with_letter have letter =
    if letter == 117 then Some (record have { underline = true }) else
    (if letter == 114 then Some (record have { reverse = true }) else
    (if letter == 98 then Some (record have { bold = true }) else
    (if letter == 66 then Some (record have { blink = true }) else
    (if letter == 100 then Some (record have { dim = true }) else
    (if letter == 105 then Some (record have { italic = true }) else with_final have letter)))))

-- the next step with attributes, or the place of a letter that is none
abbrev pub letter_then : (Attributes → Result Attributes ℕ) → ℕ → Option Attributes → Result Attributes ℕ
letter_then further at None = Err at
letter_then further at (Some have) = further have

-- attributes with those of letters, of which the first has a place
abbrev pub letters_from : Attributes → ℕ → List ℕ → Result Attributes ℕ
letters_from have at [] = Ok have
letters_from have at (c ∷ cs) = letter_then (λ more. letters_from more (at + 1) cs) at (with_letter have c)

-- the attributes of letters from a place on, of which there is one at least
unfoldable pub attributes_at : ℕ → List ℕ → Result Attributes ℕ
attributes_at at letters = if length letters == 0 then Err at else letters_from no_attributes at letters
