-- What registers hold.
use Rattle.std.specs.Prelude.{ℕ, ◌-◌, ◌==◌, Bool, List, [], length, min, sum_by, if◌then◌else◌, slice_index_or}
use Rattle.std.specs.Str.{chars}
use Rattle.tables.specs.Tables.{first_where, put_where}
use Rattle.kak_registers.specs.declared.row.Register.{Register}

-- whether a row is that of a name
abbrev pub is_register_row : ℕ → Register → Bool
is_register_row name row = row.name == name

-- a row of a name
abbrev pub row_of_register : ℕ → List (List ℕ) → Register
row_of_register name strings = record { name = name; values = strings }

-- the strings of a register: none until it is set, and `_` (95) never has any
abbrev pub strings_of : ℕ → List Register → List (List ℕ)
strings_of name rows = if name == 95 then [] else (first_where (is_register_row name) (row_of_register name []) rows).values

-- registers with the strings of one set; setting `_` changes nothing
abbrev pub set_in : ℕ → List (List ℕ) → List Register → List Register
set_in name strings rows = if name == 95 then rows else put_where (is_register_row name) (row_of_register name strings) rows

-- the n-th of some strings from 0, or the last, or the empty one where there is none
abbrev pub nth_of : ℕ → List (List ℕ) → List ℕ
nth_of n strings = slice_index_or strings (min n (length strings - 1)) []

-- how many characters some strings have together
abbrev pub char_count : List (List ℕ) → ℕ
char_count strings = sum_by (λ s. length (chars s)) strings
