-- What keys do to a line at its cursor.
use Rattle.std.specs.Prelude.{ℕ, ◌-◌, List, [], ◌++◌, length, take, drop}
use Rattle.edit_line.specs.Halves.{Halves, whole}

-- characters go in before the cursor
abbrev pub put_before_cursor : List ℕ → Halves → Halves
put_before_cursor chars line = record line { before = line.before ++ chars }

-- the character before the cursor goes, where there is one
abbrev pub erased_before : Halves → Halves
erased_before line = record line { before = take (length line.before - 1) line.before }

-- the character at the cursor goes, where there is one
abbrev pub erased_at : Halves → Halves
erased_at line = record line { behind = drop 1 line.behind }

-- the cursor goes back by one character, or on, where there is one
abbrev pub gone_left : Halves → Halves
gone_left line = record {
  before = take (length line.before - 1) line.before;
  behind = drop (length line.before - 1) line.before ++ line.behind;
}

abbrev pub gone_right : Halves → Halves
gone_right line = record { before = line.before ++ take 1 line.behind; behind = drop 1 line.behind }

-- the cursor goes to the first character, or behind the last one
abbrev pub gone_home : Halves → Halves
gone_home line = record { before = []; behind = whole line }

abbrev pub gone_to_end : Halves → Halves
gone_to_end line = record { before = whole line; behind = [] }
