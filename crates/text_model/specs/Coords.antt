-- Coordinates: how they go on over characters, and their order.
use Rattle.std.specs.Prelude.{ℕ, ◌+◌, Bool, ◌==◌, nat_lt, nat_le, ◌&&◌, ◌||◌, if◌then◌else◌, List, [], ◌∷◌}
use Rattle.text_model.specs.declared.coords.Coord.{Coord}

-- the first place of a text
abbrev pub origin : Coord
origin = record { line = 0; column = 0 }

-- the coordinate after a character that stands at a coordinate: a newline (10) ends the line
abbrev pub after : Coord → ℕ → Coord
after at c = if c == 10 then record { line = at.line + 1; column = 0 } else record { line = at.line; column = at.column + 1 }

-- the coordinate that is reached from a coordinate by going over characters
abbrev pub reached : Coord → List ℕ → Coord
reached at [] = at
reached at (c ∷ cs) = reached (after at c) cs

-- the coordinate that lies as far behind the first one as the second lies behind the origin
abbrev pub further : Coord → Coord → Coord
further from by = if by.line == 0 then record { line = from.line; column = from.column + by.column } else record { line = from.line + by.line; column = by.column }

-- the order of coordinates: by lines, and on one line by columns
abbrev pub is_at_most : Coord → Coord → Bool
is_at_most a b = nat_lt a.line b.line || (a.line == b.line && nat_le a.column b.column)
