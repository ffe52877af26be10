-- Paths: names with `/` (47) between them.
use Rattle.std.specs.Prelude.{ℕ, ◌+◌, ◌==◌, ◌&&◌, not, Bool, false, List, [], ◌∷◌, length, drop}
use Rattle.std.specs.List.{list_any}

abbrev pub is_slash : ℕ → Bool
is_slash c = c == 47

-- whether a path, the second one, stands below another: it begins with that one, and has a `/` behind it
abbrev pub is_below : List ℕ → List ℕ → Bool
is_below [] [] = false
is_below [] (c ∷ cs) = is_slash c
is_below (p ∷ ps) [] = false
is_below (p ∷ ps) (c ∷ cs) = p == c && is_below ps cs

-- whether it is that of a name right below another one: no further `/` stands behind
abbrev pub is_child : List ℕ → List ℕ → Bool
is_child above path = is_below above path && not (list_any is_slash (drop (length above + 1) path))
