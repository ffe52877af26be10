-- Which characters and words name a register.
use Rattle.std.specs.Prelude.{ℕ, ◌==◌, ◌&&◌, ◌||◌, Bool, List, [], ◌∷◌, nat_le, if◌then◌else◌, Option, Some, None, codes}
use Rattle.std.specs.Str.{bytes_eq}

-- a register that can be set: a small letter, or one of " / @ ^ : | _
abbrev pub is_settable : ℕ → Bool
is_settable c =
    (nat_le 97 c && nat_le c 122) || (c == 34 || c == 47 || c == 64 || c == 94 || c == 58 || c == 124 || c == 95)

-- a register that is only read: . # %
abbrev pub is_read_only : ℕ → Bool
is_read_only c = c == 46 || c == 35 || c == 37

-- any register
abbrev pub is_register : ℕ → Bool
is_register c = is_settable c || is_read_only c

-- the register that a long name stands for
abbrev pub long_named : List ℕ → Option ℕ
long_named word =
    if bytes_eq word (codes "dquote") then Some 34 else (if bytes_eq word (codes "slash") then Some 47 else
    (if bytes_eq word (codes "arobase") then Some 64 else (if bytes_eq word (codes "caret") then Some 94 else
    (if bytes_eq word (codes "colon") then Some 58 else (if bytes_eq word (codes "pipe") then Some 124 else
    (if bytes_eq word (codes "underscore") then Some 95 else (if bytes_eq word (codes "dot") then Some 46 else
    (if bytes_eq word (codes "hash") then Some 35 else (if bytes_eq word (codes "percent") then Some 37 else None)))))))))

-- the register that a word names: its one character, or that of a long name
abbrev pub named : List ℕ → Option ℕ
named [] = None
named (c ∷ []) = if is_register c then Some c else None
named (c ∷ d ∷ cs) = long_named (c ∷ d ∷ cs)
