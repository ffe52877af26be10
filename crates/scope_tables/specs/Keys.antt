-- Keys that are compared.
use Rattle.std.specs.Prelude.{ℕ, ◌==◌, ◌&&◌, Bool}
use Rattle.std.specs.Bool.{beq}
use Rattle.key_names.specs.declared.key.Base.{Base}
use Rattle.key_names.specs.declared.key.Base.TheVariants.{Char, Ret, Tab, Esc, Backspace, Del, Up, Down, Left, Right, Home, End, PageUp, PageDown, F}
use Rattle.key_names.specs.declared.key.Key.{Key}

-- the kind of a key without its modifiers, as a number
abbrev pub base_kind : Base → ℕ
base_kind (Char c) = 0
base_kind Ret = 1
base_kind Tab = 2
base_kind Esc = 3
base_kind Backspace = 4
base_kind Del = 5
base_kind Up = 6
base_kind Down = 7
base_kind Left = 8
base_kind Right = 9
base_kind Home = 10
base_kind End = 11
base_kind PageUp = 12
base_kind PageDown = 13
base_kind (F n) = 14

-- the character of a key that is one, and the number of a function key
abbrev pub base_value : Base → ℕ
base_value (Char c) = c
base_value (F n) = n
base_value _ = 0

-- whether two keys are one, with their modifiers
abbrev pub is_same_key : Key → Key → Bool
is_same_key a b =
    beq a.control b.control && beq a.alt b.alt && beq a.shift b.shift
    && base_kind a.base == base_kind b.base && base_value a.base == base_value b.base
