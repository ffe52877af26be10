-- How a key is written: its canonical spelling.
use Rattle.std.specs.Prelude.{ℕ, ◌&&◌, ◌||◌, not, List, [], ◌∷◌, ◌++◌, Bool, true, false, nat_le, if◌then◌else◌, unwrap_or, is_none, codes, decimal}
use Rattle.std.specs.Char.{is_control}
use Rattle.key_names.specs.declared.key.Base.{Base}
use Rattle.key_names.specs.declared.key.Base.TheVariants.{Char, F}
use Rattle.key_names.specs.declared.key.Key.{Key}
use Rattle.key_names.specs.Names.{base_name, character_name}

-- what is written for a base without a name: a character as itself, a function key as F and its number
abbrev pub unnamed_text : Base → List ℕ
unnamed_text (Char c) = c ∷ []
unnamed_text (F n) = 70 ∷ decimal n
unnamed_text _ = []

-- what is written for a base: its name, if it has one
abbrev pub base_text : Base → List ℕ
base_text base = unwrap_or (base_name base) (unnamed_text base)

-- what is written for a modifier that is held
abbrev pub held_text : Bool → List ℕ → List ℕ
held_text held text = if held then text else []

-- the modifiers in their order
abbrev pub modifier_text : Key → List ℕ
modifier_text key = held_text key.control (codes "c-") ++ (held_text key.alt (codes "a-") ++ held_text key.shift (codes "s-"))

-- whether a base is a character that is written as itself
abbrev pub is_unnamed_character : Base → Bool
is_unnamed_character (Char c) = is_none (character_name c)
is_unnamed_character _ = false

-- whether a key is written without brackets
abbrev pub stands_alone : Key → Bool
stands_alone key = is_unnamed_character key.base && not (key.control || key.alt || key.shift)

-- a key's canonical spelling
abbrev pub spelling : Key → List ℕ
spelling key =
    if stands_alone key then base_text key.base else 60 ∷ (modifier_text key ++ base_text key.base) ++ 62 ∷ []

-- whether a base can be written with that shift
abbrev pub is_base_spelled : Bool → Base → Bool
is_base_spelled shift (Char c) = not (is_control c) && not shift
is_base_spelled shift (F n) = nat_le 1 n && nat_le n 12
is_base_spelled shift _ = true

-- whether some text is read as the key: its character is no control character and has no shift, its
-- function key is one of F1 to F12
abbrev pub has_spelling : Key → Bool
has_spelling key = is_base_spelled key.shift key.base
