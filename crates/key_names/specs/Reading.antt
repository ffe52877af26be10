-- Which keys a text is.
use Rattle.std.specs.Prelude.{◌≡◌, ℕ, ◌+◌, ◌-◌, ◌==◌, ◌&&◌, ◌||◌, not, List, [], ◌∷◌, ◌++◌, length, Bool, false, nat_le, if◌then◌else◌, Option, Some, None, option_and_then, Result, Ok, Err}
use Rattle.std.specs.Char.{is_control}
use Rattle.key_names.specs.declared.key.Base.{Base}
use Rattle.key_names.specs.declared.key.Base.TheVariants.{Char, Ret, Tab}
use Rattle.key_names.specs.declared.key.Key.{Key}
use Rattle.key_names.specs.declared.reading.Modifiers.{Modifiers}
use Rattle.key_names.specs.declared.reading.KeyError.{KeyError}
use Rattle.key_names.specs.declared.reading.KeyError.TheVariants.{BadKey, NoMemory}
use Rattle.key_names.specs.Names.{base_of}

-- a key as it is written: one character, what stands between `<` and `>`, or a `<` that isn't closed
pub data WrittenKey : Type 0 where
  plain : ℕ → WrittenKey
  bracketed : List ℕ → WrittenKey
  unclosed : WrittenKey

-- the keys that are written in a text; `Some inner` is what has been read since a `<`
abbrev pub written_in : Option (List ℕ) → List ℕ → List WrittenKey
written_in None [] = []
written_in (Some inner) [] = unclosed ∷ []
written_in None (c ∷ cs) = if c == 60 then written_in (Some []) cs else plain c ∷ written_in None cs
written_in (Some inner) (c ∷ cs) =
    if c == 62 then bracketed inner ∷ written_in None cs else written_in (Some (inner ++ c ∷ [])) cs

-- how many characters a written key takes
abbrev pub written_length : WrittenKey → ℕ
written_length (plain c) = 1
written_length (bracketed inner) = length inner + 2
written_length unclosed = 1

-- a base without modifiers
abbrev pub bare : Base → Key
bare base = record { control = false; alt = false; shift = false; base = base }

-- the key of a character alone: a newline is `ret`, a tab is `tab`, other control characters are none
abbrev pub plain_key : ℕ → Option Key
plain_key c =
    if c == 10 then Some (bare Ret) else (if c == 9 then Some (bare Tab) else (if is_control c then None else Some (bare (Char c))))

-- whether a letter stands for a modifier before `-`: c for control, a for alt, s for shift
abbrev pub is_modifier : ℕ → Bool
is_modifier letter = letter == 99 || letter == 97 || letter == 115

-- whether a text begins with a modifier
abbrev pub begins_modified : List ℕ → Bool
begins_modified [] = false
begins_modified (c ∷ []) = false
begins_modified (c ∷ d ∷ cs) = d == 45 && is_modifier c

-- whether that modifier is held
abbrev pub is_held : Modifiers → ℕ → Bool
is_held held letter = if letter == 99 then held.control else (if letter == 97 then held.alt else held.shift)

-- the modifiers with that one held too
abbrev pub held_with : Modifiers → ℕ → Modifiers
held_with held letter = record {
  control = held.control || letter == 99;
  alt = held.alt || letter == 97;
  shift = held.shift || letter == 115;
}

-- a base under modifiers
abbrev pub under : Modifiers → Base → Key
under held base = record { control = held.control; alt = held.alt; shift = held.shift; base = base }

-- a character under modifiers: shift makes a small ASCII letter a capital, and goes with no other character
abbrev pub character_under : Modifiers → ℕ → Option Key
character_under held c =
    if not held.shift then Some (under held (Char c))
    else (if nat_le 97 c && nat_le c 122 then Some (under (record held { shift = false }) (Char (c - 32))) else None)

-- the key of modifiers and a base
abbrev pub key_under : Modifiers → Base → Option Key
key_under held (Char c) = character_under held c
key_under held base = Some (under held base)

-- the key of the modifiers that were read and of what stands behind them between the brackets
abbrev pub modified_key : Modifiers → List ℕ → Option Key
modified_key held [] = None
modified_key held (c ∷ []) = option_and_then (key_under held) (base_of (c ∷ []))
modified_key held (c ∷ d ∷ cs) =
    if d == 45 && is_modifier c then (if is_held held c then None else modified_key (held_with held c) cs)
    else option_and_then (key_under held) (base_of (c ∷ d ∷ cs))

-- no modifiers
abbrev pub none_held : Modifiers
none_held = record { control = false; alt = false; shift = false }

-- the key that a written key stands for
abbrev pub key_of : WrittenKey → Option Key
key_of (plain c) = plain_key c
key_of (bracketed inner) = modified_key none_held inner
key_of unclosed = None

-- a key before others; without it there is no reading, and `at` is its place
abbrev pub key_before : Option Key → ℕ → Result (List Key) ℕ → Result (List Key) ℕ
key_before None at others = Err at
key_before (Some key) at (Ok keys) = Ok (key ∷ keys)
key_before (Some key) at (Err place) = Err place

-- the keys of written keys of which the first begins at a place, or the place of the first that is none
abbrev pub keys_from : ℕ → List WrittenKey → Result (List Key) ℕ
keys_from at [] = Ok []
keys_from at (w ∷ ws) = key_before (key_of w) at (keys_from (at + written_length w) ws)

-- the keys of a text, or the place of the first key without a reading
abbrev pub read_text : List ℕ → Result (List Key) ℕ
read_text text = keys_from 0 (written_in None text)

-- what an error says of a reading
abbrev pub IsReadError : KeyError → Result (List Key) ℕ → Type 0
IsReadError (BadKey at) reading = reading ≡ Err at
IsReadError NoMemory reading = Unit {0}
