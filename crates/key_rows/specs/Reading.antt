-- What registers give to a client.
use Rattle.std.specs.Prelude.{ℕ, suc, zero, ◌+◌, ◌==◌, if◌then◌else◌, List, [], ◌∷◌, ◌++◌, length, map, decimal, encode_utf8_all, unwrap_or}
use Rattle.std.specs.declared.option.Option.{Option}
use Rattle.std.specs.Prelude.{Some, None}
use Rattle.std.specs.Str.{chars}
use Rattle.edit_ops.specs.Reading.{texts_of}
use Rattle.kak_registers.specs.Names.{is_settable}
use Rattle.kak_registers.specs.Contents.{strings_of}
use Rattle.kak_world.specs.Flat.{Flat, text_of, name_of, sels_of, registers_of}

-- the register that a key uses: the one that was chosen for it, or `"` (34)
abbrev pub used : Option ℕ → ℕ
used chosen = unwrap_or chosen 34

-- texts in UTF-8
abbrev pub in_bytes : List (List ℕ) → List (List ℕ)
in_bytes texts = map (λ s. encode_utf8_all s) texts

-- the texts of a client's selections
abbrev pub own_strings : ℕ → Flat → List (List ℕ)
own_strings who flat = in_bytes (texts_of (text_of who flat) (sels_of who flat).list)

-- so many numbers from one on
abbrev pub numbers_from : ℕ → ℕ → List (List ℕ)
numbers_from n zero = []
numbers_from n (suc more) = decimal n ∷ numbers_from (n + 1) more

-- the strings that a register gives a client: what it holds; or, of those that are only read, the texts of its selections
-- (`.`, 46), their numbers from 1 (`#`, 35), or the name of the buffer that it sees (`%`, 37); none is there of another name
unfoldable pub strings_read : ℕ → ℕ → Flat → Option (List (List ℕ))
strings_read name who flat =
    if is_settable name then Some (strings_of name (registers_of flat))
    else (if name == 46 then Some (own_strings who flat)
    else (if name == 35 then Some (numbers_from 1 (length (sels_of who flat).list))
    else (if name == 37 then Some (encode_utf8_all (name_of who flat) ∷ [])
    else None)))

-- texts one behind another, each with a space (32) before it
abbrev pub more_spaced : List (List ℕ) → List ℕ
more_spaced [] = []
more_spaced (t ∷ ts) = 32 ∷ (t ++ more_spaced ts)

-- texts one behind another, with a space between each two
abbrev pub spaced_texts : List (List ℕ) → List ℕ
spaced_texts [] = []
spaced_texts (t ∷ ts) = t ++ more_spaced ts

-- strings as one text, joined by spaces
abbrev pub joined_text : List (List ℕ) → List ℕ
joined_text strings = spaced_texts (map chars strings)
