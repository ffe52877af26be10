-- The words by which a generated session is called, each as its bytes, and what they name.
use Rattle.std.specs.Prelude.{ℕ, ◌^◌, nat_lt, nat_le, Bool, false, ◌&&◌, if◌then◌else◌, List, [], ◌∷◌, codes, Option, Some, None, option_and_then}
use Rattle.std.specs.Char.{digit_value}
use Rattle.std.specs.List.{list_all}
use Rattle.std.specs.Str.{bytes_eq}
use Rattle.std.specs.Str.Parse.{digits_value}
use Rattle.program_words.specs.declared.generated.GenWords.{GenWords}
use Rattle.program_words.specs.declared.limits.TheConstants.{MAX_GEN_CLIENTS, MAX_GEN_KEYS}

-- whether a word is one decimal digit or more, and nothing else
abbrev pub is_numeral : List ℕ → Bool
is_numeral [] = false
is_numeral (d ∷ ds) = list_all (λ c. nat_lt (digit_value c) 10) (d ∷ ds)

-- the number that a word is, if it is one below a bound
abbrev pub number_below : ℕ → List ℕ → Option ℕ
number_below bound word = if is_numeral word && nat_lt (digits_value 10 word) bound then Some (digits_value 10 word) else None

-- whether there may be so many clients and keys
abbrev pub are_in_range : ℕ → ℕ → Bool
are_in_range clients keys = nat_le 1 clients && nat_le clients MAX_GEN_CLIENTS && nat_le keys MAX_GEN_KEYS

-- a session of so many clients and keys with that seed, if there may be so many
abbrev pub sized : ℕ → ℕ → ℕ → Option GenWords
sized seed clients keys = if are_in_range clients keys then Some (record { clients = clients; keys = keys; seed = seed }) else None

-- what three words name, where they are numbers that are in range
abbrev pub sizes_named : List ℕ → List ℕ → List ℕ → Option GenWords
sizes_named clients keys seed =
    option_and_then (λ c. option_and_then (λ k. option_and_then (λ s. sized s c k) (number_below (2 ^ 64) seed)) (number_below (2 ^ 32) keys)) (number_below (2 ^ 32) clients)

-- what the word `gen` and three more name
abbrev pub gen_named : List ℕ → List ℕ → List ℕ → List ℕ → Option GenWords
gen_named kind clients keys seed = if bytes_eq kind (codes "gen") then sizes_named clients keys seed else None

-- what the words of a program name, where they are those of a generated session
abbrev pub gen_words : List (List ℕ) → Option GenWords
gen_words (kind ∷ clients ∷ keys ∷ seed ∷ []) = gen_named kind clients keys seed
gen_words _ = None
