-- Reading a key text from its first key on.
use Rattle.std.proofs.Common.{◌≡◌, ℕ, suc, ◌+◌, ◌<◌, ◌==◌, List, [], ◌∷◌, ◌++◌, length, take, drop, Bool, true, false, cond, not, ltb, Option, Some, None, Result, Ok, Err, refl, ap, sym, ◌∙◌, append_assoc, append-nil, length-take-le, drop-drop, arith}
use Rattle.std.specs.Prelude.{option_and_then, option_map, position}
use Rattle.std.proofs.lemmas.Bool.Decides.{nat_tests}
use Rattle.std.proofs.lemmas.Option.{none-some}
use Rattle.std.specs.List.{position_or_len}
use Rattle.key_names.specs.declared.key.Key.{Key}
use Rattle.key_names.specs.declared.reading.Modifiers.{Modifiers}
use Rattle.key_names.specs.Names.{base_of}
use Rattle.key_names.specs.Reading.{WrittenKey, plain, bracketed, unclosed, written_in, keys_from, key_before, key_under, modified_key, plain_key, none_held, is_modifier, begins_modified, is_held, held_with}
use Rattle.key_names.specs.FirstKey.{ReadsFirst, NoFirst}

-- keys that were read before a reading
abbrev pub keys_before : List Key → Result (List Key) ℕ → Result (List Key) ℕ
keys_before keys (Ok more) = Ok (keys ++ more)
keys_before keys (Err at) = Err at

pub keys_before-key_before : (keys : List Key) (key : Key) (at : ℕ) (reading : Result (List Key) ℕ) → keys_before keys (key_before (Some key) at reading) ≡ keys_before (keys ++ key ∷ []) reading
keys_before-key_before keys key at (Ok more) = rw append_assoc refl
keys_before-key_before keys key at (Err place) = refl

-- a modifier is read
pub modified_key-modifier : (held : Modifiers) (text rest : List ℕ) (letter : ℕ) → text ≡ letter ∷ 45 ∷ rest → is_modifier letter ≡ true → modified_key held text ≡ cond (is_held held letter) None (modified_key (held_with held letter) rest)
modified_key-modifier held text rest letter e h =
    ap (modified_key held) e ∙ ap (λ b. cond b (cond (is_held held letter) None (modified_key (held_with held letter) rest)) (option_and_then (key_under held) (base_of (letter ∷ 45 ∷ rest)))) h

-- no modifier is left
pub modified_key-base : (held : Modifiers) (text : List ℕ) → begins_modified text ≡ false → modified_key held text ≡ option_and_then (key_under held) (base_of text)
modified_key-base held [] h = refl
modified_key-base held (c ∷ []) h = refl
modified_key-base held (c ∷ d ∷ cs) h =
    ap (λ b. cond b (cond (is_held held c) None (modified_key (held_with held c) cs)) (option_and_then (key_under held) (base_of (c ∷ d ∷ cs)))) h

-- how many characters stand before the first `>`
abbrev pub closing : List ℕ → Option ℕ
closing [] = None
closing (c ∷ cs) = cond (c == 62) (Some 0) (option_map suc (closing cs))

position_push : (p n : ℕ) → cond (ltb (1 + p) (suc n)) (Some (1 + p)) None ≡ option_map suc (cond (ltb p n) (Some p) None)
position_push p n =
    let same : ltb (1 + p) (suc n) ≡ ltb p n = grind (arith, nat_tests) in
    rw same (elim (ltb p n) as (λ b. cond b (Some (1 + p)) None ≡ option_map suc (cond b (Some p) None)) [ true ↦ ap Some (omega arith) | false ↦ refl ])

position_step : (b : Bool) (p n : ℕ) → cond (ltb (cond (not b) (1 + p) 0) (suc n)) (Some (cond (not b) (1 + p) 0)) None ≡ cond b (Some 0) (option_map suc (cond (ltb p n) (Some p) None))
position_step true p n = let first : ltb 0 (suc n) ≡ true = grind (arith, nat_tests) in rw first refl
position_step false p n = position_push p n

pub position-closing : (cs : List ℕ) → position (λ c. c == 62) cs ≡ closing cs
position-closing [] = refl
position-closing (c ∷ cs) =
    position_step (c == 62) (position_or_len (λ x. x == 62) cs) (length cs)
    ∙ ap (λ found. cond (c == 62) (Some 0) (option_map suc found)) (position-closing cs)

-- what is written from inside of brackets on, by the place of the `>`
abbrev pub written_by : List ℕ → List ℕ → Option ℕ → List WrittenKey
written_by inner cs None = unclosed ∷ []
written_by inner cs (Some n) = bracketed (inner ++ take n cs) ∷ written_in None (drop (suc n) cs)

written_by_step : (inner cs : List ℕ) (c : ℕ) (found : Option ℕ) → written_by (inner ++ c ∷ []) cs found ≡ written_by inner (c ∷ cs) (option_map suc found)
written_by_step inner cs c None = refl
written_by_step inner cs c (Some n) = rw append_assoc refl

written_step : (b : Bool) (inner cs : List ℕ) (c : ℕ) (found : Option ℕ) → written_in (Some (inner ++ c ∷ [])) cs ≡ written_by (inner ++ c ∷ []) cs found → cond b (bracketed inner ∷ written_in None cs) (written_in (Some (inner ++ c ∷ [])) cs) ≡ written_by inner (c ∷ cs) (cond b (Some 0) (option_map suc found))
written_step true inner cs c found h = rw append-nil refl
written_step false inner cs c found h = h ∙ written_by_step inner cs c found

pub written_in-closing : (cs inner : List ℕ) → written_in (Some inner) cs ≡ written_by inner cs (closing cs)
written_in-closing [] inner = refl
written_in-closing (c ∷ cs) inner =
    written_step (c == 62) inner cs c (closing cs) (written_in-closing cs (inner ++ c ∷ []))

closing_lt_step : (b : Bool) (found : Option ℕ) (len n : ℕ) → ((m : ℕ) → found ≡ Some m → m < len) → cond b (Some 0) (option_map suc found) ≡ Some n → n < suc len
closing_lt_step true found len n below h = let same : 0 ≡ n = cc in omega arith
closing_lt_step false None len n below h = absurd (none-some n h)
closing_lt_step false (Some m) len n below h = let same : suc m ≡ n = cc in let lt : m < len = below m refl in omega arith

closing_lt : (cs : List ℕ) (n : ℕ) → closing cs ≡ Some n → n < length cs
closing_lt [] n h = absurd (none-some n h)
closing_lt (c ∷ cs) n h = closing_lt_step (c == 62) (closing cs) (length cs) n (closing_lt cs) h

-- the reading of a text that begins with `<`, by what stands behind it
bracket_reading : (rest : List ℕ) (at : ℕ) (found : Option ℕ) → position (λ c. c == 62) rest ≡ found → keys_from at (written_in None (60 ∷ rest)) ≡ keys_from at (written_by [] rest found)
bracket_reading rest at found h =
    ap (keys_from at) (written_in-closing rest [] ∙ ap (written_by [] rest) (sym (position-closing rest) ∙ h))

-- the `<` isn't closed
pub bracket-unclosed : (rest : List ℕ) → position (λ c. c == 62) rest ≡ None → NoFirst (60 ∷ rest)
bracket-unclosed rest h at = bracket_reading rest at None h

-- what stands between the brackets is no key
pub bracket-no_key : (rest : List ℕ) (n : ℕ) → position (λ c. c == 62) rest ≡ Some n → modified_key none_held (take n rest) ≡ None → NoFirst (60 ∷ rest)
bracket-no_key rest n h none at =
    bracket_reading rest at (Some n) h
    ∙ ap (λ k. key_before k at (keys_from (at + (length (take n rest) + 2)) (written_in None (drop (suc n) rest)))) none

-- it is a key
pub bracket-key : (rest : List ℕ) (n : ℕ) (key : Key) → position (λ c. c == 62) rest ≡ Some n → modified_key none_held (take n rest) ≡ Some key → ReadsFirst (60 ∷ rest) key (n + 2)
bracket-key rest n key h some at =
    let inside : n < length rest = closing_lt rest n (sym (position-closing rest) ∙ h) in
    let len : length (take n rest) ≡ n = length-take-le n rest (omega arith) in
    let two : suc (suc n) ≡ n + 2 = omega arith in
    bracket_reading rest at (Some n) h
    ∙ ap (λ k. key_before k at (keys_from (at + (length (take n rest) + 2)) (written_in None (drop (suc n) rest)))) some
    ∙ ap (λ k. key_before (Some key) at (keys_from (at + (k + 2)) (written_in None (drop (suc n) rest)))) len
    ∙ ap (λ k. key_before (Some key) at (keys_from (at + (n + 2)) (written_in None (drop k (60 ∷ rest))))) two

-- a text that begins with another character
pub plain-key : (c : ℕ) (rest : List ℕ) (key : Key) → (c == 60) ≡ false → plain_key c ≡ Some key → ReadsFirst (c ∷ rest) key 1
plain-key c rest key other some at =
    ap (λ b. keys_from at (cond b (written_in (Some []) rest) (plain c ∷ written_in None rest))) other
    ∙ ap (λ k. key_before k at (keys_from (at + 1) (written_in None rest))) some

pub plain-no_key : (c : ℕ) (rest : List ℕ) → (c == 60) ≡ false → plain_key c ≡ None → NoFirst (c ∷ rest)
plain-no_key c rest other none at =
    ap (λ b. keys_from at (cond b (written_in (Some []) rest) (plain c ∷ written_in None rest))) other
    ∙ ap (λ k. key_before k at (keys_from (at + 1) (written_in None rest))) none

-- the keys so far and those of the rest, one key further
pub keys_before-first : (keys more : List Key) (key : Key) (text : List ℕ) (at len : ℕ) → more ≡ keys ++ key ∷ [] → ReadsFirst (drop at text) key len → keys_before more (keys_from (at + len) (written_in None (drop (at + len) text))) ≡ keys_before keys (keys_from at (written_in None (drop at text)))
keys_before-first keys more key text at len e first =
    ap (λ ks. keys_before ks (keys_from (at + len) (written_in None (drop (at + len) text)))) e
    ∙ ap (λ t. keys_before (keys ++ key ∷ []) (keys_from (at + len) (written_in None t))) (sym (drop-drop len at text))
    ∙ sym (keys_before-key_before keys key at (keys_from (at + len) (written_in None (drop len (drop at text)))))
    ∙ ap (keys_before keys) (sym (first at))
