-- Each key that is read has a spelling.
use Rattle.std.proofs.Common.{◌≡◌, ℕ, ◌+◌, ◌-◌, ◌≤◌, ◌==◌, ◌&&◌, ◌||◌, List, [], ◌∷◌, Bool, true, false, cond, Option, Some, None, Result, Ok, Err, refl, subst, arith}
use Rattle.std.specs.Prelude.{nat_le, option_and_then, option_map, find}
use Rattle.std.specs.Char.{is_control}
use Rattle.std.specs.List.{list_all, AllPass}
use Rattle.std.proofs.lemmas.Bool.{leb-true, le-leb, lt-leb, and_from, and_left, and_right, or_from, or_parts, and_parts}
use Rattle.std.proofs.lemmas.Option.{none-some}
use Rattle.std.proofs.lemmas.List.Sums.{AllPass-from_list_all}
use Rattle.key_names.specs.declared.key.Base.{Base}
use Rattle.key_names.specs.declared.key.Base.TheVariants.{Char, Ret, Tab, F}
use Rattle.key_names.specs.declared.key.Key.{Key}
use Rattle.key_names.specs.declared.reading.Modifiers.{Modifiers}
use Rattle.key_names.specs.Names.{base_name, base_of, base_named, function_number, named_bases, is_name}
use Rattle.key_names.specs.Reading.{WrittenKey, plain, bracketed, unclosed, keys_from, key_of, key_before, bare, key_under, modified_key, none_held, is_modifier, is_held, held_with, written_in, written_length, read_text}
use Rattle.key_names.specs.Printing.{is_base_spelled, has_spelling}

-- a choice that gave something
some_of_cond : {A : Type 0} (b : Bool) (o : Option A) (x : A) → cond b None o ≡ Some x → (b ≡ false) × (o ≡ Some x)
some_of_cond true o x h = absurd (none-some x h)
some_of_cond false o x h = (refl, h)

some_of_test : {A : Type 0} (b : Bool) (o : Option A) (x : A) → cond b o None ≡ Some x → (b ≡ true) × (o ≡ Some x)
some_of_test true o x h = (refl, h)
some_of_test false o x h = absurd (none-some x h)

spelled_if_same : (shift : Bool) (b d : Base) → Some b ≡ Some d → is_base_spelled shift b ≡ true → is_base_spelled shift d ≡ true
spelled_if_same shift b d e h = let same : b ≡ d = cc in subst (λ (x : Base). is_base_spelled shift x ≡ true) same h

-- what is found in a list passes what all of it pass
find_step : (here : Bool) (q : Base → Bool) (x b : Base) (found : Option Base) → q x ≡ true → (found ≡ Some b → q b ≡ true) → cond here (Some x) found ≡ Some b → q b ≡ true
find_step true q x b found first rest h = let same : x ≡ b = cc in subst (λ (y : Base). q y ≡ true) same first
find_step false q x b found first rest h = rest h

find_passes : (p q : Base → Bool) (bs : List Base) (b : Base) → list_all q bs ≡ true → find p bs ≡ Some b → q b ≡ true
find_passes p q [] b all h = absurd (none-some b h)
find_passes p q (x ∷ xs) b all h =
    let parts = and_parts (q x) (list_all q xs) all in
    find_step (p x) q x b (find p xs) parts.0 (find_passes p q xs b parts.1) h

-- a function key's number is one of 1 to 12
number_spelled : (digits : List ℕ) (n : ℕ) → function_number digits ≡ Some n → (nat_le 1 n && nat_le n 12) ≡ true
number_spelled [] n h = absurd (none-some n h)
number_spelled (d ∷ []) n h =
    let r = some_of_test (nat_le 49 d && nat_le d 57) (Some (d - 48)) n h in
    let bounds = and_parts (nat_le 49 d) (nat_le d 57) r.0 in
    let low : 49 ≤ d = leb-true 49 d bounds.0 in
    let high : d ≤ 57 = leb-true d 57 bounds.1 in
    let value : d - 48 ≡ n = let e = r.1 in cc in
    and_from (nat_le 1 n) (nat_le n 12) (le-leb 1 n (omega arith)) (le-leb n 12 (omega arith))
number_spelled (t ∷ d ∷ []) n h =
    let r = some_of_test (t == 49 && nat_le 48 d && nat_le d 50) (Some (d - 38)) n h in
    let bounds = and_parts (t == 49 && nat_le 48 d) (nat_le d 50) r.0 in
    let low : 48 ≤ d = leb-true 48 d (and_parts (t == 49) (nat_le 48 d) bounds.0).1 in
    let high : d ≤ 50 = leb-true d 50 bounds.1 in
    let value : d - 38 ≡ n = let e = r.1 in cc in
    and_from (nat_le 1 n) (nat_le n 12) (le-leb 1 n (omega arith)) (le-leb n 12 (omega arith))
number_spelled (t ∷ d ∷ c ∷ cs) n h = absurd (none-some n h)

-- a base that is read can be written without shift
function_base_spelled : (found : Option ℕ) (b : Base) → ((n : ℕ) → found ≡ Some n → (nat_le 1 n && nat_le n 12) ≡ true) → option_map F found ≡ Some b → is_base_spelled false b ≡ true
function_base_spelled None b h e = absurd (none-some b e)
function_base_spelled (Some n) b h e = spelled_if_same false (F n) b e (h n refl)

base_choice_spelled : (test : Bool) (digits : List ℕ) (text : List ℕ) (b : Base) → cond test (option_map F (function_number digits)) (base_named text) ≡ Some b → is_base_spelled false b ≡ true
base_choice_spelled true digits text b h = function_base_spelled (function_number digits) b (number_spelled digits) h
base_choice_spelled false digits text b h = find_passes (λ base. is_name text (base_name base)) (is_base_spelled false) named_bases b refl h

base_spelled : (text : List ℕ) (b : Base) → base_of text ≡ Some b → is_base_spelled false b ≡ true
base_spelled [] b h = absurd (none-some b h)
base_spelled (c ∷ []) b h =
    let r = some_of_cond (c == 60 || c == 62 || is_control c) (Some (Char c)) b h in
    let control = (or_parts (c == 60 || c == 62) (is_control c) r.0).1 in
    spelled_if_same false (Char c) b r.1 (rw control refl)
base_spelled (c ∷ d ∷ cs) b h = base_choice_spelled (c == 70 || c == 102) (d ∷ cs) (c ∷ d ∷ cs) b h

-- a capital is no control character
capital_spelled : (c : ℕ) → 97 ≤ c → c ≤ 122 → is_control (c - 32) ≡ false
capital_spelled c low high =
    or_from (nat_le 0 (c - 32) && nat_le (c - 32) 31) (nat_le 127 (c - 32) && nat_le (c - 32) 159)
    (and_right (nat_le 0 (c - 32)) (nat_le (c - 32) 31) (lt-leb (c - 32) 31 (omega arith)))
    (and_left (nat_le 127 (c - 32)) (nat_le (c - 32) 159) (lt-leb 127 (c - 32) (omega arith)))

key_if_same : (k l : Key) → Some k ≡ Some l → has_spelling k ≡ true → has_spelling l ≡ true
key_if_same k l e h = let same : k ≡ l = cc in subst (λ (x : Key). has_spelling x ≡ true) same h

character_spelled : (control alt shift : Bool) (c : ℕ) (key : Key) → is_base_spelled false (Char c) ≡ true → key_under (record { control = control; alt = alt; shift = shift }) (Char c) ≡ Some key → has_spelling key ≡ true
character_spelled control alt false c key b h = key_if_same (record { control = control; alt = alt; shift = false; base = Char c }) key h b
character_spelled control alt true c key b h =
    let r = some_of_test (nat_le 97 c && nat_le c 122) (Some (record { control = control; alt = alt; shift = false; base = Char (c - 32) })) key h in
    let bounds = and_parts (nat_le 97 c) (nat_le c 122) r.0 in
    let plain_capital : is_control (c - 32) ≡ false = capital_spelled c (leb-true 97 c bounds.0) (leb-true c 122 bounds.1) in
    key_if_same (record { control = control; alt = alt; shift = false; base = Char (c - 32) }) key r.1 (rw plain_capital refl)

key_under_spelled : (held : Modifiers) (b : Base) (key : Key) → is_base_spelled false b ≡ true → key_under held b ≡ Some key → has_spelling key ≡ true
key_under_spelled held (Char c) key b h = character_spelled held.control held.alt held.shift c key b h
key_under_spelled held (F n) key b h = key_if_same (record { control = held.control; alt = held.alt; shift = held.shift; base = F n }) key h b
key_under_spelled held base key b h = key_if_same (record { control = held.control; alt = held.alt; shift = held.shift; base = base }) key h refl

both_spelled : (held : Modifiers) (found : Option Base) (key : Key) → ((b : Base) → found ≡ Some b → is_base_spelled false b ≡ true) → option_and_then (key_under held) found ≡ Some key → has_spelling key ≡ true
both_spelled held None key f h = absurd (none-some key h)
both_spelled held (Some b) key f h = key_under_spelled held b key (f b refl) h

modified_step : (modifier again : Bool) (held : Modifiers) (more : Option Key) (text : List ℕ) (key : Key) → (more ≡ Some key → has_spelling key ≡ true) → cond modifier (cond again None more) (option_and_then (key_under held) (base_of text)) ≡ Some key → has_spelling key ≡ true
modified_step true again held more text key rest h = rest (some_of_cond again more key h).1
modified_step false again held more text key rest h = both_spelled held (base_of text) key (base_spelled text) h

modified_spelled : (held : Modifiers) (text : List ℕ) (key : Key) → modified_key held text ≡ Some key → has_spelling key ≡ true
modified_spelled held [] key h = absurd (none-some key h)
modified_spelled held (c ∷ []) key h = both_spelled held (base_of (c ∷ [])) key (base_spelled (c ∷ [])) h
modified_spelled held (c ∷ d ∷ cs) key h =
    modified_step (d == 45 && is_modifier c) (is_held held c) held (modified_key (held_with held c) cs) (c ∷ d ∷ cs) key (modified_spelled (held_with held c) cs key) h

plain_step : (newline tab control : Bool) (c : ℕ) (key : Key) → is_control c ≡ control → cond newline (Some (bare Ret)) (cond tab (Some (bare Tab)) (cond control None (Some (bare (Char c))))) ≡ Some key → has_spelling key ≡ true
plain_step true tab control c key e h = key_if_same (bare Ret) key h refl
plain_step false true control c key e h = key_if_same (bare Tab) key h refl
plain_step false false true c key e h = absurd (none-some key h)
plain_step false false false c key e h = key_if_same (bare (Char c)) key h (rw e refl)

key_spelled : (w : WrittenKey) (key : Key) → key_of w ≡ Some key → has_spelling key ≡ true
key_spelled (plain c) key h = plain_step (c == 10) (c == 9) (is_control c) c key refl h
key_spelled (bracketed inner) key h = modified_spelled none_held inner key h
key_spelled unclosed key h = absurd (none-some key h)

err_is_no_ok : (at : ℕ) (keys : List Key) → Err at ≡ Ok keys → ⊥
err_is_no_ok at keys h = cc

all_step : (found : Option Key) (at : ℕ) (others : Result (List Key) ℕ) (keys : List Key) → ((key : Key) → found ≡ Some key → has_spelling key ≡ true) → ((more : List Key) → others ≡ Ok more → list_all has_spelling more ≡ true) → key_before found at others ≡ Ok keys → list_all has_spelling keys ≡ true
all_step None at others keys one more h = absurd (err_is_no_ok at keys h)
all_step (Some key) at (Err place) keys one more h = absurd (err_is_no_ok place keys h)
all_step (Some key) at (Ok rest) keys one more h =
    let same : key ∷ rest ≡ keys = cc in
    subst (λ (ks : List Key). list_all has_spelling ks ≡ true) same (and_from (has_spelling key) (list_all has_spelling rest) (one key refl) (more rest refl))

-- each key of a reading
pub keys_spelled : (ws : List WrittenKey) (at : ℕ) (keys : List Key) → keys_from at ws ≡ Ok keys → list_all has_spelling keys ≡ true
keys_spelled [] at keys h = let same : [] ≡ keys = cc in subst (λ (ks : List Key). list_all has_spelling ks ≡ true) same refl
keys_spelled (w ∷ ws) at keys h =
    all_step (key_of w) at (keys_from (at + written_length w) ws) keys (key_spelled w) (keys_spelled ws (at + written_length w)) h

pub all_spelled : (text : List ℕ) (keys : List Key) → read_text text ≡ Ok keys → AllPass has_spelling keys
all_spelled text keys h = AllPass-from_list_all has_spelling keys (keys_spelled (written_in None text) 0 keys h)
