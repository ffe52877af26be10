-- A key's spelling is read as that key, and what is read has a spelling.
use Rattle.std.proofs.Common.{◌≡◌, ℕ, ◌≤◌, ◌==◌, eqb, ◌&&◌, ◌||◌, not, List, [], ◌∷◌, ◌++◌, Bool, true, false, cond, Option, Some, None, Ok, refl, ap, sym, subst, ◌∙◌, append_assoc, append-nil, encode_utf8_all, arith}
use Rattle.std.specs.Prelude.{nat_le, option_and_then, unwrap_or, is_none}
use Rattle.std.specs.Char.{is_control}
use Rattle.std.specs.Str.{chars, IsUtf8}
use Rattle.std.proofs.lemmas.Str.{chars_from_encodes}
use Rattle.std.specs.Fmt.{digits}
use Rattle.std.specs.List.{list_any}
use Rattle.std.proofs.lemmas.Bool.{eqb-true, eqb-false, leb-true, not-true, or_parts, and_parts, both_ways, false≢true}
use Rattle.std.proofs.lemmas.List.Folds.{list_any-append}
use Rattle.key_names.specs.declared.key.Base.{Base}
use Rattle.key_names.specs.declared.key.Base.TheVariants.{Char, Ret, Tab, Esc, Backspace, Del, Up, Down, Left, Right, Home, End, PageUp, PageDown, F}
use Rattle.key_names.specs.declared.key.Key.{Key}
use Rattle.key_names.specs.declared.reading.Modifiers.{Modifiers}
use Rattle.key_names.specs.Names.{character_name, base_of}
use Rattle.key_names.specs.Reading.{bracketed, written_in, keys_from, key_before, bare, key_under, modified_key, none_held, begins_modified, read_text}
use Rattle.key_names.specs.Printing.{base_text, modifier_text, spelling, stands_alone, is_base_spelled, has_spelling}
use Rattle.key_names.proofs.ReadingLemmas.{modified_key-base}

-- a number is k, or it isn't
by_test : (c k : ℕ) (P : ℕ → Type 0) → P k → (eqb c k ≡ false → P c) → P c
by_test c k P here other =
    elim (eqb c k) as (λ b. eqb c k ≡ b → P c) [ true ↦ λ e. subst P (sym (eqb-true c k e)) here | false ↦ other ] refl

-- what is written for a base stays inside its brackets, begins with no modifier and is read as the base
pub record IsRead (base : Base) : Type 0 where
  pub inside : list_any (λ c. c == 62) (base_text base) ≡ false
  pub no_modifier : begins_modified (base_text base) ≡ false
  pub back : base_of (base_text base) ≡ Some base

-- a character that is written as itself
plain_name : (c : ℕ) → eqb c 32 ≡ false → eqb c 60 ≡ false → eqb c 62 ≡ false → eqb c 43 ≡ false → eqb c 45 ≡ false → eqb c 59 ≡ false → eqb c 37 ≡ false → eqb c 39 ≡ false → eqb c 34 ≡ false → character_name c ≡ None
plain_name c a b d e f g h i j = rw (a, b, d, e, f, g, h, i, j) refl

read_character : (c : ℕ) → is_control c ≡ false → IsRead (Char c)
read_character c =
    let P : ℕ → Type 0 = λ k. is_control k ≡ false → IsRead (Char k) in
    let named : (k : ℕ) → IsRead (Char k) → P k = λ k r _. r in
    by_test c 32 P (λ _. record { inside = refl; no_modifier = refl; back = refl }) (λ a.
    by_test c 60 P (λ _. record { inside = refl; no_modifier = refl; back = refl }) (λ b.
    by_test c 62 P (λ _. record { inside = refl; no_modifier = refl; back = refl }) (λ d.
    by_test c 43 P (λ _. record { inside = refl; no_modifier = refl; back = refl }) (λ e.
    by_test c 45 P (λ _. record { inside = refl; no_modifier = refl; back = refl }) (λ f.
    by_test c 59 P (λ _. record { inside = refl; no_modifier = refl; back = refl }) (λ g.
    by_test c 37 P (λ _. record { inside = refl; no_modifier = refl; back = refl }) (λ h.
    by_test c 39 P (λ _. record { inside = refl; no_modifier = refl; back = refl }) (λ i.
    by_test c 34 P (λ _. record { inside = refl; no_modifier = refl; back = refl }) (λ j.
    λ control.
    let itself : base_text (Char c) ≡ c ∷ [] = ap (λ n. unwrap_or n (c ∷ [])) (plain_name c a b d e f g h i j) in
    record {
      inside = ap (list_any (λ x. x == 62)) itself ∙ ap (λ v. v || false) d;
      no_modifier = ap begins_modified itself;
      back = ap base_of itself ∙ rw (b, d, control) refl;
    })))))))))

read_function_key : (n : ℕ) → (nat_le 1 n && nat_le n 12) ≡ true → IsRead (F n)
unfolding digits
read_function_key n =
    let P : ℕ → Type 0 = λ k. (nat_le 1 k && nat_le k 12) ≡ true → IsRead (F k) in
    by_test n 1 P (λ _. record { inside = refl; no_modifier = refl; back = refl }) (λ a.
    by_test n 2 P (λ _. record { inside = refl; no_modifier = refl; back = refl }) (λ b.
    by_test n 3 P (λ _. record { inside = refl; no_modifier = refl; back = refl }) (λ d.
    by_test n 4 P (λ _. record { inside = refl; no_modifier = refl; back = refl }) (λ e.
    by_test n 5 P (λ _. record { inside = refl; no_modifier = refl; back = refl }) (λ f.
    by_test n 6 P (λ _. record { inside = refl; no_modifier = refl; back = refl }) (λ g.
    by_test n 7 P (λ _. record { inside = refl; no_modifier = refl; back = refl }) (λ h.
    by_test n 8 P (λ _. record { inside = refl; no_modifier = refl; back = refl }) (λ i.
    by_test n 9 P (λ _. record { inside = refl; no_modifier = refl; back = refl }) (λ j.
    by_test n 10 P (λ _. record { inside = refl; no_modifier = refl; back = refl }) (λ k.
    by_test n 11 P (λ _. record { inside = refl; no_modifier = refl; back = refl }) (λ l.
    by_test n 12 P (λ _. record { inside = refl; no_modifier = refl; back = refl }) (λ m.
    λ within.
    let bounds = and_parts (nat_le 1 n) (nat_le n 12) within in
    let low : 1 ≤ n = leb-true 1 n bounds.0 in
    let high : n ≤ 12 = leb-true n 12 bounds.1 in
    absurd (omega (arith, eqb-false n 1 a, eqb-false n 2 b, eqb-false n 3 d, eqb-false n 4 e, eqb-false n 5 f, eqb-false n 6 g, eqb-false n 7 h, eqb-false n 8 i, eqb-false n 9 j, eqb-false n 10 k, eqb-false n 11 l, eqb-false n 12 m))))))))))))))

read_base : (shift : Bool) (base : Base) → is_base_spelled shift base ≡ true → IsRead base
read_base shift (Char c) h = read_character c (not-true (is_control c) (and_parts (not (is_control c)) (not shift) h).0)
read_base shift (F n) h = read_function_key n h
read_base shift Ret h = record { inside = refl; no_modifier = refl; back = refl }
read_base shift Tab h = record { inside = refl; no_modifier = refl; back = refl }
read_base shift Esc h = record { inside = refl; no_modifier = refl; back = refl }
read_base shift Backspace h = record { inside = refl; no_modifier = refl; back = refl }
read_base shift Del h = record { inside = refl; no_modifier = refl; back = refl }
read_base shift Up h = record { inside = refl; no_modifier = refl; back = refl }
read_base shift Down h = record { inside = refl; no_modifier = refl; back = refl }
read_base shift Left h = record { inside = refl; no_modifier = refl; back = refl }
read_base shift Right h = record { inside = refl; no_modifier = refl; back = refl }
read_base shift Home h = record { inside = refl; no_modifier = refl; back = refl }
read_base shift End h = record { inside = refl; no_modifier = refl; back = refl }
read_base shift PageUp h = record { inside = refl; no_modifier = refl; back = refl }
read_base shift PageDown h = record { inside = refl; no_modifier = refl; back = refl }

-- the modifiers that a key holds
abbrev held_of : Key → Modifiers
held_of key = record { control = key.control; alt = key.alt; shift = key.shift }

-- a base with that shift is a key of its own
key_under-spelled : (control alt shift : Bool) (base : Base) → is_base_spelled shift base ≡ true → key_under (record { control = control; alt = alt; shift = shift }) base ≡ Some (record { control = control; alt = alt; shift = shift; base = base })
key_under-spelled control alt true (Char c) h = absurd (false≢true (and_parts (not (is_control c)) false h).1)
key_under-spelled control alt false (Char c) h = refl
key_under-spelled control alt shift (F n) h = refl
key_under-spelled control alt shift Ret h = refl
key_under-spelled control alt shift Tab h = refl
key_under-spelled control alt shift Esc h = refl
key_under-spelled control alt shift Backspace h = refl
key_under-spelled control alt shift Del h = refl
key_under-spelled control alt shift Up h = refl
key_under-spelled control alt shift Down h = refl
key_under-spelled control alt shift Left h = refl
key_under-spelled control alt shift Right h = refl
key_under-spelled control alt shift Home h = refl
key_under-spelled control alt shift End h = refl
key_under-spelled control alt shift PageUp h = refl
key_under-spelled control alt shift PageDown h = refl

-- the modifiers are read one after another
modified_key-modifiers : (control alt shift : Bool) (base : Base) (text : List ℕ) → modified_key none_held (modifier_text (record { control = control; alt = alt; shift = shift; base = base }) ++ text) ≡ modified_key (record { control = control; alt = alt; shift = shift }) text
modified_key-modifiers true true true base text = refl
modified_key-modifiers true true false base text = refl
modified_key-modifiers true false true base text = refl
modified_key-modifiers true false false base text = refl
modified_key-modifiers false true true base text = refl
modified_key-modifiers false true false base text = refl
modified_key-modifiers false false true base text = refl
modified_key-modifiers false false false base text = refl

-- no modifier has a bracket
modifiers_inside : (control alt shift : Bool) (base : Base) → list_any (λ c. c == 62) (modifier_text (record { control = control; alt = alt; shift = shift; base = base })) ≡ false
modifiers_inside true true true base = refl
modifiers_inside true true false base = refl
modifiers_inside true false true base = refl
modifiers_inside true false false base = refl
modifiers_inside false true true base = refl
modifiers_inside false true false base = refl
modifiers_inside false false true base = refl
modifiers_inside false false false base = refl

-- what stands between brackets is written as one key
written_in-inside : (xs inner : List ℕ) → list_any (λ c. c == 62) xs ≡ false → written_in (Some inner) (xs ++ 62 ∷ []) ≡ bracketed (inner ++ xs) ∷ []
written_in-inside [] inner h = ap (λ v. bracketed v ∷ []) (sym (append-nil inner))
written_in-inside (x ∷ xs) inner h =
    let parts = or_parts (x == 62) (list_any (λ c. c == 62) xs) h in
    ap (λ b. cond b (bracketed inner ∷ written_in None (xs ++ 62 ∷ [])) (written_in (Some (inner ++ x ∷ [])) (xs ++ 62 ∷ []))) parts.0
    ∙ written_in-inside xs (inner ++ x ∷ []) parts.1
    ∙ ap (λ v. bracketed v ∷ []) (append_assoc inner (x ∷ []) xs)

-- a key in brackets is read as that key
read_text-bracketed : (key : Key) → has_spelling key ≡ true → read_text (60 ∷ (modifier_text key ++ base_text key.base) ++ 62 ∷ []) ≡ Ok (key ∷ [])
read_text-bracketed key h =
    let r = read_base key.shift key.base h in
    let inside : list_any (λ c. c == 62) (modifier_text key ++ base_text key.base) ≡ false =
    list_any-append (λ c. c == 62) (modifier_text key) (base_text key.base) ∙ ap (λ b. b || list_any (λ c. c == 62) (base_text key.base)) (modifiers_inside key.control key.alt key.shift key.base) ∙ r.inside in
    let meant : modified_key none_held (modifier_text key ++ base_text key.base) ≡ Some key =
    modified_key-modifiers key.control key.alt key.shift key.base (base_text key.base)
    ∙ modified_key-base (held_of key) (base_text key.base) r.no_modifier
    ∙ ap (option_and_then (key_under (held_of key))) r.back
    ∙ key_under-spelled key.control key.alt key.shift key.base h in
    ap (keys_from 0) (written_in-inside (modifier_text key ++ base_text key.base) [] inside)
    ∙ ap (λ k. key_before k 0 (Ok [])) meant

none-is : {A : Type 0} (o : Option A) → is_none o ≡ true → o ≡ None
none-is None h = refl
none-is (Some x) h = absurd (false≢true h)

-- a character that stands alone is read as itself
read_text-alone : (c : ℕ) → is_control c ≡ false → is_none (character_name c) ≡ true → read_text (c ∷ []) ≡ Ok (bare (Char c) ∷ [])
read_text-alone c =
    let P : ℕ → Type 0 = λ k. is_control k ≡ false → is_none (character_name k) ≡ true → read_text (k ∷ []) ≡ Ok (bare (Char k) ∷ []) in
    by_test c 10 P (λ control _. absurd (both_ways true control refl)) (λ a.
    by_test c 9 P (λ control _. absurd (both_ways true control refl)) (λ b.
    by_test c 60 P (λ _ unnamed. absurd (both_ways false refl unnamed)) (λ d.
    λ control _. rw (d, a, b, control) refl)))

read_alone : (control alt shift : Bool) (base : Base) → stands_alone (record { control = control; alt = alt; shift = shift; base = base }) ≡ true → is_base_spelled shift base ≡ true → read_text (base_text base) ≡ Ok (record { control = control; alt = alt; shift = shift; base = base } ∷ [])
read_alone false false false (Char c) alone h =
    let unnamed = (and_parts (is_none (character_name c)) true alone).0 in
    let control = not-true (is_control c) (and_parts (not (is_control c)) true h).0 in
    ap (λ n. read_text (unwrap_or n (c ∷ []))) (none-is (character_name c) unnamed) ∙ read_text-alone c control unnamed
read_alone true alt shift (Char c) alone h = absurd (false≢true (and_parts (is_none (character_name c)) false alone).1)
read_alone false true shift (Char c) alone h = absurd (false≢true (and_parts (is_none (character_name c)) false alone).1)
read_alone false false true (Char c) alone h = absurd (false≢true (and_parts (is_none (character_name c)) false alone).1)
read_alone control alt shift (F n) alone h = absurd (false≢true alone)
read_alone control alt shift Ret alone h = absurd (false≢true alone)
read_alone control alt shift Tab alone h = absurd (false≢true alone)
read_alone control alt shift Esc alone h = absurd (false≢true alone)
read_alone control alt shift Backspace alone h = absurd (false≢true alone)
read_alone control alt shift Del alone h = absurd (false≢true alone)
read_alone control alt shift Up alone h = absurd (false≢true alone)
read_alone control alt shift Down alone h = absurd (false≢true alone)
read_alone control alt shift Left alone h = absurd (false≢true alone)
read_alone control alt shift Right alone h = absurd (false≢true alone)
read_alone control alt shift Home alone h = absurd (false≢true alone)
read_alone control alt shift End alone h = absurd (false≢true alone)
read_alone control alt shift PageUp alone h = absurd (false≢true alone)
read_alone control alt shift PageDown alone h = absurd (false≢true alone)

-- a key is read from its spelling; the choice is that of `spelling`
read_text-chosen : (key : Key) (alone : Bool) → stands_alone key ≡ alone → has_spelling key ≡ true → read_text (cond alone (base_text key.base) (60 ∷ (modifier_text key ++ base_text key.base) ++ 62 ∷ [])) ≡ Ok (key ∷ [])
read_text-chosen key false e h = read_text-bracketed key h
read_text-chosen key true e h = read_alone key.control key.alt key.shift key.base e h

pub read_text-spelling : (key : Key) → has_spelling key ≡ true → read_text (spelling key) ≡ Ok (key ∷ [])
read_text-spelling key h = read_text-chosen key (stands_alone key) refl h

-- the bytes of a spelling are read as the key
pub read_text-chars : (key : Key) (bs : List ℕ) → IsUtf8 bs → bs ≡ encode_utf8_all (spelling key) → has_spelling key ≡ true → read_text (chars bs) ≡ Ok (key ∷ [])
read_text-chars key bs u e h = ap read_text (sym (chars_from_encodes (spelling key) bs u (sym e))) ∙ read_text-spelling key h
