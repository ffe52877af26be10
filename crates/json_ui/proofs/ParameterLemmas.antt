-- Parameters that are all strings, one after another.
use Rattle.std.proofs.Common.{◌≡◌, ℕ, zero, suc, ◌+◌, ◌<◌, ◌≤◌, List, [], ◌∷◌, ◌++◌, Bool, true, false, cond, ◌&&◌, length, drop, get_or, Option, Some, None, Result, Ok, Err, refl, sym, ap, ◌∙◌, append_assoc, append-nil, add-one, arith}
use Rattle.std.specs.Prelude.{is_some, is_ok, unwrap_or, option_map, option_and_then}
use Rattle.std.specs.List.{list_all}
use Rattle.std.specs.Str.{chars}
use Rattle.std.proofs.lemmas.Bool.{and_parts, false≢true, both_ways}
use Rattle.serde_json.specs.declared.value.Value.{Value}
use Rattle.serde_json.specs.View.{view, items_view}
use Rattle.std.specs.Str.{IsUtf8, is_utf8}
use Rattle.std.proofs.lemmas.Str.{IsUtf8-from_is_utf8}
use Rattle.serde_json.specs.Data.{Data}
use Rattle.serde_json.specs.Find.{as_str, as_array}
use Rattle.serde_json.specs.Events.{items_len}
use Rattle.serde_json.specs.Read.{read}
use Rattle.key_names.specs.declared.key.Key as key
use Rattle.key_names.specs.Reading.{read_text}
use Rattle.drawings.specs.declared.refusal.Refusal.TheVariants.{Parse, Params}
use Rattle.requests.specs.declared.request.LineError.{LineError}
use Rattle.requests.specs.declared.request.LineError.TheVariants.{Refused, NoMemory}
use Rattle.json_ui.specs.Requests.{item_texts, keys_then, keys_of_texts, keys_request, texts_request, texts_in, request_of, request_in}
use Rattle.requests.specs.Reading.{IsLineError}
use Rattle.json_ui.specs.Parameters.{texts_seen, IsParameterError}

abbrev is_string : Value → Bool
is_string v = is_some (as_str (view v))

both_some : (one : Option (List ℕ)) (more : Option (List (List ℕ))) → is_some one ≡ true → is_some more ≡ true → option_and_then (λ text. option_map (λ texts. text ∷ texts) more) one ≡ Some (unwrap_or one [] ∷ unwrap_or more [])
both_some None more h k = absurd (false≢true h)
both_some (Some t) None h k = absurd (false≢true k)
both_some (Some t) (Some ts) h k = refl

-- values that are all strings have texts
pub texts_of-strings : (vs : List Value) → list_all is_string vs ≡ true → item_texts (items_view vs) ≡ Some (texts_seen vs)
texts_of-strings [] h = refl
texts_of-strings (v ∷ vs) h =
    let parts = and_parts (is_string v) (list_all is_string vs) h in
    let rest = texts_of-strings vs parts.1 in
    let both = both_some (as_str (view v)) (item_texts (items_view vs)) parts.0 (ap is_some rest) in
    both ∙ ap (λ o. Some (unwrap_or o [])) (sym both)

-- the text of a value and those of the next ones
pub texts_seen-first : (v : Value) (vs : List Value) → list_all is_string (v ∷ vs) ≡ true → texts_seen (v ∷ vs) ≡ unwrap_or (as_str (view v)) [] ∷ texts_seen vs
texts_seen-first v vs h =
    let parts = and_parts (is_string v) (list_all is_string vs) h in
    ap (λ o. unwrap_or o []) (both_some (as_str (view v)) (item_texts (items_view vs)) parts.0 (ap is_some (texts_of-strings vs parts.1)))

not_all : (one : Option (List ℕ)) (more : Option (List (List ℕ))) (b : Bool) → is_some more ≡ b → is_some (option_and_then (λ text. option_map (λ texts. text ∷ texts) more) one) ≡ (is_some one && b)
not_all None more b h = refl
not_all (Some t) None b h = h
not_all (Some t) (Some ts) b h = h

pub is_some-texts_of : (vs : List Value) → is_some (item_texts (items_view vs)) ≡ list_all is_string vs
is_some-texts_of [] = refl
is_some-texts_of (v ∷ vs) = not_all (as_str (view v)) (item_texts (items_view vs)) (list_all is_string vs) (is_some-texts_of vs)

-- keys that were read before a reading
abbrev pub keys_before : List key.Key → Result (List key.Key) ℕ → Result (List key.Key) ℕ
keys_before keys (Ok more) = Ok (keys ++ more)
keys_before keys (Err k) = Err k

keys_before-keys_then : (keys more : List key.Key) (k : ℕ) (reading : Result (List key.Key) ℕ) → keys_before keys (keys_then (Ok more) k reading) ≡ keys_before (keys ++ more) reading
keys_before-keys_then keys more k (Ok rest) = ap Ok (sym (append_assoc keys more rest))
keys_before-keys_then keys more k (Err j) = refl

keys_then-bad : (reading : Result (List key.Key) ℕ) (k : ℕ) (more : Result (List key.Key) ℕ) → is_ok reading ≡ false → keys_then reading k more ≡ Err k
keys_then-bad (Ok keys) k more h = absurd (both_ways true h refl)
keys_then-bad (Err at) k more h = refl

-- the texts from an index on
texts_from : (vs : List Value) (i : ℕ) (d : Value) → list_all is_string vs ≡ true → i < length vs → drop i (texts_seen vs) ≡ unwrap_or (as_str (view (get_or vs i d))) [] ∷ drop (i + 1) (texts_seen vs)
texts_from [] i d h lt = absurd (omega arith)
texts_from (v ∷ vs) zero d h lt = texts_seen-first v vs h ∙ ap (λ ts. unwrap_or (as_str (view v)) [] ∷ ts) (sym (ap (drop 1) (texts_seen-first v vs h)))
texts_from (v ∷ vs) (suc i) d h lt =
    let parts = and_parts (is_string v) (list_all is_string vs) h in
    let inside : i < length vs = omega arith in
    ap (drop (suc i)) (texts_seen-first v vs h) ∙ texts_from vs i d parts.1 inside
    ∙ ap (λ ts. unwrap_or (as_str (view (get_or vs i d))) [] ∷ ts) (ap (λ n. drop n (texts_seen vs)) (add-one i) ∙ sym (ap (λ n. drop n (texts_seen (v ∷ vs))) (add-one (suc i)) ∙ ap (drop (suc (suc i))) (texts_seen-first v vs h)))

length-texts_seen : (vs : List Value) → list_all is_string vs ≡ true → length (texts_seen vs) ≡ length vs
length-texts_seen [] h = refl
length-texts_seen (v ∷ vs) h =
    let parts = and_parts (is_string v) (list_all is_string vs) h in
    ap length (texts_seen-first v vs h) ∙ ap suc (length-texts_seen vs parts.1)

text-is : (o : Option (List ℕ)) (text : List ℕ) → o ≡ Some text → unwrap_or o [] ≡ text
text-is o text h = ap (λ p. unwrap_or p []) h

-- one more parameter is read
pub keys_of_texts-more : (vs : List Value) (i : ℕ) (d : Value) (text : List ℕ) (keys more all : List key.Key) → list_all is_string vs ≡ true → i < length vs → as_str (view (get_or vs i d)) ≡ Some text → read_text (chars text) ≡ Ok more → all ≡ keys ++ more
    → keys_before all (keys_of_texts (i + 1) (drop (i + 1) (texts_seen vs))) ≡ keys_before keys (keys_of_texts i (drop i (texts_seen vs)))
keys_of_texts-more vs i d text keys more all h lt t r e =
    let rest = keys_of_texts (i + 1) (drop (i + 1) (texts_seen vs)) in
    ap (λ ks. keys_before ks rest) e
    ∙ sym (keys_before-keys_then keys more i rest)
    ∙ ap (λ reading. keys_before keys (keys_then reading i rest)) (sym r)
    ∙ ap (λ x. keys_before keys (keys_then (read_text (chars x)) i rest)) (sym (text-is _ text t))
    ∙ ap (λ ts. keys_before keys (keys_of_texts i ts)) (sym (texts_from vs i d h lt))

-- a parameter that is no key text
pub keys_of_texts-bad : (vs : List Value) (i : ℕ) (d : Value) (text : List ℕ) (keys : List key.Key) → list_all is_string vs ≡ true → i < length vs → as_str (view (get_or vs i d)) ≡ Some text → is_ok (read_text (chars text)) ≡ false
    → keys_before keys (keys_of_texts i (drop i (texts_seen vs))) ≡ Err i
keys_of_texts-bad vs i d text keys h lt t bad =
    ap (λ ts. keys_before keys (keys_of_texts i ts)) (texts_from vs i d h lt)
    ∙ ap (λ x. keys_before keys (keys_then (read_text (chars x)) i (keys_of_texts (i + 1) (drop (i + 1) (texts_seen vs))))) (text-is _ text t)
    ∙ ap (keys_before keys) (keys_then-bad (read_text (chars text)) i (keys_of_texts (i + 1) (drop (i + 1) (texts_seen vs))) bad)

drop-all : {A : Type 0} (xs : List A) (n : ℕ) → length xs ≤ n → drop n xs ≡ []
drop-all [] zero h = refl
drop-all [] (suc n) h = refl
drop-all (x ∷ xs) zero h = absurd (omega arith)
drop-all (x ∷ xs) (suc n) h = drop-all xs n (omega arith)

-- all of them were read
pub keys_of_texts-end : (vs : List Value) (i : ℕ) (keys : List key.Key) → list_all is_string vs ≡ true → length vs ≤ i → keys_before keys (keys_of_texts i (drop i (texts_seen vs))) ≡ Ok keys
keys_of_texts-end vs i keys h le =
    ap (λ ts. keys_before keys (keys_of_texts i ts)) (drop-all (texts_seen vs) i (omega (arith, length-texts_seen vs h))) ∙ ap Ok (append-nil keys)

-- the error of a parameter is that of the line
pub line-error : (e : LineError) (k : ℕ) (reading all : Result (List key.Key) ℕ) → IsParameterError e k reading → (is_ok reading ≡ false → all ≡ Err k) → IsLineError e (keys_request all)
line-error (Refused refusal) k reading all h bad = ap keys_request (bad h.1) ∙ ap Err (sym h.0)
line-error NoMemory k reading all h bad = tt

no_texts : (o : Option (List (List ℕ))) → is_some o ≡ false → o ≡ None
no_texts None h = refl
no_texts (Some ts) h = absurd (both_ways true h refl)

-- where one of the values is no string the parameters don't fit
pub texts_request-none : (vs : List Value) → list_all is_string vs ≡ false → texts_request (item_texts (items_view vs)) ≡ Err Params
texts_request-none vs h = ap texts_request (no_texts (item_texts (items_view vs)) (is_some-texts_of vs ∙ h))

-- else they are those of the texts
pub texts_request-strings : (vs : List Value) → list_all is_string vs ≡ true → texts_request (item_texts (items_view vs)) ≡ keys_request (keys_of_texts 0 (texts_seen vs))
texts_request-strings vs h = ap texts_request (texts_of-strings vs h)

-- the parameters of an array are its items
pub texts_in-array : (o : Option Data) (p : Data) (vs : List Value) → o ≡ Some p → as_array p ≡ Some (items_view vs) → texts_in o ≡ item_texts (items_view vs)
texts_in-array o p vs e h = ap texts_in e ∙ ap (option_and_then item_texts) h

pub length-items_view : (vs : List Value) → items_len (items_view vs) ≡ length vs
length-items_view [] = refl
length-items_view (v ∷ vs) = ap suc (length-items_view vs)

refused_by : (o : Option Data) (b : Bool) → (b ≡ true → o ≡ None) → cond b (request_of o) (Err Parse) ≡ Err Parse
refused_by o true h = ap request_of (h refl)
refused_by o false h = refl

-- a line in which no value was read
pub request_in-none : (line : List ℕ) → (IsUtf8 line → read line ≡ None) → request_in line ≡ Err Parse
request_in-none line h = refused_by (read line) (is_utf8 line) (λ e. h (IsUtf8-from_is_utf8 line e))
