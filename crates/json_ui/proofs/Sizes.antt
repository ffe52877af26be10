-- A value that was read has no more parts than its text has bytes, and one.
use Rattle.std.proofs.Common.{◌≡◌, ℕ, zero, suc, ◌+◌, ◌≤◌, List, [], ◌∷◌, length, Bool, true, false, Option, Some, None, Ordering, Less, Equal, Greater, refl, ap, subst, arith}
use Rattle.std.specs.Prelude.{⊤, option_map, option_and_then}
use Rattle.std.specs.Ordering.{match_ordering, nat_cmp}
use Rattle.std.specs.Cmp.Lexicographic.{slice_cmp}
use Rattle.std.proofs.lemmas.Option.{none-some}
use Rattle.json.specs.Token.{Token}
use Rattle.json.specs.Lex as lex
use Rattle.json.specs.Json as json
use Rattle.json.specs.Json.{Json, Parse, parse_map, after_end_array, read_key, items_step, members_step, items, members, value_with, value}
use Rattle.serde_json.specs.Data.{Data, null, boolean, number, string, array, object, Items, no_items, item, Members, no_members, member, put}
use Rattle.serde_json.specs.Find.{get, get_member, as_array}
use Rattle.serde_json.specs.Events.{items_len}
use Rattle.serde_json.specs.Read.{number_of, of_json, of_items, of_members, max_depth, read}

-- how many parts a value has, itself counted
abbrev mutual
  pub json_size : Json → ℕ
  json_size json.null = 1
  json_size (json.boolean b) = 1
  json_size (json.number s) = 1
  json_size (json.string s) = 1
  json_size (json.array js) = suc (json_items_size js)
  json_size (json.object ms) = suc (json_members_size ms)

  pub json_items_size : json.Items → ℕ
  json_items_size json.no_items = 0
  json_items_size (json.item j js) = json_size j + json_items_size js

  pub json_members_size : json.Members → ℕ
  json_members_size json.no_members = 0
  json_members_size (json.member k j ms) = json_size j + json_members_size ms

abbrev mutual
  pub size : Data → ℕ
  size null = 1
  size (boolean b) = 1
  size (number n) = 1
  size (string s) = 1
  size (array ds) = suc (items_size ds)
  size (object ms) = suc (members_size ms)

  pub items_size : Items → ℕ
  items_size no_items = 0
  items_size (item d ds) = size d + items_size ds

  pub members_size : Members → ℕ
  members_size no_members = 0
  members_size (member k d ms) = size d + members_size ms

-- ---- what is read takes a token for each part

abbrev Spends : {A : Type 0} → (A → ℕ) → List Token → Option (A × List Token) → Type 0
Spends f ts None = ⊤
Spends f ts (Some q) = f q.0 + length q.1 ≤ length ts

mapped : {A B : Type 0} (f : A → ℕ) (g : B → ℕ) (h : A → B) (k : ℕ) (ts us : List Token) → ((a : A) → g (h a) ≡ k + f a) → k + length us ≤ length ts → (o : Option (A × List Token)) → Spends f us o → Spends g ts (parse_map h o)
mapped f g h k ts us is le None x = tt
mapped f g h k ts us is le (Some q) x = omega (arith, is q.0)

and_more : {B : Type 0} (g : B → ℕ) (h : Json → B → B) → ((j : Json) (b : B) → g (h j b) ≡ json_size j + g b) → (more : Parse B) → ((us : List Token) → Spends g us (more us)) → (ts : List Token) (o : Option (Json × List Token)) → Spends json_size ts o → Spends g ts (option_and_then (λ q. parse_map (h q.0) (more q.1)) o)
and_more g h is more each ts None x = tt
and_more g h is more each ts (Some q) x = mapped g g (h q.0) (json_size q.0) ts q.1 (is q.0) x (more q.1) (each q.1)

abbrev Shorter : {A : Type 0} → (A → List Token) → List Token → Option A → Type 0
Shorter rest ts None = ⊤
Shorter rest ts (Some a) = length (rest a) + 1 ≤ length ts

shorter-after_end_array : (ts : List Token) → Shorter (λ r. r) ts (after_end_array ts)
shorter-after_end_array [] = tt
shorter-after_end_array (Token.end_array ∷ ts) = omega arith
shorter-after_end_array (t ∷ ts) = tt

shorter-read_key : (ts : List Token) → Shorter (λ q. q.1) ts (read_key ts)
shorter-read_key [] = tt
shorter-read_key (Token.end_object ∷ ts) = omega arith
shorter-read_key (Token.key s ∷ ts) = omega arith
shorter-read_key (t ∷ ts) = tt

module _ (p : Parse Json) (each : (ts : List Token) → Spends json_size ts (p ts)) where
  item_turn : (more : Parse json.Items) → ((us : List Token) → Spends json_items_size us (more us)) → (ts : List Token) (o : Option (List Token)) → Shorter (λ r. r) ts o → Spends json_items_size ts (items_step p more ts o)
  item_turn more again ts (Some r) h = omega arith
  item_turn more again ts None h = and_more json_items_size json.item (λ j b. refl) more again ts (p ts) (each ts)

  spends-items : (n : ℕ) (ts : List Token) → Spends json_items_size ts (items p n ts)
  unfolding items
  spends-items zero ts = tt
  spends-items (suc n) ts = item_turn (items p n) (spends-items n) ts (after_end_array ts) (shorter-after_end_array ts)

  longer : {B : Type 0} (g : B → ℕ) (us ts : List Token) (o : Option (B × List Token)) → length us ≤ length ts → Spends g us o → Spends g ts o
  longer g us ts None le x = tt
  longer g us ts (Some q) le x = omega arith

  member_turn : (more : Parse json.Members) → ((us : List Token) → Spends json_members_size us (more us)) → (ts : List Token) (o : Option (Option (List ℕ) × List Token)) → Shorter (λ q. q.1) ts o → Spends json_members_size ts (option_and_then (λ q. members_step p more q.0 q.1) o)
  member_turn more again ts None h = tt
  member_turn more again ts (Some (None, s)) h = omega arith
  member_turn more again ts (Some (Some k, s)) h = longer json_members_size s ts _ (omega arith) (and_more json_members_size (json.member k) (λ j b. refl) more again s (p s) (each s))

  spends-members : (n : ℕ) (ts : List Token) → Spends json_members_size ts (members p n ts)
  unfolding members
  spends-members zero ts = tt
  spends-members (suc n) ts = member_turn (members p n) (spends-members n) ts (read_key ts) (shorter-read_key ts)

one_level : (a : Parse json.Items) (o : Parse json.Members) → ((ts : List Token) → Spends json_items_size ts (a ts)) → ((ts : List Token) → Spends json_members_size ts (o ts)) → (ts : List Token) → Spends json_size ts (value_with a o ts)
one_level a o p q [] = tt
one_level a o p q (Token.begin_object ∷ ts) = mapped json_members_size json_size json.object 1 (Token.begin_object ∷ ts) ts (λ ms. omega arith) (omega arith) (o ts) (q ts)
one_level a o p q (Token.end_object ∷ ts) = tt
one_level a o p q (Token.begin_array ∷ ts) = mapped json_items_size json_size json.array 1 (Token.begin_array ∷ ts) ts (λ js. omega arith) (omega arith) (a ts) (p ts)
one_level a o p q (Token.end_array ∷ ts) = tt
one_level a o p q (Token.key s ∷ ts) = tt
one_level a o p q (Token.string s ∷ ts) = omega arith
one_level a o p q (Token.number s ∷ ts) = omega arith
one_level a o p q (Token.boolean b ∷ ts) = omega arith
one_level a o p q (Token.null ∷ ts) = omega arith
one_level a o p q (Token.bad ∷ ts) = tt

spends-value : (d : ℕ) (ts : List Token) → Spends json_size ts (value d ts)
unfolding value
spends-value zero ts = one_level (λ us. None) (λ us. None) (λ us. tt) (λ us. tt) ts
spends-value (suc d) ts =
    one_level (λ us. items (value d) (length us) us) (λ us. members (value d) (length us) us) (λ us. spends-items (value d) (spends-value d) (length us) us) (λ us. spends-members (value d) (spends-value d) (length us) us) ts

-- ---- the data of a value has no more parts

abbrev AtMost : {A : Type 0} → (A → ℕ) → ℕ → Option A → Type 0
AtMost f n None = ⊤
AtMost f n (Some a) = f a ≤ n

AtMost-map : {A B : Type 0} (f : A → ℕ) (g : B → ℕ) (m n : ℕ) (h : A → B) → ((a : A) → f a ≤ m → g (h a) ≤ n) → (o : Option A) → AtMost f m o → AtMost g n (option_map h o)
AtMost-map f g m n h k None x = tt
AtMost-map f g m n h k (Some a) x = k a x

AtMost-and_then : {A B : Type 0} (f : A → ℕ) (g : B → ℕ) (m n : ℕ) (h : A → Option B) → ((a : A) → f a ≤ m → AtMost g n (h a)) → (o : Option A) → AtMost f m o → AtMost g n (option_and_then h o)
AtMost-and_then f g m n h k None x = tt
AtMost-and_then f g m n h k (Some a) x = k a x

flat : {A : Type 0} (o : Option A) → AtMost (λ _. 0) 0 o
flat None = tt
flat (Some a) = omega arith

members_size-match_ordering : (o : Ordering) (a b c : Members) (n : ℕ) → members_size a ≤ n → members_size b ≤ n → members_size c ≤ n → members_size (match_ordering o a b c) ≤ n
members_size-match_ordering Less a b c n p q r = p
members_size-match_ordering Equal a b c n p q r = q
members_size-match_ordering Greater a b c n p q r = r

members_size-put : (k : List ℕ) (d : Data) (ms : Members) → members_size (put k d ms) ≤ size d + members_size ms
members_size-put k d no_members = omega arith
members_size-put k d (member l e ms) =
    members_size-match_ordering _ (member k d (member l e ms)) (member l d ms) (member l e (put k d ms)) (size d + (size e + members_size ms)) (omega arith) (omega arith) (omega (arith, members_size-put k d ms))

mutual
  size-of_json : (j : Json) (n : ℕ) → json_size j ≤ n → AtMost size n (of_json j)
  size-of_json json.null n h = h
  size-of_json (json.boolean b) n h = h
  size-of_json (json.number s) n h = AtMost-map (λ _. 0) size 0 n number (λ a x. h) (number_of s) (flat _)
  size-of_json (json.string s) n h = h
  size-of_json (json.array js) n h = AtMost-map items_size size (json_items_size js) n array (λ a x. omega arith) _ (size-of_items js _ (omega arith))
  size-of_json (json.object ms) n h = AtMost-map members_size size (json_members_size ms) n object (λ a x. omega arith) _ (size-of_members ms no_members _ (omega arith))

  size-of_items : (js : json.Items) (n : ℕ) → json_items_size js ≤ n → AtMost items_size n (of_items js)
  size-of_items json.no_items n h = omega arith
  size-of_items (json.item j js) n h =
      AtMost-and_then size items_size (json_size j) n _ (λ d x. AtMost-map items_size items_size (json_items_size js) n (item d) (λ ds y. omega arith) _ (size-of_items js _ (omega arith))) _ (size-of_json j _ (omega arith))

  size-of_members : (ms : json.Members) (found : Members) (n : ℕ) → members_size found + json_members_size ms ≤ n → AtMost members_size n (of_members ms found)
  size-of_members json.no_members found n h = omega arith
  size-of_members (json.member name j ms) found n h =
      AtMost-and_then size members_size (json_size j) n _ (λ d x. size-of_members ms (put name d found) n (omega (arith, members_size-put name d found))) _ (size-of_json j _ (omega arith))

-- ---- a text has no more tokens than bytes, and one

lex_byte-short : (m : lex.Mode) (c : lex.Class) (x : ℕ) (xs : List ℕ) (k : lex.Mode → List lex.Lexeme) (n : ℕ) → ((next : lex.Mode) → length (k next) ≤ n) → length (lex.lex_byte m c x xs k) ≤ suc n
lex_byte-short lex.between lex.quote x xs k n h = omega (arith, h lex.in_string)
lex_byte-short lex.between lex.backslash x xs k n h = omega (arith, h lex.in_word)
lex_byte-short lex.between lex.operator x xs k n h = omega (arith, h lex.between)
lex_byte-short lex.between lex.space x xs k n h = omega (arith, h lex.between)
lex_byte-short lex.between lex.other x xs k n h = omega (arith, h lex.in_word)
lex_byte-short lex.in_word lex.quote x xs k n h = omega (arith, h lex.in_word)
lex_byte-short lex.in_word lex.backslash x xs k n h = omega (arith, h lex.in_word)
lex_byte-short lex.in_word lex.operator x xs k n h = omega (arith, h lex.between)
lex_byte-short lex.in_word lex.space x xs k n h = omega (arith, h lex.between)
lex_byte-short lex.in_word lex.other x xs k n h = omega (arith, h lex.in_word)
lex_byte-short lex.in_string lex.quote x xs k n h = omega (arith, h lex.between)
lex_byte-short lex.in_string lex.backslash x xs k n h = omega (arith, h lex.in_escape)
lex_byte-short lex.in_string lex.operator x xs k n h = omega (arith, h lex.in_string)
lex_byte-short lex.in_string lex.space x xs k n h = omega (arith, h lex.in_string)
lex_byte-short lex.in_string lex.other x xs k n h = omega (arith, h lex.in_string)
lex_byte-short lex.in_escape c x xs k n h = omega (arith, h lex.in_string)

length-lex : (text : List ℕ) (m : lex.Mode) → length (lex.lex m text) ≤ length text
unfolding lex.lex
length-lex [] m = omega arith
length-lex (x ∷ xs) m = lex_byte-short m (lex.class x) x xs (λ next. lex.lex next xs) (length xs) (length-lex xs)

if_allowed-short : (b : Bool) (t : Token) (k : lex.Place → List Token) (next : lex.Place) (n : ℕ) → length (k next) ≤ n → length (lex.if_allowed b t k next) ≤ suc n
if_allowed-short true t k next n h = omega arith
if_allowed-short false t k next n h = omega arith

place_token-short : (p : lex.Place) (t : Token) (b : Bool) (k : lex.Place → List Token) (n : ℕ) → ((next : lex.Place) → length (k next) ≤ n) → length (lex.place_token p t b k) ≤ suc n
place_token-short p Token.begin_object b k n h = if_allowed-short (lex.may_begin p) Token.begin_object k lex.fresh n (h lex.fresh)
place_token-short p Token.end_object b k n h = if_allowed-short (lex.may_close p) Token.end_object k lex.after_value n (h lex.after_value)
place_token-short p Token.begin_array b k n h = if_allowed-short (lex.may_begin p) Token.begin_array k lex.fresh n (h lex.fresh)
place_token-short p Token.end_array b k n h = if_allowed-short (lex.may_close p) Token.end_array k lex.after_value n (h lex.after_value)
place_token-short p (Token.key s) b k n h = omega arith
place_token-short p (Token.string s) true k n h = if_allowed-short (lex.may_begin p) (Token.key s) k lex.after_key n (h lex.after_key)
place_token-short p (Token.string s) false k n h = if_allowed-short (lex.may_begin p) (Token.string s) k lex.after_value n (h lex.after_value)
place_token-short p (Token.number s) b k n h = if_allowed-short (lex.may_begin p) (Token.number s) k lex.after_value n (h lex.after_value)
place_token-short p (Token.boolean v) b k n h = if_allowed-short (lex.may_begin p) (Token.boolean v) k lex.after_value n (h lex.after_value)
place_token-short p Token.null b k n h = if_allowed-short (lex.may_begin p) Token.null k lex.after_value n (h lex.after_value)
place_token-short p Token.bad b k n h = omega arith

length-punctuate : (ls : List lex.Lexeme) (p : lex.Place) → length (lex.punctuate p ls) ≤ suc (length ls)
unfolding lex.punctuate
length-punctuate [] lex.fresh = omega arith
length-punctuate [] lex.after_value = omega arith
length-punctuate [] lex.after_comma = omega arith
length-punctuate [] lex.after_key = omega arith
length-punctuate (lex.token t ∷ ls) lex.fresh = place_token-short lex.fresh t (lex.begins_colon ls) (λ next. lex.punctuate next ls) (suc (length ls)) (length-punctuate ls)
length-punctuate (lex.token t ∷ ls) lex.after_value = place_token-short lex.after_value t (lex.begins_colon ls) (λ next. lex.punctuate next ls) (suc (length ls)) (length-punctuate ls)
length-punctuate (lex.token t ∷ ls) lex.after_comma = place_token-short lex.after_comma t (lex.begins_colon ls) (λ next. lex.punctuate next ls) (suc (length ls)) (length-punctuate ls)
length-punctuate (lex.token t ∷ ls) lex.after_key = place_token-short lex.after_key t (lex.begins_colon ls) (λ next. lex.punctuate next ls) (suc (length ls)) (length-punctuate ls)
length-punctuate (lex.comma ∷ ls) lex.fresh = omega arith
length-punctuate (lex.comma ∷ ls) lex.after_value = omega (arith, length-punctuate ls lex.after_comma)
length-punctuate (lex.comma ∷ ls) lex.after_comma = omega arith
length-punctuate (lex.comma ∷ ls) lex.after_key = omega arith
length-punctuate (lex.colon ∷ ls) lex.fresh = omega arith
length-punctuate (lex.colon ∷ ls) lex.after_value = omega arith
length-punctuate (lex.colon ∷ ls) lex.after_comma = omega arith
length-punctuate (lex.colon ∷ ls) lex.after_key = omega (arith, length-punctuate ls lex.fresh)

length-tokens : (text : List ℕ) → length (lex.tokens text) ≤ suc (length text)
length-tokens text = omega (arith, length-punctuate (lex.lex lex.between text) lex.fresh, length-lex text lex.between)

-- ---- together

spent : (o : Option (Json × List Token)) (ts : List Token) (n : ℕ) → length ts ≤ n → Spends json_size ts o → AtMost json_size n (option_and_then (λ p. json.if_last p.0 p.1) o)
spent None ts n le h = tt
spent (Some (j, [])) ts n le h = omega arith
spent (Some (j, t ∷ r)) ts n le h = tt

pub size-read : (text : List ℕ) (d : Data) → read text ≡ Some d → size d ≤ suc (length text)
size-read text d e =
    subst (AtMost size (suc (length text))) e (AtMost-and_then json_size size (suc (length text)) (suc (length text)) of_json (λ j x. size-of_json j (suc (length text)) x) _ (spent _ (lex.tokens text) (suc (length text)) (length-tokens text) (spends-value max_depth (lex.tokens text))))

-- a member has no more parts than its object
some_size : (o : Ordering) (k : List ℕ) (e d : Data) (ms : Members) → (get_member k ms ≡ Some d → size d ≤ members_size ms) → match_ordering o (get_member k ms) (Some e) (get_member k ms) ≡ Some d → size d ≤ size e + members_size ms
some_size Less k e d ms below h = omega (arith, below h)
some_size Equal k e d ms below h = let same : e ≡ d = cc in omega (arith, ap size same)
some_size Greater k e d ms below h = omega (arith, below h)

size-get_member : (k : List ℕ) (ms : Members) (d : Data) → get_member k ms ≡ Some d → size d ≤ members_size ms
size-get_member k no_members d h = absurd (none-some d h)
size-get_member k (member l e ms) d h = some_size (slice_cmp nat_cmp k l) k e d ms (size-get_member k ms d) h

size-get : (k : List ℕ) (v d : Data) → get k v ≡ Some d → size d ≤ size v
size-get k null d h = absurd (none-some d h)
size-get k (boolean b) d h = absurd (none-some d h)
size-get k (number n) d h = absurd (none-some d h)
size-get k (string s) d h = absurd (none-some d h)
size-get k (array ds) d h = absurd (none-some d h)
size-get k (object ms) d h = omega (arith, size-get_member k ms d h)

positive : (d : Data) → 1 ≤ size d
positive null = omega arith
positive (boolean b) = omega arith
positive (number n) = omega arith
positive (string s) = omega arith
positive (array ds) = omega arith
positive (object ms) = omega arith

items_len-le : (ds : Items) → items_len ds ≤ items_size ds
items_len-le no_items = omega arith
items_len-le (item d ds) = omega (arith, positive d, items_len-le ds)

items_len-array : (d : Data) (is : Items) → as_array d ≡ Some is → items_len is ≤ size d
items_len-array null is h = absurd (none-some is h)
items_len-array (boolean b) is h = absurd (none-some is h)
items_len-array (number n) is h = absurd (none-some is h)
items_len-array (string s) is h = absurd (none-some is h)
items_len-array (array ds) is h = let same : ds ≡ is = cc in omega (arith, ap items_len same, items_len-le ds)
items_len-array (object ms) is h = absurd (none-some is h)

found_array : (o : Option Data) (is : Items) (n : ℕ) → ((d : Data) → o ≡ Some d → size d ≤ n) → option_and_then as_array o ≡ Some is → items_len is ≤ n
found_array None is n each h = absurd (none-some is h)
found_array (Some d) is n each h = omega (arith, each d refl, items_len-array d is h)

-- an array at a name of a value that was read has few items
pub items_len-read : (text : List ℕ) (v : Data) (k : List ℕ) (is : Items) → read text ≡ Some v → option_and_then as_array (get k v) ≡ Some is → items_len is ≤ suc (length text)
items_len-read text v k is e h = found_array (get k v) is (suc (length text)) (λ d found. omega (arith, size-get k v d found, size-read text v e)) h
