-- The lines of a file's characters, by its bytes.
use Rattle.std.proofs.Common.{Result, Ok, Err, ◌≡◌, ◌≢◌, ℕ, zero, suc, ◌+◌, ◌/◌, ◌%◌, ◌<◌, Bool, true, false, cond, ltb, ◌==◌, true≢false, List, [], ◌∷◌, ◌++◌, length, take, drop, get_or, take-append-drop, slice_index, take_at, length-take, length-take-le, eq-eqb, ◌≤◌, refl, sym, ap, ap₂, subst, ◌∙◌, arith, chars, encode_utf8_all}
use Rattle.std.specs.Char.{encode_utf8 as encode}
use Rattle.std.specs.Str.{IsUtf8, IsAscii}
use Rattle.std.proofs.lemmas.Bool.{lt-ltb}
use Rattle.std.proofs.lemmas.List.{take_all, take_more, drop_more, get_or-take, get_or_default}
use Rattle.std.proofs.lemmas.List.Elements.{All-append, All-head, All-tail}
use Rattle.std.proofs.lemmas.Str.{encode_ascii, chars-nil, encodes-chars, chars-append, chars-IsAscii, IsUtf8-from_ascii, IsUtf8-take, IsCharBoundary-before_ascii, IsCharBoundary-at_seam}
use Rattle.text_coding.specs.Surveying.{last_of}
use Rattle.text_coding.proofs.FormLemmas.{test-false}
use Rattle.text_coding.proofs.FillLemmas.{IsOpen, one-open, last-append}
use Rattle.text_coding.proofs.ReturnLemmas.{front-open}

-- a character is a return where its last byte is one
last-encode : (x c : ℕ) → (last_of x (encode c) == 13) ≡ (c == 13)
unfolding encode
last-encode x c = by_size (ltb c 128) (ltb c 2048) (ltb c 65536) refl where
  next : ℕ
  next = 128 + c % 64

  wide : ltb c 128 ≡ false → (next == 13) ≡ (c == 13)
  wide h = test-false next 13 (λ e. omega (arith, e)) ∙ sym (test-false c 13 (λ e. true≢false (sym (lt-ltb c 128 (omega (arith, e))) ∙ h)))

  by_size : (p q r : Bool) → ltb c 128 ≡ p → (last_of x (cond p (c ∷ []) (cond q ((192 + c / 64) ∷ next ∷ []) (cond r ((224 + c / 4096) ∷ (128 + c / 64 % 64) ∷ next ∷ []) ((240 + c / 262144) ∷ (128 + c / 4096 % 64) ∷ (128 + c / 64 % 64) ∷ next ∷ [])))) == 13) ≡ (c == 13)
  by_size true q r h = refl
  by_size false true r h = wide h
  by_size false false true h = wide h
  by_size false false false h = wide h

last-encodes : (x z : ℕ) (cs : List ℕ) → (x == 13) ≡ (z == 13) → (last_of x (encode_utf8_all cs) == 13) ≡ (last_of z cs == 13)
last-encodes x z [] e = e
last-encodes x z (c ∷ cs) e = ap (λ n. n == 13) (last-append x (encode c) (encode_utf8_all cs)) ∙ last-encodes (last_of x (encode c)) c cs (last-encode x c)

-- the last character is a return where the last byte is one
pub last-chars : (bytes : List ℕ) → IsUtf8 bytes → (last_of 0 bytes == 13) ≡ (last_of 0 (chars bytes) == 13)
last-chars bytes utf8 = ap (λ t. last_of 0 t == 13) (sym (encodes-chars bytes utf8)) ∙ last-encodes 0 0 (chars bytes) refl

pub last-other : (bytes : List ℕ) → IsUtf8 bytes → last_of 0 bytes ≢ 13 → last_of 0 (chars bytes) ≢ 13
last-other bytes utf8 other e = true≢false (sym (last-chars bytes utf8 ∙ ap (λ n. n == 13) e) ∙ test-false (last_of 0 bytes) 13 other)

pub last-none : (bytes : List ℕ) → length bytes ≡ 0 → last_of 0 bytes ≢ 13
last-none [] none e = omega (arith, e)
last-none (b ∷ bs) none e = omega (arith, none)

-- no newline among bytes is none among their characters
behind-open : (front more : List ℕ) → IsOpen (front ++ more) → IsOpen more
behind-open [] more h = h
behind-open (c ∷ cs) more h = behind-open cs more (All-tail (λ x. x ≢ 10) c (cs ++ more) h)

no-newline : (c : ℕ) → IsOpen (encode c) → c ≢ 10
unfolding encode
no-newline c h e = All-head (λ x. x ≢ 10) 10 [] (subst (λ x. IsOpen (encode x)) e h) refl

open-encodes : (cs : List ℕ) → IsOpen (encode_utf8_all cs) → IsOpen cs
open-encodes [] h = h
open-encodes (c ∷ cs) h = All-append (λ x. x ≢ 10) (c ∷ []) cs (one-open c (no-newline c (front-open (encode c) (encode_utf8_all cs) h))) (open-encodes cs (behind-open (encode c) (encode_utf8_all cs) h))

pub open-chars : (bytes : List ℕ) → IsUtf8 bytes → IsOpen bytes → IsOpen (chars bytes)
open-chars bytes utf8 h = open-encodes (chars bytes) (subst IsOpen (sym (encodes-chars bytes utf8)) h)

-- an ASCII character behind others
one-ascii : (a : ℕ) → a < 128 → IsAscii (a ∷ [])
one-ascii a small zero = small
one-ascii a small (suc n) = omega arith

pub ascii-behind : (front : List ℕ) (a : ℕ) → IsUtf8 front → a < 128 → chars (front ++ a ∷ []) ≡ chars front ++ a ∷ []
ascii-behind front a utf8 small = chars-append front (a ∷ []) utf8 ∙ ap (λ t. chars front ++ t) (chars-IsAscii (a ∷ []) (one-ascii a small))

-- characters that are written into an empty string with a newline behind them
pub written-line : (run none some all line : List ℕ) → IsUtf8 run → none ≡ [] → some ≡ none ++ run → all ≡ some ++ encode 10 → line ≡ all → chars line ≡ chars run ++ 10 ∷ []
written-line run none some all line utf8 n s a l =
    ap chars (l ∙ a ∙ ap₂ (λ x y. x ++ y) (s ∙ ap (λ t. t ++ run) n) (encode_ascii 10 (omega arith))) ∙ ascii-behind run 10 utf8 (omega arith)

-- a text with a newline at a place, parted there
pub front-utf8 : (text : List ℕ) (n a : ℕ) → IsUtf8 text → n < length text → get_or text n 0 ≡ a → a < 128 → IsUtf8 (take n text)
front-utf8 text n a utf8 lt is small = IsUtf8-take text n utf8 (IsCharBoundary-before_ascii text n lt (omega (arith, is, small)))

pub line-at : (text : List ℕ) (n : ℕ) → IsUtf8 text → n < length text → get_or text n 0 ≡ 10 → chars (take (n + 1) text) ≡ chars (take n text) ++ 10 ∷ []
line-at text n utf8 lt is = ap chars (take_more text n 0 lt ∙ ap (λ c. take n text ++ c ∷ []) is) ∙ ascii-behind (take n text) 10 (front-utf8 text n 10 utf8 lt is (omega arith)) (omega arith)

pub whole-at : (text : List ℕ) (n : ℕ) → IsUtf8 text → n < length text → get_or text n 0 ≡ 10 → chars text ≡ chars (take n text) ++ 10 ∷ chars (drop (n + 1) text)
whole-at text n utf8 lt is =
    let ten : IsAscii (10 ∷ []) = one-ascii 10 (omega arith) in
    ap chars (sym (take-append-drop n text) ∙ ap (λ t. take n text ++ t) (drop_more text n 0 lt ∙ ap (λ c. c ∷ drop (n + 1) text) is))
    ∙ chars-append (take n text) (10 ∷ drop (n + 1) text) (front-utf8 text n 10 utf8 lt is (omega arith))
    ∙ ap (λ t. chars (take n text) ++ t) (chars-append (10 ∷ []) (drop (n + 1) text) (IsUtf8-from_ascii (10 ∷ []) ten) ∙ ap (λ t. t ++ chars (drop (n + 1) text)) (chars-IsAscii (10 ∷ []) ten))

-- what stands before the newline, taken in two steps
pub run-at : (text line run : List ℕ) (n : ℕ) → n < length text → line ≡ take (n + 1) text → run ≡ take n line → run ≡ take n text
run-at text line run n lt l r = r ∙ ap (take n) (l ∙ take_more text n 0 lt) ∙ take_at (take n text) (get_or text n 0 ∷ []) n (length-take-le n text (omega (arith, lt)))

-- what stands before a return at the end
pub return-behind : (run front part : List ℕ) → IsUtf8 run → run ≡ front ++ 13 ∷ [] → part ≡ take (length front) run → chars run ≡ chars part ++ 13 ∷ []
return-behind run front part utf8 e p =
    let same : part ≡ front = p ∙ ap (take (length front)) e ∙ take_at front (13 ∷ []) (length front) refl in
    let before : IsUtf8 (take (length front) run) = IsUtf8-take run (length front) utf8 (IsCharBoundary-at_seam run front (13 ∷ []) e (IsUtf8-from_ascii (13 ∷ []) (one-ascii 13 (omega arith)))) in
    ap chars (e ∙ ap (λ t. t ++ 13 ∷ []) (sym same)) ∙ ascii-behind part 13 (subst IsUtf8 (sym p) before) (omega arith)

-- where there are bytes there is a character
some-by : (bytes cs : List ℕ) → encode_utf8_all cs ≡ bytes → 0 < length bytes → 0 < length cs
some-by bytes [] e some = absurd (omega (arith, ap length e, some))
some-by bytes (c ∷ cs) e some = omega arith

pub chars-some : (bytes : List ℕ) → IsUtf8 bytes → 0 < length bytes → 0 < length (chars bytes)
chars-some bytes utf8 some = some-by bytes (chars bytes) (encodes-chars bytes utf8) some

-- no newline before the first one
pub open-front : (text bytes : List ℕ) (n : ℕ) → bytes ≡ text → ((k : ℕ) → 0 ≤ k → k < n → ¬ ((slice_index bytes k == 10) ≡ true)) → IsOpen (take n text)
open-front text bytes n same none k d lt e =
    let inside : k < n = omega (arith, lt, length-take n text) in
    let here : k < length text = omega (arith, lt, length-take n text) in
    none k (omega arith) inside (eq-eqb (slice_index bytes k) 10 (ap (λ t. get_or t k 0) same ∙ get_or_default text k 0 d here ∙ sym (get_or-take n text k d inside) ∙ e))

pub open-whole : (text bytes : List ℕ) → bytes ≡ text → ((k : ℕ) → 0 ≤ k → k < length bytes → ¬ ((slice_index bytes k == 10) ≡ true)) → IsOpen text
open-whole text bytes same none = subst IsOpen (take_all (length bytes) text (omega (arith, ap length same))) (open-front text bytes (length bytes) same none)

-- no bytes are no characters
pub none-chars : (bytes : List ℕ) → length bytes ≡ 0 → chars bytes ≡ []
none-chars [] none = chars-nil
none-chars (b ∷ bs) none = absurd (omega (arith, none))

-- an error of a call is that of what hands it on
abbrev handed : {X Y E : Type 0} → E → Result X E → Result Y E
handed d (Ok x) = Err d
handed d (Err e) = Err e

pub same-error : {X Y E : Type 0} (a b : E) → ◌≡◌ {A = Result X E} (Err a) (Err b) → ◌≡◌ {A = Result Y E} (Err a) (Err b)
same-error {X} {Y} a b e = ap (handed {Y = Y} a) e
