-- The match that a search finds, by the bytes at which matches begin.
use Rattle.std.proofs.Common.{◌≡◌, ℕ, zero, suc, ◌+◌, ◌-◌, ◌<◌, ◌≤◌, ◌⊎◌, inl, inr, Bool, true, false, cond, ltb, List, [], ◌∷◌, ◌++◌, length, get_or, take, drop, filter, reverse, Option, None, Some, refl, sym, ap, ap₂, ◌∙◌, arith, append-nil, append_assoc, length-append, length-drop, take_all, take-append-drop, slice_range, subst}
use Rattle.std.specs.Prelude.{min, ◌&&◌, encode_utf8, encode_utf8_all}
use Rattle.std.specs.Option.{option_or}
use Rattle.std.proofs.Math.Seq.{drop-cons}
use Rattle.std.proofs.Math.ListN.{drop_of_length-le}
use Rattle.std.proofs.lemmas.Bool.{lt-ltb, le-ltb, false≢true, cases_Bool}
use Rattle.std.proofs.lemmas.List.{reverse-append}
use Rattle.std.proofs.lemmas.List.Elements.{filter-append}
use Rattle.std.proofs.lemmas.Str.{encodes-append, encode_ascii}
use Rattle.text_model.specs.Texts.{IsText}
use Rattle.list_model.specs.Ranges.{Range}
use Rattle.regex_ports.specs.declared.pattern.Span.{Span}
use Rattle.regex_ports.specs.Seeking.{first_span_where, last_where, span_begins_before, begins_between}
use Rattle.directions.specs.declared.direction.Direction.{Direction}
use Rattle.directions.specs.declared.direction.Direction.TheVariants.{Forward, Backward}
use Rattle.regex_ports.specs.Matching.{chars_before}
use Rattle.regex_select.specs.Selecting.{part_between, match_end, selected_by, selected_by_all}
use Rattle.regex_select.specs.Searching.{is_ahead, first_or, sought}
use Rattle.regex_select.specs.Walks.{bytes_of_first}
use Rattle.regex_select.specs.Spans.{byte_bound, span_sought}
use Rattle.regex_ports.proofs.CharLemmas.{chars-done, chars-some}
use Rattle.regex_select.proofs.WalkLemmas.{bytes-more, chars-behind}
use Rattle.regex_select.proofs.MatchedLemmas.{straight, part-some, part-none, end-empty}

pub either : (a b : ℕ) → (a < b) ⊎ (b ≤ a)
either a b = grind arith

-- ---- characters and bytes

-- a character that begins before a byte is among those before it
pub begun-before : (cs : List ℕ) (h b : ℕ) → h < length cs → bytes_of_first cs h < b → h < chars_before cs b
begun-before cs h b l k =
    let next : chars_before (drop h cs) (b - bytes_of_first cs h) ≡ suc (chars_before (drop (suc h) cs) (b - bytes_of_first cs h - length (encode_utf8 (get_or cs h 0)))) = ap (λ xs. chars_before xs (b - bytes_of_first cs h)) (drop-cons cs h 0 l) ∙ chars-some (get_or cs h 0) (drop (suc h) cs) (b - bytes_of_first cs h) (omega (arith, k)) in
    omega (arith, chars-behind cs h b (omega (arith, k)) (omega (arith, l)), next)

-- one that begins there or behind isn't
pub not-begun : (cs : List ℕ) (h b : ℕ) → b ≤ bytes_of_first cs h → chars_before cs b ≤ h
not-begun cs zero b l = omega (arith, chars-done cs b (omega (arith, l)))
not-begun [] (suc h) b l = omega arith
not-begun (c ∷ cs) (suc h) b l = go (not-begun cs h (b - length (encode_utf8 c)) (omega (arith, l))) (either 0 b)
  where
    go : chars_before cs (b - length (encode_utf8 c)) ≤ h → (0 < b) ⊎ (b ≤ 0) → chars_before (c ∷ cs) b ≤ suc h
    go further (inl some) = omega (arith, chars-some c cs b some, further)
    go further (inr none) = omega (arith, chars-done (c ∷ cs) b (omega (arith, none)))

pub bytes-of-take : (cs : List ℕ) (n : ℕ) → length (encode_utf8_all (take n cs)) ≡ bytes_of_first cs n
bytes-of-take cs zero = refl
bytes-of-take [] (suc n) = refl
bytes-of-take (c ∷ cs) (suc n) = length-append (encode_utf8 c) (encode_utf8_all (take n cs)) ∙ ap (λ k. length (encode_utf8 c) + k) (bytes-of-take cs n)

pub bytes-of-all : (cs : List ℕ) → length (encode_utf8_all cs) ≡ bytes_of_first cs (length cs)
bytes-of-all cs = ap (λ xs. length (encode_utf8_all xs)) (sym (take_all (length cs) cs (omega arith))) ∙ bytes-of-take cs (length cs)

all-begun : (cs : List ℕ) (b : ℕ) → length (encode_utf8_all cs) ≤ b → chars_before cs b ≡ length cs
all-begun cs b l =
    let over : bytes_of_first cs (length cs) ≤ b = omega (arith, l, bytes-of-all cs) in
    let rest : chars_before (drop (length cs) cs) (b - bytes_of_first cs (length cs)) ≡ 0 = ap (λ xs. chars_before xs (b - bytes_of_first cs (length cs))) (drop_of_length-le cs (omega arith)) in
    chars-behind cs (length cs) b over (omega arith) ∙ omega (arith, rest)

at-most-all : (cs : List ℕ) (b : ℕ) → chars_before cs b ≤ length cs
at-most-all [] b = omega arith
at-most-all (c ∷ cs) b = go (at-most-all cs (b - length (encode_utf8 c))) (either 0 b)
  where
    go : chars_before cs (b - length (encode_utf8 c)) ≤ length cs → (0 < b) ⊎ (b ≤ 0) → chars_before (c ∷ cs) b ≤ suc (length cs)
    go rest (inl some) = omega (arith, chars-some c cs b some, rest)
    go rest (inr none) = omega (arith, chars-done (c ∷ cs) b (omega (arith, none)))

-- the last character of a text is a newline, which has one byte
pub last-byte : (cs : List ℕ) → IsText cs → length (encode_utf8_all cs) ≡ bytes_of_first cs (length cs - 1) + 1
last-byte cs t =
    let last : length cs - 1 + 1 ≡ length cs = omega (arith, t.some) in
    let one : length (encode_utf8 (get_or cs (length cs - 1) 0)) ≡ 1 = ap (λ c. length (encode_utf8 c)) t.ended ∙ ap length (encode_ascii 10 (omega arith)) in
    bytes-of-all cs ∙ ap (bytes_of_first cs) (sym last) ∙ bytes-more cs (length cs - 1) (omega (arith, t.some)) ∙ ap (λ k. bytes_of_first cs (length cs - 1) + k) one

-- ---- what one match selects

-- what a match selects, whether it selects anything or not
abbrev pub only_of : List ℕ → Span → Range
only_of cs s = straight (0 + chars_before cs s.start) (0 + match_end cs (chars_before cs s.start) (chars_before cs s.end) - 1)

module _ (cs : List ℕ) (t : IsText cs) where
  pub one-selected : (s : Span) → s.start < length (encode_utf8_all cs) → selected_by cs 0 s ≡ only_of cs s ∷ []
  one-selected s l =
      let first : ℕ = chars_before cs s.start in
      let there : first ≤ length cs - 1 = not-begun cs (length cs - 1) s.start (omega (arith, l, last-byte cs t)) in
      part-some (0 + first) (0 + match_end cs first (chars_before cs s.end)) (go there (either first (chars_before cs s.end)))
    where
      go : chars_before cs s.start ≤ length cs - 1 → (chars_before cs s.start < chars_before cs s.end) ⊎ (chars_before cs s.end ≤ chars_before cs s.start) → 0 + chars_before cs s.start < 0 + match_end cs (chars_before cs s.start) (chars_before cs s.end)
      go h (inl more) = let end : match_end cs (chars_before cs s.start) (chars_before cs s.end) ≡ chars_before cs s.end = ap (λ b. cond b (chars_before cs s.end) (min (chars_before cs s.start + 1) (length cs))) (lt-ltb (chars_before cs s.start) (chars_before cs s.end) more) in omega (arith, end, more)
      go h (inr none) = omega (arith, end-empty cs (chars_before cs s.start) (chars_before cs s.end) none, h, t.some)

  pub none-selected : (s : Span) → length (encode_utf8_all cs) ≤ s.start → selected_by cs 0 s ≡ []
  none-selected s l =
      let first : chars_before cs s.start ≡ length cs = all-begun cs s.start l in
      let most : chars_before cs s.end ≤ length cs = at-most-all cs s.end in
      part-none (0 + chars_before cs s.start) (0 + match_end cs (chars_before cs s.start) (chars_before cs s.end)) (omega (arith, end-empty cs (chars_before cs s.start) (chars_before cs s.end) (omega (arith, first, most)), first))

-- ---- the first one, and the last one

-- what a span that was found selects, or else a range
abbrev pub picked : List ℕ → Range → Option Span → Range
picked cs d None = d
picked cs d (Some s) = only_of cs s

pub picked-or : (cs : List ℕ) (d : Range) (o p : Option Span) → picked cs (picked cs d p) o ≡ picked cs d (option_or o p)
picked-or cs d None p = refl
picked-or cs d (Some s) p = refl

picked-last : (cs : List ℕ) (d : Range) (s : Span) (o : Option Span) → picked cs (only_of cs s) o ≡ picked cs d (option_or o (Some s))
picked-last cs d s None = refl
picked-last cs d s (Some t) = refl

or-none : (o : Option Span) → option_or o None ≡ o
or-none None = refl
or-none (Some s) = refl

-- a test of what matches select is one of their bytes, and none passes that begins at the end
pub record IsTest (cs : List ℕ) (p : Range → Bool) (test : Span → Bool) : Type 0 where
  pub same : (s : Span) → s.start < length (encode_utf8_all cs) → p (only_of cs s) ≡ test s
  pub begun : (s : Span) → length (encode_utf8_all cs) ≤ s.start → test s ≡ false

module _ (cs : List ℕ) (t : IsText cs) (p : Range → Bool) (test : Span → Bool) (h : IsTest cs p test) where
  -- one match more, where what is found among the others is known
  first-one : (d : Range) (tail : List Range) (s : Span) (ss : List Span) → first_or d (filter p (selected_by_all cs 0 ss) ++ tail) ≡ picked cs (first_or d tail) (first_span_where test ss) → first_or d (filter p (selected_by_all cs 0 (s ∷ ss)) ++ tail) ≡ picked cs (first_or d tail) (first_span_where test (s ∷ ss))
  first-one d tail s ss further = go (either s.start (length (encode_utf8_all cs)))
    where
      by-flag : (b : Bool) → first_or d (cond b (only_of cs s ∷ filter p (selected_by_all cs 0 ss)) (filter p (selected_by_all cs 0 ss)) ++ tail) ≡ picked cs (first_or d tail) (cond b (Some s) (first_span_where test ss))
      by-flag true = refl
      by-flag false = further

      go : (s.start < length (encode_utf8_all cs)) ⊎ (length (encode_utf8_all cs) ≤ s.start) → first_or d (filter p (selected_by_all cs 0 (s ∷ ss)) ++ tail) ≡ picked cs (first_or d tail) (first_span_where test (s ∷ ss))
      go (inl l) =
          ap (λ rs. first_or d (filter p (rs ++ selected_by_all cs 0 ss) ++ tail)) (one-selected cs t s l)
          ∙ ap (λ b. first_or d (cond b (only_of cs s ∷ filter p (selected_by_all cs 0 ss)) (filter p (selected_by_all cs 0 ss)) ++ tail)) (h.same s l)
          ∙ by-flag (test s)
      go (inr l) =
          ap (λ rs. first_or d (filter p (rs ++ selected_by_all cs 0 ss) ++ tail)) (none-selected cs t s l)
          ∙ further
          ∙ ap (λ b. picked cs (first_or d tail) (cond b (Some s) (first_span_where test ss))) (sym (h.begun s l))

  first-picked : (d : Range) (tail : List Range) (ss : List Span) → first_or d (filter p (selected_by_all cs 0 ss) ++ tail) ≡ picked cs (first_or d tail) (first_span_where test ss)
  first-picked d tail [] = refl
  first-picked d tail (s ∷ ss) = first-one d tail s ss (first-picked d tail ss)

  last-one : (d : Range) (tail : List Range) (s : Span) (ss : List Span) → ((more : List Range) → first_or d (filter p (reverse (selected_by_all cs 0 ss)) ++ more) ≡ picked cs (first_or d more) (last_where test ss)) → first_or d (filter p (reverse (selected_by_all cs 0 (s ∷ ss))) ++ tail) ≡ picked cs (first_or d tail) (last_where test (s ∷ ss))
  last-one d tail s ss further = go (either s.start (length (encode_utf8_all cs)))
    where
      by-flag : (b : Bool) → first_or d (filter p (reverse (selected_by_all cs 0 ss)) ++ (cond b (only_of cs s ∷ []) [] ++ tail)) ≡ picked cs (first_or d tail) (option_or (last_where test ss) (cond b (Some s) None))
      by-flag true = further (only_of cs s ∷ tail) ∙ picked-last cs (first_or d tail) s (last_where test ss)
      by-flag false = further tail ∙ ap (picked cs (first_or d tail)) (sym (or-none (last_where test ss)))

      go : (s.start < length (encode_utf8_all cs)) ⊎ (length (encode_utf8_all cs) ≤ s.start) → first_or d (filter p (reverse (selected_by_all cs 0 (s ∷ ss))) ++ tail) ≡ picked cs (first_or d tail) (last_where test (s ∷ ss))
      go (inl l) =
          ap (λ rs. first_or d (filter p (reverse (rs ++ selected_by_all cs 0 ss)) ++ tail)) (one-selected cs t s l)
          ∙ ap (λ rs. first_or d (filter p rs ++ tail)) (reverse-append (only_of cs s ∷ []) (selected_by_all cs 0 ss))
          ∙ ap (λ rs. first_or d (rs ++ tail)) (filter-append p (reverse (selected_by_all cs 0 ss)) (only_of cs s ∷ []))
          ∙ ap (first_or d) (append_assoc (filter p (reverse (selected_by_all cs 0 ss))) (filter p (only_of cs s ∷ [])) tail)
          ∙ ap (λ b. first_or d (filter p (reverse (selected_by_all cs 0 ss)) ++ (cond b (only_of cs s ∷ []) [] ++ tail))) (h.same s l)
          ∙ by-flag (test s)
      go (inr l) =
          ap (λ rs. first_or d (filter p (reverse (rs ++ selected_by_all cs 0 ss)) ++ tail)) (none-selected cs t s l)
          ∙ further tail
          ∙ ap (picked cs (first_or d tail)) (sym (or-none (last_where test ss)) ∙ ap (λ b. option_or (last_where test ss) (cond b (Some s) None)) (sym (h.begun s l)))

  last-picked : (d : Range) (tail : List Range) (ss : List Span) → first_or d (filter p (reverse (selected_by_all cs 0 ss)) ++ tail) ≡ picked cs (first_or d tail) (last_where test ss)
  last-picked d tail [] = refl
  last-picked d tail (s ∷ ss) = last-one d tail s ss (λ more. last-picked d more ss)

-- ---- tests of both ways

and-true : (b : Bool) → (b && true) ≡ b
and-true true = refl
and-true false = refl

and-false : (b : Bool) → (b && false) ≡ false
and-false true = refl
and-false false = refl

every : (cs : List ℕ) → IsTest cs (λ r. true) (span_begins_before (length (encode_utf8_all cs)))
every cs = record {
  same = λ s l. sym (lt-ltb s.start (length (encode_utf8_all cs)) l);
  begun = λ s l. le-ltb s.start (length (encode_utf8_all cs)) l;
}

forward : (cs : List ℕ) (r : Range) → r.high < length cs → IsTest cs (is_ahead Forward r) (begins_between (bytes_of_first cs r.high) (length (encode_utf8_all cs)))
forward cs r h = record {
  same = λ s l. behind s.start (either (bytes_of_first cs r.high) s.start) ∙ sym (ap (λ b. ltb (bytes_of_first cs r.high) s.start && b) (lt-ltb s.start (length (encode_utf8_all cs)) l) ∙ and-true (ltb (bytes_of_first cs r.high) s.start));
  begun = λ s l. ap (λ b. ltb (bytes_of_first cs r.high) s.start && b) (le-ltb s.start (length (encode_utf8_all cs)) l) ∙ and-false (ltb (bytes_of_first cs r.high) s.start);
}
  where
    behind : (b : ℕ) → (bytes_of_first cs r.high < b) ⊎ (b ≤ bytes_of_first cs r.high) → ltb r.high (0 + chars_before cs b) ≡ ltb (bytes_of_first cs r.high) b
    behind b (inl l) = lt-ltb r.high (0 + chars_before cs b) (omega (arith, begun-before cs r.high b h l)) ∙ sym (lt-ltb (bytes_of_first cs r.high) b l)
    behind b (inr l) = le-ltb r.high (0 + chars_before cs b) (omega (arith, not-begun cs r.high b l)) ∙ sym (le-ltb (bytes_of_first cs r.high) b l)

before-bound : (cs : List ℕ) (k b : ℕ) → k < length cs → ltb (0 + chars_before cs b) k ≡ ltb b (byte_bound cs k)
before-bound cs zero b h = le-ltb (0 + chars_before cs b) 0 (omega arith) ∙ sym (le-ltb b 0 (omega arith))
before-bound cs (suc k) b h = go (either (bytes_of_first cs k) b)
  where
    go : (bytes_of_first cs k < b) ⊎ (b ≤ bytes_of_first cs k) → ltb (0 + chars_before cs b) (suc k) ≡ ltb b (bytes_of_first cs k + 1)
    go (inl l) = le-ltb (0 + chars_before cs b) (suc k) (omega (arith, begun-before cs k b (omega (arith, h)) l)) ∙ sym (le-ltb b (bytes_of_first cs k + 1) (omega (arith, l)))
    go (inr l) = lt-ltb (0 + chars_before cs b) (suc k) (omega (arith, not-begun cs k b l)) ∙ sym (lt-ltb b (bytes_of_first cs k + 1) (omega (arith, l)))

backward : (cs : List ℕ) (r : Range) → r.low < length cs → IsTest cs (is_ahead Backward r) (span_begins_before (byte_bound cs r.low))
backward cs r h = record {
  same = λ s l. before-bound cs r.low s.start h;
  begun = λ s l. sym (before-bound cs r.low s.start h) ∙ le-ltb (0 + chars_before cs s.start) r.low (omega (arith, all-begun cs s.start l, h));
}

-- ---- the one that is sought

every-one : (rs : List Range) → filter (λ r. true) rs ++ [] ≡ rs
every-one rs = append-nil (filter (λ r. true) rs) ∙ all-true rs
  where
    all-true : (xs : List Range) → filter (λ r. true) xs ≡ xs
    all-true [] = refl
    all-true (x ∷ xs) = ap (λ l. x ∷ l) (all-true xs)

pub sought-picked : (cs : List ℕ) (direction : Direction) (ss : List Span) (r : Range) → IsText cs → r.low ≤ r.high → r.high < length cs → sought direction (selected_by_all cs 0 ss) r ≡ picked cs r (span_sought direction cs ss r)
sought-picked cs Forward ss r t o h =
    let end : ℕ = length (encode_utf8_all cs) in
    first-picked cs t (is_ahead Forward r) (begins_between (bytes_of_first cs r.high) end) (forward cs r h) r (selected_by_all cs 0 ss) ss
    ∙ ap (λ x. picked cs x (first_span_where (begins_between (bytes_of_first cs r.high) end) ss)) (ap (first_or r) (sym (every-one (selected_by_all cs 0 ss))) ∙ first-picked cs t (λ x. true) (span_begins_before end) (every cs) r [] ss)
    ∙ picked-or cs r (first_span_where (begins_between (bytes_of_first cs r.high) end) ss) (first_span_where (span_begins_before end) ss)
sought-picked cs Backward ss r t o h =
    let end : ℕ = length (encode_utf8_all cs) in
    last-picked cs t (is_ahead Backward r) (span_begins_before (byte_bound cs r.low)) (backward cs r (omega (arith, o, h))) r (reverse (selected_by_all cs 0 ss)) ss
    ∙ ap (λ x. picked cs x (last_where (span_begins_before (byte_bound cs r.low)) ss)) (ap (first_or r) (sym (every-one (reverse (selected_by_all cs 0 ss)))) ∙ last-picked cs t (λ x. true) (span_begins_before end) (every cs) r [] ss)
    ∙ picked-or cs r (last_where (span_begins_before (byte_bound cs r.low)) ss) (last_where (span_begins_before end) ss)

-- ---- what is there

-- what was found, or else a span
abbrev got : Span → Option Span → Span
got d None = d
got d (Some s) = s

abbrev is_there : Option Span → Bool
is_there None = false
is_there (Some s) = true

no-first : (o p : Option Span) → option_or o p ≡ None → o ≡ None
no-first None p e = refl
no-first (Some s) p e = absurd (false≢true (sym (ap is_there e)))

no-second : (o p : Option Span) → option_or o p ≡ None → p ≡ None
no-second None p e = e
no-second (Some s) p e = absurd (false≢true (sym (ap is_there e)))

either-one : (o p : Option Span) (s : Span) → option_or o p ≡ Some s → (o ≡ Some s) ⊎ (p ≡ Some s)
either-one None p s e = inr e
either-one (Some t) p s e = inl e

no-flag : (b : Bool) (s : Span) (o : Option Span) → cond b (Some s) o ≡ None → b ≡ false
no-flag true s o e = absurd (false≢true (sym (ap is_there e)))
no-flag false s o e = refl

-- a match that selects nothing, before others
skipped : (cs : List ℕ) → IsText cs → (s : Span) (ss : List Span) → span_begins_before (length (encode_utf8_all cs)) s ≡ false → selected_by_all cs 0 (s ∷ ss) ≡ selected_by_all cs 0 ss
skipped cs t s ss n = go (either s.start (length (encode_utf8_all cs)))
  where
    go : (s.start < length (encode_utf8_all cs)) ⊎ (length (encode_utf8_all cs) ≤ s.start) → selected_by_all cs 0 (s ∷ ss) ≡ selected_by_all cs 0 ss
    go (inl l) = absurd (false≢true (sym n ∙ lt-ltb s.start (length (encode_utf8_all cs)) l))
    go (inr l) = ap (λ rs. rs ++ selected_by_all cs 0 ss) (none-selected cs t s l)

none-first : (cs : List ℕ) → IsText cs → (ss : List Span) → first_span_where (span_begins_before (length (encode_utf8_all cs))) ss ≡ None → selected_by_all cs 0 ss ≡ []
none-first cs t [] n = refl
none-first cs t (s ∷ ss) n =
    let passed : span_begins_before (length (encode_utf8_all cs)) s ≡ false = no-flag (span_begins_before (length (encode_utf8_all cs)) s) s (first_span_where (span_begins_before (length (encode_utf8_all cs))) ss) n in
    skipped cs t s ss passed ∙ none-first cs t ss (ap (λ b. cond b (Some s) (first_span_where (span_begins_before (length (encode_utf8_all cs))) ss)) (sym passed) ∙ n)

none-last : (cs : List ℕ) → IsText cs → (ss : List Span) → last_where (span_begins_before (length (encode_utf8_all cs))) ss ≡ None → selected_by_all cs 0 ss ≡ []
none-last cs t [] n = refl
none-last cs t (s ∷ ss) n =
    let own : Option Span = cond (span_begins_before (length (encode_utf8_all cs)) s) (Some s) None in
    let rest : Option Span = last_where (span_begins_before (length (encode_utf8_all cs))) ss in
    skipped cs t s ss (no-flag (span_begins_before (length (encode_utf8_all cs)) s) s None (no-second rest own n)) ∙ none-last cs t ss (no-first rest own n)

pub none-there : (cs : List ℕ) (direction : Direction) (ss : List Span) (r : Range) → IsText cs → span_sought direction cs ss r ≡ None → selected_by_all cs 0 ss ≡ []
none-there cs Forward ss r t n = none-first cs t ss (no-second (first_span_where (begins_between (bytes_of_first cs r.high) (length (encode_utf8_all cs))) ss) (first_span_where (span_begins_before (length (encode_utf8_all cs))) ss) n)
none-there cs Backward ss r t n = none-last cs t ss (no-second (last_where (span_begins_before (byte_bound cs r.low)) ss) (last_where (span_begins_before (length (encode_utf8_all cs))) ss) n)

-- what is found begins before the end, and something is selected
abbrev IsFound : List ℕ → List Span → Span → Type 0
IsFound cs ss s = (s.start < length (encode_utf8_all cs)) × (0 < length (selected_by_all cs 0 ss))

found-later : (cs : List ℕ) (x s : Span) (ss : List Span) → IsFound cs ss s → IsFound cs (x ∷ ss) s
found-later cs x s ss f = (f.0, omega (arith, f.1, length-append (selected_by cs 0 x) (selected_by_all cs 0 ss)))

found-here : (cs : List ℕ) → IsText cs → (test : Span → Bool) → ((s : Span) → length (encode_utf8_all cs) ≤ s.start → test s ≡ false) → (x s : Span) (ss : List Span) → test x ≡ true → Some x ≡ Some s → IsFound cs (x ∷ ss) s
found-here cs t test begun x s ss here e = subst (IsFound cs (x ∷ ss)) (ap (got x) e) (go (either x.start (length (encode_utf8_all cs))))
  where
    go : (x.start < length (encode_utf8_all cs)) ⊎ (length (encode_utf8_all cs) ≤ x.start) → IsFound cs (x ∷ ss) x
    go (inl l) = (l, omega (arith, ap length (one-selected cs t x l), length-append (selected_by cs 0 x) (selected_by_all cs 0 ss)))
    go (inr l) = absurd (false≢true (sym (begun x l) ∙ here))

module _ (cs : List ℕ) (t : IsText cs) (test : Span → Bool) (begun : (s : Span) → length (encode_utf8_all cs) ≤ s.start → test s ≡ false) where
  first-there : (ss : List Span) (s : Span) → first_span_where test ss ≡ Some s → IsFound cs ss s
  first-there [] s e = absurd (false≢true (ap is_there e))
  first-there (x ∷ ss) s e = go (λ f. first-there ss s f) (cases_Bool (test x))
    where
      go : (first_span_where test ss ≡ Some s → IsFound cs ss s) → (test x ≡ true) ⊎ (test x ≡ false) → IsFound cs (x ∷ ss) s
      go further (inl h) = found-here cs t test begun x s ss h (ap (λ b. cond b (Some x) (first_span_where test ss)) (sym h) ∙ e)
      go further (inr h) = found-later cs x s ss (further (ap (λ b. cond b (Some x) (first_span_where test ss)) (sym h) ∙ e))

  last-own : (x s : Span) (ss : List Span) → cond (test x) (Some x) None ≡ Some s → (test x ≡ true) ⊎ (test x ≡ false) → IsFound cs (x ∷ ss) s
  last-own x s ss f (inl h) = found-here cs t test begun x s ss h (ap (λ (b : Bool). cond b (Some x) None) (sym h) ∙ f)
  last-own x s ss f (inr h) = let nothing : None ≡ Some s = ap (λ (b : Bool). cond b (Some x) None) (sym h) ∙ f in absurd (false≢true (ap is_there nothing))

  last-there : (ss : List Span) (s : Span) → last_where test ss ≡ Some s → IsFound cs ss s
  last-there [] s e = absurd (false≢true (ap is_there e))
  last-there (x ∷ ss) s e = go (λ f. last-there ss s f) (either-one (last_where test ss) (cond (test x) (Some x) None) s e)
    where
      go : (last_where test ss ≡ Some s → IsFound cs ss s) → (last_where test ss ≡ Some s) ⊎ (cond (test x) (Some x) None ≡ Some s) → IsFound cs (x ∷ ss) s
      go further (inl f) = found-later cs x s ss (further f)
      go further (inr f) = last-own x s ss f (cases_Bool (test x))

pub some-there : (cs : List ℕ) (direction : Direction) (ss : List Span) (r : Range) (s : Span) → IsText cs → r.low ≤ r.high → r.high < length cs → span_sought direction cs ss r ≡ Some s → IsFound cs ss s
some-there cs Forward ss r s t o h e = go (either-one (first_span_where (begins_between (bytes_of_first cs r.high) (length (encode_utf8_all cs))) ss) (first_span_where (span_begins_before (length (encode_utf8_all cs))) ss) s e)
  where
    go : (first_span_where (begins_between (bytes_of_first cs r.high) (length (encode_utf8_all cs))) ss ≡ Some s) ⊎ (first_span_where (span_begins_before (length (encode_utf8_all cs))) ss ≡ Some s) → IsFound cs ss s
    go (inl f) = first-there cs t (begins_between (bytes_of_first cs r.high) (length (encode_utf8_all cs))) (forward cs r h).begun ss s f
    go (inr f) = first-there cs t (span_begins_before (length (encode_utf8_all cs))) (every cs).begun ss s f
some-there cs Backward ss r s t o h e = go (either-one (last_where (span_begins_before (byte_bound cs r.low)) ss) (last_where (span_begins_before (length (encode_utf8_all cs))) ss) s e)
  where
    go : (last_where (span_begins_before (byte_bound cs r.low)) ss ≡ Some s) ⊎ (last_where (span_begins_before (length (encode_utf8_all cs))) ss ≡ Some s) → IsFound cs ss s
    go (inl f) = last-there cs t (span_begins_before (byte_bound cs r.low)) (backward cs r (omega (arith, o, h))).begun ss s f
    go (inr f) = last-there cs t (span_begins_before (length (encode_utf8_all cs))) (every cs).begun ss s f

-- what the span that was found selects is the range that is sought
pub found-is-sought : (cs : List ℕ) (direction : Direction) (ss : List Span) (r found : Range) (s : Span) → IsText cs → r.low ≤ r.high → r.high < length cs → span_sought direction cs ss r ≡ Some s → found ∷ [] ≡ selected_by cs 0 s → found ≡ sought direction (selected_by_all cs 0 ss) r
found-is-sought cs direction ss r found s t o h e f =
    let one : found ∷ [] ≡ only_of cs s ∷ [] = f ∙ one-selected cs t s (some-there cs direction ss r s t o h e).0 in
    ap (first_or r) one ∙ ap (picked cs r) (sym e) ∙ sym (sought-picked cs direction ss r t o h)

-- and it selects something
pub found-selects : (cs : List ℕ) (direction : Direction) (ss : List Span) (r : Range) (s : Span) → IsText cs → r.low ≤ r.high → r.high < length cs → span_sought direction cs ss r ≡ Some s → [] ≡ selected_by cs 0 s → ⊥
found-selects cs direction ss r s t o h e f = absurd (omega (arith, ap length (f ∙ one-selected cs t s (some-there cs direction ss r s t o h e).0)))

-- ---- the text with one of its places

pub written-before : (cs old bytes : List ℕ) (low p : ℕ) → old ≡ [] → low ≡ 0 → bytes ≡ old ++ encode_utf8_all (slice_range cs low p) → bytes ≡ encode_utf8_all (take p cs)
written-before cs old bytes low p n z e =
    let same : p - 0 ≡ p = omega arith in
    e ∙ ap₂ (λ xs k. xs ++ encode_utf8_all (slice_range cs k p)) n z ∙ ap (λ k. encode_utf8_all (take k cs)) same

pub written-all : (cs before bytes : List ℕ) (p n : ℕ) → before ≡ encode_utf8_all (take p cs) → bytes ≡ before ++ encode_utf8_all (slice_range cs p n) → n ≡ length cs → bytes ≡ encode_utf8_all cs
written-all cs before bytes p n b e l =
    let rest : slice_range cs p n ≡ drop p cs = take_all (n - p) (drop p cs) (omega (arith, l, length-drop p cs)) in
    e ∙ ap₂ (λ xs ys. xs ++ encode_utf8_all ys) b rest ∙ sym (encodes-append (take p cs) (drop p cs)) ∙ ap encode_utf8_all (take-append-drop p cs)

pub byte-inside : (cs : List ℕ) (p : ℕ) → p < length cs → bytes_of_first cs p < length (encode_utf8_all cs)
byte-inside cs p l = go (either (bytes_of_first cs p) (length (encode_utf8_all cs)))
  where
    go : (bytes_of_first cs p < length (encode_utf8_all cs)) ⊎ (length (encode_utf8_all cs) ≤ bytes_of_first cs p) → bytes_of_first cs p < length (encode_utf8_all cs)
    go (inl h) = h
    go (inr h) = absurd (omega (arith, l, all-begun cs (length (encode_utf8_all cs)) (omega arith), not-begun cs p (length (encode_utf8_all cs)) h))

-- what a match selects that was walked to over the whole text
pub selected-whole : (text own : List ℕ) (low a b : ℕ) (s : Span) (rs : List Range) → own ≡ text → low ≡ 0 → a ≡ chars_before own s.start → b ≡ chars_before own s.end → rs ≡ part_between (low + a) (low + match_end own a b) → rs ≡ selected_by text 0 s
selected-whole text own low a b s rs o z f e r =
    r ∙ ap₂ (λ m n. part_between (low + m) (low + match_end own m n)) f e ∙ ap₂ (λ cs l. selected_by cs l s) o z
