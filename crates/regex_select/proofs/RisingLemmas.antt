-- The matches of a pattern begin in rising order: each is searched for behind the one before it.
use Rattle.std.proofs.Common.{◌≡◌, ℕ, zero, suc, ◌+◌, ◌-◌, ◌<◌, ◌≤◌, ◌==◌, ◌⊎◌, inl, inr, Bool, true, false, cond, List, [], ◌∷◌, ◌++◌, length, map, Option, None, Some, refl, sym, ap, subst, ◌∙◌, arith}
use Rattle.std.specs.Prelude.{encode_utf8}
use Rattle.std.specs.Str.{chars}
use Rattle.regex.specs.Patterns.{Re, Match, find_str, find_all_str, span}
use Rattle.regex.proofs.SearchLemmas.{leftmost_within}
use Rattle.regex_hir.specs.Find.{find_after, matches_from}
use Rattle.regex_hir.specs.Text.{is_some_and}
use Rattle.regex_syntax.specs.Brackets.{Nested}
use Rattle.regex_syntax.specs.Grammar.{Names, read}
use Rattle.regex_ports.specs.declared.pattern.Span.{Span}
use Rattle.regex_ports.specs.Matching.{options, span_of, found_by, matches_of, chars_before}
use Rattle.regex_ports.proofs.CharLemmas.{chars-done, chars-some}
use Rattle.list_model.specs.Ranges.{Range}
use Rattle.regex_select.specs.Selecting.{part_between, match_end, selected_by, selected_by_all}
use Rattle.regex_select.specs.Searching.{all_matches}
use Rattle.regex_select.specs.Rows.{spans_in}
use Rattle.regex_select.proofs.MatchedLemmas.{part-some, part-none, straight}
use Rattle.regex_select.proofs.SpanLemmas.{either}

-- the begins of spans don't fall, from a byte on, nor do those of ranges, from an offset on
abbrev pub SpansRise : ℕ → List Span → Type 0
SpansRise b [] = Unit {0}
SpansRise b (s ∷ ss) = (b ≤ s.start) × SpansRise s.start ss

abbrev pub RangesRise : ℕ → List Range → Type 0
RangesRise b [] = Unit {0}
RangesRise b (r ∷ rs) = (b ≤ r.low) × RangesRise r.low rs

-- ---- bytes

-- a match begins at a byte or behind it, and ends where it begins or behind that
abbrev BeginsFrom : ℕ → Match → Type 0
BeginsFrom b m = (b ≤ m.start) × (m.start ≤ m.trace.end)

module _ (re : Re) (text : List ℕ) where
  found-from : (i : ℕ) (m : Match) → find_str re text i ≡ Some m → BeginsFrom i m
  found-from i m e = let w = leftmost_within re text true i m e in (w.0, w.1)

  after-from : (i : ℕ) (m : Match) → find_after (find_str re text) i ≡ Some m → BeginsFrom i m
  after-from i m = go (is_some_and (find_str re text i) (λ m. m.trace.end == i))
    where
      go : (b : Bool) → cond b (find_str re text (i + 1)) (find_str re text i) ≡ Some m → BeginsFrom i m
      go true e = let f = found-from (i + 1) m e in (omega (arith, f.0), f.1)
      go false e = found-from i m e

  rise-from : (n b : ℕ) (o : Option Match) → ((m : Match) → o ≡ Some m → BeginsFrom b m) → SpansRise b (map span_of (map span (matches_from (find_str re text) n o)))
  unfolding matches_from
  rise-from zero b o h = tt
  rise-from (suc n) b None h = tt
  rise-from (suc n) b (Some m) h =
      let own = h m refl in
      (own.0, rise-from n m.start (find_after (find_str re text) m.trace.end) (λ k e. let f = after-from m.trace.end k e in (omega (arith, own.1, f.0), f.1)))

found-rise : (read_as : Option (Nested Re × Names)) (text : List ℕ) → SpansRise 0 (found_by read_as text)
found-rise None text = tt
found-rise (Some (re, names)) text = rise-from re.value text (length text + 1) 0 (find_str re.value text 0) (λ m e. found-from re.value text 0 m e)

pub spans-rise : (source text : List ℕ) → SpansRise 0 (matches_of source text)
spans-rise source text = found-rise (read options (chars source)) text

-- ---- characters

more-chars : (cs : List ℕ) (a b : ℕ) → a ≤ b → chars_before cs a ≤ chars_before cs b
more-chars [] a b h = omega arith
more-chars (c ∷ cs) a b h = go (either 0 a) (more-chars cs (a - length (encode_utf8 c)) (b - length (encode_utf8 c)) (omega (arith, h)))
  where
    go : (0 < a) ⊎ (a ≤ 0) → chars_before cs (a - length (encode_utf8 c)) ≤ chars_before cs (b - length (encode_utf8 c)) → chars_before (c ∷ cs) a ≤ chars_before (c ∷ cs) b
    go (inl some) further = omega (arith, chars-some c cs a some, chars-some c cs b (omega (arith, some, h)), further)
    go (inr none) further = omega (arith, chars-done (c ∷ cs) a (omega (arith, none)))

-- ranges that rise from an offset on rise from each one before it
earlier : (a b : ℕ) (rs : List Range) → a ≤ b → RangesRise b rs → RangesRise a rs
earlier a b [] l h = tt
earlier a b (r ∷ rs) l h = (omega (arith, l, h.0), h.1)

one-more : (a low to : ℕ) (rs : List Range) → a ≤ low → RangesRise low rs → RangesRise a (part_between low to ++ rs)
one-more a low to rs l h = go (either low to)
  where
    go : (low < to) ⊎ (to ≤ low) → RangesRise a (part_between low to ++ rs)
    go (inl some) = subst (λ xs. RangesRise a (xs ++ rs)) (sym (part-some low to some)) (l, h)
    go (inr none) = subst (λ xs. RangesRise a (xs ++ rs)) (sym (part-none low to none)) (earlier a low rs l h)

selected-rise : (cs : List ℕ) (b : ℕ) (ss : List Span) → SpansRise b ss → RangesRise (0 + chars_before cs b) (selected_by_all cs 0 ss)
selected-rise cs b [] h = tt
selected-rise cs b (s ∷ ss) h =
    one-more (0 + chars_before cs b) (0 + chars_before cs s.start) (0 + match_end cs (chars_before cs s.start) (chars_before cs s.end)) (selected_by_all cs 0 ss) (omega (arith, more-chars cs b s.start h.0)) (selected-rise cs s.start ss h.1)

pub matches-rise : (source text : List ℕ) → RangesRise 0 (all_matches source text)
matches-rise source text = earlier 0 (0 + chars_before text 0) (all_matches source text) (omega arith) (selected-rise text 0 (spans_in source text) (spans-rise source _))
