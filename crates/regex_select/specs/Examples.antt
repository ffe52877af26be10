-- Worked examples, which hold by computation. Whether there is a match says the pattern.
use Rattle.std.specs.Prelude.{◌≡◌, ℕ, true, false, None, Some, List, [], ◌∷◌, codes, nat_lt}
use Rattle.list_model.specs.Ranges.{Range, Selected, only}
use Rattle.list_model.specs.Settling.{each_settled}
use Rattle.regex_ports.specs.declared.pattern.Span.{Span}
use Rattle.regex_ports.specs.Matching.{is_some_span}
use Rattle.directions.specs.declared.direction.Direction.{Direction}
use Rattle.directions.specs.declared.direction.Direction.TheVariants.{Forward, Backward}
use Rattle.regex_select.specs.declared.way.Search.{Search}
use Rattle.regex_select.specs.Rows.{selected_chars, kept_each}
use Rattle.regex_ports.specs.Matching.{chars_before}
use Rattle.regex_select.specs.Selecting.{selected_by, selected_by_all, parts_from, made_each}
use Rattle.regex_select.specs.Searching.{sought, searched, main_settled, main_added}

-- a turned selection with a target
abbrev pub aimed : ℕ → ℕ → Range
aimed a b = record { low = a; high = b; turned = true; target = Some 7 }

-- a list with its main selection
abbrev pub listed : List Range → ℕ → Selected
listed list main = record { list = list; main = main }

-- an empty match is one
abbrev pub empty_span : ℕ → Span
empty_span a = record { start = a; end = a }

-- selections that are kept stay as they are
pub record KeptExamples : Type 0 where
  pub of_a_selection : selected_chars (codes "abcd\n") (aimed 1 2) ≡ codes "bc"
  pub empty_one_counts : is_some_span (empty_span 2 ∷ []) ≡ true
  pub none : is_some_span [] ≡ false
  pub main_stays : kept_each (λ r. nat_lt r.low 5) (listed (only 0 ∷ aimed 2 4 ∷ only 6 ∷ []) 1) ≡ listed (only 0 ∷ aimed 2 4 ∷ []) 1
  pub one_before_it_goes : kept_each (λ r. nat_lt 1 r.low) (listed (only 0 ∷ aimed 2 4 ∷ only 6 ∷ []) 1) ≡ listed (aimed 2 4 ∷ only 6 ∷ []) 0
  pub last_becomes_main : kept_each (λ r. nat_lt 1 r.low) (listed (only 0 ∷ aimed 2 4 ∷ only 6 ∷ []) 0) ≡ listed (aimed 2 4 ∷ only 6 ∷ []) 1

-- a match by its first byte and the one behind its last
abbrev pub match : ℕ → ℕ → Span
match a b = record { start = a; end = b }

-- a straight selection without a target
abbrev pub straight : ℕ → ℕ → Range
straight a b = record { low = a; high = b; turned = false; target = None }

-- 0xe9 has two bytes. The matches of `a*` in `ab` with its newline are those of `empty_ones`
pub record MatchedExamples : Type 0 where
  pub bytes_of_one : chars_before (0xe9 ∷ codes "b") 2 ≡ 1
  pub bytes_of_two : chars_before (0xe9 ∷ codes "b") 3 ≡ 2
  pub range : selected_by (codes "abc\n") 4 (match 1 3) ≡ straight 5 6 ∷ []
  pub range_of_wide_ones : selected_by (0xe9 ∷ codes "bc\n") 4 (match 0 3) ≡ straight 4 5 ∷ []
  pub empty_one : selected_by (codes "ab\n") 4 (match 1 1) ≡ only 5 ∷ []
  pub empty_at_the_end : selected_by (codes "ab") 4 (match 2 2) ≡ []
  pub empty_ones : selected_by_all (codes "ab\n") 0 (match 0 1 ∷ match 2 2 ∷ match 3 3 ∷ []) ≡ only 0 ∷ only 2 ∷ []
  pub last_is_main : made_each (λ r. only r.low ∷ only r.high ∷ []) (listed (only 0 ∷ aimed 2 4 ∷ []) 0) ≡ listed (only 0 ∷ only 2 ∷ only 4 ∷ []) 2

-- the matches of `\b` in `ab cd` with its newline are those of `at_word_ends`
pub record SplitExamples : Type 0 where
  pub between : parts_from (codes "a,b\n") 4 0 (match 1 2 ∷ []) ≡ straight 4 4 ∷ straight 6 7 ∷ []
  pub no_empty_ones : parts_from (codes ",,b\n") 0 0 (match 0 1 ∷ match 1 2 ∷ []) ≡ straight 2 3 ∷ []
  pub without_a_match : parts_from (codes "ab\n") 0 0 [] ≡ straight 0 2 ∷ []
  pub all_matched : parts_from (codes "ab") 0 0 (match 0 2 ∷ []) ≡ []
  pub at_each_character : parts_from (codes "ab\n") 0 0 (match 0 0 ∷ match 1 1 ∷ match 2 2 ∷ match 3 3 ∷ []) ≡ only 0 ∷ only 1 ∷ only 2 ∷ []
  pub at_word_ends : parts_from (codes "ab cd\n") 0 0 (match 0 0 ∷ match 2 2 ∷ match 3 3 ∷ match 5 5 ∷ []) ≡ straight 0 1 ∷ only 2 ∷ straight 3 4 ∷ only 5 ∷ []

-- a search that extends, and a turned selection without a target
abbrev pub stretching : Direction → Search
stretching direction = record { direction = direction; extend = true }

abbrev pub turned : ℕ → ℕ → Range
turned a b = record { low = a; high = b; turned = true; target = None }

-- two matches: those of `ab` in `ab ab` with its newline
abbrev pub two_matches : List Range
two_matches = straight 0 1 ∷ straight 3 4 ∷ []

-- the matches of the empty pattern in `ab` with its newline are three characters, those of `ab` in `abc abc` are 0 to 1 and
-- 4 to 5
pub record SearchExamples : Type 0 where
  pub matches : selected_by_all (codes "ab ab\n") 0 (match 0 2 ∷ match 3 5 ∷ []) ≡ two_matches
  pub next : sought Forward two_matches (only 0) ≡ straight 3 4
  pub round_the_end : sought Forward two_matches (straight 3 4) ≡ straight 0 1
  pub behind_all_of_it : sought Forward two_matches (straight 1 3) ≡ straight 0 1
  pub before : sought Backward two_matches (straight 3 4) ≡ straight 0 1
  pub last_before : sought Backward two_matches (only 5) ≡ straight 3 4
  pub inside_of_one : sought Backward two_matches (only 4) ≡ straight 3 4
  pub round_the_begin : sought Backward two_matches (only 0) ≡ straight 3 4
  pub empty_ones : sought Forward (only 0 ∷ only 1 ∷ only 2 ∷ []) (only 0) ≡ only 1
  pub only_itself : sought Forward (straight 3 4 ∷ []) (straight 3 4) ≡ straight 3 4
  pub back_to_its_end : searched (stretching Backward) (straight 0 1 ∷ straight 4 5 ∷ []) (only 6) ≡ turned 5 6
  pub from_the_anchor : searched (stretching Forward) two_matches (aimed 1 2) ≡ straight 2 4
  pub both_at_one : each_settled (searched (record { direction = Forward; extend = false }) two_matches) (listed (only 0 ∷ aimed 1 2 ∷ []) 1) ≡ listed (straight 3 4 ∷ []) 0
  pub sorted : each_settled (searched (record { direction = Forward; extend = false }) two_matches) (listed (only 2 ∷ only 5 ∷ []) 0) ≡ listed (straight 0 1 ∷ straight 3 4 ∷ []) 1
  pub of_the_main_one : main_settled (sought Forward two_matches) (listed (only 2 ∷ only 5 ∷ []) 1) ≡ listed (straight 0 1 ∷ only 2 ∷ []) 0
  pub one_more : main_added (sought Forward two_matches) (listed (only 2 ∷ only 5 ∷ []) 1) ≡ listed (straight 0 1 ∷ only 2 ∷ only 5 ∷ []) 0
