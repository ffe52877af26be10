-- Laws of searches, proved as the contract of a function of `laws`.
use Rattle.std.specs.Prelude.{◌≡◌, ℕ, ◌+◌, ◌<◌, List, length}
use Rattle.list_model.specs.Ranges.{Range}
use Rattle.list_model.specs.Settled.{SomeOf}
use Rattle.directions.specs.declared.direction.Direction.{Direction}
use Rattle.regex_select.specs.Selecting.{matched_in}
use Rattle.regex_select.specs.Searching.{all_matches, sought}

pub record SearchLaws : Type 0 where
  -- all matches are those in the selection of the whole text
  pub in_the_whole : (source text : List ℕ) (r : Range) → r.low ≡ 0 → r.high + 1 ≡ length text → all_matches source text ≡ matched_in source text r
  -- what is found is a match
  pub is_a_match : (direction : Direction) (ms : List Range) (r : Range) → 0 < length ms → SomeOf (λ m. m ≡ sought direction ms r) ms
