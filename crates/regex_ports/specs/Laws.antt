-- Laws of matches and their groups, proved as the contract of a function of `laws`.
use Rattle.std.specs.Prelude.{◌≡◌, ℕ, List, map, Some, None, slice_index_or}
use Rattle.regex_ports.specs.Matching.{matches_of}
use Rattle.regex_ports.specs.Grouping.{groups_of}

-- the groups of each match begin with the match
pub record GroupLaws : Type 0 where
  pub match_is_at_0 : (source text : List ℕ) → map (λ spans. slice_index_or spans 0 None) (groups_of source text) ≡ map Some (matches_of source text)
