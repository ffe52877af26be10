-- Worked examples, which hold by computation.
use Rattle.std.specs.Prelude.{◌≡◌, ℕ, [], ◌∷◌, Some, None, codes}
use Rattle.regex_ports.specs.declared.pattern.Span.{Span}
use Rattle.regex_ports.specs.Grouping.{numbered, groups_of, groups_found}

abbrev pub from_to : ℕ → ℕ → Span
from_to a b = record { start = a; end = b }

-- a group that takes no part has none; of those in a repetition the last time counts
pub record GroupExamples : Type 0 where
  pub one_takes_part : groups_of (codes "(b)|(c)") (codes "bc") ≡ (Some (from_to 0 1) ∷ Some (from_to 0 1) ∷ None ∷ []) ∷ (Some (from_to 1 2) ∷ None ∷ Some (from_to 1 2) ∷ []) ∷ []
  pub last_time : groups_of (codes "(a|b)+") (codes "ab") ≡ (Some (from_to 0 2) ∷ Some (from_to 1 2) ∷ []) ∷ []
  pub without_groups : groups_of (codes "b") (codes "ab") ≡ (Some (from_to 1 2) ∷ []) ∷ []
  pub no_pattern : groups_of (codes "(") (codes "(") ≡ []
  -- match by match, by their numbers
  pub numbers : groups_found (codes "(b)|(c)") (codes "bc") ≡ numbered 0 (from_to 0 1) ∷ numbered 1 (from_to 0 1) ∷ numbered 0 (from_to 1 2) ∷ numbered 2 (from_to 1 2) ∷ []
  pub empty_one_too : groups_found (codes "x*") (codes "a") ≡ numbered 0 (from_to 0 0) ∷ numbered 0 (from_to 1 1) ∷ []
