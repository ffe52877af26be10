-- Worked examples of the definitions, on entries that are numbers, each made by its last digit.
use Rattle.std.specs.Prelude.{◌≡◌, ℕ, ◌%◌, [], ◌∷◌, Some, None}
use Rattle.session_desk.specs.Histories.{longer, entries_by, first_mark}

abbrev pub last_digit : ℕ → ℕ
last_digit entry = entry % 10

pub record Examples : Type 0 where
  -- the entries of maker 1, in order
  pub own_in_order : entries_by last_digit 1 (31 ∷ 12 ∷ 21 ∷ []) ≡ 31 ∷ 21 ∷ []
  -- a maker that made none has none
  pub own_of_nobody : entries_by last_digit 7 (31 ∷ 12 ∷ 21 ∷ []) ≡ []
  -- of two histories that were seen the longer counts
  pub longer_second : longer {E = ℕ} (31 ∷ []) (31 ∷ 12 ∷ []) ≡ 31 ∷ 12 ∷ []
  pub longer_first : longer {E = ℕ} (31 ∷ 12 ∷ []) (31 ∷ []) ≡ 31 ∷ 12 ∷ []
  -- a mark that one of two met is kept
  pub mark_of_second : first_mark None (Some 2) ≡ Some 2
  pub mark_of_first : first_mark (Some 2) None ≡ Some 2
  pub no_mark : first_mark None None ≡ None
