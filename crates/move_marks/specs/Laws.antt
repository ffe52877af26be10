-- Why marks may be settled by halves.
use Rattle.std.specs.Prelude.{◌≡◌, ℕ, ◌+◌, ◌<◌, ◌≤◌, ◌++◌, length}
use Rattle.std.specs.List.{AllByRecursion}
use Rattle.list_model.specs.Ranges.{Selected}
use Rattle.list_model.specs.Settling.{settled, each_settled, carried}
use Rattle.move_marks.specs.Joining.{IsPlain}

-- two lists as one, whose main one is that of the second
abbrev pub as_one : Selected → Selected → Selected
as_one s t = record { list = s.list ++ t.list; main = length s.list + t.main }

-- a part of a list of plain ranges may be settled first: the whole list settles to the same
pub record PartsMayBeSettled : Type 0 where
  pub before_the_rest_comes : (s t : Selected) → AllByRecursion IsPlain s.list → AllByRecursion IsPlain t.list
      → s.main < length s.list → t.main < length t.list → settled (as_one (settled s) (settled t)) ≡ settled (as_one s t)
  pub before_it_is_carried : (f : ℕ → ℕ) → ((a b : ℕ) → a ≤ b → f a ≤ f b)
      → (s : Selected) → AllByRecursion IsPlain s.list → s.main < length s.list → each_settled (carried f) (settled s) ≡ each_settled (carried f) s
