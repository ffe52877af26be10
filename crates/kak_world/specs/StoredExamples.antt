-- Worked examples of what a step leaves as it is stored: what others have on each buffer, with exactly these exceptions.
use Rattle.std.specs.Prelude.{ℕ, false, [], ◌∷◌, Some, None}
use Rattle.window_view.specs.Sizes.{first_corner}
use Rattle.change_list.specs.Logs.{fresh}
use Rattle.list_shelf.specs.declared.holder.Holder.TheVariants.{Of}
use Rattle.list_shelf.specs.declared.rows.ShelfRow.{ShelfRow}
use Rattle.kak_world.specs.declared.since.Since.{Since}
use Rattle.kak_world.specs.Stored.{Stored, just_opened, nothing_since, since_behind, LeavesSlot}

-- a list of a client that stands at a stamp
abbrev pub row_at : ℕ → ℕ → ShelfRow
row_at who stamp = record { holder = Of who; lag = record { stamp = stamp; sels = record { list = []; main = 0 } }; corner = first_corner }

-- a buffer with lists of 7 and 9, which stand at these stamps, and what became of it since the step began
abbrev pub at_stamps : ℕ → ℕ → Since → Stored
at_stamps first second since = record { shelf = record { limit = 3; log = fresh; rows = row_at 7 first ∷ row_at 9 second ∷ [] }; since = since }

-- a buffer on which 7 has a list alone
abbrev pub without_another : Stored
without_another = record { shelf = record { limit = 3; log = fresh; rows = row_at 7 0 ∷ [] }; since = nothing_since }

pub record StoredExamples : Type 0 where
  pub ones_own_may_be_brought_up : LeavesSlot 7 (Some (at_stamps 0 0 nothing_since)) (Some (at_stamps 2 0 nothing_since))
  pub anothers_may_not : LeavesSlot 7 (Some (at_stamps 0 0 nothing_since)) (Some (at_stamps 0 2 nothing_since)) → ⊥
  pub nor_be_taken_away : LeavesSlot 7 (Some (at_stamps 0 0 nothing_since)) (Some without_another) → ⊥
  pub where_the_log_began_again : LeavesSlot 7 (Some (at_stamps 0 0 nothing_since)) (Some (at_stamps 0 2 (since_behind false nothing_since)))
  pub or_the_buffer_is_another : LeavesSlot 7 (Some (at_stamps 0 0 nothing_since)) (Some (at_stamps 0 2 just_opened))
  pub or_it_was_dropped : LeavesSlot 7 (Some (at_stamps 0 0 nothing_since)) None
  pub shown_for_the_first_time : LeavesSlot 7 (Some without_another) (Some (at_stamps 0 2 nothing_since))
