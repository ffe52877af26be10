-- Laws of what is kept, each proved as the contract of a function of `laws`.
use Rattle.std.specs.Prelude.{◌≡◌, ℕ, ◌+◌, ◌≤◌, ◌⊎◌, true, false, ◌==◌, List, [], ◌∷◌, ◌++◌, length, drop, map, option_map}
use Rattle.std.specs.List.{AllByRecursion}
use Rattle.text_model.specs.declared.coords.Shift.{Shift}
use Rattle.text_model.specs.Changes.{Change, all_changed}
use Rattle.list_model.specs.Ranges.{Selected}
use Rattle.selection_set.specs.Listing.{Listed}
use Rattle.selection_map.specs.Catching.{AreShiftsOf}
use Rattle.change_list.specs.Logs.{stamp_of}
use Rattle.list_shelf.specs.declared.holder.Holder.{Holder}
use Rattle.list_shelf.specs.declared.holder.Holder.TheVariants.{Of}
use Rattle.list_shelf.specs.declared.lag.Lag.{Lag}
use Rattle.list_shelf.specs.Lagging.{Lags}
use Rattle.list_shelf.specs.Shelves.{Shelved, has_row, with_sels, with_main, with_lag_of, brought_up, listed, unlisted, with_corner, all_noted, all_moved, lists_in, KeepsUp, Stands, StandsWith}
use Rattle.window_view.specs.declared.corner.Corner.{Corner}
use Rattle.list_archive.specs.Limits.{fits}
use Rattle.list_archive.specs.Trails.{Trail, Mark, trail_of, last_before, next_ahead, gone_on, gone_back, gone_forward, left_off, mark_of, marked, unmarked}
use Rattle.list_archive.specs.Kept.{nothing_kept, kept_moved, size_of, newest_lists, list_saved, saved_dropped, saved_kept, kept_without}
use Rattle.list_archive.specs.Archives.{Archived, empty_archive, own_lag, own_up, newest_lags, same_saved, unsaved, parted, left_by, saved_kept_in, archived_without, archive_carried, archive_noted, trimmed_with, list_in, kept_in, ArchiveStands, IsApart, IsTrimmedWith, KeptIs}

-- what is kept follows single changes of its text by their shifts: each list is what the eager rule makes of it
pub record FollowingLaws : Type 0 where
  pub noted : (text : List ℕ) (cs : List Change) (ss : List Shift) (shelf : Shelved) (a : Archived) → AreShiftsOf text cs ss → Stands text shelf → ArchiveStands text shelf a
      → KeptIs (all_changed text cs) (all_noted ss shelf) (archive_noted ss shelf a) (kept_moved text cs (kept_in text shelf a))
  -- so it is where the shifts can't be noted
  pub not_noted : (text : List ℕ) (cs : List Change) (ss : List Shift) (shelf : Shelved) (a : Archived) → AreShiftsOf text cs ss → Stands text shelf → ArchiveStands text shelf a
      → KeptIs (all_changed text cs) (all_moved ss shelf) (archive_carried shelf.log ss a) (kept_moved text cs (kept_in text shelf a))
  -- while the log has room, all lists stay as they are stored
  pub below_the_limit : (ss : List Shift) (shelf : Shelved) (a : Archived) → stamp_of shelf.log + length ss ≤ shelf.limit → archive_noted ss shelf a ≡ a

-- a client's list is saved, and it goes on from there: with each thing that is done, what is kept is seen as the definitions say
pub record SavingLaws : Type 0 where
  pub nothing : (text : List ℕ) (shelf : Shelved) → KeptIs text shelf empty_archive nothing_kept
  pub saved : (text : List ℕ) (who : ℕ) (shelf : Shelved) (a : Archived) → has_row (Of who) shelf ≡ true → ArchiveStands text shelf a
      → KeptIs text shelf (same_saved who a) (list_saved who (list_in text shelf.log (own_lag who shelf)) (kept_in text shelf a))
  pub dropped : (text : List ℕ) (shelf : Shelved) (a : Archived) → ArchiveStands text shelf a → KeptIs text shelf (unsaved a) (saved_dropped (kept_in text shelf a))
  -- the saved list stays what it was when its client gets another list, and when one of its own is made of it
  pub another_list : (text : List ℕ) (who : ℕ) (s : Listed) (shelf : Shelved) (a : Archived) → has_row (Of who) shelf ≡ true → Stands text shelf → ArchiveStands text shelf a
      → KeptIs text (with_sels (Of who) s shelf) (left_by who (own_lag who shelf) a) (kept_in text shelf a)
  pub parted : (text : List ℕ) (who : ℕ) (shelf : Shelved) (a : Archived) → Stands text shelf → ArchiveStands text shelf a → KeptIs text shelf (parted who shelf a) (kept_in text shelf a) × IsApart who (parted who shelf a).saved
  -- the client's key event ends
  pub kept : (text : List ℕ) (who : ℕ) (shelf : Shelved) (a : Archived) → has_row (Of who) shelf ≡ true → (own_lag who shelf).stamp ≡ stamp_of shelf.log → Stands text shelf → ArchiveStands text shelf a
      → KeptIs text shelf (saved_kept_in who shelf a) (saved_kept who (list_in text shelf.log (own_lag who shelf)) (kept_in text shelf a))
  -- when another main selection is chosen, it was parted from the list before
  pub another_main : (text : List ℕ) (who n : ℕ) (shelf : Shelved) (a : Archived) → has_row (Of who) shelf ≡ true → IsApart who a.saved → Stands text shelf → ArchiveStands text shelf a → KeptIs text (with_main (Of who) n shelf) a (kept_in text shelf a)
  pub client_leaves : (text : List ℕ) (who : ℕ) (shelf : Shelved) (a : Archived) → Stands text shelf → ArchiveStands text shelf a → KeptIs text (unlisted (Of who) shelf) (archived_without who a) (kept_without who (kept_in text shelf a))

-- how many lists are kept
pub record LimitLaws : Type 0 where
  -- of those that are kept, the last is the last of all
  pub newest_stays : (lists : List Selected) (last : Selected) → (n : ℕ) × (newest_lists (lists ++ last ∷ []) ≡ drop n lists ++ last ∷ [])
  -- where all are allowed, all are kept, and those that are kept are allowed, or it is one alone
  pub all_stay : (lists : List Selected) → fits size_of lists ≡ true → newest_lists lists ≡ lists
  pub allowed : (lists : List Selected) → (fits size_of (newest_lists lists) ≡ true) ⊎ (length (newest_lists lists) ≡ 1)
  -- counted as they are stored, and brought up to date where they may be too many, they come to what is seen
  pub as_seen : (text : List ℕ) (shelf : Shelved) (lags : List Lag) → AllByRecursion (Lags text shelf.log) lags → map (list_in text shelf.log) (newest_lags shelf.log lags) ≡ newest_lists (map (list_in text shelf.log) lags)

-- a client takes its list back, redoes it, and marks are set: what is kept is seen as the definitions say
pub record SteppingLaws : Type 0 where
  pub before_is_seen : (text : List ℕ) (who : ℕ) (shelf : Shelved) (a : Archived) → last_before who (kept_in text shelf a).trails ≡ option_map (list_in text shelf.log) (last_before who a.trails)
  pub ahead_is_seen : (text : List ℕ) (who : ℕ) (shelf : Shelved) (a : Archived) → next_ahead who (kept_in text shelf a).trails ≡ option_map (list_in text shelf.log) (next_ahead who a.trails)
  pub mark_is_seen : (text : List ℕ) (register : ℕ) (shelf : Shelved) (a : Archived) → mark_of register (kept_in text shelf a).marks ≡ option_map (list_in text shelf.log) (mark_of register a.marks)
  -- whichever list the client gets, the one that it had is moved, also where it is the saved one, which was parted from it before
  pub back : (text : List ℕ) (who : ℕ) (lag : Lag) (shelf : Shelved) (a : Archived) → has_row (Of who) shelf ≡ true → IsApart who a.saved → Stands text shelf → ArchiveStands text shelf a
      → KeptIs text (with_lag_of (Of who) lag shelf) (record { saved = a.saved; trails = gone_back who (own_lag who shelf) a.trails; marks = a.marks })
      (record { saved = (kept_in text shelf a).saved; trails = gone_back who (list_in text shelf.log (own_lag who shelf)) (kept_in text shelf a).trails; marks = (kept_in text shelf a).marks })
  pub forward : (text : List ℕ) (who : ℕ) (lag : Lag) (shelf : Shelved) (a : Archived) → has_row (Of who) shelf ≡ true → IsApart who a.saved → Stands text shelf → ArchiveStands text shelf a
      → KeptIs text (with_lag_of (Of who) lag shelf) (record { saved = a.saved; trails = gone_forward (newest_lags shelf.log) who (own_lag who shelf) a.trails; marks = a.marks })
      (record { saved = (kept_in text shelf a).saved; trails = gone_forward newest_lists who (list_in text shelf.log (own_lag who shelf)) (kept_in text shelf a).trails; marks = (kept_in text shelf a).marks })
  pub marked : (text : List ℕ) (who register : ℕ) (shelf : Shelved) (a : Archived) → has_row (Of who) shelf ≡ true → Stands text shelf → ArchiveStands text shelf a
      → KeptIs text shelf (record { saved = a.saved; trails = a.trails; marks = marked register (own_up who shelf) a.marks })
      (record { saved = (kept_in text shelf a).saved; trails = (kept_in text shelf a).trails; marks = marked register (list_in text shelf.log (own_lag who shelf)) (kept_in text shelf a).marks })
  pub unmarked : (text : List ℕ) (register : ℕ) (shelf : Shelved) (a : Archived) → ArchiveStands text shelf a
      → KeptIs text shelf (record { saved = a.saved; trails = a.trails; marks = unmarked register a.marks })
      (record { saved = (kept_in text shelf a).saved; trails = (kept_in text shelf a).trails; marks = unmarked register (kept_in text shelf a).marks })

-- what is done with a shelf beside it leaves what is kept
pub record ShelfLaws : Type 0 where
  pub brought_up : (text : List ℕ) (holder : Holder) (shelf : Shelved) (a : Archived) → Stands text shelf → ArchiveStands text shelf a → KeptIs text (brought_up holder shelf) a (kept_in text shelf a)
  pub added : (text : List ℕ) (holder : Holder) (s : Listed) (corner : Corner) (shelf : Shelved) (a : Archived) → ArchiveStands text shelf a → KeptIs text (listed holder s corner shelf) a (kept_in text shelf a)
  pub other_corner : (text : List ℕ) (holder : Holder) (corner : Corner) (shelf : Shelved) (a : Archived) → ArchiveStands text shelf a → KeptIs text (with_corner holder corner shelf) a (kept_in text shelf a)
  -- the log is trimmed to the least stamp of all lists, on the shelf and kept
  pub trimmed : (text : List ℕ) (shelf : Shelved) (a : Archived) → Stands text shelf → ArchiveStands text shelf a
      → StandsWith text (trimmed_with a shelf) (lists_in text shelf) × (KeptIs text (trimmed_with a shelf) a (kept_in text shelf a) × IsTrimmedWith a (trimmed_with a shelf))
  pub trimmed_up : (text : List ℕ) (shelf : Shelved) (a : Archived) → Stands text shelf → ArchiveStands text shelf a → KeepsUp shelf (trimmed_with a shelf)

-- whatever a client does, what is kept for others is left as it is stored, and so are the marks of all registers but one
pub record OthersLaws : Type 0 where
  pub goes_on : (keep : List Lag → List Lag) (who other : ℕ) (had : Lag) (trails : List (Trail Lag)) → (other == who) ≡ false → trail_of other (gone_on keep who had trails) ≡ trail_of other trails
  pub goes_back : (who other : ℕ) (had : Lag) (trails : List (Trail Lag)) → (other == who) ≡ false → trail_of other (gone_back who had trails) ≡ trail_of other trails
  pub goes_forward : (keep : List Lag → List Lag) (who other : ℕ) (had : Lag) (trails : List (Trail Lag)) → (other == who) ≡ false → trail_of other (gone_forward keep who had trails) ≡ trail_of other trails
  pub leaves : (who other : ℕ) (trails : List (Trail Lag)) → (other == who) ≡ false → trail_of other (left_off who trails) ≡ trail_of other trails
  pub sets_mark : (register other : ℕ) (list : Lag) (marks : List (Mark Lag)) → (other == register) ≡ false → mark_of other (marked register list marks) ≡ mark_of other marks
  pub takes_mark_off : (register other : ℕ) (marks : List (Mark Lag)) → (other == register) ≡ false → mark_of other (unmarked register marks) ≡ mark_of other marks
