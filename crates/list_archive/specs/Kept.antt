-- The lists that are kept on a text beside those that clients have: the one that a client had when its key event began, those that it can take
-- back and redo, and the marks of registers. Each change of the text moves them all.
use Rattle.std.specs.Prelude.{ℕ, Bool, true, false, not, ◌&&◌, ◌==◌, if◌then◌else◌, List, [], ◌∷◌, length, map, option_map, Some, None}
use Rattle.std.specs.declared.option.Option.{Option}
use Rattle.text_model.specs.Changes.{Change}
use Rattle.list_model.specs.Ranges.{Range, Selected}
use Rattle.selection_map.specs.Catching.{eager_by}
use Rattle.list_archive.specs.Limits.{newest}
use Rattle.list_archive.specs.Trails.{Trail, Mark, trail_with, mark_with, gone_on, left_off}

-- the list that a client had when its key event began
pub record SavedList : Type 0 where
  pub who : ℕ
  pub sels : Selected

-- what is kept on a text
pub record KeptLists : Type 0 where
  pub saved : Option SavedList
  pub trails : List (Trail Selected)
  pub marks : List (Mark Selected)

abbrev pub nothing_kept : KeptLists
nothing_kept = record { saved = None; trails = []; marks = [] }

-- the eager rule: each of them is carried through each of some changes of the text, and settled there
abbrev pub saved_moved : List ℕ → List Change → SavedList → SavedList
saved_moved text cs s = record { who = s.who; sels = eager_by text cs s.sels }

abbrev pub kept_moved : List ℕ → List Change → KeptLists → KeptLists
kept_moved text cs k = record {
  saved = option_map (saved_moved text cs) k.saved;
  trails = map (trail_with (eager_by text cs)) k.trails;
  marks = map (mark_with (eager_by text cs)) k.marks;
}

-- whether two lists are alike: they have the same selections in the same order, turned alike, and the same main one; where they aim isn't compared
abbrev pub is_alike : Range → Range → Bool
is_alike r s = r.low == s.low && (r.high == s.high && (if r.turned then s.turned else not s.turned))

abbrev pub are_alike : List Range → List Range → Bool
are_alike [] [] = true
are_alike [] (s ∷ ss) = false
are_alike (r ∷ rs) [] = false
are_alike (r ∷ rs) (s ∷ ss) = is_alike r s && are_alike rs ss

abbrev pub alike : Selected → Selected → Bool
alike a b = are_alike a.list b.list && a.main == b.main

-- how many selections a list has, and the newest of some lists
abbrev pub size_of : Selected → ℕ
size_of s = length s.list

abbrev pub newest_lists : List Selected → List Selected
newest_lists lists = newest size_of lists

-- a client's key event begins: its list is saved
abbrev pub list_saved : ℕ → Selected → KeptLists → KeptLists
list_saved who sels k = record { saved = Some (record { who = who; sels = sels }); trails = k.trails; marks = k.marks }

-- the saved list is dropped
abbrev pub saved_dropped : KeptLists → KeptLists
saved_dropped k = record { saved = None; trails = k.trails; marks = k.marks }

-- the client's key event ends, at which it has this list: where the saved one is its own, and isn't alike to that, it went on from it
abbrev pub gone_on_from : Option SavedList → ℕ → Selected → KeptLists → KeptLists
gone_on_from None who own k = k
gone_on_from (Some s) who own k = if s.who == who && not (alike s.sels own) then record { saved = k.saved; trails = gone_on newest_lists who s.sels k.trails; marks = k.marks } else k

-- no list is saved then
abbrev pub saved_kept : ℕ → Selected → KeptLists → KeptLists
saved_kept who own k = gone_on_from k.saved who own (saved_dropped k)

-- a client leaves: what was kept for it goes
abbrev pub saved_but : ℕ → Option SavedList → Option SavedList
saved_but who None = None
saved_but who (Some s) = if s.who == who then None else Some s

abbrev pub kept_without : ℕ → KeptLists → KeptLists
kept_without who k = record { saved = saved_but who k.saved; trails = left_off who k.trails; marks = k.marks }
