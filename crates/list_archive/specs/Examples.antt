-- Worked examples of what is kept, which hold by computation.
use Rattle.std.specs.Prelude.{◌≡◌, ℕ, ◌+◌, Bool, true, false, Some, None, List, [], ◌∷◌, replicate, codes}
use Rattle.text_model.specs.declared.coords.Coord.{Coord}
use Rattle.text_model.specs.declared.coords.Shift.{Shift}
use Rattle.text_model.specs.Changes.{Insertion, Erasure}
use Rattle.list_model.specs.Ranges.{Range, Selected, only}
use Rattle.selection_set.specs.Listing.{Listed}
use Rattle.change_list.specs.Logs.{fresh}
use Rattle.list_shelf.specs.declared.holder.Holder.TheVariants.{Of}
use Rattle.list_shelf.specs.declared.lag.Lag.{Lag}
use Rattle.list_shelf.specs.Shelves.{Shelved, noted, brought_up}
use Rattle.window_view.specs.Sizes.{first_corner}
use Rattle.list_archive.specs.declared.saved.Saved.TheVariants.{Same, Own}
use Rattle.list_archive.specs.Limits.{newest}
use Rattle.list_archive.specs.Trails.{Trail, Mark, last_before, next_ahead, gone_on, gone_back, gone_forward, left_off, mark_of, marked, unmarked}
use Rattle.list_archive.specs.Kept.{KeptLists, nothing_kept, kept_moved, alike, list_saved, saved_kept, kept_without}
use Rattle.list_archive.specs.Archives.{Archived, archive_noted, left_by, parted, trimmed_with, kept_in}

-- trails of which each list is a number, and all are kept
abbrev pub all_of : List ℕ → List ℕ
all_of lists = lists

abbrev pub trail : ℕ → List ℕ → List ℕ → Trail ℕ
trail who past ahead = record { who = who; past = past; ahead = ahead }

-- a client goes from the list 1 to 2, to 3 and to 4; another one went from 8 to 9
abbrev pub three_steps : List (Trail ℕ)
three_steps = trail 0 (1 ∷ 2 ∷ 3 ∷ []) [] ∷ trail 7 (8 ∷ []) [] ∷ []

pub record OnTrails : Type 0 where
  pub first_step : gone_on all_of 0 1 [] ≡ trail 0 (1 ∷ []) [] ∷ []
  pub second_step : gone_on all_of 0 2 (trail 0 (1 ∷ []) [] ∷ trail 7 (8 ∷ []) [] ∷ []) ≡ trail 0 (1 ∷ 2 ∷ []) [] ∷ trail 7 (8 ∷ []) [] ∷ []
  -- it has 4, and 3 comes before it; back at 3, 4 lies ahead
  pub before_the_fourth : last_before 0 three_steps ≡ Some 3
  pub nothing_ahead : next_ahead 0 three_steps ≡ None
  pub back_once : gone_back 0 4 three_steps ≡ trail 0 (1 ∷ 2 ∷ []) (4 ∷ []) ∷ trail 7 (8 ∷ []) [] ∷ []
  pub back_twice : gone_back 0 3 (gone_back 0 4 three_steps) ≡ trail 0 (1 ∷ []) (3 ∷ 4 ∷ []) ∷ trail 7 (8 ∷ []) [] ∷ []
  pub nearest_ahead : next_ahead 0 (trail 0 (1 ∷ []) (3 ∷ 4 ∷ []) ∷ []) ≡ Some 3
  pub forward_once : gone_forward all_of 0 2 (trail 0 (1 ∷ []) (3 ∷ 4 ∷ []) ∷ []) ≡ trail 0 (1 ∷ 2 ∷ []) (4 ∷ []) ∷ []
  pub all_the_way_back : last_before 0 (trail 0 [] (2 ∷ 3 ∷ 4 ∷ []) ∷ []) ≡ None
  -- going on from there forgets what it took back
  pub on_again : gone_on all_of 0 2 (trail 0 (1 ∷ []) (3 ∷ 4 ∷ []) ∷ []) ≡ trail 0 (1 ∷ 2 ∷ []) [] ∷ []
  pub nobody_knows_that_client : last_before 5 three_steps ≡ None
  pub client_leaves : left_off 0 three_steps ≡ trail 7 (8 ∷ []) [] ∷ []

pub record WithinLimits : Type 0 where
  pub hundred_stay : newest (λ n. n) (replicate 100 1) ≡ replicate 100 1
  pub oldest_of_more_goes : newest (λ n. n) (7 ∷ replicate 100 1) ≡ replicate 100 1
  pub as_many_as_allowed : newest (λ n. n) (200000 ∷ 62144 ∷ []) ≡ 200000 ∷ 62144 ∷ []
  pub one_too_many : newest (λ n. n) (200000 ∷ 62144 ∷ 1 ∷ []) ≡ 62144 ∷ 1 ∷ []
  pub large_one_pushes_all_out : newest (λ n. n) (1 ∷ 2 ∷ 3 ∷ 262144 ∷ []) ≡ 262144 ∷ []
  pub newest_always_stays : newest (λ n. n) (1 ∷ 262145 ∷ []) ≡ 262145 ∷ []
  pub redoing_is_cut_too : gone_forward (newest (λ n. n)) 0 1 (record { who = 0; past = 262144 ∷ []; ahead = 5 ∷ 6 ∷ [] } ∷ []) ≡ record { who = 0; past = 1 ∷ []; ahead = 6 ∷ [] } ∷ []

-- lists of ranges
abbrev pub one : Range → Selected
one r = record { list = r ∷ []; main = 0 }

abbrev pub two : Range → Range → ℕ → Selected
two r s main = record { list = r ∷ s ∷ []; main = main }

abbrev pub span : ℕ → ℕ → Bool → Range
span low high turned = record { low = low; high = high; turned = turned; target = None }

abbrev pub aiming : ℕ → Range
aiming o = record { low = o; high = o; turned = false; target = Some 9 }

pub record Alike : Type 0 where
  pub aims_are_not_compared : alike (one (aiming 3)) (one (only 3)) ≡ true
  pub other_low : alike (one (span 1 3 false)) (one (span 2 3 false)) ≡ false
  pub other_high : alike (one (span 1 3 false)) (one (span 1 2 false)) ≡ false
  -- also of one character
  pub turned_otherwise : alike (one (span 3 3 true)) (one (span 3 3 false)) ≡ false
  pub other_main : alike (two (only 1) (only 3) 0) (two (only 1) (only 3) 1) ≡ false
  pub one_more : alike (one (only 1)) (two (only 1) (only 3) 0) ≡ false

-- a client moves over a text, one character at a time, and back
abbrev pub trail_on : List Selected → List Selected → Trail Selected
trail_on past ahead = record { who = 0; past = past; ahead = ahead }

abbrev pub with_trail_on : List Selected → List Selected → KeptLists
with_trail_on past ahead = record { saved = None; trails = trail_on past ahead ∷ []; marks = [] }

pub record KeyByKey : Type 0 where
  pub first_key : saved_kept 0 (one (only 1)) (list_saved 0 (one (only 0)) nothing_kept) ≡ with_trail_on (one (only 0) ∷ []) []
  pub second_key : saved_kept 0 (one (only 2)) (list_saved 0 (one (only 1)) (with_trail_on (one (only 0) ∷ []) [])) ≡ with_trail_on (one (only 0) ∷ one (only 1) ∷ []) []
  pub key_that_selects_nothing_else : saved_kept 0 (one (only 2)) (list_saved 0 (one (only 2)) (with_trail_on (one (only 0) ∷ []) (one (only 3) ∷ []))) ≡ with_trail_on (one (only 0) ∷ []) (one (only 3) ∷ [])
  pub key_that_only_aims : saved_kept 0 (one (aiming 2)) (list_saved 0 (one (only 2)) nothing_kept) ≡ nothing_kept
  pub key_while_some_lie_ahead : saved_kept 0 (one (only 0)) (list_saved 0 (one (only 1)) (with_trail_on [] (one (only 2) ∷ []))) ≡ with_trail_on (one (only 1) ∷ []) []
  pub saved_by_another : saved_kept 1 (one (only 3)) (list_saved 0 (one (only 2)) nothing_kept) ≡ nothing_kept
  pub nothing_was_saved : saved_kept 0 (one (only 2)) (with_trail_on [] (one (only 3) ∷ [])) ≡ with_trail_on [] (one (only 3) ∷ [])
  pub client_leaves_in_its_key : kept_without 0 (list_saved 0 (one (only 1)) (with_trail_on (one (only 0) ∷ []) [])) ≡ nothing_kept
  pub another_leaves : kept_without 1 (list_saved 0 (one (only 1)) (with_trail_on (one (only 0) ∷ []) [])) ≡ list_saved 0 (one (only 1)) (with_trail_on (one (only 0) ∷ []) [])

-- what is kept while someone changes the text
abbrev pub all_four : KeptLists
all_four = record { saved = Some (record { who = 0; sels = one (only 0) }); trails = trail_on (one (only 1) ∷ []) (two (only 0) (only 3) 1 ∷ []) ∷ []; marks = record { register = 94; list = one (aiming 2) } ∷ [] }

pub record WhileEditing : Type 0 where
  pub letter_before_them : kept_moved (codes "abcd\n") (Insertion 0 (codes "x") ∷ []) all_four
      ≡ record { saved = Some (record { who = 0; sels = one (only 1) }); trails = trail_on (one (only 2) ∷ []) (two (only 1) (only 4) 1 ∷ []) ∷ []; marks = record { register = 94; list = one (aiming 3) } ∷ [] }
  -- two come to share a character and become one, and a list that is then like its neighbour stays in its place
  pub two_become_one : kept_moved (codes "abcd\n") (Erasure 0 3 ∷ []) (with_trail_on (two (only 0) (only 3) 1 ∷ one (only 1) ∷ []) []) ≡ with_trail_on (one (only 0) ∷ one (only 0) ∷ []) []

-- marks of registers, of which each list is a number: that of 94 is 5, and then that of 97 is 2
abbrev pub one_mark : List (Mark ℕ)
one_mark = record { register = 94; list = 5 } ∷ []

abbrev pub two_marks : List (Mark ℕ)
two_marks = record { register = 94; list = 5 } ∷ record { register = 97; list = 2 } ∷ []

pub record OnMarks : Type 0 where
  pub another : marked 97 2 one_mark ≡ two_marks
  pub set_again : marked 94 8 two_marks ≡ record { register = 94; list = 8 } ∷ record { register = 97; list = 2 } ∷ []
  pub found : mark_of 94 two_marks ≡ Some 5
  pub not_found : mark_of 98 two_marks ≡ None
  pub taken_off : unmarked 97 two_marks ≡ one_mark

-- as it is stored: a shelf with one client's list, of `bc` in `abc`, and a log that begins again at stamp 2
abbrev pub place : ℕ → ℕ → Coord
place line column = record { line = line; column = column }

abbrev pub bc : Listed
bc = record { list = (record { low = place 0 1; high = place 0 2; turned = false; target = None }) ∷ []; main = 0 }

abbrev pub bc_behind : ℕ → Listed
bc_behind n = record { list = (record { low = place 0 n; high = place 0 (n + 1); turned = false; target = None }) ∷ []; main = 0 }

abbrev pub lag_at : ℕ → Listed → Lag
lag_at stamp s = record { stamp = stamp; sels = s }

abbrev pub letter : ℕ → Shift
letter length = record { insert = true; begin = place 0 0; «end» = place 0 1; last = place 0 length }

abbrev pub shelf_of : ℕ → Listed → Shelved
shelf_of stamp s = record { limit = 2; log = fresh; rows = record { holder = Of 0; lag = lag_at stamp s; corner = first_corner } ∷ [] }

abbrev pub saved_as_is : Archived
saved_as_is = record { saved = Same 0; trails = []; marks = record { register = 94; list = lag_at 0 bc } ∷ [] }

pub record AsStored : Type 0 where
  -- while letters are typed a saved list that is the client's own isn't touched, and a mark stands where it stands
  pub typing : archive_noted (letter 4 ∷ letter 5 ∷ []) (shelf_of 0 bc) saved_as_is ≡ saved_as_is
  -- where the log begins again, the mark is brought up to date
  pub log_begins_again : archive_noted (letter 4 ∷ letter 5 ∷ letter 6 ∷ []) (shelf_of 0 bc) saved_as_is ≡ record { saved = Same 0; trails = []; marks = record { register = 94; list = lag_at 0 (bc_behind 3) } ∷ [] }
  -- and seen as the client's own
  pub seen : kept_in (codes "xabc\n") (noted (letter 4) (shelf_of 0 bc)) saved_as_is
      ≡ record { saved = Some (record { who = 0; sels = one (span 2 3 false) }); trails = []; marks = record { register = 94; list = one (span 2 3 false) } ∷ [] }
  -- the client gets another list, and the one that it had is moved
  pub another_list : left_by 0 (lag_at 0 bc) saved_as_is ≡ record { saved = Own 0 (lag_at 0 bc); trails = []; marks = saved_as_is.marks }
  -- or it is copied, where the list stays but for its main selection
  pub copied : parted 0 (shelf_of 0 bc) saved_as_is ≡ record { saved = Own 0 (lag_at 0 bc); trails = []; marks = saved_as_is.marks }
  -- a log with a mark that lags is kept from the mark's stamp on
  pub mark_holds_the_log : trimmed_with saved_as_is (brought_up (Of 0) (noted (letter 4) (shelf_of 0 bc))) ≡ brought_up (Of 0) (noted (letter 4) (shelf_of 0 bc))

-- all of them
pub record Examples : Type 0 where
  pub on_trails : OnTrails
  pub within_limits : WithinLimits
  pub alike : Alike
  pub key_by_key : KeyByKey
  pub while_editing : WhileEditing
  pub on_marks : OnMarks
  pub as_stored : AsStored
