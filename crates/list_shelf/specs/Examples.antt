-- Worked examples of lists that lag and of shelves, which hold by computation.
use Rattle.std.specs.Prelude.{◌≡◌, ℕ, true, false, Some, None, List, [], ◌∷◌, map, codes}
use Rattle.text_model.specs.declared.coords.Coord.{Coord}
use Rattle.text_model.specs.declared.coords.Shift.{Shift}
use Rattle.text_model.specs.Changes.{Change, Insertion, all_changed}
use Rattle.list_model.specs.Ranges.{Range}
use Rattle.selection_set.specs.Listing.{Listed}
use Rattle.change_list.specs.Logs.{fresh}
use Rattle.list_shelf.specs.declared.holder.Holder.TheVariants.{Of}
use Rattle.list_shelf.specs.declared.rows.ShelfRow.{ShelfRow}
use Rattle.window_view.specs.Sizes.{first_corner}
use Rattle.list_shelf.specs.Lagging.{since, caught, up_to_date}
use Rattle.list_shelf.specs.Shelves.{Shelved, empty_shelf, has_row, brought_up, with_sels, listed, unlisted, noted, all_noted, all_moved, trimmed_shelf, entered, Held, lists_in, list_moved}

abbrev pub at : ℕ → ℕ → Coord
at line column = record { line = line; column = column }

-- the list of one selection, straight or turned with a target
abbrev pub straight : Coord → Coord → Listed
straight low high = record { list = (record { low = low; high = high; turned = false; target = None }) ∷ []; main = 0 }

abbrev pub aimed_back : Coord → Coord → Listed
aimed_back low high = record { list = (record { low = low; high = high; turned = true; target = Some 7 }) ∷ []; main = 0 }

abbrev pub standing : ℕ → ℕ → Listed → ShelfRow
standing who stamp s = record { holder = Of who; lag = record { stamp = stamp; sels = s }; corner = first_corner }

-- a letter typed on the line `abc`, then a second, a third and a fourth, each behind the one before it
abbrev pub first_letter : Shift
first_letter = record { insert = true; begin = at 0 0; «end» = at 0 1; last = at 0 4 }

abbrev pub second_letter : Shift
second_letter = record { insert = true; begin = at 0 1; «end» = at 0 2; last = at 0 5 }

abbrev pub third_letter : Shift
third_letter = record { insert = true; begin = at 0 2; «end» = at 0 3; last = at 0 6 }

abbrev pub fourth_letter : Shift
fourth_letter = record { insert = true; begin = at 0 3; «end» = at 0 4; last = at 0 7 }

-- the first of them taken back
abbrev pub first_undone : Shift
first_undone = record { insert = false; begin = at 0 0; «end» = at 0 1; last = at 0 3 }

-- the same typing as changes of the text
abbrev pub typing : List Change
typing = Insertion 0 (codes "X") ∷ Insertion 1 (codes "X") ∷ Insertion 2 (codes "X") ∷ Insertion 3 (codes "X") ∷ []

-- the last of two lines taken out, and the middle of the line `abcdef`
abbrev pub last_line_taken : Shift
last_line_taken = record { insert = false; begin = at 1 0; «end» = at 2 0; last = at 0 2 }

abbrev pub middle_taken : Shift
middle_taken = record { insert = false; begin = at 0 1; «end» = at 0 4; last = at 0 3 }

-- a client that types before the `a`, and one that has `bc` selected; the log begins again at stamp 3
abbrev pub two_clients : Shelved
two_clients = record { limit = 3; log = fresh; rows = standing 0 0 (straight (at 0 0) (at 0 0)) ∷ standing 1 0 (aimed_back (at 0 1) (at 0 2)) ∷ [] }

-- the same behind three letters, and behind a fourth
abbrev pub behind_three : Shelved
behind_three = record { limit = 3; log = record { first = 0; shifts = first_letter ∷ second_letter ∷ third_letter ∷ [] }; rows = standing 0 0 (straight (at 0 0) (at 0 0)) ∷ standing 1 0 (aimed_back (at 0 1) (at 0 2)) ∷ [] }

abbrev pub behind_four : Shelved
behind_four = record { limit = 3; log = record { first = 0; shifts = fourth_letter ∷ [] }; rows = standing 0 0 (straight (at 0 3) (at 0 3)) ∷ standing 1 0 (aimed_back (at 0 4) (at 0 5)) ∷ [] }

abbrev pub range : ℕ → ℕ → Range
range a b = record { low = a; high = b; turned = false; target = None }

abbrev pub aimed_range : ℕ → ℕ → Range
aimed_range a b = record { low = a; high = b; turned = true; target = Some 7 }

abbrev pub seen_at : ℕ → Range → Held
seen_at who r = record { holder = Of who; sels = record { list = r ∷ []; main = 0 }; corner = first_corner }

-- one list
pub record OneList : Type 0 where
  pub through_three : caught (first_letter ∷ second_letter ∷ third_letter ∷ []) (aimed_back (at 0 1) (at 0 2)) ≡ aimed_back (at 0 4) (at 0 5)
  pub there_and_back : caught (first_letter ∷ first_undone ∷ []) (aimed_back (at 0 1) (at 0 2)) ≡ aimed_back (at 0 1) (at 0 2)
  -- what stood behind the last character goes to it
  pub cut_to_the_last : caught (last_line_taken ∷ []) (straight (at 1 0) (at 1 1)) ≡ straight (at 0 2) (at 0 2)
  -- two become one when they come to share a character, with the marks of the first
  pub two_become_one : caught (middle_taken ∷ []) (record { list = (record { low = at 0 0; high = at 0 1; turned = true; target = Some 7 }) ∷ (record { low = at 0 3; high = at 0 4; turned = false; target = None }) ∷ []; main = 1 }) ≡ aimed_back (at 0 0) (at 0 1)
  pub from_stamp_two : since behind_three.log 2 ≡ third_letter ∷ []
  pub from_a_stamp_that_was_kept : since (record { first = 7; shifts = first_letter ∷ second_letter ∷ [] }) 8 ≡ second_letter ∷ []
  pub brought_up_from_two : up_to_date behind_three.log (record { stamp = 2; sels = straight (at 0 2) (at 0 2) }) ≡ record { stamp = 3; sels = straight (at 0 3) (at 0 3) }

-- a shelf while a client types
pub record WhileTyping : Type 0 where
  -- three letters are noted, and both lists stand where they stood
  pub three_letters : all_noted (first_letter ∷ second_letter ∷ third_letter ∷ []) two_clients ≡ behind_three
  -- where the log stands at its limit, the fourth has both brought up to date; the log holds it alone, and both stand at stamp 0
  pub fourth_is_one_more : noted fourth_letter behind_three ≡ behind_four
  -- brought up to date, the other client's list is the eager one, and the first client's list stands where it stood
  pub other_brought_up : brought_up (Of 1) behind_four ≡ record { limit = 3; log = record { first = 0; shifts = fourth_letter ∷ [] }; rows = standing 0 0 (straight (at 0 3) (at 0 3)) ∷ standing 1 1 (aimed_back (at 0 5) (at 0 6)) ∷ [] }
  pub own_brought_up : brought_up (Of 0) behind_three ≡ record { limit = 3; log = behind_three.log; rows = standing 0 3 (straight (at 0 3) (at 0 3)) ∷ standing 1 0 (aimed_back (at 0 1) (at 0 2)) ∷ [] }
  pub seen_behind_three : lists_in (codes "XXXabc\n") behind_three ≡ seen_at 0 (range 3 3) ∷ seen_at 1 (aimed_range 4 5) ∷ []
  pub seen_behind_four : lists_in (codes "XXXXabc\n") behind_four ≡ seen_at 0 (range 4 4) ∷ seen_at 1 (aimed_range 5 6) ∷ []
  pub eager_behind_four : map (list_moved (codes "abc\n") typing) (lists_in (codes "abc\n") two_clients) ≡ seen_at 0 (range 4 4) ∷ seen_at 1 (aimed_range 5 6) ∷ []
  pub text_behind_four : all_changed (codes "abc\n") typing ≡ codes "XXXXabc\n"
  -- without memory for the log, both go through the letters at once
  pub not_noted : all_moved (first_letter ∷ second_letter ∷ []) two_clients ≡ record { limit = 3; log = fresh; rows = standing 0 0 (straight (at 0 2) (at 0 2)) ∷ standing 1 0 (aimed_back (at 0 3) (at 0 4)) ∷ [] }

-- a shelf between changes
pub record BetweenChanges : Type 0 where
  pub nobody_has_one : has_row (Of 0) (empty_shelf 3) ≡ false
  pub first_comes : listed (Of 4) (straight (at 0 0) (at 0 0)) first_corner (record { limit = 3; log = behind_three.log; rows = [] }) ≡ record { limit = 3; log = behind_three.log; rows = standing 4 3 (straight (at 0 0) (at 0 0)) ∷ [] }
  pub has_one_already : listed (Of 1) (straight (at 0 0) (at 0 0)) first_corner behind_three ≡ behind_three
  pub replaced_stands_at_the_log : with_sels (Of 1) (straight (at 0 6) (at 0 6)) behind_three ≡ record { limit = 3; log = behind_three.log; rows = standing 0 0 (straight (at 0 0) (at 0 0)) ∷ standing 1 3 (straight (at 0 6) (at 0 6)) ∷ [] }
  pub taken_off : unlisted (Of 0) behind_four ≡ record { limit = 3; log = behind_four.log; rows = standing 1 0 (aimed_back (at 0 4) (at 0 5)) ∷ [] }
  -- the log is trimmed to the least stamp, also to none
  pub one_lags : trimmed_shelf (brought_up (Of 0) behind_three) ≡ brought_up (Of 0) behind_three
  pub none_lags : trimmed_shelf (brought_up (Of 1) (brought_up (Of 0) behind_three)) ≡ record { limit = 3; log = record { first = 3; shifts = [] }; rows = standing 0 3 (straight (at 0 3) (at 0 3)) ∷ standing 1 3 (aimed_back (at 0 4) (at 0 5)) ∷ [] }
  pub least_of_three : trimmed_shelf (record { limit = 3; log = behind_three.log; rows = standing 0 2 (straight (at 0 2) (at 0 2)) ∷ standing 1 1 (straight (at 0 1) (at 0 1)) ∷ standing 2 3 (straight (at 0 0) (at 0 0)) ∷ [] })
      ≡ record { limit = 3; log = record { first = 1; shifts = second_letter ∷ third_letter ∷ [] }; rows = standing 0 2 (straight (at 0 2) (at 0 2)) ∷ standing 1 1 (straight (at 0 1) (at 0 1)) ∷ standing 2 3 (straight (at 0 0) (at 0 0)) ∷ [] }
  -- the last list that lags is brought up to date, and the log holds nothing
  pub last_is_brought_up : entered (Of 1) (brought_up (Of 0) behind_three) ≡ record { limit = 3; log = record { first = 3; shifts = [] }; rows = standing 0 3 (straight (at 0 3) (at 0 3)) ∷ standing 1 3 (aimed_back (at 0 4) (at 0 5)) ∷ [] }
  pub nobody_needs_it : trimmed_shelf (record { limit = 3; log = behind_three.log; rows = [] }) ≡ record { limit = 3; log = record { first = 3; shifts = [] }; rows = [] }

-- all of them
pub record Examples : Type 0 where
  pub one_list : OneList
  pub while_typing : WhileTyping
  pub between_changes : BetweenChanges
