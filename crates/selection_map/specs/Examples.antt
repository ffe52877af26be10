-- Worked examples of where places and lists of selections go, which hold by computation.
use Rattle.std.specs.Prelude.{◌≡◌, ℕ, true, false, Some, None, List, [], ◌∷◌, map, codes}
use Rattle.text_model.specs.declared.coords.Coord.{Coord}
use Rattle.text_model.specs.declared.coords.Shift.{Shift}
use Rattle.text_model.specs.Changes.{Change, Insertion, Move}
use Rattle.list_model.specs.Ranges.{only}
use Rattle.selection_set.specs.declared.sel.Sel.{Sel}
use Rattle.selection_set.specs.Listing.{Listed}
use Rattle.selection_set.specs.Sweeping.{swept_listed}
use Rattle.selection_map.specs.declared.walking.ShiftWay.TheVariants.{Rising, Falling}
use Rattle.selection_map.specs.Rebasing.{mapped, mapped_sel}
use Rattle.selection_map.specs.Reaching.{goes, reach_of, then_on, through}
use Rattle.selection_map.specs.Walking.{follows}
use Rattle.selection_map.specs.Staying.{sel_stays, count_moved}
use Rattle.selection_map.specs.Catching.{text_after, steps_by, eager}

abbrev pub at : ℕ → ℕ → Coord
at line column = record { line = line; column = column }

-- `xy` put in before the second character of the line `abcd`
abbrev pub two_put_in : Shift
two_put_in = record { insert = true; begin = at 0 1; «end» = at 0 3; last = at 0 6 }

-- the newline behind `ab` taken out, before the line `cd`
abbrev pub newline_taken : Shift
newline_taken = record { insert = false; begin = at 0 2; «end» = at 1 0; last = at 0 4 }

-- the second to the fourth character taken out of the line `abcdef`
abbrev pub three_taken : Shift
three_taken = record { insert = false; begin = at 0 1; «end» = at 0 4; last = at 0 3 }

abbrev pub straight : Coord → Coord → Sel
straight low high = record { low = low; high = high; turned = false; target = None }

abbrev pub aimed_back : Coord → Coord → Sel
aimed_back low high = record { low = low; high = high; turned = true; target = Some 7 }

-- a list through a change, settled
abbrev pub carried_list : Shift → Listed → Listed
carried_list shift s = swept_listed (record { list = map (mapped_sel shift) s.list; main = s.main })

-- letters typed before the second and the fourth character of the line `abcdef`, one after the other
abbrev pub first_typed : Shift
first_typed = record { insert = true; begin = at 0 1; «end» = at 0 2; last = at 0 7 }

abbrev pub second_typed : Shift
second_typed = record { insert = true; begin = at 0 4; «end» = at 0 5; last = at 0 8 }

-- and taken back, from the last to the first
abbrev pub second_undone : Shift
second_undone = record { insert = false; begin = at 0 4; «end» = at 0 5; last = at 0 7 }

abbrev pub first_undone : Shift
first_undone = record { insert = false; begin = at 0 1; «end» = at 0 2; last = at 0 6 }

-- the typing as changes of the text
abbrev pub typed_changes : List Change
typed_changes = Insertion 1 (codes "X") ∷ Insertion 4 (codes "X") ∷ []

-- the same typing where there is a second line of six characters
abbrev pub first_above : Shift
first_above = record { insert = true; begin = at 0 1; «end» = at 0 2; last = at 1 6 }

abbrev pub second_above : Shift
second_above = record { insert = true; begin = at 0 4; «end» = at 0 5; last = at 1 6 }

-- the cursors before the characters, and those in front of the first, before the second, and on the next line
abbrev pub two_cursors : List Sel
two_cursors = straight (at 0 1) (at 0 1) ∷ straight (at 0 3) (at 0 3) ∷ []

abbrev pub three_cursors : List Sel
three_cursors = straight (at 0 0) (at 0 0) ∷ straight (at 0 3) (at 0 3) ∷ straight (at 1 3) (at 1 3) ∷ []

-- the third to the fifth character taken out of nine, and then the second of what is left
abbrev pub three_out : Move
three_out = record { insert = false; begin = 2; «end» = 5; last = 5 }

abbrev pub one_out : Move
one_out = record { insert = false; begin = 1; «end» = 2; last = 4 }

-- several changes at once
pub record ManyExamples : Type 0 where
  pub ends_go_behind_both : through (first_typed ∷ second_typed ∷ []) (straight (at 0 1) (at 0 3)) ≡ straight (at 0 2) (at 0 5)
  pub and_come_back : through (second_undone ∷ first_undone ∷ []) (straight (at 0 2) (at 0 5)) ≡ straight (at 0 1) (at 0 3)
  pub one_way_for_both : then_on (reach_of first_typed) (reach_of second_typed) ≡ record { from = at 0 3; onto = at 0 5; put = at 0 5 }
  pub behind_both : goes (then_on (reach_of first_typed) (reach_of second_typed)) (at 0 4) ≡ at 0 6
  pub other_lines : goes (then_on (reach_of first_typed) (reach_of second_typed)) (at 1 2) ≡ at 1 2
  pub typing_rises : follows Rising first_typed second_typed ≡ true
  pub undoing_falls : follows Falling second_undone first_undone ≡ true
  pub undoing_does_not_rise : follows Rising second_undone first_undone ≡ false
  -- cursors at the letters move; one in front of both and one on the next line stay
  pub both_move : count_moved (first_typed ∷ second_typed ∷ []) two_cursors ≡ 2
  pub one_of_three_moves : count_moved (first_above ∷ second_above ∷ []) three_cursors ≡ 1
  pub in_front_stays : sel_stays (first_typed ∷ second_typed ∷ []) (straight (at 0 0) (at 0 0)) ≡ true
  pub text_behind_typing : text_after (codes "abcdef\n") (steps_by (codes "abcdef\n") typed_changes (first_typed ∷ second_typed ∷ [])) ≡ codes "aXbcXdef\n"
  -- settled at each change: two become one at the first
  pub joined_on_the_way : eager (three_out ∷ one_out ∷ []) (record { list = only 1 ∷ only 3 ∷ only 5 ∷ only 6 ∷ []; main = 2 }) ≡ record { list = only 1 ∷ only 2 ∷ []; main = 0 }

pub record OneExamples : Type 0 where
  pub before_stays : mapped two_put_in (at 0 0) ≡ at 0 0
  pub at_it_goes_behind : mapped two_put_in (at 0 1) ≡ at 0 3
  pub other_lines_stay : mapped two_put_in (at 0 4) ≡ at 0 6
  pub next_line_comes_up : mapped newline_taken (at 1 1) ≡ at 0 3
  pub inside_goes_to_the_begin : mapped three_taken (at 0 2) ≡ at 0 1
  pub selection_keeps_its_marks : mapped_sel two_put_in (aimed_back (at 0 0) (at 0 1)) ≡ aimed_back (at 0 0) (at 0 3)
  -- what goes in between two that touch leaves them apart
  pub two_go_apart : carried_list two_put_in (record { list = straight (at 0 0) (at 0 0) ∷ straight (at 0 1) (at 0 2) ∷ []; main = 1 }) ≡ record { list = straight (at 0 0) (at 0 0) ∷ straight (at 0 3) (at 0 4) ∷ []; main = 1 }
  -- what is taken out can make two share a character; they become one, with the marks of the first
  pub two_become_one : carried_list three_taken (record { list = aimed_back (at 0 0) (at 0 1) ∷ straight (at 0 3) (at 0 4) ∷ straight (at 0 5) (at 0 5) ∷ []; main = 1 }) ≡ record { list = aimed_back (at 0 0) (at 0 1) ∷ straight (at 0 2) (at 0 2) ∷ []; main = 0 }

-- all of them
pub record Examples : Type 0 where
  pub one : OneExamples
  pub many : ManyExamples
