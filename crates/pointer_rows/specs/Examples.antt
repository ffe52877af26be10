-- Worked examples of pointing and of scrolling, which hold by computation: of the clients 7 and 9 on one text, 7 has the mouse.
use Rattle.std.specs.Prelude.{◌≡◌, ℕ, zero, suc, pos, negsuc, List, [], ◌∷◌, true, false, Some, codes}
use Rattle.key_names.specs.Reading.{bare}
use Rattle.key_names.specs.declared.key.Base.TheVariants.{Char}
use Rattle.text_model.specs.declared.coords.Coord.{Coord}
use Rattle.list_model.specs.Ranges.{Selected, only}
use Rattle.window_view.specs.Sizes.{sized}
use Rattle.motion_keys.specs.Motions.{aimed_at}
use Rattle.mouse_events.specs.declared.mouse.Button.TheVariants.{Left, Middle, Right}
use Rattle.mouse_events.specs.declared.mouse.Mouse.{Mouse}
use Rattle.mouse_events.specs.declared.mouse.Mouse.TheVariants.{Move, Press, Release}
use Rattle.kak_world.specs.declared.own.Mode.TheVariants.{Insert, Prompt}
use Rattle.kak_world.specs.Flat.{Flat, count_of, sels_of, view_of, with_own, with_sels, with_corner}
use Rattle.kak_world.specs.Examples.{straight, turned, sels, on_text, only_sel_at}
use Rattle.pointer_rows.specs.Pointing.{is_dragging, pointed}
use Rattle.pointer_rows.specs.Scrolling.{scrolled}

-- both clients at the start of a text
abbrev pub both_on : List ℕ → Flat
both_on text = on_text text (only_sel_at 0) (only_sel_at 0)

-- a place of a window
abbrev pub place : ℕ → ℕ → Coord
place line column = record { line = line; column = column }

-- the left button
abbrev pub press : ℕ → ℕ → Mouse
press line column = Press Left (place line column)

abbrev pub release : ℕ → ℕ → Mouse
release line column = Release Left (place line column)

abbrev pub move : ℕ → ℕ → Mouse
move line column = Move (place line column)

-- 7 does something with the mouse, where no cells stand before the text
abbrev pub points : Mouse → Flat → Flat
points mouse flat = pointed 7 0 mouse flat

-- what it selects by pressing at a place of a text, or where so many cells stand before the text and the window's corner is elsewhere
abbrev pub pressed_on : List ℕ → ℕ → ℕ → Selected
pressed_on text line column = sels_of 7 (points (press line column) (both_on text))

abbrev pub pressed_in : List ℕ → ℕ → ℕ → ℕ → ℕ → ℕ → Selected
pressed_in text gutter top left line column = sels_of 7 (pointed 7 gutter (press line column) (with_corner 7 (record { top = top; left = left }) (both_on text)))

-- a press, a move while the button is down, its release, and the right button
abbrev pub text : List ℕ
text = codes "ab\ncd\n"

abbrev pub pressed : Flat
pressed = points (press 1 1) (both_on text)

abbrev pub dragged : Flat
dragged = points (move 0 0) pressed

abbrev pub released : Flat
released = points (release 0 0) dragged

abbrev pub reached : Flat
reached = points (Press Right (place 1 0)) released

-- 7 waits for a key behind `f`
abbrev pub waits : Flat → Flat
waits flat = with_own 7 (λ o. record o { pending = Some (bare (Char 102)) }) flat

pub record PointingExamples : Type 0 where
  pub press_selects : sels_of 7 pressed ≡ only_sel_at 4
  pub press_begins_a_drag : is_dragging 7 pressed ≡ true
  pub drag_extends : sels_of 7 dragged ≡ sels (turned 0 4 ∷ []) 0
  pub release_ends_it : is_dragging 7 released ≡ false
  pub where_it_was_released : sels_of 7 released ≡ sels (turned 0 4 ∷ []) 0
  pub release_extends : sels_of 7 (points (release 1 0) dragged) ≡ sels (turned 3 4 ∷ []) 0
  pub right_extends : sels_of 7 reached ≡ sels (turned 3 4 ∷ []) 0
  pub right_begins_no_drag : sels_of 7 (points (move 0 0) reached) ≡ sels (turned 3 4 ∷ []) 0
  pub right_ends_no_drag : is_dragging 7 (points (Press Right (place 1 0)) dragged) ≡ true
  pub move_alone_does_nothing : points (move 1 1) (both_on text) ≡ both_on text
  pub release_alone_does_nothing : sels_of 7 (points (release 1 1) (both_on text)) ≡ only_sel_at 0
  pub middle_does_nothing : points (Press Middle (place 1 1)) (both_on text) ≡ both_on text
  pub middle_released_does_nothing : points (Release Middle (place 1 1)) pressed ≡ pressed
  pub right_released_does_nothing : points (Release Right (place 0 0)) pressed ≡ pressed
  pub other_client_stays : sels_of 9 reached ≡ only_sel_at 0
  -- the main selection alone is kept
  pub others_go : sels_of 7 (points (Press Right (place 1 1)) (with_sels 7 (sels (straight 0 1 ∷ straight 3 3 ∷ []) 0) (both_on text))) ≡ sels (straight 0 4 ∷ []) 0
  -- while a key is awaited, and outside of normal mode
  pub awaited_key_waits_on : points (press 1 1) (waits (both_on text)) ≡ waits (both_on text)
  pub release_meanwhile_ends_no_drag : is_dragging 7 (points (release 0 0) (waits dragged)) ≡ true
  pub insert_mode : points (press 1 1) (with_own 7 (λ o. record o { mode = Insert }) (both_on text)) ≡ with_own 7 (λ o. record o { mode = Insert }) (both_on text)
  pub a_prompt : points (press 1 1) (with_own 7 (λ o. record o { mode = Prompt }) (both_on text)) ≡ with_own 7 (λ o. record o { mode = Prompt }) (both_on text)
  pub count_stays : count_of 7 (points (press 1 1) (with_own 7 (λ o. record o { count = 3 }) (both_on text))) ≡ 3
  pub count_waits_for_no_key : sels_of 7 (points (press 1 1) (with_own 7 (λ o. record o { count = 3 }) (both_on text))) ≡ only_sel_at 4
  -- places: behind a line is its newline, and below the text its last line
  pub behind_the_line : pressed_on text 0 9 ≡ only_sel_at 2
  pub below_the_text : pressed_on text 9 0 ≡ only_sel_at 3
  pub farthest : pressed_on text 4294967295 4294967295 ≡ only_sel_at 5
  -- all cells of a tab, or of a wide character, mean it; a combining character has none
  pub last_cell_of_a_tab : pressed_on (codes "\tx\n") 0 7 ≡ only_sel_at 0
  pub behind_a_tab : pressed_on (codes "\tx\n") 0 8 ≡ only_sel_at 1
  pub second_cell : pressed_on (26085 ∷ 120 ∷ 10 ∷ []) 0 1 ≡ only_sel_at 0
  pub behind_a_wide_one : pressed_on (26085 ∷ 120 ∷ 10 ∷ []) 0 2 ≡ only_sel_at 1
  pub behind_a_combining_one : pressed_on (101 ∷ 769 ∷ 120 ∷ 10 ∷ []) 0 1 ≡ only_sel_at 2
  -- a window that stands elsewhere, and cells before the text, of which each means the first one behind them
  pub lower_line : pressed_in text 0 1 0 0 1 ≡ only_sel_at 4
  pub further_right : pressed_in (codes "abcdef\n") 0 0 3 0 1 ≡ only_sel_at 4
  pub on_the_number : pressed_in (codes "abcdef\n") 2 0 3 0 1 ≡ only_sel_at 3
  pub behind_the_number : pressed_in (codes "abcdef\n") 2 0 3 0 2 ≡ only_sel_at 3
  pub further_behind_the_number : pressed_in (codes "abcdef\n") 2 0 3 0 4 ≡ only_sel_at 5

-- so many lines of one character
abbrev pub lines_of_x : ℕ → List ℕ
lines_of_x zero = []
lines_of_x (suc n) = 120 ∷ 10 ∷ lines_of_x n

-- 7 has 10 rows on a text
abbrev pub ten_rows : List ℕ → Flat
ten_rows text = with_own 7 (λ o. record o { size = sized 10 80 }) (both_on text)

-- 30 lines, of which the window shows those from the sixth on, then from the first on, and then the last one
abbrev pub on : Flat
on = scrolled 7 (pos 5) (ten_rows (lines_of_x 30))

abbrev pub back : Flat
back = scrolled 7 (negsuc 4) on

abbrev pub to_the_end : Flat
to_the_end = scrolled 7 (pos 100) back

-- the selection of a character to which a vertical move at a display column led
abbrev pub aimed : ℕ → ℕ → Selected
aimed target o = record { list = aimed_at target o ∷ []; main = 0 }

pub record ScrollingExamples : Type 0 where
  pub goes_on : view_of 7 on ≡ record { top = 5; left = 0; rows = 10; columns = 80 }
  pub first_line_shown_is_selected : sels_of 7 on ≡ aimed 0 10
  pub goes_back : view_of 7 back ≡ record { top = 0; left = 0; rows = 10; columns = 80 }
  pub stays_where_it_is_shown : sels_of 7 back ≡ aimed 0 10
  pub goes_to_the_last_line : view_of 7 to_the_end ≡ record { top = 29; left = 0; rows = 10; columns = 80 }
  pub last_line_is_selected : sels_of 7 to_the_end ≡ aimed 0 58
  pub goes_back_to_the_first_line : view_of 7 (scrolled 7 (negsuc 2147483647) to_the_end) ≡ record { top = 0; left = 0; rows = 10; columns = 80 }
  pub last_line_shown_is_selected : sels_of 7 (scrolled 7 (negsuc 2147483647) to_the_end) ≡ aimed 0 18
  pub farthest : view_of 7 (scrolled 7 (pos 2147483647) back) ≡ view_of 7 to_the_end
  -- a list with its main cursor in the window stays, also where others of it aren't shown
  pub list_stays : sels_of 7 (scrolled 7 (pos 1) (with_sels 7 (sels (only 0 ∷ only 6 ∷ []) 1) (ten_rows (lines_of_x 30)))) ≡ sels (only 0 ∷ only 6 ∷ []) 1
  pub list_goes : sels_of 7 (scrolled 7 (pos 1) (with_sels 7 (sels (only 0 ∷ only 6 ∷ []) 0) (ten_rows (lines_of_x 30)))) ≡ aimed 0 2
  -- the column that vertical moves aim at is kept, beyond a line that is shorter too
  pub aims_on : sels_of 7 (scrolled 7 (pos 1) (with_sels 7 (sels (only 2 ∷ []) 0) (ten_rows (codes "abc\nd\nef\n")))) ≡ aimed 2 4
  pub target_is_kept : sels_of 7 (scrolled 7 (pos 1) (with_sels 7 (aimed 5 0) (ten_rows (codes "abc\nd\nef\n")))) ≡ aimed 5 4
  -- the first column stays, and the other client's window
  pub left_stays : view_of 7 (scrolled 7 (pos 5) (with_corner 7 (record { top = 3; left = 2 }) (ten_rows (lines_of_x 30)))) ≡ record { top = 8; left = 2; rows = 10; columns = 80 }
  pub other_window_stays : view_of 9 on ≡ record { top = 0; left = 0; rows = 24; columns = 80 }
  -- a window below the end of a text that was shortened comes back to it, whichever way it goes
  pub back_to_the_text : view_of 7 (scrolled 7 (negsuc 0) (with_corner 7 (record { top = 9; left = 0 }) (both_on (codes "ab\ncd\n")))) ≡ record { top = 1; left = 0; rows = 24; columns = 80 }
  -- while a key is awaited, and outside of normal mode
  pub awaited_key_waits_on : scrolled 7 (pos 5) (waits (ten_rows (lines_of_x 30))) ≡ waits (ten_rows (lines_of_x 30))
  pub insert_mode : scrolled 7 (pos 5) (with_own 7 (λ o. record o { mode = Insert }) (ten_rows (lines_of_x 30))) ≡ with_own 7 (λ o. record o { mode = Insert }) (ten_rows (lines_of_x 30))
  pub drag_goes_on : is_dragging 7 (scrolled 7 (pos 1) pressed) ≡ true
