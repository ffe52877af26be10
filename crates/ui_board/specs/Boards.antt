-- Seats by number, each of which is free or has a box.
use Rattle.std.specs.Prelude.{◌≡◌, ℕ, Bool, false, List, [], get_or, set, Option, Some, None, option_map, is_none}
use Rattle.tables.specs.Tables.{place_where, put_where}
use Rattle.ui_board.specs.declared.board.Board.{Board}
use Rattle.ui_board.specs.Told.{Shown, report_of}

-- the box at a seat, None where the seat is free or there is no such seat
abbrev pub seat_at : {B : Type 0} → ℕ → List (Option B) → Option B
seat_at n seats = get_or seats n None

-- what the box at a seat has shown, by a word for what a box has shown
abbrev pub shown_at : {B : Type 0} → (B → Shown) → ℕ → List (Option B) → Option Shown
shown_at shown n seats = option_map shown (seat_at n seats)

-- what the box at a seat of a board has shown
abbrev pub box_at : {U : Type 0} → (U → Shown) → ℕ → Board U → Option Shown
box_at shown n board = shown_at shown n board.seats.items

-- whether a seat is free
abbrev pub is_free : {B : Type 0} → Option B → Bool
is_free seat = is_none seat

-- a seat is taken
abbrev pub IsTaken : {B : Type 0} → ℕ → List (Option B) → Type 0
IsTaken n seats = is_free (seat_at n seats) ≡ false

-- the least number of a free seat, which is that of a further one where all are taken
abbrev pub free_seat : {B : Type 0} → List (Option B) → ℕ
free_seat seats = place_where is_free seats

-- the seats after a box took the free one of the least number
abbrev pub seated : {B : Type 0} → B → List (Option B) → List (Option B)
seated box seats = put_where is_free (Some box) seats

-- the seats after the box at one of them left
abbrev pub left_at : {B : Type 0} → ℕ → List (Option B) → List (Option B)
left_at n seats = set seats n None

-- all seats but one have the very box that they had, or are free as they were
abbrev pub OthersStay : {B : Type 0} → ℕ → List (Option B) → List (Option B) → Type 0
OthersStay n old new = new ≡ set old n (seat_at n new)

-- what the box at a seat reports, nothing where the seat is free
abbrev pub report_at : Option Shown → List ℕ
report_at None = []
report_at (Some shown) = report_of shown
