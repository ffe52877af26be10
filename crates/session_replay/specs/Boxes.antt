-- What the boxes of a replay were told.
use Rattle.std.specs.Prelude.{◌≡◌, ℕ, List, [], Option, Some, None, option_map}
use Rattle.kak_ports.specs.Ports.{Outlet}
use Rattle.ui_board.specs.declared.board.Board.{Board}
use Rattle.ui_board.specs.declared.ui.Kind.{Kind}
use Rattle.ui_board.specs.Told.{Shown, json_lines}
use Rattle.ui_board.specs.Boards.{box_at, IsTaken, OthersStay}

-- the JSON lines of what a box was told, where there is a box; telling it never fails but for want of memory
abbrev pub box_outlet : Option Shown → Outlet
box_outlet shown = record { told = option_map (λ s. json_lines s.told) shown; faults = 0 }

-- the kind of a box, if there is one
abbrev pub kind_in : Option Shown → Option Kind
kind_in shown = option_map (λ s. s.kind) shown

-- the JSON lines of what a box was told, none where there is no box
abbrev pub told_in : Option Shown → List ℕ
told_in None = []
told_in (Some shown) = json_lines shown.told

-- the JSON lines of what the box at a client's seat was told, by a word for what a box has shown
abbrev pub told_to : {U : Type 0} → (U → Shown) → ℕ → Board U → List ℕ
told_to shown who board = told_in (box_at shown who board)

-- Nothing changed on a board but what one client's box was told, which is at its seat still, with its kind.
pub record TellsOnly {U : Type 0} (shown : U → Shown) (who : ℕ) (old new : Board U) : Type 0 where
  pub taken : IsTaken who new.seats.items
  pub kind : kind_in (box_at shown who new) ≡ kind_in (box_at shown who old)
  pub others : OthersStay who old.seats.items new.seats.items
