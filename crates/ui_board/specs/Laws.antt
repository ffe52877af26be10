-- What boards keep, and how reports grow.
use Rattle.std.specs.Prelude.{◌≡◌, ◌≢◌, ◌<◌, ℕ, List, [], ◌++◌, Option, Some, None}
use Rattle.drawings.specs.declared.drawing.Drawing.{Drawing}
use Rattle.drawings.specs.declared.refusal.Refusal.{Refusal}
use Rattle.ui_board.specs.Screens.{screen_bytes}
use Rattle.ui_board.specs.declared.ui.Kind.TheVariants.{Json, Silent, Screen}
use Rattle.ui_board.specs.Told.{Told, Drawn, Refused, Shown, untold, telling, told_bytes, report_of}
use Rattle.ui_board.specs.Boards.{seat_at, IsTaken, free_seat, seated, left_at, OthersStay}

-- the laws of seats, said of what boxes have shown
pub record SeatLaws : Type 0 where
  -- the seat that a box takes was free
  pub was_free : (seats : List (Option Shown)) → seat_at (free_seat seats) seats ≡ None
  -- all seats with a smaller number were taken
  pub least : (n : ℕ) (seats : List (Option Shown)) → n < free_seat seats → IsTaken n seats
  -- then the box is there
  pub taken : (box : Shown) (seats : List (Option Shown)) → seat_at (free_seat seats) (seated box seats) ≡ Some box
  -- and all other seats are as they were
  pub others : (n : ℕ) (box : Shown) (seats : List (Option Shown)) → n ≢ free_seat seats → seat_at n (seated box seats) ≡ seat_at n seats
  -- a seat that was left is free
  pub free : (n : ℕ) (seats : List (Option Shown)) → seat_at n (left_at n seats) ≡ None
  -- and all other seats are as they were
  pub others_left : (m n : ℕ) (seats : List (Option Shown)) → m ≢ n → seat_at m (left_at n seats) ≡ seat_at m seats
  -- where all others stay, each of them is as it was
  pub others_stay : (m n : ℕ) (old new : List (Option Shown)) → m ≢ n → OthersStay n old new → seat_at m new ≡ seat_at m old

-- the laws of reports
pub record ReportLaws : Type 0 where
  -- before anything was told there is nothing to report
  pub first : report_of (untold Json) ≡ []
  -- the lines of what is told come behind those of all that was told before
  pub json : (what : Told) (told : List Told) → report_of (telling what (record { kind = Json; told = told })) ≡ report_of (record { kind = Json; told = told }) ++ told_bytes what
  -- a silent box reports nothing
  pub silent : (told : List Told) → report_of (record { kind = Silent; told = told }) ≡ []
  -- a screen has nothing on it before anything was told
  pub blank : report_of (untold Screen) ≡ []
  -- behind a drawing it has the lines of that one, whatever was told before
  pub drawn : (drawing : Drawing) (told : List Told) → report_of (telling (Drawn drawing) (record { kind = Screen; told = told })) ≡ screen_bytes drawing.lines
  -- and behind a refusal what it had before
  pub refused : (refusal : Refusal) (told : List Told) → report_of (telling (Refused refusal) (record { kind = Screen; told = told })) ≡ report_of (record { kind = Screen; told = told })
