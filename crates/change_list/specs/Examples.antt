-- Worked examples of logs and of shifts taken back, which hold by computation.
use Rattle.std.specs.Prelude.{◌≡◌, ℕ, true, false, [], ◌∷◌}
use Rattle.text_model.specs.declared.coords.Coord.{Coord}
use Rattle.text_model.specs.declared.coords.Shift.{Shift}
use Rattle.change_list.specs.Logs.{Logged, stamp_of, fresh, pushed, trimmed, back}

abbrev pub at : ℕ → ℕ → Coord
at line column = record { line = line; column = column }

-- `xy` put in before the second character of the line `abcd`
abbrev pub two_put_in : Shift
two_put_in = record { insert = true; begin = at 0 1; «end» = at 0 3; last = at 0 6 }

-- the second to the fourth character taken out of the line `abcdef`
abbrev pub three_taken : Shift
three_taken = record { insert = false; begin = at 0 1; «end» = at 0 4; last = at 0 3 }

-- a log that held seven shifts before, and holds two
abbrev pub two_held : Logged
two_held = record { first = 7; shifts = two_put_in ∷ three_taken ∷ [] }

pub record Examples : Type 0 where
  pub stands_behind_its_last : stamp_of two_held ≡ 9
  pub fresh_stands_at_none : stamp_of fresh ≡ 0
  pub one_more : pushed (pushed fresh two_put_in) three_taken ≡ record { first = 0; shifts = two_put_in ∷ three_taken ∷ [] }
  pub first_dropped : trimmed two_held 8 ≡ record { first = 8; shifts = three_taken ∷ [] }
  pub none_dropped : trimmed two_held 7 ≡ two_held
  pub all_dropped : trimmed two_held 9 ≡ record { first = 9; shifts = [] }
  pub insertion_taken_back : back two_put_in (at 0 4) ≡ record { insert = false; begin = at 0 1; «end» = at 0 3; last = at 0 4 }
  pub erasure_taken_back : back three_taken (at 0 6) ≡ record { insert = true; begin = at 0 1; «end» = at 0 4; last = at 0 6 }
