-- One row behind another.
use Rattle.std.specs.Prelude.{ℕ, zero, suc}
use Rattle.kak_world.specs.Flat.{Flat, with_units}
use Rattle.kak_world.specs.Rows.{Row, RowEnd, Asks, Fails, GivesUp}

-- what comes behind a row: nothing where it failed, or gave up
abbrev pub behind : Row → (Flat → RowEnd) → Flat → RowEnd
behind (Asks ask) next flat = next flat
behind (Fails text) next flat = record { world = flat; row = Fails text }
behind GivesUp next flat = record { world = flat; row = GivesUp }

-- a row, and what comes behind it
abbrev pub then_row : RowEnd → (Flat → RowEnd) → RowEnd
then_row end next = behind end.row next end.world

-- what comes next where a unit is left, which is taken; else the step is given up
abbrev pub after_unit : ℕ → (Flat → RowEnd) → Flat → RowEnd
after_unit zero next flat = record { world = flat; row = GivesUp }
after_unit (suc left) next flat = next (with_units left flat)
