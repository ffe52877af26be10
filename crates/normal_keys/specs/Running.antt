-- What is done as often as a count says.
use Rattle.std.specs.Prelude.{ℕ, zero, suc, ◌-◌}
use Rattle.kak_world.specs.Flat.{Flat, units_of}
use Rattle.kak_world.specs.Rows.{RowEnd, does}
use Rattle.key_rows.specs.Sequence.{then_row, after_unit}

-- so many further runs, each of which takes a unit, up to the first that fails
abbrev pub further_runs : ℕ → (Flat → RowEnd) → Flat → RowEnd
further_runs zero run flat = does flat
further_runs (suc n) run flat = after_unit (units_of flat) (λ w. then_row (run w) (further_runs n run)) flat

-- runs as often as a count says, and one without one, up to the first that fails; the first one has its unit already
abbrev pub runs : ℕ → (Flat → RowEnd) → Flat → RowEnd
runs count run flat = then_row (run flat) (further_runs (count - 1) run)
