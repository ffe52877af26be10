-- A window is its corner and its size.
use Rattle.std.proofs.Common.{◌≡◌, ℕ, ◌≤◌, refl, ap₂, arith}
use Rattle.window_view.specs.Sizes.{Dimensions, within_bounds, WindowsHaveTwoParts}

-- a number of rows or columns that a window has stays
stays-within : (n : ℕ) → 1 ≤ n → n ≤ 1000 → within_bounds n ≡ n
stays-within n some few = omega (arith, some, few)

pub windows_have_two_parts : WindowsHaveTwoParts
windows_have_two_parts = record {
  parts = λ view. refl;
  corner = λ corner size. refl;
  size = λ corner size. refl;
  follows = λ view line column width gutter. refl;
  brought = λ corner rows columns. record { some_rows = omega arith; few_rows = omega arith; some_columns = omega arith; few_columns = omega arith };
  stays = λ view w. ap₂ (λ r c. let x : Dimensions = record { rows = r; columns = c } in x) (stays-within view.rows w.some_rows w.few_rows) (stays-within view.columns w.some_columns w.few_columns);
}
