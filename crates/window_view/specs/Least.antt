-- A window follows by the least amount.
use Rattle.std.specs.Prelude.{◌≡◌, ℕ, ◌+◌, ◌-◌, ◌<◌, ◌≤◌, max}
use Rattle.window_view.specs.View.{View, IsWindow, followed, text_columns}

-- how far two numbers are apart
abbrev pub distance : ℕ → ℕ → ℕ
distance a b = a - b + (b - a)

-- a line is one of so many from a first one on
pub record IsLineIn (top rows line : ℕ) : Type 0 where
  pub from_top : top ≤ line
  pub to_bottom : line < top + rows

-- so many cells from a column on lie in a part that begins at a column and is so wide
pub record AreCellsIn (left part column cells : ℕ) : Type 0 where
  pub from_left : left ≤ column
  pub to_right : column + cells ≤ left + part

-- a number fits, and none that fits is nearer to where it was before
pub record IsNearest (fits : ℕ → Type 0) (before now : ℕ) : Type 0 where
  pub there : fits now
  pub least : (n : ℕ) → fits n → distance before now ≤ distance before n

-- a window that follows shows the line, and the cells where they fit, and no first line or first column that does so is
-- nearer to what it was; cells that are too many have the first of them at the left. Its size stays
pub record FollowsLeast (view : View) (line column width gutter : ℕ) : Type 0 where
  pub top : IsNearest (λ top. IsLineIn top view.rows line) view.top (followed view line column width gutter).top
  pub left : max 1 width ≤ text_columns view gutter → IsNearest (λ left. AreCellsIn left (text_columns view gutter) column (max 1 width)) view.left (followed view line column width gutter).left
  pub too_many : text_columns view gutter < max 1 width → (followed view line column width gutter).left ≡ column
  pub rows : (followed view line column width gutter).rows ≡ view.rows
  pub columns : (followed view line column width gutter).columns ≡ view.columns

-- each window follows so
abbrev pub WindowsFollowLeast : Type 0
WindowsFollowLeast = (view : View) (line column width gutter : ℕ) → IsWindow view → FollowsLeast view line column width gutter
