-- The part of a text that a window shows, and how it follows the cursor.
use Rattle.std.specs.Prelude.{ℕ, ◌+◌, ◌-◌, ◌≤◌, min, max, nat_lt, nat_le, if◌then◌else◌}

-- a window: its first line, its first display column, and how many rows and columns it has
pub record View : Type 0 where
  pub top : ℕ
  pub left : ℕ
  pub rows : ℕ
  pub columns : ℕ

-- the columns that are left for the text where number cells stand before it: at least one
abbrev pub text_columns : View → ℕ → ℕ
text_columns view gutter = max 1 (view.columns - gutter)

-- the first line, moved by as little as has a line in the window
abbrev pub followed_top : View → ℕ → ℕ
followed_top view line =
    if nat_lt line view.top then line
    else (if nat_le (view.top + view.rows) line then line + 1 - view.rows else view.top)

-- the first column of a part so wide, moved by as little as has the cells from `column` on in it, or, where they are
-- too many, the first of them at its left
abbrev pub followed_left : ℕ → ℕ → ℕ → ℕ → ℕ
followed_left left part column cells =
    if nat_lt column left then column
    else (if nat_lt (left + part) (column + cells) then column + min cells part - part else left)

-- a window that has followed a cursor; a cursor without cells counts as one of one cell
abbrev pub followed : View → ℕ → ℕ → ℕ → ℕ → View
followed view line column width gutter = record {
  top = followed_top view line;
  left = followed_left view.left (text_columns view gutter) column (max 1 width);
  rows = view.rows;
  columns = view.columns;
}

-- rows and columns within what a window may have
pub record IsWindow (view : View) : Type 0 where
  pub some_rows : 1 ≤ view.rows
  pub few_rows : view.rows ≤ 1000
  pub some_columns : 1 ≤ view.columns
  pub few_columns : view.columns ≤ 1000
