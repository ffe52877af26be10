-- How many rows and columns a window has, and where it stands on a text.
use Rattle.std.specs.Prelude.{◌≡◌, ℕ, min, max}
use Rattle.window_view.specs.declared.corner.Corner.{Corner}
use Rattle.window_view.specs.View.{View, IsWindow, followed}

-- how many rows and columns a window has
pub record Dimensions : Type 0 where
  pub rows : ℕ
  pub columns : ℕ

-- the rows and columns of a client that hasn't told how many it has
abbrev pub first_size : Dimensions
first_size = record { rows = 24; columns = 80 }

-- a number of rows or columns, brought into those that a window may have
abbrev pub within_bounds : ℕ → ℕ
within_bounds n = max 1 (min 1000 n)

-- so many rows and columns, each brought into those that a window may have
abbrev pub sized : ℕ → ℕ → Dimensions
sized rows columns = record { rows = within_bounds rows; columns = within_bounds columns }

-- the corner of a window at the start of a text
abbrev pub first_corner : Corner
first_corner = record { top = 0; left = 0 }

-- the window of a size at a corner
abbrev pub view_at : Corner → Dimensions → View
view_at corner size = record { top = corner.top; left = corner.left; rows = size.rows; columns = size.columns }

-- where a window stands
abbrev pub corner_of : View → Corner
corner_of view = record { top = view.top; left = view.left }

-- how many rows and columns it has
abbrev pub size_of : View → Dimensions
size_of view = record { rows = view.rows; columns = view.columns }

-- What of a window is its corner's, and what its size's.
pub record WindowsHaveTwoParts : Type 0 where
  -- a window is its corner and its size, and nothing else
  pub parts : (view : View) → view_at (corner_of view) (size_of view) ≡ view
  pub corner : (corner : Corner) (size : Dimensions) → corner_of (view_at corner size) ≡ corner
  pub size : (corner : Corner) (size : Dimensions) → size_of (view_at corner size) ≡ size
  -- a window that follows a cursor keeps its size
  pub follows : (view : View) (line column width gutter : ℕ) → size_of (followed view line column width gutter) ≡ size_of view
  -- any numbers of rows and columns give a window, and those of a window stay
  pub brought : (corner : Corner) (rows columns : ℕ) → IsWindow (view_at corner (sized rows columns))
  pub stays : (view : View) → IsWindow view → sized view.rows view.columns ≡ size_of view
