-- A window of the code as a view.
use Rattle.window_view.specs.declared.window.Window.{Window}
use Rattle.window_view.specs.View.{View}

-- what a window shows
abbrev pub window_seen : Window → View
window_seen w = record { top = w.top; left = w.left; rows = w.rows; columns = w.columns }
