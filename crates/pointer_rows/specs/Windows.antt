-- Which lines a window shows, and where it goes.
use Rattle.std.specs.Prelude.{ℕ, suc, ◌+◌, ◌-◌, min, ℤ, pos, negsuc, Bool, ◌&&◌, nat_le, nat_lt, if◌then◌else◌}
use Rattle.window_view.specs.View.{View}

-- the first line of a window that goes so many lines on, or back, among so many lines: at most the last one
abbrev pub top_by : ℕ → ℕ → ℤ → ℕ
top_by count top (pos n) = min (top + n) (count - 1)
top_by count top (negsuc n) = min (top - suc n) (count - 1)

-- whether a window shows a line
abbrev pub shows_line : View → ℕ → Bool
shows_line view line = nat_le view.top line && nat_lt line (view.top + view.rows)

-- of a text with so many lines, the line that a window shows nearest to one that it doesn't show: its first one, or its last one
abbrev pub nearest_shown : ℕ → View → ℕ → ℕ
nearest_shown count view line = if nat_lt line view.top then view.top else min (view.top + view.rows - 1) (count - 1)
