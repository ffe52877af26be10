-- What scrolling does to a client.
use Rattle.std.specs.Prelude.{ℕ, ℤ, if◌then◌else◌}
use Rattle.text_model.specs.Texts.{line_count}
use Rattle.kak_world.specs.Flat.{Flat, text_of, sels_of, view_of, tabstop_of, with_sels, with_corner}
use Rattle.pointer_rows.specs.Windows.{top_by, shows_line}
use Rattle.pointer_rows.specs.Lists.{main_line, brought_in}
use Rattle.pointer_rows.specs.Pointing.{is_quiet}

-- a client whose window doesn't show its main cursor's line has that selected
abbrev pub keeps_shown : ℕ → Flat → Flat
keeps_shown who flat =
    if shows_line (view_of who flat) (main_line (text_of who flat) (sels_of who flat)) then flat
    else with_sels who (brought_in (text_of who flat) (view_of who flat) (tabstop_of who flat) (sels_of who flat)) flat

-- a client's window goes so many lines on, or back
abbrev pub window_by : ℕ → ℤ → Flat → Flat
window_by who lines flat = with_corner who (record { top = top_by (line_count (text_of who flat)) (view_of who flat).top lines; left = (view_of who flat).left }) flat

-- the world behind that
abbrev pub scrolled : ℕ → ℤ → Flat → Flat
scrolled who lines flat = if is_quiet who flat then keeps_shown who (window_by who lines flat) else flat
