-- The arithmetic of coordinates by which a place goes through a change.
use Rattle.std.specs.Prelude.{◌+◌, ◌-◌, ◌==◌, if◌then◌else◌}
use Rattle.text_model.specs.declared.coords.Coord.{Coord}
use Rattle.text_model.specs.declared.coords.Shift.{Shift}
use Rattle.text_model.specs.Coords.{is_at_most}
use Rattle.selection_set.specs.declared.sel.Sel.{Sel}

-- the coordinate that lies as far behind `to` as `at` lies behind `from`
abbrev pub rebased : Coord → Coord → Coord → Coord
rebased at from to =
    if at.line == from.line
    then record { line = to.line; column = to.column + (at.column - from.column) }
    else record { line = to.line + (at.line - from.line); column = at.column }

-- the earlier of two coordinates
abbrev pub earlier : Coord → Coord → Coord
earlier a b = if is_at_most a b then a else b

-- where a coordinate goes, without the cut to the last character
abbrev pub uncut : Shift → Coord → Coord
uncut shift at =
    if is_at_most shift.begin at
    then (if shift.insert then rebased at shift.begin shift.end
    else (if is_at_most at shift.end then shift.begin else rebased at shift.end shift.begin))
    else at

-- where a coordinate goes through a change
abbrev pub mapped : Shift → Coord → Coord
mapped shift at = earlier (uncut shift at) shift.last

-- where a selection goes through a change: both of its ends go, flag and target stay
abbrev pub mapped_sel : Shift → Sel → Sel
mapped_sel shift sel = record { low = mapped shift sel.low; high = mapped shift sel.high; turned = sel.turned; target = sel.target }
