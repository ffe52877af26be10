-- What is done to each selection of a client by itself.
use Rattle.std.specs.Prelude.{ℕ, ◌+◌, ◌-◌, min, not, ◌&&◌, nat_lt, if◌then◌else◌, false, List, None, option_map, unwrap_or}
use Rattle.std.specs.declared.option.Option.{Option}
use Rattle.text_model.specs.Texts.{last_place}
use Rattle.list_model.specs.Ranges.{Range, only, cursor}
use Rattle.list_model.specs.Settling.{each_settled}
use Rattle.window_view.specs.View.{View}
use Rattle.motion_keys.specs.Words.{Ends}
use Rattle.motion_keys.specs.Finding.{between_ends, moved as moved_range}
use Rattle.motion_keys.specs.Landmarks.{line_begin, line_of}
use Rattle.motion_keys.specs.declared.finding.Motion.{Motion}
use Rattle.motion_keys.specs.declared.finding.Motion.TheVariants.{To}
use Rattle.motion_keys.specs.declared.finding.Reach.{Reach}
use Rattle.motion_keys.specs.declared.finding.Reach.TheVariants.{Select}
use Rattle.motion_keys.specs.declared.landmarks.Place.TheVariants.{NonBlank}
use Rattle.text_objects.specs.declared.kinds.Object.{Object}
use Rattle.text_objects.specs.Objects.{inner, around}
use Rattle.kak_world.specs.Flat.{Flat, text_of, view_of, tabstop_of, sels_of, with_sels}
use Rattle.key_rows.specs.declared.shapes.Shape.{Shape}
use Rattle.key_rows.specs.declared.shapes.Shape.TheVariants as shape
use Rattle.key_rows.specs.declared.each.Extent.{Extent}
use Rattle.key_rows.specs.declared.each.Extent.TheVariants.{Inner, Around}
use Rattle.key_rows.specs.declared.each.Each.{Each}
use Rattle.key_rows.specs.declared.each.Each.TheVariants as each

-- the newline of the line of an offset
abbrev pub newline_of : List ℕ → ℕ → ℕ
newline_of text o = line_begin text (line_of text o + 1) - 1

-- a selection in another shape: all of its lines; its cursor's character; with its ends changed over; with its cursor at
-- its last character; or with its cursor at its first one, where one of one character is straight; the newline of its last
-- line, or that of its cursor's line; with its cursor behind its last character, or at the text's last one; and, where it is
-- straight and has more than one character, without its last one
abbrev pub reshaped : Shape → List ℕ → Range → Range
reshaped shape.Lines text r = record {
  low = line_begin text (line_of text r.low);
  high = newline_of text r.high;
  turned = r.turned;
  target = None;
}
reshaped shape.Cursor text r = only (cursor r)
reshaped shape.Turned text r = record r { turned = not r.turned }
reshaped shape.Straight text r = record r { turned = false }
reshaped shape.AtStart text r = record r { turned = nat_lt r.low r.high }
reshaped shape.LastNewline text r = only (newline_of text r.high)
reshaped shape.CursorNewline text r = only (newline_of text (cursor r))
reshaped shape.OneFurther text r = record { low = r.low; high = min (r.high + 1) (last_place text); turned = false; target = None }
reshaped shape.OneBack text r =
    if not r.turned && nat_lt r.low r.high then record { low = r.low; high = r.high - 1; turned = false; target = None } else r

-- the ends of an object at an offset, by itself or with what belongs to it
abbrev pub object_ends : Extent → Object → List ℕ → ℕ → ℕ → Option Ends
object_ends Inner object text o tabstop = inner object text o tabstop
object_ends Around object text o tabstop = around object text o tabstop

-- the object that a selection's cursor is in; where there is none, the selection stays
abbrev pub object_range : Extent → Object → ℕ → List ℕ → Range → Range
object_range extent object tabstop text r = unwrap_or (option_map between_ends (object_ends extent object text (cursor r) tabstop)) r

-- what is done to a selection by itself: a motion; another shape; the first character of its first line that is no blank; or
-- the object that its cursor is in
abbrev pub each_range : Each → View → ℕ → List ℕ → Range → Range
each_range (each.Moved motion reach) view tabstop text r = moved_range motion reach view tabstop text r
each_range (each.Reshaped shape) view tabstop text r = reshaped shape text r
each_range each.AtFirstLine view tabstop text r = moved_range (To NonBlank) Select view tabstop text (only r.low)
each_range (each.Object extent object) view tabstop text r = object_range extent object tabstop text r

-- the world in which that was done to each selection of a client
abbrev pub each_changed : Each → ℕ → Flat → Flat
each_changed change who flat =
    with_sels who (each_settled (each_range change (view_of who flat) (tabstop_of who flat) (text_of who flat)) (sels_of who flat)) flat

-- each selection of a client moved
abbrev pub each_moved : Motion → Reach → ℕ → Flat → Flat
each_moved motion reach who flat = each_changed (each.Moved motion reach) who flat
