-- What a mouse does to a client.
use Rattle.std.specs.Prelude.{ℕ, Bool, true, false, not, ◌&&◌, is_some, if◌then◌else◌}
use Rattle.text_model.specs.declared.coords.Coord.{Coord}
use Rattle.mouse_events.specs.declared.mouse.Button.TheVariants.{Left, Right}
use Rattle.mouse_events.specs.declared.mouse.Mouse.{Mouse}
use Rattle.mouse_events.specs.declared.mouse.Mouse.TheVariants.{Move, Press, Release}
use Rattle.kak_world.specs.declared.own.Mode.{Mode}
use Rattle.kak_world.specs.declared.own.Mode.TheVariants.{Normal}
use Rattle.kak_world.specs.Flat.{Flat, only_at, own_of, mode_of, pending_of, text_of, sels_of, view_of, tabstop_of, with_own, with_sels}
use Rattle.pointer_rows.specs.Places.{offset_shown}
use Rattle.pointer_rows.specs.Lists.{extended}

abbrev pub is_normal : Mode → Bool
is_normal Normal = true
is_normal _ = false

-- whether a client is in normal mode, and none of its keys waits for another one; only then it is pointed and scrolled. A
-- count, or a register that was chosen, waits for none
abbrev pub is_quiet : ℕ → Flat → Bool
is_quiet who flat = is_normal (mode_of who flat) && not (is_some (pending_of who flat))

-- whether a client's left button was pressed, and neither released nor followed by a key
abbrev pub is_dragging : ℕ → Flat → Bool
is_dragging who flat = (own_of who flat).dragging

-- the offset of the character at a place of a client's window, where so many cells stand before the text
abbrev pub offset_at : ℕ → ℕ → Coord → Flat → ℕ
offset_at who gutter at flat = offset_shown (text_of who flat) (view_of who flat) gutter (tabstop_of who flat) at

-- a client selects the character at a place, alone
abbrev pub selects : ℕ → ℕ → Coord → Flat → Flat
selects who gutter at flat = with_sels who (only_at (offset_at who gutter at flat)) flat

-- a client extends its main selection to the character at a place, and keeps it alone
abbrev pub extends : ℕ → ℕ → Coord → Flat → Flat
extends who gutter at flat = with_sels who (extended (offset_at who gutter at flat) (sels_of who flat)) flat

-- a client does so if it is dragging
abbrev pub drags : ℕ → ℕ → Coord → Flat → Flat
drags who gutter at flat = if is_dragging who flat then extends who gutter at flat else flat

-- a client is dragging from now on, or isn't
abbrev pub with_drag : ℕ → Bool → Flat → Flat
with_drag who dragging flat = with_own who (λ o. record o { dragging = dragging }) flat

-- the world behind what a mouse did over the window of a client that is quiet
abbrev pub mouse_done : ℕ → ℕ → Mouse → Flat → Flat
mouse_done who gutter (Move at) flat = drags who gutter at flat
mouse_done who gutter (Press Left at) flat = with_drag who true (selects who gutter at flat)
mouse_done who gutter (Press Right at) flat = extends who gutter at flat
mouse_done who gutter (Release Left at) flat = with_drag who false (drags who gutter at flat)
mouse_done who gutter _ flat = flat

-- the same of any client
abbrev pub pointed : ℕ → ℕ → Mouse → Flat → Flat
pointed who gutter mouse flat = if is_quiet who flat then mouse_done who gutter mouse flat else flat
