-- Neither scrolling nor a mouse lets a client come or go.
use Rattle.std.proofs.Common.{ℕ, ℤ, Bool, true, false}
use Rattle.std.specs.Prelude.{if◌then◌else◌}
use Rattle.text_model.specs.declared.coords.Coord.{Coord}
use Rattle.mouse_events.specs.declared.mouse.Button.TheVariants.{Left, Middle, Right}
use Rattle.mouse_events.specs.declared.mouse.Mouse.{Mouse}
use Rattle.mouse_events.specs.declared.mouse.Mouse.TheVariants.{Move, Press, Release}
use Rattle.kak_world.specs.Flat.{Flat, text_of, sels_of, view_of}
use Rattle.kak_world.specs.Keeping.{KeepsClients}
use Rattle.kak_world.proofs.KeepingLaws.{keeps_same, keeps_after, keeps_own, keeps_sels, keeps_corner}
use Rattle.pointer_rows.specs.Pointing.{is_quiet, is_dragging, selects, extends, drags, with_drag, mouse_done, pointed}
use Rattle.pointer_rows.specs.Windows.{shows_line}
use Rattle.pointer_rows.specs.Lists.{main_line}
use Rattle.pointer_rows.specs.Scrolling.{keeps_shown, window_by, scrolled}

chosen : (t : Bool) (old a b : Flat) → KeepsClients old a → KeepsClients old b → KeepsClients old (if t then a else b)
chosen true old a b f g = f
chosen false old a b f g = g

keeps-extends : (who gutter : ℕ) (at : Coord) (flat : Flat) → KeepsClients flat (extends who gutter at flat)
keeps-extends who gutter at flat = keeps_sels who _ flat

keeps-drags : (who gutter : ℕ) (at : Coord) (flat : Flat) → KeepsClients flat (drags who gutter at flat)
keeps-drags who gutter at flat = chosen (is_dragging who flat) flat (extends who gutter at flat) flat (keeps-extends who gutter at flat) (keeps_same flat)

keeps-drag : (who : ℕ) (dragging : Bool) (old new : Flat) → KeepsClients old new → KeepsClients old (with_drag who dragging new)
keeps-drag who dragging old new k = keeps_after old new (with_drag who dragging new) k (keeps_own who (λ o. record o { dragging = dragging }) new)

keeps-done : (who gutter : ℕ) (mouse : Mouse) (flat : Flat) → KeepsClients flat (mouse_done who gutter mouse flat)
keeps-done who gutter (Move at) flat = keeps-drags who gutter at flat
keeps-done who gutter (Press Left at) flat = keeps-drag who true flat (selects who gutter at flat) (keeps_sels who _ flat)
keeps-done who gutter (Press Middle at) flat = keeps_same flat
keeps-done who gutter (Press Right at) flat = keeps-extends who gutter at flat
keeps-done who gutter (Release Left at) flat = keeps-drag who false flat (drags who gutter at flat) (keeps-drags who gutter at flat)
keeps-done who gutter (Release Middle at) flat = keeps_same flat
keeps-done who gutter (Release Right at) flat = keeps_same flat

pub keeps_pointed : (who gutter : ℕ) (mouse : Mouse) (flat : Flat) → KeepsClients flat (pointed who gutter mouse flat)
keeps_pointed who gutter mouse flat = chosen (is_quiet who flat) flat (mouse_done who gutter mouse flat) flat (keeps-done who gutter mouse flat) (keeps_same flat)

keeps-shown : (who : ℕ) (flat : Flat) → KeepsClients flat (keeps_shown who flat)
keeps-shown who flat = chosen (shows_line (view_of who flat) (main_line (text_of who flat) (sels_of who flat))) flat flat _ (keeps_same flat) (keeps_sels who _ flat)

pub keeps_scrolled : (who : ℕ) (lines : ℤ) (flat : Flat) → KeepsClients flat (scrolled who lines flat)
keeps_scrolled who lines flat =
    chosen (is_quiet who flat) flat (keeps_shown who (window_by who lines flat)) flat
    (keeps_after flat (window_by who lines flat) (keeps_shown who (window_by who lines flat)) (keeps_corner who _ flat) (keeps-shown who (window_by who lines flat)))
    (keeps_same flat)
