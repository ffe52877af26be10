-- Neither scrolling nor a mouse changes a text.
use Rattle.std.proofs.Common.{ℕ, ℤ, Bool, true, false, refl, ◌∙◌}
use Rattle.std.specs.Prelude.{if◌then◌else◌}
use Rattle.text_model.specs.declared.coords.Coord.{Coord}
use Rattle.mouse_events.specs.declared.mouse.Button.TheVariants.{Left, Middle, Right}
use Rattle.mouse_events.specs.declared.mouse.Mouse.{Mouse}
use Rattle.mouse_events.specs.declared.mouse.Mouse.TheVariants.{Move, Press, Release}
use Rattle.kak_world.specs.Flat.{Flat, text_of, sels_of, view_of}
use Rattle.pointer_rows.specs.Pointing.{is_quiet, is_dragging, selects, extends, drags, with_drag, mouse_done, pointed}
use Rattle.pointer_rows.specs.Windows.{shows_line}
use Rattle.pointer_rows.specs.Lists.{main_line}
use Rattle.pointer_rows.specs.Scrolling.{keeps_shown, window_by, scrolled}
use Rattle.step_texts.specs.Texts.{HasSameTexts}
use Rattle.step_texts.proofs.TextLemmas.{texts-own, texts-sels, texts-corner}

chosen : (t : Bool) (old a b : Flat) → HasSameTexts old a → HasSameTexts old b → HasSameTexts old (if t then a else b)
chosen true old a b f g = f
chosen false old a b f g = g

drag-texts : (who : ℕ) (dragging : Bool) (old new : Flat) → HasSameTexts old new → HasSameTexts old (with_drag who dragging new)
drag-texts who dragging old new e = texts-own who _ new ∙ e

drags-texts : (who gutter : ℕ) (at : Coord) (flat : Flat) → HasSameTexts flat (drags who gutter at flat)
drags-texts who gutter at flat = chosen (is_dragging who flat) flat (extends who gutter at flat) flat (texts-sels who _ flat) refl

done-texts : (who gutter : ℕ) (mouse : Mouse) (flat : Flat) → HasSameTexts flat (mouse_done who gutter mouse flat)
done-texts who gutter (Move at) flat = drags-texts who gutter at flat
done-texts who gutter (Press Left at) flat = drag-texts who true flat (selects who gutter at flat) (texts-sels who _ flat)
done-texts who gutter (Press Middle at) flat = refl
done-texts who gutter (Press Right at) flat = texts-sels who _ flat
done-texts who gutter (Release Left at) flat = drag-texts who false flat (drags who gutter at flat) (drags-texts who gutter at flat)
done-texts who gutter (Release Middle at) flat = refl
done-texts who gutter (Release Right at) flat = refl

pub pointed-texts : (who gutter : ℕ) (mouse : Mouse) (flat : Flat) → HasSameTexts flat (pointed who gutter mouse flat)
pointed-texts who gutter mouse flat = chosen (is_quiet who flat) flat (mouse_done who gutter mouse flat) flat (done-texts who gutter mouse flat) refl

shown-line : (who : ℕ) (flat : Flat) → HasSameTexts flat (keeps_shown who flat)
shown-line who flat = chosen (shows_line (view_of who flat) (main_line (text_of who flat) (sels_of who flat))) flat flat _ refl (texts-sels who _ flat)

pub scrolled-texts : (who : ℕ) (lines : ℤ) (flat : Flat) → HasSameTexts flat (scrolled who lines flat)
scrolled-texts who lines flat =
    chosen (is_quiet who flat) flat (keeps_shown who (window_by who lines flat)) flat (shown-line who (window_by who lines flat) ∙ texts-corner who _ flat) refl
