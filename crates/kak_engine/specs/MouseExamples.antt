-- Worked examples of events of the mouse and of scrolling, which hold by computation.
use Rattle.std.specs.Prelude.{◌≡◌, ℕ, pos, true, false, [], codes}
use Rattle.mouse_events.specs.declared.mouse.Button.TheVariants.{Left}
use Rattle.mouse_events.specs.declared.mouse.Mouse.TheVariants.{Press}
use Rattle.kak_world.specs.declared.own.StatusText.TheVariants.{Refused}
use Rattle.kak_world.specs.Flat.{Flat, between_steps, sels_of, status_of, view_of, with_own}
use Rattle.kak_world.specs.Examples.{on_text, only_sel_at}
use Rattle.highlight_paint.specs.Painters.{Numbers}
use Rattle.draw_model.specs.Examples.{highlighted}
use Rattle.pointer_rows.specs.Pointing.{is_dragging}
use Rattle.session_events.specs.declared.event.Event.{Event}
use Rattle.session_events.specs.declared.event.Event.TheVariants.{Scroll, Mouse as Pointed}
use Rattle.session_events.specs.Meaning.{no_output}
use Rattle.kak_engine.specs.Steps.{begun, after_event, output_of}

-- two clients on one text, of which 7 has the mouse
abbrev pub both : Flat
both = on_text (codes "ab\ncd\n") (only_sel_at 0) (only_sel_at 0)

-- the numbers of the lines stand before the text
abbrev pub numbered : Flat
numbered = highlighted (Numbers false (codes "|")) both

-- it presses the left button
abbrev pub press : ℕ → ℕ → Event
press line column = Pointed (Press Left (record { line = line; column = column }))

abbrev pub pressed : Flat
pressed = after_event 7 (press 1 1) [] both

pub record MouseExamples : Type 0 where
  pub press_selects : sels_of 7 pressed ≡ only_sel_at 4
  -- one cell has the number, and one what stands behind it
  pub behind_the_number : sels_of 7 (after_event 7 (press 1 3) [] numbered) ≡ only_sel_at 4
  pub on_the_number : sels_of 7 (after_event 7 (press 1 1) [] numbered) ≡ only_sel_at 3
  pub other_stays : sels_of 9 pressed ≡ only_sel_at 0
  pub step_is_over : pressed.rest.step ≡ between_steps
  pub gives_nothing : output_of 7 (press 1 1) [] both ≡ no_output
  -- neither takes away what a key before said, but a key ends a drag
  pub status_stays : status_of 7 (after_event 7 (press 1 1) [] (with_own 7 (λ o. record o { status = Refused (codes "no") }) both)) ≡ Refused (codes "no")
  pub drag_goes_on : is_dragging 7 (after_event 7 (Scroll (pos 1)) [] pressed) ≡ true
  pub key_ends_it : is_dragging 7 (begun 7 pressed) ≡ false
  -- a client that was let go can still be pointed
  pub let_go : sels_of 7 (after_event 7 (press 1 1) [] (with_own 7 (λ o. record o { leaving = true }) both)) ≡ only_sel_at 4
  pub scrolls : view_of 7 (after_event 7 (Scroll (pos 1)) [] both) ≡ record { top = 1; left = 0; rows = 24; columns = 80 }
  pub scrolled_gives_nothing : output_of 7 (Scroll (pos 1)) [] both ≡ no_output
