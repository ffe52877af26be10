-- Laws of the definitions, each proved as the contract of a function of `laws`.
use Rattle.std.specs.Prelude.{◌≡◌, ◌≢◌, ℕ, ℤ, true}
use Rattle.mouse_events.specs.declared.mouse.Mouse.{Mouse}
use Rattle.kak_world.specs.Flat.{Flat, buffer_at, is_joined, own_of, rest_of, scoped_of}
use Rattle.pointer_rows.specs.Pointing.{is_dragging, pointed}
use Rattle.pointer_rows.specs.Scrolling.{scrolled}

-- What a client has of its own is as before, its status, its count and its register with it, but for whether it is dragging; and so
-- is what others have. Each buffer has the text that it had, with its undo tree and what is pending there. Registers, options,
-- faces, the units of the step and what is kept by scope stay.
pub record MovesPlaces (who : ℕ) (old new : Flat) : Type 0 where
  pub own : is_joined who old ≡ true → own_of who new ≡ record (own_of who old) { dragging = is_dragging who new }
  pub others : (k : ℕ) → k ≢ who → own_of k new ≡ own_of k old
  pub joined : (k : ℕ) → is_joined k new ≡ is_joined k old
  pub stories : (n : ℕ) → (buffer_at n new.buffers).story ≡ (buffer_at n old.buffers).story
  pub rest : rest_of new ≡ rest_of old
  pub scoped : scoped_of new ≡ scoped_of old

-- so it is whatever a mouse does
abbrev pub PointingMovesPlaces : Type 0
PointingMovesPlaces = (who gutter : ℕ) (mouse : Mouse) (flat : Flat) → MovesPlaces who flat (pointed who gutter mouse flat)

-- and however far a window is scrolled
abbrev pub ScrollingMovesPlaces : Type 0
ScrollingMovesPlaces = (who : ℕ) (lines : ℤ) (flat : Flat) → MovesPlaces who flat (scrolled who lines flat)
