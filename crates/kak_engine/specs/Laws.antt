-- Laws of the definitions, each proved as the contract of a function of `laws`.
use Rattle.std.specs.Prelude.{◌≡◌, ◌≢◌, ℕ, ◌<◌, true, List}
use Rattle.key_names.specs.declared.key.Key.{Key}
use Rattle.kak_world.specs.Keeping.{whos_of}
use Rattle.window_view.specs.Sizes.{Dimensions, view_at, corner_of}
use Rattle.kak_world.specs.Flat.{Flat, between_steps, is_here, is_joined, own_of, view_of}
use Rattle.kak_world.specs.Rows.{Row}
use Rattle.session_events.specs.declared.event.Event.{Event}
use Rattle.session_events.specs.declared.event.Event.TheVariants.{Resize}
use Rattle.session_events.specs.declared.event.Answered.{Answered}
use Rattle.session_events.specs.declared.event.Entry.{Entry}
use Rattle.kak_engine.specs.declared.place.Place.{Place}
use Rattle.kak_engine.specs.Doing.{Moment, depth_of, do_within, Do}
use Rattle.kak_engine.specs.Steps.{after_event, after_key, run}

-- with a bound above how deep it may nest, a row is done as deep as it goes: only want of units gives a step up
abbrev pub BoundEndsNoStep : Type 0
BoundEndsNoStep = (n : ℕ) (p : Place) (row : Row) (m : Moment) → depth_of row m.world < n → do_within n p row m ≡ Do p row m

-- The same clients are here as before, and each that had joined has joined still.
pub record KeepsPresence (old new : Flat) : Type 0 where
  pub whos : whos_of new.clients ≡ whos_of old.clients
  pub joined : (k : ℕ) → is_joined k old ≡ true → is_joined k new ≡ true

-- no key makes a client come or go, its own or another one, and each that had joined has joined still
abbrev pub KeysKeepClients : Type 0
KeysKeepClients = (who : ℕ) (key : Key) (answers : List Answered) (flat : Flat) → KeepsPresence flat (after_key who key answers flat)

-- Another client is not there after an event of a client where it wasn't before, and where it was it is there still.
pub record StaysThere (k : ℕ) (old new : Flat) : Type 0 where
  pub here : is_here k new.clients ≡ is_here k old.clients
  pub joined : is_joined k old ≡ true → is_joined k new ≡ true

-- no event of a client makes another one come or go
abbrev pub OtherClientsStay : Type 0
OtherClientsStay = (who k : ℕ) (event : Event) (answers : List Answered) (flat : Flat) → who ≢ k → StaysThere k flat (after_event who event answers flat)

-- behind a history no step is under way: it is nobody's turn, and no unit is left
abbrev pub StepsEnd : Type 0
StepsEnd = (history : List Entry) → (run history).rest.step ≡ between_steps

-- The windows of a client that has joined have so many rows and columns, and stand where they stood; nothing else is changed,
-- its own or another one's, no text and no list.
pub record ChangesSize (who : ℕ) (size : Dimensions) (old new : Flat) : Type 0 where
  pub own : is_joined who old ≡ true → own_of who new ≡ record (own_of who old) { size = size }
  pub window : is_joined who old ≡ true → view_of who new ≡ view_at (corner_of (view_of who old)) size
  pub others : (k : ℕ) → k ≢ who → own_of k new ≡ own_of k old
  pub other_windows : (k : ℕ) → k ≢ who → view_of k new ≡ view_of k old
  pub buffers : new.buffers ≡ old.buffers
  pub rest : new.rest ≡ old.rest

-- so does a resize
abbrev pub ResizesChangeSizes : Type 0
ResizesChangeSizes = (who : ℕ) (size : Dimensions) (answers : List Answered) (flat : Flat) → ChangesSize who size flat (after_event who (Resize size) answers flat)
