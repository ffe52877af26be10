-- A buffer that is dropped: its lists go with it, and who saw it sees another one.
use Rattle.std.specs.Prelude.{◌≡◌, ℕ, zero, suc, true, is_some, if◌then◌else◌, ◌==◌, List, [], ◌∷◌, map}
use Rattle.std.specs.List.{list_any}
use Rattle.std.specs.declared.option.Option.{Option}
use Rattle.std.specs.Prelude.{None}
use Rattle.scope_options.specs.Scopes.{is_of_buffer}
use Rattle.scope_options.specs.Settings.{without_buffer}
use Rattle.list_shelf.specs.declared.holder.Holder.TheVariants.{Of}
use Rattle.kak_world.specs.declared.clients.Client.{Client}
use Rattle.kak_world.specs.Flat.{Buffer, Flat, scratch, listed_for, scoped_without, changed_at, lowest, is_joined, turn_of}
use Rattle.kak_world.specs.Keeping.{whos_of}
use Rattle.kak_world.specs.Showing.{seeing_buffer, buffer_placed}

-- the buffers without that of a number
abbrev pub emptied : ℕ → List (Option Buffer) → List (Option Buffer)
emptied n [] = []
emptied zero (b ∷ bs) = None ∷ bs
emptied (suc n) (b ∷ bs) = b ∷ emptied n bs

-- the buffers; where none is left, the one that is there when nothing else is
abbrev pub or_scratch : List (Option Buffer) → List (Option Buffer)
or_scratch buffers = if list_any is_some buffers then buffers else buffer_placed scratch buffers

-- a client that sees another buffer, where it saw that of a number
abbrev pub moved_on : ℕ → ℕ → Client → Client
moved_on n to c = if c.shown == n then seeing_buffer to c else c

-- a buffer on which a client that sees that of a number has a list: the one that it has, or else the one to begin with
abbrev pub listed_for_viewer : ℕ → Client → Buffer → Buffer
listed_for_viewer n c b = if c.shown == n then listed_for (Of c.who) b else b

-- so for each client that sees it
abbrev pub listed_for_viewers : ℕ → List Client → Buffer → Buffer
listed_for_viewers n [] b = b
listed_for_viewers n (c ∷ cs) b = listed_for_viewers n cs (listed_for_viewer n c b)

-- the buffers that are left when that of a number goes
abbrev pub left_without : ℕ → List (Option Buffer) → List (Option Buffer)
left_without n buffers = or_scratch (emptied n buffers)

-- the buffers when that of a number went, and clients that saw it see the one with the least number
abbrev pub buffers_dropped : ℕ → List Client → List (Option Buffer) → List (Option Buffer)
buffers_dropped n clients buffers = changed_at (lowest (left_without n buffers)) (listed_for_viewers n clients) (left_without n buffers)

-- the world without the buffer of a number, the lists on it and what is kept of it and of the windows on it; clients that saw it see the buffer with the least number
unfoldable pub dropped : ℕ → Flat → Flat
dropped n flat = record flat {
  buffers = buffers_dropped n flat.clients flat.buffers;
  clients = map (moved_on n (lowest (left_without n flat.buffers))) flat.clients;
  rest = record flat.rest { options = without_buffer n flat.rest.options };
  scoped = scoped_without (is_of_buffer n) flat.scoped;
}

-- the same clients are there as before, each that had joined has joined still, and it is the same one's turn
pub record KeepsJoined (old new : Flat) : Type 0 where
  pub whos : whos_of new.clients ≡ whos_of old.clients
  pub joined : (k : ℕ) → is_joined k old ≡ true → is_joined k new ≡ true
  pub turn : turn_of new ≡ turn_of old
