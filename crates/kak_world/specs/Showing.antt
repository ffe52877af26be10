-- Buffers that are opened, and clients that are shown another one.
use Rattle.std.specs.Prelude.{◌≡◌, ◌≢◌, ℕ, suc, ◌<◌, ◌==◌, Bool, true, false, List, [], ◌∷◌, slice_index_or}
use Rattle.std.specs.declared.option.Option.{Option}
use Rattle.std.specs.Prelude.{Some, None}
use Rattle.tables.specs.Tables.{changed_where}
use Rattle.list_shelf.specs.declared.holder.Holder.TheVariants.{Of}
use Rattle.kak_world.specs.declared.clients.Client.{Client}
use Rattle.kak_world.specs.declared.slots.TheConstants.{MAX_BUFFERS}
use Rattle.kak_world.specs.Flat.{Buffer, Flat, made_buffer, is_of, listed_for, is_there, changed_at, with_buffers}

-- a client that sees the buffer of a number
abbrev pub seeing_buffer : ℕ → Client → Client
seeing_buffer n c = record c { shown = n }

-- the world in which a client sees the buffer of a number, with the list that it has there, or the one to begin with
unfoldable pub shows : ℕ → ℕ → Flat → Flat
shows who n flat = record flat {
  buffers = changed_at n (listed_for (Of who)) flat.buffers;
  clients = changed_where (is_of who) (seeing_buffer n) flat.clients;
}

-- the least number that no buffer has
abbrev pub first_gap : List (Option Buffer) → ℕ
first_gap [] = 0
first_gap (None ∷ bs) = 0
first_gap (Some b ∷ bs) = suc (first_gap bs)

-- the buffers with one more, which takes the least number that no buffer has
abbrev pub buffer_placed : Buffer → List (Option Buffer) → List (Option Buffer)
buffer_placed b [] = Some b ∷ []
buffer_placed b (None ∷ bs) = Some b ∷ bs
buffer_placed b (Some a ∷ bs) = Some a ∷ buffer_placed b bs

-- the world with one more buffer, with nobody's list on it
unfoldable pub buffer_opened : List ℕ → Bool → List ℕ → Flat → Flat
unfolding with_buffers
buffer_opened name is_file text flat = with_buffers (buffer_placed (made_buffer name is_file text) flat.buffers) flat

-- how many buffers there are
abbrev pub buffer_count : List (Option Buffer) → ℕ
buffer_count [] = 0
buffer_count (None ∷ bs) = buffer_count bs
buffer_count (Some b ∷ bs) = suc (buffer_count bs)

-- whether there are as many buffers as there can be
abbrev pub has_all_buffers : Flat → Bool
has_all_buffers flat = buffer_count flat.buffers == MAX_BUFFERS

-- a number is no buffer's, and each one below it is
pub record IsFirstGap (buffers : List (Option Buffer)) (n : ℕ) : Type 0 where
  pub free : is_there n buffers ≡ false
  pub taken_below : (k : ℕ) → k < n → is_there k buffers ≡ true

-- one more buffer stands at a number, and each other number has what it had
pub record BufferStandsAt (n : ℕ) (b : Buffer) (old new : List (Option Buffer)) : Type 0 where
  pub here : slice_index_or new n None ≡ Some b
  pub others : (k : ℕ) → k ≢ n → slice_index_or new k None ≡ slice_index_or old k None

-- so it is with the number of a new buffer, whatever buffers there are
pub record GapsAreTaken : Type 0 where
  pub least : (buffers : List (Option Buffer)) → IsFirstGap buffers (first_gap buffers)
  pub stands : (b : Buffer) (buffers : List (Option Buffer)) → BufferStandsAt (first_gap buffers) b buffers (buffer_placed b buffers)
