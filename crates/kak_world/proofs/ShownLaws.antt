-- What showing, opening and dropping buffers leave of what the world says of its clients.
use Rattle.std.proofs.Common.{◌≡◌, ℕ, Bool, true, List, refl, ap, ◌∙◌}
use Rattle.tables.proofs.RowLemmas.{first-changed, first-kept}
use Rattle.scope_options.specs.Settings.{without_buffer}
use Rattle.kak_world.specs.declared.clients.Client.{Client}
use Rattle.kak_world.specs.Flat.{Flat, is_of, is_here, newcomer, client_of, shown_of, rest_of, options_of, own_of, number_of, is_joined, with_buffers}
use Rattle.kak_world.specs.Showing.{seeing_buffer, shows, buffer_opened}
use Rattle.kak_world.specs.Dropping.{dropped}
use Rattle.kak_world.proofs.WorldLaws.{joined_here, rest_buffers}
use Rattle.kak_world.proofs.GapLemmas.{keeps_opened}

-- a client that is shown another buffer
pub own_shows : (k who n : ℕ) (flat : Flat) → own_of k (shows who n flat) ≡ own_of k flat
unfolding own_of client_of shows
own_shows k who n flat = first-kept (is_of who) (is_of k) (seeing_buffer n) (λ (c : Client). c.own) (newcomer k 0 0) flat.clients (λ c. refl) (λ c. refl)

pub number_shows : (k who n : ℕ) (flat : Flat) → number_of k (shows who n flat) ≡ number_of k flat
unfolding number_of client_of shows
number_shows k who n flat = first-kept (is_of who) (is_of k) (seeing_buffer n) (λ (c : Client). c.number) (newcomer k 0 0) flat.clients (λ c. refl) (λ c. refl)

pub rest_shows : (who n : ℕ) (flat : Flat) → rest_of (shows who n flat) ≡ rest_of flat
unfolding rest_of shows
rest_shows who n flat = refl

seen-of : (who n : ℕ) (flat : Flat) → is_here who flat.clients ≡ true → shown_of who (shows who n flat) ≡ n
unfolding shown_of client_of shows
seen-of who n flat h = ap (λ (c : Client). c.shown) (first-changed (is_of who) (seeing_buffer n) (newcomer who 0 0) flat.clients (λ c. refl) h)

pub shown_shows : (who n : ℕ) (flat : Flat) → is_joined who flat ≡ true → shown_of who (shows who n flat) ≡ n
shown_shows who n flat j = seen-of who n flat (joined_here who flat j)

-- a buffer that is opened
pub opened_writes : (name : List ℕ) (file : Bool) (text : List ℕ) (flat : Flat) → buffer_opened name file text flat ≡ with_buffers (buffer_opened name file text flat).buffers flat
unfolding buffer_opened
opened_writes name file text flat = refl

pub rest_opened : (name : List ℕ) (file : Bool) (text : List ℕ) (flat : Flat) → rest_of (buffer_opened name file text flat) ≡ rest_of flat
rest_opened name file text flat = ap rest_of (opened_writes name file text flat) ∙ rest_buffers _ flat

pub joined_opened : (k : ℕ) (name : List ℕ) (file : Bool) (text : List ℕ) (flat : Flat) → is_joined k (buffer_opened name file text flat) ≡ is_joined k flat
joined_opened k name file text flat = (keeps_opened name file text flat).joined k

-- a buffer that is dropped
pub rest_dropped : (n : ℕ) (flat : Flat) → rest_of (dropped n flat) ≡ record (rest_of flat) { options = without_buffer n (options_of flat) }
unfolding rest_of dropped
rest_dropped n flat = refl
