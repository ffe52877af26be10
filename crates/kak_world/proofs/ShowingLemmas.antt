-- A client that is shown another buffer.
use Rattle.std.proofs.Common.{◌≡◌, ℕ, zero, suc, ◌<◌, true, false, List, [], ◌∷◌, length, map, get_or, set, refl, sym, ap, subst, ◌∙◌}
use Rattle.std.specs.Prelude.{◌&&◌, ◌==◌, option_map}
use Rattle.std.specs.declared.option.Option.{Option}
use Rattle.std.proofs.lemmas.Bool.{eqb-true, eq-eqb}
use Rattle.tables.specs.Tables.{first_where, place_where, changed_where}
use Rattle.tables.proofs.TableLemmas.{by_test}
use Rattle.tables.proofs.RowLemmas.{first-changed, first-changed_other, any-changed, map-changed, place-inside, changed-place, any-with_row, any-with_other}
use Rattle.list_shelf.specs.declared.holder.Holder.TheVariants.{Of}
use Rattle.list_shelf.specs.Shelves.{is_held_by}
use Rattle.kak_world.specs.Stored.{Stored}
use Rattle.kak_world.specs.declared.clients.Client.{Client}
use Rattle.kak_world.specs.declared.world.Rest.{Rest}
use Rattle.kak_world.specs.Flat.{Scoped, Buffer, Flat, is_of, is_here, newcomer, fresh_list, has_list, listed_for, is_there, buffer_at, changed_at, client_of, shown_of, buffer_of, is_joined, rest_of, turn_of}
use Rattle.kak_world.specs.Keeping.{KeepsClients}
use Rattle.kak_world.specs.Seen.{Kept, HasBuffer}
use Rattle.kak_world.specs.Showing.{seeing_buffer, shows}
use Rattle.kak_world.proofs.SlotLemmas.{there-inside, there-kept, buffer-changed}
use Rattle.kak_world.proofs.WorldLaws.{joined_here}
use Rattle.kak_world.proofs.WorldLemmas.{parts, has-changed}
use Rattle.kak_world.proofs.KeepingLaws.{joined-by-parts, listed-changed}

-- the client at its place, when it sees another buffer
pub client-seen : (who : ℕ) (rows clients : List Client) (n : ℕ) (client : Client) (to : ℕ) → rows ≡ clients → is_here who clients ≡ true → n ≡ place_where (is_of who) rows → client ≡ get_or rows n client → set rows n (seeing_buffer to client) ≡ changed_where (is_of who) (seeing_buffer to) clients
client-seen who rows clients n client to e h p r =
    let inside : place_where (is_of who) rows < length rows = place-inside (is_of who) rows (ap (is_here who) e ∙ h) in
    ap (λ (x : Client). set rows n (seeing_buffer to x)) r
    ∙ ap (λ k. set rows k (seeing_buffer to (get_or rows k client))) p
    ∙ sym (changed-place (is_of who) (seeing_buffer to) client rows inside)
    ∙ ap (changed_where (is_of who) (seeing_buffer to)) e

-- a slot that is set to what it was, with its buffer changed
pub set-slot : (n : ℕ) (f : Buffer → Buffer) (bs : List (Option Buffer)) (slot to : Option Buffer) → slot ≡ get_or bs n slot → to ≡ option_map f slot → set bs n to ≡ changed_at n f bs
set-slot n f [] slot to g t = refl
set-slot zero f (o ∷ bs) slot to g t = ap (λ x. x ∷ bs) (t ∙ ap (option_map f) g)
set-slot (suc n) f (o ∷ bs) slot to g t = ap (λ xs. o ∷ xs) (set-slot n f bs slot to g t)

-- or to what it was
pub set-slot_same : {A : Type 0} (n : ℕ) (bs : List A) (slot to : A) → slot ≡ get_or bs n slot → to ≡ slot → set bs n to ≡ bs
set-slot_same n [] slot to g t = refl
set-slot_same zero (o ∷ bs) slot to g t = ap (λ x. x ∷ bs) (t ∙ g)
set-slot_same (suc n) (o ∷ bs) slot to g t = ap (λ xs. o ∷ xs) (set-slot_same n bs slot to g t)

pub has-changed_to : (n : ℕ) (f : Buffer → Buffer) (bs now : List (Option Buffer)) → now ≡ changed_at n f bs → HasBuffer bs → HasBuffer now
has-changed_to n f bs now e h = subst HasBuffer (sym e) (has-changed n f bs h)

pub has-same : (bs now : List (Option Buffer)) → now ≡ bs → HasBuffer bs → HasBuffer now
has-same bs now e h = subst HasBuffer (sym e) h

-- the number of a buffer of the world has a slot
pub there-slot : {st : List (Option Stored)} {sc : Scoped} (n : ℕ) (bs : List (Option Buffer)) (cs : List Client) (r : Rest) (w : Kept) → parts bs cs r sc st ≡ w → is_there n w.flat.buffers ≡ true → n < length bs
there-slot {st = st} {sc = sc} n bs cs r w e t = there-inside n bs (ap (λ (k : Kept). is_there n k.flat.buffers) e ∙ t)

pub here-in : {st : List (Option Stored)} {sc : Scoped} (who : ℕ) (bs : List (Option Buffer)) (cs : List Client) (r : Rest) (w : Kept) → parts bs cs r sc st ≡ w → is_joined who w.flat ≡ true → is_here who cs ≡ true
here-in {st = st} {sc = sc} who bs cs r w e j = joined_here who (parts bs cs r sc st).flat (ap (λ (k : Kept). is_joined who k.flat) e ∙ j)

-- the world with other buffers that are the same
pub same-parts : {st : List (Option Stored)} {sc : Scoped} (bs now : List (Option Buffer)) (cs : List Client) (r : Rest) (w : Kept) → parts bs cs r sc st ≡ w → now ≡ bs → (parts now cs r sc st).flat ≡ w.flat
same-parts {st = st} {sc = sc} bs now cs r w e b = ap (λ x. (parts x cs r sc st).flat) b ∙ ap (λ (k : Kept). k.flat) e

-- the world in which a client sees another buffer
pub now-shows : {st : List (Option Stored)} {sc : Scoped} (who n : ℕ) (bs now : List (Option Buffer)) (cs seen : List Client) (r : Rest) (w : Kept) → parts bs cs r sc st ≡ w → now ≡ changed_at n (listed_for (Of who)) bs → seen ≡ changed_where (is_of who) (seeing_buffer n) cs → (parts now seen r sc st).flat ≡ shows who n w.flat
unfolding shows
now-shows {st = st} {sc = sc} who n bs now cs seen r w e b c =
    ap (λ x. (parts x seen r sc st).flat) b
    ∙ ap (λ x. (parts (changed_at n (listed_for (Of who)) bs) x r sc st).flat) c
    ∙ ap (λ (k : Kept). shows who n k.flat) e

-- it has joined still
shown-joined : (who n : ℕ) (flat : Flat) → is_here who flat.clients ≡ true → is_there n flat.buffers ≡ true → is_joined who (shows who n flat) ≡ true
unfolding is_joined buffer_of shown_of client_of shows
shown-joined who n flat h t =
    let cs : List Client = changed_where (is_of who) (seeing_buffer n) flat.clients in
    let bs : List (Option Buffer) = changed_at n (listed_for (Of who)) flat.buffers in
    let found : first_where (is_of who) (newcomer who 0 0) cs ≡ seeing_buffer n (first_where (is_of who) (newcomer who 0 0) flat.clients) = first-changed (is_of who) (seeing_buffer n) (newcomer who 0 0) flat.clients (λ c. refl) h in
    let here : is_here who cs ≡ true = any-changed (is_of who) (is_of who) (seeing_buffer n) flat.clients (λ c. refl) ∙ h in
    let there : is_there n bs ≡ true = there-kept n n (listed_for (Of who)) flat.buffers ∙ t in
    let listed : has_list (Of who) (buffer_at n bs) ≡ true =
    ap (has_list (Of who)) (buffer-changed n (listed_for (Of who)) flat.buffers t) ∙ any-with_row (is_held_by (Of who)) (fresh_list (Of who)) (buffer_at n flat.buffers).lists (eq-eqb who who refl) in
    ap (λ (c : Client). is_here who cs && (is_there c.shown bs && has_list (Of who) (buffer_at c.shown bs))) found
    ∙ ap (λ b. b && (is_there n bs && has_list (Of who) (buffer_at n bs))) here
    ∙ ap (λ b. b && has_list (Of who) (buffer_at n bs)) there
    ∙ listed

pub joined_shows : (who n : ℕ) (flat : Flat) → is_joined who flat ≡ true → is_there n flat.buffers ≡ true → is_joined who (shows who n flat) ≡ true
joined_shows who n flat j t = shown-joined who n flat (joined_here who flat j) t

-- another one has joined as before
pub joined_others_show : (k who n : ℕ) (flat : Flat) → (who == k) ≡ false → is_joined k (shows who n flat) ≡ is_joined k flat
unfolding shows shown_of client_of
joined_others_show k who n flat other =
    joined-by-parts k flat (shows who n flat)
    (any-changed (is_of who) (is_of k) (seeing_buffer n) flat.clients (λ c. refl))
    (ap (λ (c : Client). c.shown) (first-changed_other (is_of who) (is_of k) (seeing_buffer n) (newcomer k 0 0) flat.clients (λ c. refl) (λ c e. ap (λ m. m == k) (eqb-true c.who who e) ∙ other)))
    (λ m. listed-changed k n m (listed_for (Of who)) flat.buffers (λ b. any-with_other (is_held_by (Of who)) (is_held_by (Of k)) (fresh_list (Of who)) b.lists other))

pub whos-shown : (who n : ℕ) (flat : Flat) → map (λ (c : Client). c.who) (shows who n flat).clients ≡ map (λ (c : Client). c.who) flat.clients
unfolding shows
whos-shown who n flat = map-changed (is_of who) (seeing_buffer n) (λ c. c.who) flat.clients (λ c. refl)

pub turn_shows : (who n : ℕ) (flat : Flat) → turn_of (shows who n flat) ≡ turn_of flat
unfolding rest_of shows
turn_shows who n flat = refl

-- who is there, who has joined, and whose turn it is, is as before
pub keeps_shows : (who n : ℕ) (flat : Flat) → is_joined who flat ≡ true → is_there n flat.buffers ≡ true → KeepsClients flat (shows who n flat)
keeps_shows who n flat j t = record {
  whos = whos-shown who n flat;
  turn = turn_shows who n flat;
  joined = λ k.
      by_test (λ b. b ≡ (who == k) → is_joined k (shows who n flat) ≡ is_joined k flat) (who == k)
      (λ _ e. subst (λ m. is_joined m (shows who n flat) ≡ is_joined m flat) (eqb-true who k (sym e)) (joined_shows who n flat j t ∙ sym j))
      (λ _ e. joined_others_show k who n flat (sym e))
      refl;
}

pub now-keeps : (who n : ℕ) (w : Kept) (now : Flat) → is_joined who w.flat ≡ true → is_there n w.flat.buffers ≡ true → now ≡ shows who n w.flat → KeepsClients w.flat now
now-keeps who n w now j t e = subst (KeepsClients w.flat) (sym e) (keeps_shows who n w.flat j t)
