-- Which changes keep the clients: each of the four setters by one law, and an operation on buffers by what it leaves of their
-- lists. And who is there when a client comes or goes.
use Rattle.std.proofs.Common.{◌≡◌, ℕ, zero, suc, ◌+◌, ◌≤◌, Bool, true, false, cond, ◌||◌, List, [], ◌∷◌, length, map, refl, sym, ap, ◌∙◌, length-append}
use Rattle.std.specs.Prelude.{◌&&◌, ◌==◌, is_some, option_map, slice_index_or, Some, None}
use Rattle.std.specs.List.{list_any}
use Rattle.std.specs.declared.option.Option.{Option}
use Rattle.std.proofs.lemmas.Bool.{eqb-true}
use Rattle.std.proofs.lemmas.List.{length-map}
use Rattle.tables.proofs.RowLemmas.{Leaves, any-changed, any-map, first-kept, map-changed, any-added, first-added, any-left, none-left, first-left, fewer-left, any-with_other}
use Rattle.list_model.specs.Ranges.{Selected}
use Rattle.window_view.specs.declared.corner.Corner.{Corner}
use Rattle.text_model.specs.Changes.{Change}
use Rattle.undo_model.specs.declared.travel.Travel.{Travel}
use Rattle.undo_model.specs.Stories.{Story, edited, is_undo_full}
use Rattle.undo_model.specs.Moves.{target_of, moved_by, move_changes}
use Rattle.undo_model.specs.Marks.{left_by}
use Rattle.undo_model.specs.Edits.{Splice, is_too_long}
use Rattle.list_shelf.specs.Shelves.{Held, same_holder, is_held_by, list_moved}
use Rattle.kak_world.specs.declared.ask.EditError.TheVariants.{UndoFull, TextFull}
use Rattle.list_shelf.specs.declared.holder.Holder.{Holder}
use Rattle.list_shelf.specs.declared.holder.Holder.TheVariants.{Of}
use Rattle.kak_world.specs.declared.own.Own.{Own}
use Rattle.kak_world.specs.declared.clients.Client.{Client}
use Rattle.kak_world.specs.declared.world.Rest.{Rest}
use Rattle.kak_registers.specs.declared.names.RegisterError.{RegisterError}
use Rattle.kak_registers.specs.Refusals.{register_refusal}
use Rattle.kak_world.specs.Registers.{set_unless, set_row}
use Rattle.kak_world.specs.Flat.{Buffer, Scoped, Flat, fresh_list, newcomer, is_of, is_here, has_list, with_list, listed_for, committed_for, left_behind, buffer_or_scratch, changed_at, lowest, least_free, numbers_of, client_of, shown_of, buffer_of, story_of, text_of, is_joined, rest_of, turn_of, is_turn_of, acts, with_own, with_rest, with_scoped, with_buffers, with_list_of, with_sels, with_corner, with_units, joined_by, left_by_client}
use Rattle.kak_world.specs.Changing.{buffer_changed, buffer_traveled, changed_in, splice_changes_of, edited_by, traveled_by, commits}
use Rattle.kak_world.specs.Rows.{does, fails}
use Rattle.kak_world.specs.Editing.{edit_row, travel_row, move_ends}
use Rattle.kak_world.specs.Keeping.{whos_of, KeepsClients}

pub keeps_same : (flat : Flat) → KeepsClients flat flat
keeps_same flat = record { whos = refl; joined = λ k. refl; turn = refl }

-- one change after another
pub keeps_after : (a b c : Flat) → KeepsClients a b → KeepsClients b c → KeepsClients a c
keeps_after a b c f g = record { whos = g.whos ∙ f.whos; joined = λ k. g.joined k ∙ f.joined k; turn = g.turn ∙ f.turn }

here-whos : (k : ℕ) (cs : List Client) → is_here k cs ≡ list_any (λ n. n == k) (whos_of cs)
here-whos k [] = refl
here-whos k (c ∷ cs) = ap (λ b. (c.who == k) || b) (here-whos k cs)

-- the same clients are here
pub here_kept : (k : ℕ) (old new : Flat) → KeepsClients old new → is_here k new.clients ≡ is_here k old.clients
here_kept k old new f = here-whos k new.clients ∙ ap (list_any (λ n. n == k)) f.whos ∙ sym (here-whos k old.clients)

-- and as many
pub count_kept : (old new : Flat) → KeepsClients old new → length new.clients ≡ length old.clients
count_kept old new f = sym (length-map new.clients (λ c. c.who)) ∙ ap length f.whos ∙ length-map old.clients (λ c. c.who)

-- whether a client has a list on a buffer, where one is
abbrev pub listed_in : ℕ → Option Buffer → Bool
listed_in k o = is_some o && has_list (Of k) (buffer_or_scratch o)

-- whether a client has joined, by whether it is here, the number of the buffer that it sees, and the buffers
abbrev pub joined_in : ℕ → Bool → ℕ → List (Option Buffer) → Bool
joined_in k here n buffers = here && listed_in k (slice_index_or buffers n None)

pub is-joined-in : (k : ℕ) (flat : Flat) → is_joined k flat ≡ joined_in k (is_here k flat.clients) (shown_of k flat) flat.buffers
unfolding is_joined buffer_of
is-joined-in k flat = refl

-- the same ones act
pub acts_kept : (who : ℕ) (old new : Flat) → KeepsClients old new → acts who new ≡ acts who old
unfolding acts
acts_kept who old new k = ap (λ b. b && is_turn_of who (turn_of new)) (k.joined who) ∙ ap (λ o. is_joined who old && is_turn_of who o) k.turn

pub and-first : (a b : Bool) → (a && b) ≡ true → a ≡ true
and-first true b h = refl
and-first false b h = h

pub and-second : (a b : Bool) → (a && b) ≡ true → b ≡ true
and-second true b h = h
and-second false b h = absurd (let no : false ≡ true = h in cc)

-- who has joined is here
pub here_joined : (k : ℕ) (flat : Flat) → is_joined k flat ≡ true → is_here k flat.clients ≡ true
unfolding is_joined
here_joined k flat j = and-first _ _ j

pub joined-by-parts : (k : ℕ) (old new : Flat) → is_here k new.clients ≡ is_here k old.clients → shown_of k new ≡ shown_of k old
    → ((n : ℕ) → listed_in k (slice_index_or new.buffers n None) ≡ listed_in k (slice_index_or old.buffers n None)) → is_joined k new ≡ is_joined k old
joined-by-parts k old new here shown listed =
    is-joined-in k new
    ∙ ap (λ b. joined_in k b (shown_of k new) new.buffers) here
    ∙ ap (λ b. is_here k old.clients && b) (listed (shown_of k new))
    ∙ ap (λ n. joined_in k (is_here k old.clients) n old.buffers) shown
    ∙ sym (is-joined-in k old)

pub keeps-by-parts : (old new : Flat) → whos_of new.clients ≡ whos_of old.clients → turn_of new ≡ turn_of old → ((k : ℕ) → shown_of k new ≡ shown_of k old)
    → ((k n : ℕ) → listed_in k (slice_index_or new.buffers n None) ≡ listed_in k (slice_index_or old.buffers n None)) → KeepsClients old new
keeps-by-parts old new whos turn shown listed = record {
  whos = whos;
  turn = turn;
  joined = λ k. joined-by-parts k old new (here-whos k new.clients ∙ ap (list_any (λ n. n == k)) whos ∙ sym (here-whos k old.clients)) (shown k) (listed k);
}

-- what is a client's own
pub keeps_own : (who : ℕ) (f : Own → Own) (flat : Flat) → KeepsClients flat (with_own who f flat)
unfolding with_own rest_of shown_of client_of
keeps_own who f flat =
    let g : Client → Client = λ c. record c { own = f c.own } in
    keeps-by-parts flat (with_own who f flat)
    (map-changed (is_of who) g (λ c. c.who) flat.clients (λ c. refl))
    refl
    (λ k. first-kept (is_of who) (is_of k) g (λ c. c.shown) (newcomer k 0 0) flat.clients (λ c. refl) (λ c. refl))
    (λ k n. refl)

-- what is no buffer's and no client's, where the turn stays
pub keeps_rest : (f : Rest → Rest) (flat : Flat) → ((r : Rest) → (f r).step.turn ≡ r.step.turn) → KeepsClients flat (with_rest f flat)
unfolding with_rest rest_of shown_of client_of
keeps_rest f flat same = keeps-by-parts flat (with_rest f flat) refl (same flat.rest) (λ k. refl) (λ k n. refl)

-- what is kept by scope
pub keeps_scoped : (f : Scoped → Scoped) (flat : Flat) → KeepsClients flat (with_scoped f flat)
unfolding with_scoped rest_of shown_of client_of
keeps_scoped f flat = keeps-by-parts flat (with_scoped f flat) refl refl (λ k. refl) (λ k n. refl)

pub keeps_units : (units : ℕ) (flat : Flat) → KeepsClients flat (with_units units flat)
keeps_units units flat = keeps_rest _ flat (λ r. refl)

-- the buffers, where each client has a list on the same ones
pub keeps_buffers : (buffers : List (Option Buffer)) (flat : Flat) → ((k n : ℕ) → listed_in k (slice_index_or buffers n None) ≡ listed_in k (slice_index_or flat.buffers n None)) → KeepsClients flat (with_buffers buffers flat)
unfolding with_buffers rest_of shown_of client_of
keeps_buffers buffers flat listed = keeps-by-parts flat (with_buffers buffers flat) refl refl (λ k. refl) listed

option-kept : (k : ℕ) (f : Buffer → Buffer) (o : Option Buffer) → ((b : Buffer) → has_list (Of k) (f b) ≡ has_list (Of k) b) → listed_in k (option_map f o) ≡ listed_in k o
option-kept k f None h = refl
option-kept k f (Some b) h = h b

pub listed-changed : (k m n : ℕ) (f : Buffer → Buffer) (bs : List (Option Buffer)) → ((b : Buffer) → has_list (Of k) (f b) ≡ has_list (Of k) b)
    → listed_in k (slice_index_or (changed_at m f bs) n None) ≡ listed_in k (slice_index_or bs n None)
listed-changed k m n f [] h = refl
listed-changed k zero zero f (b ∷ bs) h = option-kept k f b h
listed-changed k zero (suc n) f (b ∷ bs) h = refl
listed-changed k (suc m) zero f (b ∷ bs) h = refl
listed-changed k (suc m) (suc n) f (b ∷ bs) h = listed-changed k m n f bs h

listed-each : (k n : ℕ) (f : Buffer → Buffer) (bs : List (Option Buffer)) → ((b : Buffer) → has_list (Of k) (f b) ≡ has_list (Of k) b)
    → listed_in k (slice_index_or (map (option_map f) bs) n None) ≡ listed_in k (slice_index_or bs n None)
listed-each k n f [] h = refl
listed-each k zero f (b ∷ bs) h = option-kept k f b h
listed-each k (suc n) f (b ∷ bs) h = listed-each k n f bs h

-- a buffer that was changed, and keeps whose lists are on it
pub keeps-changed : (n : ℕ) (f : Buffer → Buffer) (flat : Flat) → ((k : ℕ) (b : Buffer) → has_list (Of k) (f b) ≡ has_list (Of k) b) → KeepsClients flat (changed_in n f flat)
unfolding changed_in
keeps-changed n f flat keeps = keeps_buffers (changed_at n f flat.buffers) flat (λ k m. listed-changed k n m f flat.buffers (keeps k))

-- a change that leaves the holder of a list alone leaves its test alone
pub list-leaves : (k : Holder) (f : Held → Held) → ((h : Held) → (f h).holder ≡ h.holder) → Leaves (is_held_by k) f
list-leaves k f keeps h = ap (same_holder k) (keeps h)

keeps-list_of : (who : ℕ) (f : Held → Held) (flat : Flat) → ((h : Held) → (f h).holder ≡ h.holder) → KeepsClients flat (with_list_of who f flat)
unfolding with_list_of
keeps-list_of who f flat keeps =
    keeps_buffers (changed_at (shown_of who flat) (with_list (Of who) f) flat.buffers) flat
    (λ k n. listed-changed k (shown_of who flat) n (with_list (Of who) f) flat.buffers (λ b. any-changed (is_held_by (Of who)) (is_held_by (Of k)) f b.lists (list-leaves (Of k) f keeps)))

-- a client's selections, and the corner of its window
pub keeps_sels : (who : ℕ) (sels : Selected) (flat : Flat) → KeepsClients flat (with_sels who sels flat)
unfolding with_sels
keeps_sels who sels flat = keeps-list_of who (λ held. record held { sels = sels }) flat (λ h. refl)

pub keeps_corner : (who : ℕ) (corner : Corner) (flat : Flat) → KeepsClients flat (with_corner who corner flat)
unfolding with_corner
keeps_corner who corner flat = keeps-list_of who (λ held. record held { corner = corner }) flat (λ h. refl)

-- an edit keeps whose lists are on a buffer, and so does a move
pub has-edited : (k : Holder) (cs : List Change) (story : Story) (b : Buffer) → has_list k (buffer_changed cs story b) ≡ has_list k b
has-edited k cs story b = any-map (is_held_by k) (list_moved b.story.text cs) b.lists

pub has-traveled : (k holder : Holder) (travel : Travel) (b : Buffer) → has_list k (buffer_traveled holder travel b) ≡ has_list k b
has-traveled k holder travel b =
    let cs : List Change = move_changes travel b.story in
    let f : Held → Held = λ held. record held { sels = left_by b.story.text cs held.sels } in
    any-changed (is_held_by holder) (is_held_by k) f (map (list_moved b.story.text cs) b.lists) (list-leaves k f (λ h. refl)) ∙ has-edited k cs (moved_by travel b.story) b

pub keeps_edited : (splices : List Splice) (who : ℕ) (flat : Flat) → KeepsClients flat (edited_by splices who flat)
unfolding edited_by
keeps_edited splices who flat = keeps-changed _ _ flat (λ k b. has-edited (Of k) (splice_changes_of splices who flat) (edited who (splice_changes_of splices who flat) b.story) b)

pub keeps_traveled : (travel : Travel) (who : ℕ) (flat : Flat) → KeepsClients flat (traveled_by travel who flat)
unfolding traveled_by
keeps_traveled travel who flat = keeps-changed _ _ flat (λ k b. has-traveled (Of k) (Of who) travel b)

pub keeps_commits : (who : ℕ) (flat : Flat) → KeepsClients flat (commits who flat)
unfolding commits
keeps_commits who flat = keeps_buffers _ flat (λ k n. listed-each k n (committed_for who) flat.buffers (λ b. refl))

-- who is here when a client has come
pub here_come : (k who : ℕ) (flat : Flat) → is_here k (joined_by who flat).clients ≡ (is_here k flat.clients || ((who == k) || false))
unfolding joined_by
here_come k who flat = any-added (is_of k) (newcomer who (least_free (numbers_of flat.clients)) (lowest flat.buffers)) flat.clients

-- and how many
pub count_come : (who : ℕ) (flat : Flat) → length (joined_by who flat).clients ≡ length flat.clients + 1
unfolding joined_by
count_come who flat = length-append flat.clients (newcomer who (least_free (numbers_of flat.clients)) (lowest flat.buffers) ∷ [])

or-nothing : (a b : Bool) → b ≡ false → (a || (b || false)) ≡ a
or-nothing true b e = refl
or-nothing false b e = ap (λ c. c || false) e

-- another one has joined as before
pub joined_others_come : (k who : ℕ) (flat : Flat) → (who == k) ≡ false → is_joined k (joined_by who flat) ≡ is_joined k flat
unfolding joined_by shown_of client_of
joined_others_come k who flat other =
    joined-by-parts k flat (joined_by who flat)
    (here_come k who flat ∙ or-nothing (is_here k flat.clients) (who == k) other)
    (ap (λ (c : Client). c.shown) (first-added (is_of k) (newcomer k 0 0) (newcomer who (least_free (numbers_of flat.clients)) (lowest flat.buffers)) flat.clients other))
    (λ n. listed-changed k (lowest flat.buffers) n (listed_for (Of who)) flat.buffers (λ b. any-with_other (is_held_by (Of who)) (is_held_by (Of k)) (fresh_list (Of who)) b.lists other))

apart : (a k x : ℕ) → (a == k) ≡ false → (x == a) ≡ true → (x == k) ≡ false
apart a k x other e = ap (λ n. n == k) (eqb-true x a e) ∙ other

-- who goes isn't here any more, and the others are
pub here_goes : (who : ℕ) (flat : Flat) → is_here who (left_by_client who flat).clients ≡ false
unfolding left_by_client
here_goes who flat = none-left (is_of who) flat.clients

pub here_others_go : (k who : ℕ) (flat : Flat) → (who == k) ≡ false → is_here k (left_by_client who flat).clients ≡ is_here k flat.clients
unfolding left_by_client
here_others_go k who flat other = any-left (is_of who) (is_of k) flat.clients (λ c e. apart who k c.who other e)

pub count_goes : (who : ℕ) (flat : Flat) → is_here who flat.clients ≡ true → length (left_by_client who flat).clients + 1 ≤ length flat.clients
unfolding left_by_client
count_goes who flat here = fewer-left (is_of who) flat.clients here

pub joined_goes : (who : ℕ) (flat : Flat) → is_joined who (left_by_client who flat) ≡ false
joined_goes who flat = is-joined-in who (left_by_client who flat) ∙ ap (λ b. joined_in who b (shown_of who (left_by_client who flat)) (left_by_client who flat).buffers) (here_goes who flat)

pub joined_others_go : (k who : ℕ) (flat : Flat) → (who == k) ≡ false → is_joined k (left_by_client who flat) ≡ is_joined k flat
unfolding left_by_client shown_of client_of
joined_others_go k who flat other =
    joined-by-parts k flat (left_by_client who flat)
    (here_others_go k who flat other)
    (ap (λ (c : Client). c.shown) (first-left (is_of who) (is_of k) (newcomer k 0 0) flat.clients (λ c e. apart who k c.who other e)))
    (λ n. listed-each k n (left_behind who) flat.buffers (λ b. any-left (is_held_by (Of who)) (is_held_by (Of k)) b.lists (λ h e. held-apart h e)))
  where
    held-apart : (h : Held) → is_held_by (Of who) h ≡ true → is_held_by (Of k) h ≡ false
    held-apart h e = by h.holder e
      where
        by : (holder : Holder) → is_held_by (Of who) (record (fresh_list holder) { holder = holder }) ≡ true → is_held_by (Of k) (record (fresh_list holder) { holder = holder }) ≡ false
        by (Of n) e = apart who k n other e

-- the rows of registers, edits and moves
pub keeps_set_row : (name : ℕ) (strings : List (List ℕ)) (flat : Flat) → KeepsClients flat (set_row name strings flat).world
unfolding set_row
keeps_set_row name strings flat = by (register_refusal name strings)
  where
    by : (o : Option RegisterError) → KeepsClients flat (set_unless o name strings flat).world
    by None = keeps_rest _ flat (λ r. refl)
    by (Some refusal) = keeps_same flat

pub keeps_edit_row : (splices : List Splice) (who : ℕ) (flat : Flat) → KeepsClients flat (edit_row splices who flat).world
unfolding edit_row
keeps_edit_row splices who flat = by (is_undo_full who (splice_changes_of splices who flat) (story_of who flat)) (is_too_long (length (text_of who flat)) (text_of who flat) splices)
  where
    by : (s t : Bool) → KeepsClients flat (cond s (fails UndoFull flat) (cond t (fails TextFull flat) (does (edited_by splices who flat)))).world
    by true t = keeps_same flat
    by false true = keeps_same flat
    by false false = keeps_edited splices who flat

pub keeps_travel_row : (travel : Travel) (who : ℕ) (flat : Flat) → KeepsClients flat (travel_row travel who flat).world
unfolding travel_row
keeps_travel_row travel who flat = by (target_of travel (story_of who flat))
  where
    by : (o : Option ℕ) → KeepsClients flat (move_ends o travel (traveled_by travel who flat)).world
    by None = keeps_traveled travel who flat
    by (Some n) = keeps_traveled travel who flat
