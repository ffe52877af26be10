-- The laws of the world's four parts: what is a client's own, the buffers, what is no buffer's and no client's, and what is kept
-- by scope. What is got of a part behind what was set of the same one, or of another; who has joined, and acts, behind each. An operation is
-- written by one setter, which is one law (`.. writes`), and another part of the world needs no more of it.
use Rattle.std.proofs.Common.{◌≡◌, ◌≢◌, ℕ, zero, suc, true, cond, List, [], ◌∷◌, map, refl, sym, ap, ap₂, ◌∙◌, None, Some}
use Rattle.std.specs.Prelude.{◌&&◌, option_map}
use Rattle.std.specs.declared.option.Option.{Option}
use Rattle.std.proofs.lemmas.Bool.{eqb-true, eq-eqb, ne_eqb}
use Rattle.tables.specs.Tables.{first_where}
use Rattle.tables.proofs.TableLemmas.{by_test}
use Rattle.tables.proofs.RowLemmas.{AreApart, first-changed, first-changed_other, first-kept, changed-same, changed-stays, changed-changed}
use Rattle.list_model.specs.Ranges.{Selected}
use Rattle.window_view.specs.declared.corner.Corner.{Corner}
use Rattle.window_view.specs.Sizes.{view_at, corner_of}
use Rattle.text_model.specs.Changes.{all_changed}
use Rattle.undo_model.specs.declared.travel.Travel.{Travel}
use Rattle.undo_model.specs.Stories.{Story, is_own, committed, committed_by}
use Rattle.undo_model.specs.Edits.{Splice}
use Rattle.undo_model.proofs.StoryLemmas.{committed-text}
use Rattle.buffer_store.proofs.PartLemmas.{edited-text}
use Rattle.list_shelf.specs.declared.holder.Holder.TheVariants.{Of}
use Rattle.list_shelf.specs.Shelves.{Held, is_held_by}
use Rattle.kak_world.specs.declared.own.Own.{Own}
use Rattle.kak_world.specs.declared.clients.Client.{Client}
use Rattle.kak_world.specs.declared.world.Rest.{Rest}
use Rattle.kak_world.specs.Flat.{Buffer, Scoped, Flat, is_of, is_here, has_list, list_on, with_list, committed_for, scratch, fresh_list, newcomer, is_there, buffer_at, client_of, shown_of, buffer_of, list_of, is_joined, rest_of, scoped_of, turn_of, is_turn_of, acts, own_of, number_of, name_of, text_of, sels_of, view_of, units_of, with_units, with_own, with_buffers, with_rest, with_scoped, with_list_of, with_sels, with_corner}
use Rattle.kak_world.specs.Changing.{buffer_edited, changed_in, splice_changes_of, edited_by, traveled_by, commits}
use Rattle.kak_world.proofs.SlotLemmas.{buffer-changed, buffer-kept}
use Rattle.kak_world.proofs.KeepingLaws.{and-first, and-second, list-leaves, acts_kept, keeps_own, keeps_scoped, keeps_sels, keeps_corner, keeps_edited, keeps_traveled, keeps_commits}

-- a client that has joined is here, and so is its buffer, with a list of its own
pub joined_here : (who : ℕ) (flat : Flat) → is_joined who flat ≡ true → is_here who flat.clients ≡ true
unfolding is_joined
joined_here who flat h = and-first _ _ h

pub joined_there : (who : ℕ) (flat : Flat) → is_joined who flat ≡ true → is_there (shown_of who flat) flat.buffers ≡ true
unfolding is_joined
joined_there who flat h = and-first _ _ (and-second _ _ h)

pub joined_list : (who : ℕ) (flat : Flat) → is_joined who flat ≡ true → has_list (Of who) (buffer_of who flat) ≡ true
unfolding is_joined
joined_list who flat h = and-second _ _ (and-second _ _ h)

-- a client that acts has joined, and it is its turn
pub acts_joined : (who : ℕ) (flat : Flat) → acts who flat ≡ true → is_joined who flat ≡ true
unfolding acts
acts_joined who flat a = and-first _ _ a

pub acts_turned : (who : ℕ) (flat : Flat) → acts who flat ≡ true → is_turn_of who (turn_of flat) ≡ true
unfolding acts
acts_turned who flat a = and-second _ _ a

-- what is a client's own, changed
pub own_own : (who : ℕ) (f : Own → Own) (flat : Flat) → is_joined who flat ≡ true → own_of who (with_own who f flat) ≡ f (own_of who flat)
unfolding own_of client_of with_own
own_own who f flat j = ap (λ (c : Client). c.own) (first-changed (is_of who) (λ c. record c { own = f c.own }) (newcomer who 0 0) flat.clients (λ c. refl) (joined_here who flat j))

own-apart : (k who : ℕ) → k ≢ who → AreApart (is_of who) (is_of k)
own-apart k who apart c e = ne_eqb c.who k (λ same. apart (sym same ∙ eqb-true c.who who e))

pub own_other : (k who : ℕ) (f : Own → Own) (flat : Flat) → k ≢ who → own_of k (with_own who f flat) ≡ own_of k flat
unfolding own_of client_of with_own
own_other k who f flat apart = ap (λ (c : Client). c.own) (first-changed_other (is_of who) (is_of k) (λ c. record c { own = f c.own }) (newcomer k 0 0) flat.clients (λ c. refl) (own-apart k who apart))

-- two changes that make the same of what is a client's own
pub own_known : (who : ℕ) (o : Own) (f : Own → Own) (flat : Flat) → o ≡ f (own_of who flat) → with_own who (λ _. o) flat ≡ with_own who f flat
unfolding own_of client_of with_own
own_known who o f flat e = ap (λ cs. let x : Flat = record flat { clients = cs } in x)
    (changed-same (is_of who) (λ c. record c { own = o }) (λ c. record c { own = f c.own }) (newcomer who 0 0) flat.clients (ap (λ x. let c : Client = first_where (is_of who) (newcomer who 0 0) flat.clients in record c { own = x }) e))

pub own_same : (who : ℕ) (o : Own) (flat : Flat) → o ≡ own_of who flat → with_own who (λ _. o) flat ≡ flat
unfolding own_of client_of with_own
own_same who o flat e = ap (λ cs. let x : Flat = record flat { clients = cs } in x)
    (changed-stays (is_of who) (λ c. record c { own = o }) (newcomer who 0 0) flat.clients (ap (λ x. let c : Client = first_where (is_of who) (newcomer who 0 0) flat.clients in record c { own = x }) e))

-- one change behind another
pub own_twice : (who : ℕ) (f g : Own → Own) (flat : Flat) → with_own who g (with_own who f flat) ≡ with_own who (λ o. g (f o)) flat
unfolding with_own
own_twice who f g flat = ap (λ cs. let x : Flat = record flat { clients = cs } in x)
    (changed-changed (is_of who) (λ c. record c { own = f c.own }) (λ c. record c { own = g c.own }) flat.clients (λ c. refl))

-- behind which all else of a client, the buffer that it sees, and the rest are the same
pub shown_own : (k who : ℕ) (f : Own → Own) (flat : Flat) → shown_of k (with_own who f flat) ≡ shown_of k flat
unfolding shown_of client_of with_own
shown_own k who f flat = first-kept (is_of who) (is_of k) (λ c. record c { own = f c.own }) (λ (c : Client). c.shown) (newcomer k 0 0) flat.clients (λ c. refl) (λ c. refl)

pub number_own : (k who : ℕ) (f : Own → Own) (flat : Flat) → number_of k (with_own who f flat) ≡ number_of k flat
unfolding number_of client_of with_own
number_own k who f flat = first-kept (is_of who) (is_of k) (λ c. record c { own = f c.own }) (λ (c : Client). c.number) (newcomer k 0 0) flat.clients (λ c. refl) (λ c. refl)

pub buffer_own : (k who : ℕ) (f : Own → Own) (flat : Flat) → buffer_of k (with_own who f flat) ≡ buffer_of k flat
unfolding buffer_of with_own
buffer_own k who f flat = ap (λ n. buffer_at n flat.buffers) (shown_own k who f flat)

pub text_own : (k who : ℕ) (f : Own → Own) (flat : Flat) → text_of k (with_own who f flat) ≡ text_of k flat
unfolding text_of
text_own k who f flat = ap (λ (b : Buffer). b.story.text) (buffer_own k who f flat)

pub name_own : (k who : ℕ) (f : Own → Own) (flat : Flat) → name_of k (with_own who f flat) ≡ name_of k flat
unfolding name_of
name_own k who f flat = ap (λ (b : Buffer). b.name) (buffer_own k who f flat)

pub sels_own : (k who : ℕ) (f : Own → Own) (flat : Flat) → sels_of k (with_own who f flat) ≡ sels_of k flat
unfolding sels_of list_of
sels_own k who f flat = ap (λ (b : Buffer). (list_on (Of k) b).sels) (buffer_own k who f flat)

-- a window, where the size of its client stays
pub view_own : (k who : ℕ) (f : Own → Own) (flat : Flat) → ((o : Own) → (f o).size ≡ o.size) → view_of k (with_own who f flat) ≡ view_of k flat
unfolding view_of list_of own_of client_of with_own
view_own k who f flat keeps =
    ap₂ view_at (ap (λ (b : Buffer). (list_on (Of k) b).corner) (buffer_own k who f flat))
    (first-kept (is_of who) (is_of k) (λ c. record c { own = f c.own }) (λ (c : Client). c.own.size) (newcomer k 0 0) flat.clients (λ c. refl) (λ c. keeps c.own))

-- a client's own window, which has the size that is its own then, and stands where it stood
pub view_mine : (who : ℕ) (f : Own → Own) (flat : Flat) → is_joined who flat ≡ true → view_of who (with_own who f flat) ≡ view_at (corner_of (view_of who flat)) (f (own_of who flat)).size
unfolding view_of list_of
view_mine who f flat j = ap₂ view_at (ap (λ (b : Buffer). (list_on (Of who) b).corner) (buffer_own who who f flat)) (ap (λ (o : Own). o.size) (own_own who f flat j))

-- and that of another client
pub view_other : (k who : ℕ) (f : Own → Own) (flat : Flat) → k ≢ who → view_of k (with_own who f flat) ≡ view_of k flat
unfolding view_of list_of
view_other k who f flat apart =
    ap₂ view_at (ap (λ (b : Buffer). (list_on (Of k) b).corner) (buffer_own k who f flat)) (ap (λ (o : Own). o.size) (own_other k who f flat apart))

pub rest_own : (who : ℕ) (f : Own → Own) (flat : Flat) → rest_of (with_own who f flat) ≡ rest_of flat
unfolding rest_of with_own
rest_own who f flat = refl

pub scoped_own : (who : ℕ) (f : Own → Own) (flat : Flat) → scoped_of (with_own who f flat) ≡ scoped_of flat
unfolding scoped_of with_own
scoped_own who f flat = refl

pub joined_own : (k who : ℕ) (f : Own → Own) (flat : Flat) → is_joined k (with_own who f flat) ≡ is_joined k flat
joined_own k who f flat = (keeps_own who f flat).joined k

pub acts_own : (k who : ℕ) (f : Own → Own) (flat : Flat) → acts k (with_own who f flat) ≡ acts k flat
acts_own k who f flat = acts_kept k _ _ (keeps_own who f flat)

-- other buffers
pub buffer_buffers : (k : ℕ) (bs : List (Option Buffer)) (flat : Flat) → buffer_of k (with_buffers bs flat) ≡ buffer_at (shown_of k flat) bs
unfolding buffer_of shown_of client_of with_buffers
buffer_buffers k bs flat = refl

-- behind which all else of a client, and the rest, is the same
pub own_buffers : (k : ℕ) (bs : List (Option Buffer)) (flat : Flat) → own_of k (with_buffers bs flat) ≡ own_of k flat
unfolding own_of client_of with_buffers
own_buffers k bs flat = refl

pub shown_buffers : (k : ℕ) (bs : List (Option Buffer)) (flat : Flat) → shown_of k (with_buffers bs flat) ≡ shown_of k flat
unfolding shown_of client_of with_buffers
shown_buffers k bs flat = refl

pub number_buffers : (k : ℕ) (bs : List (Option Buffer)) (flat : Flat) → number_of k (with_buffers bs flat) ≡ number_of k flat
unfolding number_of client_of with_buffers
number_buffers k bs flat = refl

pub rest_buffers : (bs : List (Option Buffer)) (flat : Flat) → rest_of (with_buffers bs flat) ≡ rest_of flat
unfolding rest_of with_buffers
rest_buffers bs flat = refl

pub scoped_buffers : (bs : List (Option Buffer)) (flat : Flat) → scoped_of (with_buffers bs flat) ≡ scoped_of flat
unfolding scoped_of with_buffers
scoped_buffers bs flat = refl

-- what is no buffer's and no client's, changed
pub rest_rest : (f : Rest → Rest) (flat : Flat) → rest_of (with_rest f flat) ≡ f (rest_of flat)
unfolding rest_of with_rest
rest_rest f flat = refl

pub scoped_rest : (f : Rest → Rest) (flat : Flat) → scoped_of (with_rest f flat) ≡ scoped_of flat
unfolding scoped_of with_rest
scoped_rest f flat = refl

-- how many units are left, in it
abbrev pub units_in : Rest → ℕ
units_in r = r.step.units

pub units_units : (u : ℕ) (flat : Flat) → units_of (with_units u flat) ≡ u
units_units u flat = ap units_in (rest_rest _ flat)

-- behind which all of a client, and the buffer that it sees, is the same
pub own_rest : (k : ℕ) (f : Rest → Rest) (flat : Flat) → own_of k (with_rest f flat) ≡ own_of k flat
unfolding own_of client_of with_rest
own_rest k f flat = refl

pub shown_rest : (k : ℕ) (f : Rest → Rest) (flat : Flat) → shown_of k (with_rest f flat) ≡ shown_of k flat
unfolding shown_of client_of with_rest
shown_rest k f flat = refl

pub number_rest : (k : ℕ) (f : Rest → Rest) (flat : Flat) → number_of k (with_rest f flat) ≡ number_of k flat
unfolding number_of client_of with_rest
number_rest k f flat = refl

pub buffer_rest : (k : ℕ) (f : Rest → Rest) (flat : Flat) → buffer_of k (with_rest f flat) ≡ buffer_of k flat
unfolding buffer_of shown_of client_of with_rest
buffer_rest k f flat = refl

pub text_rest : (k : ℕ) (f : Rest → Rest) (flat : Flat) → text_of k (with_rest f flat) ≡ text_of k flat
unfolding text_of
text_rest k f flat = ap (λ (b : Buffer). b.story.text) (buffer_rest k f flat)

pub name_rest : (k : ℕ) (f : Rest → Rest) (flat : Flat) → name_of k (with_rest f flat) ≡ name_of k flat
unfolding name_of
name_rest k f flat = ap (λ (b : Buffer). b.name) (buffer_rest k f flat)

pub sels_rest : (k : ℕ) (f : Rest → Rest) (flat : Flat) → sels_of k (with_rest f flat) ≡ sels_of k flat
unfolding sels_of list_of
sels_rest k f flat = ap (λ (b : Buffer). (list_on (Of k) b).sels) (buffer_rest k f flat)

pub view_rest : (k : ℕ) (f : Rest → Rest) (flat : Flat) → view_of k (with_rest f flat) ≡ view_of k flat
unfolding view_of list_of buffer_of own_of shown_of client_of with_rest
view_rest k f flat = refl

pub joined_rest : (k : ℕ) (f : Rest → Rest) (flat : Flat) → is_joined k (with_rest f flat) ≡ is_joined k flat
unfolding is_joined buffer_of shown_of client_of with_rest
joined_rest k f flat = refl

-- a client acts where the turn is its own: as before where the turn stays
pub acts_rest : (k : ℕ) (f : Rest → Rest) (flat : Flat) → (f (rest_of flat)).step.turn ≡ (rest_of flat).step.turn → acts k (with_rest f flat) ≡ acts k flat
unfolding acts
acts_rest k f flat same = ap (λ b. b && is_turn_of k (turn_of (with_rest f flat))) (joined_rest k f flat) ∙ ap (λ o. is_joined k flat && is_turn_of k o) (ap (λ (r : Rest). r.step.turn) (rest_rest f flat) ∙ same)

pub acts_turn : (k : ℕ) (f : Rest → Rest) (flat : Flat) → is_joined k flat ≡ true → (f (rest_of flat)).step.turn ≡ Some k → acts k (with_rest f flat) ≡ true
unfolding acts
acts_turn k f flat j turn =
    ap (λ b. b && is_turn_of k (turn_of (with_rest f flat))) (joined_rest k f flat ∙ j)
    ∙ ap (is_turn_of k) (ap (λ (r : Rest). r.step.turn) (rest_rest f flat) ∙ turn)
    ∙ eq-eqb k k refl

-- what is kept by scope, changed
pub scoped_scoped : (f : Scoped → Scoped) (flat : Flat) → scoped_of (with_scoped f flat) ≡ f (scoped_of flat)
unfolding scoped_of with_scoped
scoped_scoped f flat = refl

-- behind which all of a client, the buffer that it sees, and the rest is the same
pub rest_scoped : (f : Scoped → Scoped) (flat : Flat) → rest_of (with_scoped f flat) ≡ rest_of flat
unfolding rest_of with_scoped
rest_scoped f flat = refl

pub own_scoped : (k : ℕ) (f : Scoped → Scoped) (flat : Flat) → own_of k (with_scoped f flat) ≡ own_of k flat
unfolding own_of client_of with_scoped
own_scoped k f flat = refl

pub shown_scoped : (k : ℕ) (f : Scoped → Scoped) (flat : Flat) → shown_of k (with_scoped f flat) ≡ shown_of k flat
unfolding shown_of client_of with_scoped
shown_scoped k f flat = refl

pub number_scoped : (k : ℕ) (f : Scoped → Scoped) (flat : Flat) → number_of k (with_scoped f flat) ≡ number_of k flat
unfolding number_of client_of with_scoped
number_scoped k f flat = refl

pub buffer_scoped : (k : ℕ) (f : Scoped → Scoped) (flat : Flat) → buffer_of k (with_scoped f flat) ≡ buffer_of k flat
unfolding buffer_of shown_of client_of with_scoped
buffer_scoped k f flat = refl

pub text_scoped : (k : ℕ) (f : Scoped → Scoped) (flat : Flat) → text_of k (with_scoped f flat) ≡ text_of k flat
unfolding text_of
text_scoped k f flat = ap (λ (b : Buffer). b.story.text) (buffer_scoped k f flat)

pub name_scoped : (k : ℕ) (f : Scoped → Scoped) (flat : Flat) → name_of k (with_scoped f flat) ≡ name_of k flat
unfolding name_of
name_scoped k f flat = ap (λ (b : Buffer). b.name) (buffer_scoped k f flat)

pub sels_scoped : (k : ℕ) (f : Scoped → Scoped) (flat : Flat) → sels_of k (with_scoped f flat) ≡ sels_of k flat
unfolding sels_of list_of
sels_scoped k f flat = ap (λ (b : Buffer). (list_on (Of k) b).sels) (buffer_scoped k f flat)

pub view_scoped : (k : ℕ) (f : Scoped → Scoped) (flat : Flat) → view_of k (with_scoped f flat) ≡ view_of k flat
unfolding view_of list_of buffer_of own_of shown_of client_of with_scoped
view_scoped k f flat = refl

pub joined_scoped : (k : ℕ) (f : Scoped → Scoped) (flat : Flat) → is_joined k (with_scoped f flat) ≡ is_joined k flat
joined_scoped k f flat = (keeps_scoped f flat).joined k

pub acts_scoped : (k : ℕ) (f : Scoped → Scoped) (flat : Flat) → acts k (with_scoped f flat) ≡ acts k flat
acts_scoped k f flat = acts_kept k _ _ (keeps_scoped f flat)

-- the operations that write the buffers alone
pub sels_writes : (who : ℕ) (s : Selected) (flat : Flat) → with_sels who s flat ≡ with_buffers (with_sels who s flat).buffers flat
unfolding with_sels with_list_of
sels_writes who s flat = refl

pub corner_writes : (who : ℕ) (corner : Corner) (flat : Flat) → with_corner who corner flat ≡ with_buffers (with_corner who corner flat).buffers flat
unfolding with_corner with_list_of
corner_writes who corner flat = refl

pub changed_writes : (n : ℕ) (f : Buffer → Buffer) (flat : Flat) → changed_in n f flat ≡ with_buffers (changed_in n f flat).buffers flat
unfolding changed_in
changed_writes n f flat = refl

pub edited_writes : (splices : List Splice) (who : ℕ) (flat : Flat) → edited_by splices who flat ≡ with_buffers (edited_by splices who flat).buffers flat
unfolding edited_by
edited_writes splices who flat = changed_writes _ _ flat

pub traveled_writes : (travel : Travel) (who : ℕ) (flat : Flat) → traveled_by travel who flat ≡ with_buffers (traveled_by travel who flat).buffers flat
unfolding traveled_by
traveled_writes travel who flat = changed_writes _ _ flat

pub commits_writes : (who : ℕ) (flat : Flat) → commits who flat ≡ with_buffers (commits who flat).buffers flat
unfolding commits
commits_writes who flat = refl

-- of a client's selections
pub rest_sels : (who : ℕ) (s : Selected) (flat : Flat) → rest_of (with_sels who s flat) ≡ rest_of flat
rest_sels who s flat = ap rest_of (sels_writes who s flat) ∙ rest_buffers _ flat

pub scoped_sels : (who : ℕ) (s : Selected) (flat : Flat) → scoped_of (with_sels who s flat) ≡ scoped_of flat
scoped_sels who s flat = ap scoped_of (sels_writes who s flat) ∙ scoped_buffers _ flat

-- behind which the same clients have joined, and act
pub joined_sels : (k who : ℕ) (s : Selected) (flat : Flat) → is_joined k (with_sels who s flat) ≡ is_joined k flat
joined_sels k who s flat = (keeps_sels who s flat).joined k

pub acts_sels : (k who : ℕ) (s : Selected) (flat : Flat) → acts k (with_sels who s flat) ≡ acts k flat
acts_sels k who s flat = acts_kept k _ _ (keeps_sels who s flat)

pub joined_corner : (k who : ℕ) (corner : Corner) (flat : Flat) → is_joined k (with_corner who corner flat) ≡ is_joined k flat
joined_corner k who corner flat = (keeps_corner who corner flat).joined k

pub acts_corner : (k who : ℕ) (corner : Corner) (flat : Flat) → acts k (with_corner who corner flat) ≡ acts k flat
acts_corner k who corner flat = acts_kept k _ _ (keeps_corner who corner flat)

pub joined_edited : (k : ℕ) (splices : List Splice) (who : ℕ) (flat : Flat) → is_joined k (edited_by splices who flat) ≡ is_joined k flat
joined_edited k splices who flat = (keeps_edited splices who flat).joined k

pub acts_edited : (k : ℕ) (splices : List Splice) (who : ℕ) (flat : Flat) → acts k (edited_by splices who flat) ≡ acts k flat
acts_edited k splices who flat = acts_kept k _ _ (keeps_edited splices who flat)

pub joined_traveled : (k : ℕ) (travel : Travel) (who : ℕ) (flat : Flat) → is_joined k (traveled_by travel who flat) ≡ is_joined k flat
joined_traveled k travel who flat = (keeps_traveled travel who flat).joined k

pub acts_traveled : (k : ℕ) (travel : Travel) (who : ℕ) (flat : Flat) → acts k (traveled_by travel who flat) ≡ acts k flat
acts_traveled k travel who flat = acts_kept k _ _ (keeps_traveled travel who flat)

pub joined_commits : (k who : ℕ) (flat : Flat) → is_joined k (commits who flat) ≡ is_joined k flat
joined_commits k who flat = (keeps_commits who flat).joined k

pub acts_commits : (k who : ℕ) (flat : Flat) → acts k (commits who flat) ≡ acts k flat
acts_commits k who flat = acts_kept k _ _ (keeps_commits who flat)

-- a client's list: its selections, and the corner of its window
buffer_list_kept : {B : Type 0} (pr : Buffer → B) (k who : ℕ) (f : Held → Held) (flat : Flat) → ((b : Buffer) → pr (with_list (Of who) f b) ≡ pr b) → pr (buffer_of k (with_list_of who f flat)) ≡ pr (buffer_of k flat)
unfolding buffer_of shown_of client_of with_list_of
buffer_list_kept pr k who f flat same = buffer-kept _ _ (with_list (Of who) f) pr flat.buffers same

in-buffer : (who : ℕ) (f : Held → Held) (flat : Flat) → ((h : Held) → (f h).holder ≡ h.holder) → is_there (shown_of who flat) flat.buffers ≡ true → has_list (Of who) (buffer_of who flat) ≡ true → list_of who (with_list_of who f flat) ≡ f (list_of who flat)
unfolding list_of buffer_of shown_of client_of with_list_of
in-buffer who f flat keeps there has =
    ap (list_on (Of who)) (buffer-changed _ (with_list (Of who) f) flat.buffers there)
    ∙ first-changed (is_held_by (Of who)) f (fresh_list (Of who)) (buffer_at (first_where (is_of who) (newcomer who 0 0) flat.clients).shown flat.buffers).lists (list-leaves (Of who) f keeps) has

list_list : (who : ℕ) (f : Held → Held) (flat : Flat) → ((h : Held) → (f h).holder ≡ h.holder) → is_joined who flat ≡ true → list_of who (with_list_of who f flat) ≡ f (list_of who flat)
list_list who f flat keeps j = in-buffer who f flat keeps (joined_there who flat j) (joined_list who flat j)

pub text_sels : (k who : ℕ) (s : Selected) (flat : Flat) → text_of k (with_sels who s flat) ≡ text_of k flat
unfolding text_of with_sels
text_sels k who s flat = buffer_list_kept (λ b. b.story.text) k who (λ held. record held { sels = s }) flat (λ b. refl)

pub name_sels : (k who : ℕ) (s : Selected) (flat : Flat) → name_of k (with_sels who s flat) ≡ name_of k flat
unfolding name_of with_sels
name_sels k who s flat = buffer_list_kept (λ b. b.name) k who (λ held. record held { sels = s }) flat (λ b. refl)

pub sels_sels : (who : ℕ) (s : Selected) (flat : Flat) → is_joined who flat ≡ true → sels_of who (with_sels who s flat) ≡ s
unfolding sels_of with_sels
sels_sels who s flat j = ap (λ (h : Held). h.sels) (list_list who (λ held. record held { sels = s }) flat (λ h. refl) j)

pub view_sels : (k who : ℕ) (s : Selected) (flat : Flat) → view_of k (with_sels who s flat) ≡ view_of k flat
unfolding view_of list_of with_sels
view_sels k who s flat =
    ap₂ view_at
    (buffer_list_kept (λ b. (list_on (Of k) b).corner) k who (λ held. record held { sels = s }) flat
    (λ b. first-kept (is_held_by (Of who)) (is_held_by (Of k)) (λ held. record held { sels = s }) (λ (h : Held). h.corner) (fresh_list (Of k)) b.lists (λ h. refl) (λ h. refl)))
    (ap (λ (x : Flat). (own_of k x).size) (sels_writes who s flat) ∙ ap (λ (o : Own). o.size) (own_buffers k _ flat))

pub text_corner : (k who : ℕ) (corner : Corner) (flat : Flat) → text_of k (with_corner who corner flat) ≡ text_of k flat
unfolding text_of with_corner
text_corner k who corner flat = buffer_list_kept (λ b. b.story.text) k who (λ held. record held { corner = corner }) flat (λ b. refl)

pub sels_corner : (k who : ℕ) (corner : Corner) (flat : Flat) → sels_of k (with_corner who corner flat) ≡ sels_of k flat
unfolding sels_of list_of with_corner
sels_corner k who corner flat = buffer_list_kept (λ b. (list_on (Of k) b).sels) k who (λ held. record held { corner = corner }) flat
    (λ b. first-kept (is_held_by (Of who)) (is_held_by (Of k)) (λ held. record held { corner = corner }) (λ (h : Held). h.sels) (fresh_list (Of k)) b.lists (λ h. refl) (λ h. refl))

pub view_corner : (who : ℕ) (corner : Corner) (flat : Flat) → is_joined who flat ≡ true → view_of who (with_corner who corner flat) ≡ view_at corner (own_of who flat).size
unfolding view_of with_corner
view_corner who corner flat j =
    ap₂ view_at (ap (λ (h : Held). h.corner) (list_list who (λ held. record held { corner = corner }) flat (λ h. refl) j))
    (ap (λ (x : Flat). (own_of who x).size) (corner_writes who corner flat) ∙ ap (λ (o : Own). o.size) (own_buffers who _ flat))

-- the text that an edit leaves
pub text_edited : (splices : List Splice) (who : ℕ) (flat : Flat) → is_joined who flat ≡ true → text_of who (edited_by splices who flat) ≡ all_changed (text_of who flat) (splice_changes_of splices who flat)
unfolding edited_by text_of buffer_of shown_of client_of changed_in
text_edited splices who flat j =
    ap (λ (b : Buffer). b.story.text) (buffer-changed _ (buffer_edited who (splice_changes_of splices who flat)) flat.buffers (joined_there who flat j))
    ∙ edited-text who (splice_changes_of splices who flat) (buffer_of who flat).story

-- committed groups
pub buffer-mapped : (n : ℕ) (f : Buffer → Buffer) (bs : List (Option Buffer)) → f scratch ≡ scratch → buffer_at n (map (option_map f) bs) ≡ f (buffer_at n bs)
buffer-mapped n f [] e = sym e
buffer-mapped zero f (Some b ∷ bs) e = refl
buffer-mapped zero f (None ∷ bs) e = sym e
buffer-mapped (suc n) f (o ∷ bs) e = buffer-mapped n f bs e

pub committed_by-text : (who : ℕ) (s : Story) → (committed_by who s).text ≡ s.text
committed_by-text who s = by_test (λ t. (cond t (committed s) s).text ≡ s.text) (is_own who s.group) (λ _. committed-text s) (λ _. refl)

buffer_commits : (k who : ℕ) (flat : Flat) → buffer_of k (commits who flat) ≡ committed_for who (buffer_of k flat)
unfolding buffer_of shown_of client_of commits
buffer_commits k who flat = buffer-mapped _ (committed_for who) flat.buffers refl

pub text_commits : (k who : ℕ) (flat : Flat) → text_of k (commits who flat) ≡ text_of k flat
unfolding text_of
text_commits k who flat = ap (λ (b : Buffer). b.story.text) (buffer_commits k who flat) ∙ committed_by-text who (buffer_of k flat).story

pub sels_commits : (k who : ℕ) (flat : Flat) → sels_of k (commits who flat) ≡ sels_of k flat
unfolding sels_of list_of
sels_commits k who flat = ap (λ b. (list_on (Of k) b).sels) (buffer_commits k who flat)

pub view_commits : (k who : ℕ) (flat : Flat) → view_of k (commits who flat) ≡ view_of k flat
unfolding view_of list_of
view_commits k who flat =
    ap₂ view_at (ap (λ (b : Buffer). (list_on (Of k) b).corner) (buffer_commits k who flat))
    (ap (λ (x : Flat). (own_of k x).size) (commits_writes who flat) ∙ ap (λ (o : Own). o.size) (own_buffers k _ flat))

pub ruleset world_laws = (own_known, own_same, own_own, own_buffers, own_rest, own_scoped, buffer_own, buffer_rest, buffer_scoped, number_own, number_buffers, number_rest, number_scoped, shown_own, shown_buffers, shown_rest, shown_scoped, text_own, text_rest, text_scoped, name_own, name_rest, name_scoped, sels_own, sels_rest, sels_scoped, view_own, view_rest, view_scoped, rest_own, rest_buffers, rest_rest, rest_scoped, scoped_own, scoped_buffers, scoped_rest, scoped_scoped, joined_own, joined_rest, joined_scoped, acts_joined, acts_own, acts_rest, acts_scoped, acts_turn, sels_writes, corner_writes, changed_writes, edited_writes, traveled_writes, commits_writes, joined_sels, joined_corner, joined_edited, joined_traveled, joined_commits, acts_sels, acts_corner, acts_edited, acts_traveled, acts_commits, text_sels, name_sels, sels_sels, view_sels, text_corner, sels_corner, view_corner, text_edited, text_commits, sels_commits, view_commits)
