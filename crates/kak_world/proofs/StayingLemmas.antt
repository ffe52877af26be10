-- Who has joined stays joined when a buffer is dropped, and lists that are added for those who saw it.
use Rattle.std.proofs.Common.{◌≡◌, ◌≢◌, ℕ, zero, suc, Bool, true, false, cond, ◌||◌, List, [], ◌∷◌, ◌++◌, map, get_or, refl, sym, ap, ap₂, subst, ◌∙◌, None, Some}
use Rattle.std.specs.Prelude.{◌&&◌, ◌==◌, is_some, option_map}
use Rattle.std.specs.List.{list_any}
use Rattle.std.specs.declared.option.Option.{Option}
use Rattle.std.proofs.lemmas.Bool.{eqb-true, eq-eqb}
use Rattle.tables.specs.Tables.{first_where, with_row}
use Rattle.tables.proofs.TableLemmas.{by_test}
use Rattle.tables.proofs.RowLemmas.{any-added, any-with_row}
use Rattle.list_shelf.specs.declared.holder.Holder.TheVariants.{Of}
use Rattle.list_shelf.specs.Shelves.{Held, is_held_by}
use Rattle.kak_world.specs.declared.clients.Client.{Client}
use Rattle.kak_world.specs.Flat.{Buffer, Flat, fresh_list, newcomer, is_of, is_here, has_list, listed_for, changed_at, lowest, client_of, shown_of, is_joined, rest_of, turn_of}
use Rattle.kak_world.specs.Keeping.{whos_of}
use Rattle.kak_world.specs.Dropping.{emptied, moved_on, listed_for_viewer, listed_for_viewers, left_without, buffers_dropped, dropped, KeepsJoined}
use Rattle.kak_world.proofs.SlotLemmas.{slot-changed}
use Rattle.kak_world.proofs.KeepingLaws.{listed_in, joined_in, is-joined-in, and-first, and-second, here_joined}
use Rattle.kak_world.proofs.DroppingLemmas.{emptied-other, there-any, left-some, some-left}

-- a client, when those that saw a buffer see another one
moved-who : (n to : ℕ) (c : Client) → (moved_on n to c).who ≡ c.who
moved-who n to c = by_test (λ t. (cond t (record c { shown = to }) c).who ≡ c.who) (c.shown == n) (λ _. refl) (λ _. refl)

moved-shown : (n to : ℕ) (c : Client) → (moved_on n to c).shown ≡ cond (c.shown == n) to c.shown
moved-shown n to c = by_test (λ t. (cond t (record c { shown = to }) c).shown ≡ cond t to c.shown) (c.shown == n) (λ _. refl) (λ _. refl)

moved-whos : (n to : ℕ) (cs : List Client) → whos_of (map (moved_on n to) cs) ≡ whos_of cs
moved-whos n to [] = refl
moved-whos n to (c ∷ cs) = ap₂ (λ x xs. x ∷ xs) (moved-who n to c) (moved-whos n to cs)

moved-here : (k n to : ℕ) (cs : List Client) → is_here k (map (moved_on n to) cs) ≡ is_here k cs
moved-here k n to [] = refl
moved-here k n to (c ∷ cs) = ap₂ (λ x y. (x == k) || y) (moved-who n to c) (moved-here k n to cs)

moved-first : (k n to : ℕ) (d : Client) (cs : List Client) → is_here k cs ≡ true → first_where (is_of k) d (map (moved_on n to) cs) ≡ moved_on n to (first_where (is_of k) d cs)
moved-first k n to d [] h = absurd (let no : false ≡ true = h in cc)
moved-first k n to d (c ∷ cs) h =
    ap (λ w. cond (w == k) (moved_on n to c) (first_where (is_of k) d (map (moved_on n to) cs))) (moved-who n to c)
    ∙ by_test (λ t. (t || is_here k cs) ≡ true → cond t (moved_on n to c) (first_where (is_of k) d (map (moved_on n to) cs)) ≡ moved_on n to (cond t c (first_where (is_of k) d cs))) (is_of k c)
    (λ _ _. refl)
    (λ _ h. moved-first k n to d cs h)
    h

-- lists stay when others are added
any-more : (k : ℕ) (p : Held → Bool) (row : Held) (hs : List Held) → list_any (is_held_by (Of k)) hs ≡ true → list_any (is_held_by (Of k)) (with_row p row hs) ≡ true
any-more k p row hs h =
    by_test (λ t. list_any (is_held_by (Of k)) (cond t hs (hs ++ row ∷ [])) ≡ true) (list_any p hs)
    (λ _. h)
    (λ _. any-added (is_held_by (Of k)) row hs ∙ ap (λ t. t || (is_held_by (Of k) row || false)) h)

viewer-keeps : (k n : ℕ) (c : Client) (b : Buffer) → has_list (Of k) b ≡ true → has_list (Of k) (listed_for_viewer n c b) ≡ true
viewer-keeps k n c b h =
    by_test (λ t. has_list (Of k) (cond t (listed_for (Of c.who) b) b) ≡ true) (c.shown == n)
    (λ _. any-more k (is_held_by (Of c.who)) (fresh_list (Of c.who)) b.lists h)
    (λ _. h)

viewers-keep : (k n : ℕ) (cs : List Client) (b : Buffer) → has_list (Of k) b ≡ true → has_list (Of k) (listed_for_viewers n cs b) ≡ true
viewers-keep k n [] b h = h
viewers-keep k n (c ∷ cs) b h = viewers-keep k n cs (listed_for_viewer n c b) (viewer-keeps k n c b h)

-- each that saw the buffer has one
viewers-listed : (k n : ℕ) (d : Client) (cs : List Client) (b : Buffer) → is_here k cs ≡ true → ((first_where (is_of k) d cs).shown == n) ≡ true → has_list (Of k) (listed_for_viewers n cs b) ≡ true
viewers-listed k n d [] b h s = absurd (let no : false ≡ true = h in cc)
viewers-listed k n d (c ∷ cs) b h s =
    by_test (λ t. t ≡ is_of k c → (t || is_here k cs) ≡ true → ((cond t c (first_where (is_of k) d cs)).shown == n) ≡ true → has_list (Of k) (listed_for_viewers n cs (listed_for_viewer n c b)) ≡ true) (is_of k c)
    (λ _ e _ s.
    let mine : c.who ≡ k = eqb-true c.who k (sym e) in
    let listed : has_list (Of k) (listed_for (Of c.who) b) ≡ true =
    subst (λ m. has_list (Of m) (listed_for (Of c.who) b) ≡ true) mine (any-with_row (is_held_by (Of c.who)) (fresh_list (Of c.who)) b.lists (eq-eqb c.who c.who refl)) in
    viewers-keep k n cs (listed_for_viewer n c b) (ap (λ t. has_list (Of k) (cond t (listed_for (Of c.who) b) b)) s ∙ listed))
    (λ _ e h s. viewers-listed k n d cs (listed_for_viewer n c b) h s)
    refl h s

-- a list in a slot
some-listed : (k : ℕ) (f : Buffer → Buffer) (o : Option Buffer) → ((b : Buffer) → has_list (Of k) (f b) ≡ true) → is_some o ≡ true → listed_in k (option_map f o) ≡ true
some-listed k f None h s = absurd (let no : false ≡ true = s in cc)
some-listed k f (Some b) h s = h b

listed-stays : (k : ℕ) (f : Buffer → Buffer) (o : Option Buffer) → ((b : Buffer) → has_list (Of k) b ≡ true → has_list (Of k) (f b) ≡ true) → listed_in k o ≡ true → listed_in k (option_map f o) ≡ true
listed-stays k f None h s = s
listed-stays k f (Some b) h s = h b s

changed-stays : (k m to : ℕ) (f : Buffer → Buffer) (bs : List (Option Buffer)) → ((b : Buffer) → has_list (Of k) b ≡ true → has_list (Of k) (f b) ≡ true) → listed_in k (get_or bs m None) ≡ true → listed_in k (get_or (changed_at to f bs) m None) ≡ true
changed-stays k m to f [] h s = s
changed-stays k zero zero f (b ∷ bs) h s = listed-stays k f b h s
changed-stays k (suc m) zero f (b ∷ bs) h s = s
changed-stays k zero (suc to) f (b ∷ bs) h s = s
changed-stays k (suc m) (suc to) f (b ∷ bs) h s = changed-stays k m to f bs h s

left-stays : (k m n : ℕ) (bs : List (Option Buffer)) → m ≢ n → listed_in k (get_or bs m None) ≡ true → listed_in k (get_or (left_without n bs) m None) ≡ true
left-stays k m n bs apart s =
    let same : get_or (emptied n bs) m None ≡ get_or bs m None = emptied-other n m bs None apart in
    let there : is_some (get_or (emptied n bs) m None) ≡ true = ap is_some same ∙ and-first _ _ s in
    ap (λ xs. listed_in k (get_or xs m None)) (left-some (emptied n bs) (there-any m (emptied n bs) there)) ∙ ap (listed_in k) same ∙ s

-- who saw it sees the one with the least number, and has a list there
viewer-in : (k n : ℕ) (d : Client) (cs : List Client) (bs : List (Option Buffer)) → is_here k cs ≡ true → ((first_where (is_of k) d cs).shown == n) ≡ true
    → listed_in k (get_or (buffers_dropped n cs bs) (lowest (left_without n bs)) None) ≡ true
viewer-in k n d cs bs h s =
    ap (listed_in k) (slot-changed (lowest (left_without n bs)) (listed_for_viewers n cs) (left_without n bs))
    ∙ some-listed k (listed_for_viewers n cs) (get_or (left_without n bs) (lowest (left_without n bs)) None) (λ b. viewers-listed k n d cs b h s) (some-left n bs)

ne-of : (a b : ℕ) → (a == b) ≡ false → a ≢ b
ne-of a b h e = let no : true ≡ false = sym (eq-eqb a b e) ∙ h in cc

stays-in : (k n m : ℕ) (cs : List Client) (bs : List (Option Buffer)) → (m == n) ≡ false → listed_in k (get_or bs m None) ≡ true → listed_in k (get_or (buffers_dropped n cs bs) m None) ≡ true
stays-in k n m cs bs apart s =
    changed-stays k m (lowest (left_without n bs)) (listed_for_viewers n cs) (left_without n bs) (λ b h. viewers-keep k n cs b h) (left-stays k m n bs (ne-of m n apart) s)

-- the slots and the clients together
stays-listed : (k n : ℕ) (d : Client) (cs : List Client) (bs : List (Option Buffer)) → is_here k cs ≡ true → listed_in k (get_or bs (first_where (is_of k) d cs).shown None) ≡ true
    → listed_in k (get_or (buffers_dropped n cs bs) (moved_on n (lowest (left_without n bs)) (first_where (is_of k) d cs)).shown None) ≡ true
stays-listed k n d cs bs h s =
    let c : Client = first_where (is_of k) d cs in
    let to : ℕ = lowest (left_without n bs) in
    ap (λ m. listed_in k (get_or (buffers_dropped n cs bs) m None)) (moved-shown n to c)
    ∙ by_test (λ t. (c.shown == n) ≡ t → listed_in k (get_or (buffers_dropped n cs bs) (cond t to c.shown) None) ≡ true) (c.shown == n)
    (λ _ e. viewer-in k n d cs bs h e)
    (λ _ e. stays-in k n c.shown cs bs e s)
    refl

in-parts : (k n : ℕ) (flat : Flat) → is_here k flat.clients ≡ true → joined_in k (is_here k flat.clients) (shown_of k flat) flat.buffers ≡ true
    → joined_in k (is_here k (dropped n flat).clients) (shown_of k (dropped n flat)) (dropped n flat).buffers ≡ true
unfolding shown_of client_of dropped
in-parts k n flat h j =
    let cs : List Client = map (moved_on n (lowest (left_without n flat.buffers))) flat.clients in
    let bs : List (Option Buffer) = buffers_dropped n flat.clients flat.buffers in
    let here : is_here k cs ≡ true = moved-here k n (lowest (left_without n flat.buffers)) flat.clients ∙ h in
    ap (λ t. t && listed_in k (get_or bs (first_where (is_of k) (newcomer k 0 0) cs).shown None)) here
    ∙ ap (λ (c : Client). listed_in k (get_or bs c.shown None)) (moved-first k n (lowest (left_without n flat.buffers)) (newcomer k 0 0) flat.clients h)
    ∙ stays-listed k n (newcomer k 0 0) flat.clients flat.buffers h (and-second _ _ j)

pub joined_drops : (k n : ℕ) (flat : Flat) → is_joined k flat ≡ true → is_joined k (dropped n flat) ≡ true
joined_drops k n flat j = is-joined-in k (dropped n flat) ∙ in-parts k n flat (here_joined k flat j) (sym (is-joined-in k flat) ∙ j)

whos-dropped : (n : ℕ) (flat : Flat) → whos_of (dropped n flat).clients ≡ whos_of flat.clients
unfolding dropped
whos-dropped n flat = moved-whos n (lowest (left_without n flat.buffers)) flat.clients

turn-dropped : (n : ℕ) (flat : Flat) → turn_of (dropped n flat) ≡ turn_of flat
unfolding rest_of dropped
turn-dropped n flat = refl

-- the same clients are there, and have joined still
pub keeps_dropped : (n : ℕ) (flat : Flat) → KeepsJoined flat (dropped n flat)
keeps_dropped n flat = record { whos = whos-dropped n flat; joined = λ k j. joined_drops k n flat j; turn = turn-dropped n flat }

pub drop-keeps : (n : ℕ) (flat now : Flat) → now ≡ dropped n flat → KeepsJoined flat now
drop-keeps n flat now e = subst (KeepsJoined flat) (sym e) (keeps_dropped n flat)
