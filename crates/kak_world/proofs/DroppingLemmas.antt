-- A buffer that is dropped, in the slots.
use Rattle.std.proofs.Common.{◌≡◌, ◌≢◌, ℕ, zero, suc, ◌+◌, ◌<◌, ◌≤◌, true, false, not, cond, ◌||◌, List, [], ◌∷◌, length, map, get_or, set, drop, refl, sym, ap, subst, ◌∙◌, arith, None, Some, nat_le}
use Rattle.std.specs.Prelude.{is_some, option_map}
use Rattle.std.specs.List.{list_any}
use Rattle.std.specs.declared.option.Option.{Option}
use Rattle.std.proofs.lemmas.Bool.{leb-true, leb-false}
use Rattle.tables.proofs.TableLemmas.{by_test}
use Rattle.scope_options.specs.declared.setting.Setting.{Setting}
use Rattle.scope_options.specs.Scopes.{is_of_buffer}
use Rattle.scope_options.specs.Settings.{without_buffer}
use Rattle.highlight_paint.specs.Painters.{Highlighter}
use Rattle.highlight_paint.specs.Highlighters.{without_scopes as highlighters_without}
use Rattle.scope_tables.specs.Rows.{TableRows, without_scopes as rows_without}
use Rattle.kak_world.specs.Stored.{Stored}
use Rattle.kak_world.specs.declared.clients.Client.{Client}
use Rattle.kak_world.specs.declared.world.Rest.{Rest}
use Rattle.kak_world.specs.Flat.{Buffer, Scoped, scratch, is_there, changed_at, lowest}
use Rattle.kak_world.specs.Seen.{Kept, HasBuffer}
use Rattle.kak_world.specs.Showing.{first_gap, buffer_placed}
use Rattle.kak_world.specs.Dropping.{emptied, or_scratch, moved_on, listed_for_viewers, left_without, buffers_dropped, dropped}
use Rattle.kak_world.proofs.SlotLemmas.{lowest-here, lowest-on, there-inside}
use Rattle.kak_world.proofs.GapLemmas.{placed-some, placed-few}
use Rattle.kak_world.proofs.ShowingLemmas.{set-slot}
use Rattle.kak_world.proofs.WorldLemmas.{parts, has-changed}

-- slots, of which one was emptied
pub length-emptied : (n : ℕ) (bs : List (Option Buffer)) → length (emptied n bs) ≡ length bs
length-emptied n [] = refl
length-emptied zero (b ∷ bs) = refl
length-emptied (suc n) (b ∷ bs) = ap suc (length-emptied n bs)

pub emptied-here : (n : ℕ) (bs : List (Option Buffer)) → get_or (emptied n bs) n None ≡ None
emptied-here n [] = refl
emptied-here zero (b ∷ bs) = refl
emptied-here (suc n) (b ∷ bs) = emptied-here n bs

pub emptied-other : (n m : ℕ) (bs : List (Option Buffer)) (d : Option Buffer) → m ≢ n → get_or (emptied n bs) m d ≡ get_or bs m d
emptied-other n m [] d h = refl
emptied-other zero zero (b ∷ bs) d h = absurd (h refl)
emptied-other zero (suc m) (b ∷ bs) d h = refl
emptied-other (suc n) zero (b ∷ bs) d h = refl
emptied-other (suc n) (suc m) (b ∷ bs) d h = emptied-other n m bs d (λ e. h (ap suc e))

pub set-emptied : (n : ℕ) (bs : List (Option Buffer)) → set bs n None ≡ emptied n bs
set-emptied n [] = refl
set-emptied zero (b ∷ bs) = refl
set-emptied (suc n) (b ∷ bs) = ap (λ xs. b ∷ xs) (set-emptied n bs)

emptied-changed : (n m : ℕ) (f : Buffer → Buffer) (bs : List (Option Buffer)) → emptied n (changed_at m f bs) ≡ changed_at m f (emptied n bs)
emptied-changed n m f [] = refl
emptied-changed zero zero f (b ∷ bs) = refl
emptied-changed zero (suc m) f (b ∷ bs) = refl
emptied-changed (suc n) zero f (b ∷ bs) = refl
emptied-changed (suc n) (suc m) f (b ∷ bs) = ap (λ xs. b ∷ xs) (emptied-changed n m f bs)

-- looking for the least number of another buffer
pub other-here : (bs : List (Option Buffer)) (n i : ℕ) (d : Option Buffer) → i < length bs → i ≢ n → is_some (get_or bs i d) ≡ true → i + lowest (drop i (emptied n bs)) ≡ i
other-here bs n i d h o s = lowest-here (emptied n bs) i d (omega (arith, length-emptied n bs)) (ap is_some (emptied-other n i bs d o) ∙ s)

pub other-on : (bs : List (Option Buffer)) (n i : ℕ) (d : Option Buffer) → i < length bs → i ≢ n → is_some (get_or bs i d) ≡ false → i + lowest (drop i (emptied n bs)) ≡ i + 1 + lowest (drop (i + 1) (emptied n bs))
other-on bs n i d h o s = lowest-on (emptied n bs) i d (omega (arith, length-emptied n bs)) (ap is_some (emptied-other n i bs d o) ∙ s)

pub other-self : (bs : List (Option Buffer)) (n i : ℕ) → i < length bs → i ≡ n → i + lowest (drop i (emptied n bs)) ≡ i + 1 + lowest (drop (i + 1) (emptied n bs))
other-self bs n i h e = lowest-on (emptied n bs) i None (omega (arith, length-emptied n bs)) (ap is_some (ap (λ k. get_or (emptied n bs) k None) e ∙ emptied-here n bs))

-- whether some buffer is there, by the least number
some-any : (bs : List (Option Buffer)) → lowest bs < length bs → list_any is_some bs ≡ true
some-any [] h = absurd (omega arith)
some-any (Some b ∷ bs) h = refl
some-any (None ∷ bs) h = some-any bs (omega arith)

none-any : (bs : List (Option Buffer)) → length bs ≤ lowest bs → list_any is_some bs ≡ false
none-any [] h = refl
none-any (Some b ∷ bs) h = absurd (omega arith)
none-any (None ∷ bs) h = none-any bs (omega arith)

-- whether no other buffer is there, by the least number
pub only-by : (n size to : ℕ) (bs : List (Option Buffer)) → size ≡ length bs → to ≡ lowest (emptied n bs) → nat_le size to ≡ not (list_any is_some (emptied n bs))
only-by n size to bs s e =
    by_test (λ t. t ≡ not (list_any is_some (emptied n bs))) (nat_le size to)
    (λ q. sym (ap not (none-any (emptied n bs) (omega (arith, length-emptied n bs, s, e, leb-true size to q)))))
    (λ q. sym (ap not (some-any (emptied n bs) (omega (arith, length-emptied n bs, s, e, leb-false size to q)))))

any-lowest : (bs : List (Option Buffer)) → list_any is_some bs ≡ true → is_there (lowest bs) bs ≡ true
any-lowest [] h = absurd (let no : false ≡ true = h in cc)
any-lowest (Some b ∷ bs) h = refl
any-lowest (None ∷ bs) h = any-lowest bs h

none-gap : (bs : List (Option Buffer)) → list_any is_some bs ≡ false → first_gap bs ≡ 0
none-gap [] h = refl
none-gap (Some b ∷ bs) h = absurd (let no : true ≡ false = h in cc)
none-gap (None ∷ bs) h = refl

pub there-any : (n : ℕ) (bs : List (Option Buffer)) → is_some (get_or bs n None) ≡ true → list_any is_some bs ≡ true
there-any n [] h = absurd (let no : false ≡ true = h in cc)
there-any zero (b ∷ bs) h = ap (λ t. t || list_any is_some bs) h
there-any (suc n) (Some b ∷ bs) h = refl
there-any (suc n) (None ∷ bs) h = there-any n bs h

-- where some are left, they are what is left
pub left-some : (bs : List (Option Buffer)) → list_any is_some bs ≡ true → or_scratch bs ≡ bs
left-some bs h = ap (λ t. cond t bs (buffer_placed scratch bs)) h

-- a buffer was dropped, and others are left
pub other-dropped : (n to : ℕ) (clients : List Client) (bs : List (Option Buffer)) (slot now : Option Buffer) → to ≡ lowest (emptied n bs) → to < length bs → slot ≡ get_or bs to slot → now ≡ option_map (listed_for_viewers n clients) slot
    → set (set bs to now) n None ≡ buffers_dropped n clients bs
other-dropped n to clients bs slot now e h g t =
    let f : Buffer → Buffer = listed_for_viewers n clients in
    let some : list_any is_some (emptied n bs) ≡ true = some-any (emptied n bs) (omega (arith, length-emptied n bs, e)) in
    ap (λ xs. set xs n None) (set-slot to f bs slot now g t)
    ∙ set-emptied n (changed_at to f bs)
    ∙ emptied-changed n to f bs
    ∙ ap (λ k. changed_at k f (emptied n bs)) e
    ∙ sym (ap (λ xs. changed_at (lowest xs) f xs) (left-some (emptied n bs) some))

pub other-number : (n to : ℕ) (bs : List (Option Buffer)) → to ≡ lowest (emptied n bs) → to < length bs → to ≡ lowest (left_without n bs)
other-number n to bs e h =
    let some : list_any is_some (emptied n bs) ≡ true = some-any (emptied n bs) (omega (arith, length-emptied n bs, e)) in
    e ∙ sym (ap lowest (left-some (emptied n bs) some))

-- the last one was dropped
new-scratch : (f : Buffer → Buffer) (bs : List (Option Buffer)) (b : Buffer) → 0 < length bs → length bs ≤ lowest bs → b ≡ f scratch → set bs 0 (Some b) ≡ changed_at (lowest (or_scratch bs)) f (or_scratch bs)
new-scratch f [] b h g e = absurd (omega arith)
new-scratch f (Some a ∷ bs) b h g e = absurd (omega arith)
new-scratch f (None ∷ bs) b h g e =
    ap (λ x. Some x ∷ bs) e
    ∙ sym (ap (λ t. changed_at (lowest (cond t (None ∷ bs) (Some scratch ∷ bs))) f (cond t (None ∷ bs) (Some scratch ∷ bs))) (none-any bs (omega arith)))

new-number : (bs : List (Option Buffer)) → length bs ≤ lowest bs → 0 ≡ lowest (or_scratch bs)
new-number [] g = refl
new-number (Some a ∷ bs) g = absurd (omega arith)
new-number (None ∷ bs) g = sym (ap (λ t. lowest (cond t (None ∷ bs) (Some scratch ∷ bs))) (none-any bs (omega arith)))

pub last-dropped : (n : ℕ) (clients : List Client) (bs : List (Option Buffer)) (b : Buffer) → is_there n bs ≡ true → length bs ≤ lowest (emptied n bs) → b ≡ listed_for_viewers n clients scratch → set (set bs n None) 0 (Some b) ≡ buffers_dropped n clients bs
last-dropped n clients bs b t g e =
    let inside : n < length bs = there-inside n bs t in
    ap (λ xs. set xs 0 (Some b)) (set-emptied n bs)
    ∙ new-scratch (listed_for_viewers n clients) (emptied n bs) b (omega (arith, length-emptied n bs)) (omega (arith, length-emptied n bs, g)) e

pub last-number : (n : ℕ) (bs : List (Option Buffer)) → length bs ≤ lowest (emptied n bs) → 0 ≡ lowest (left_without n bs)
last-number n bs g = new-number (emptied n bs) (omega (arith, length-emptied n bs, g))

-- some buffer is there then, and no number is too great
pub some-left : (n : ℕ) (bs : List (Option Buffer)) → is_there (lowest (left_without n bs)) (left_without n bs) ≡ true
some-left n bs =
    by_test (λ t. list_any is_some (emptied n bs) ≡ t → is_there (lowest (cond t (emptied n bs) (buffer_placed scratch (emptied n bs)))) (cond t (emptied n bs) (buffer_placed scratch (emptied n bs))) ≡ true) (list_any is_some (emptied n bs))
    (λ _ e. any-lowest (emptied n bs) e)
    (λ _ e. placed-some scratch (emptied n bs))
    refl

pub has-left : (n : ℕ) (bs : List (Option Buffer)) → HasBuffer bs → HasBuffer (left_without n bs)
has-left n bs h =
    by_test (λ t. list_any is_some (emptied n bs) ≡ t → HasBuffer (cond t (emptied n bs) (buffer_placed scratch (emptied n bs)))) (list_any is_some (emptied n bs))
    (λ _ e. record { some = any-lowest (emptied n bs) e; few = omega (arith, length-emptied n bs, h.few) })
    (λ _ e. record { some = placed-some scratch (emptied n bs); few = placed-few scratch (emptied n bs) 1024 (omega (arith, length-emptied n bs, h.few)) (omega (arith, none-gap (emptied n bs) e)) })
    refl

pub has-dropped : (n : ℕ) (clients : List Client) (bs now : List (Option Buffer)) → now ≡ buffers_dropped n clients bs → HasBuffer bs → HasBuffer now
has-dropped n clients bs now e h = subst HasBuffer (sym e) (has-changed (lowest (left_without n bs)) (listed_for_viewers n clients) (left_without n bs) (has-left n bs h))

-- the world without the buffer
pub now-dropped : {st : List (Option Stored)} {sc : Scoped} (n to : ℕ) (bs now : List (Option Buffer)) (cs moved : List Client) (r : Rest) (options : List Setting) (highlighters : List Highlighter) (tables : TableRows) (w : Kept) → parts bs cs r sc st ≡ w
    → now ≡ buffers_dropped n cs bs → to ≡ lowest (left_without n bs) → moved ≡ map (moved_on n to) cs → options ≡ without_buffer n r.options
    → highlighters ≡ highlighters_without (is_of_buffer n) sc.highlighters → tables ≡ rows_without (is_of_buffer n) sc.tables
    → (parts now moved (record r { options = options }) (record { highlighters = highlighters; tables = tables }) st).flat ≡ dropped n w.flat
unfolding dropped
now-dropped {st = st} {sc = sc} n to bs now cs moved r options highlighters tables w e b t m o h d =
    let kept : Rest = record r { options = without_buffer n r.options } in
    let those : List Client = map (moved_on n (lowest (left_without n bs))) cs in
    ap (λ x. (parts x moved (record r { options = options }) (record { highlighters = highlighters; tables = tables }) st).flat) b
    ∙ ap (λ x. (parts (buffers_dropped n cs bs) x (record r { options = options }) (record { highlighters = highlighters; tables = tables }) st).flat) m
    ∙ ap (λ k. (parts (buffers_dropped n cs bs) (map (moved_on n k) cs) (record r { options = options }) (record { highlighters = highlighters; tables = tables }) st).flat) t
    ∙ ap (λ x. (parts (buffers_dropped n cs bs) those (record r { options = x }) (record { highlighters = highlighters; tables = tables }) st).flat) o
    ∙ ap (λ x. (parts (buffers_dropped n cs bs) those kept (record { highlighters = x; tables = tables }) st).flat) h
    ∙ ap (λ x. (parts (buffers_dropped n cs bs) those kept (record { highlighters = highlighters_without (is_of_buffer n) sc.highlighters; tables = x }) st).flat) d
    ∙ ap (λ (k : Kept). dropped n k.flat) e
