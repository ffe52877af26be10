-- What the code of the world keeps, as the flat world says it.
use Rattle.std.proofs.Common.{◌≡◌, ℕ, zero, suc, ◌<◌, true, false, not, cond, ◌||◌, List, [], ◌∷◌, ◌++◌, length, map, get_or, set, refl, sym, ap, subst, ◌∙◌, arith, None, Some}
use Rattle.std.specs.List.{filter}
use Rattle.std.proofs.lemmas.Bool.{eq-eqb}
use Rattle.std.proofs.lemmas.List.{length-map}
use Rattle.tables.proofs.TableLemmas.{by_test}
use Rattle.tables.proofs.RowLemmas.{any-added, first-new, any-with_row}
use Rattle.std.specs.Prelude.{◌&&◌, is_some, option_map}
use Rattle.std.specs.declared.option.Option.{Option}
use Rattle.tables.specs.Tables.{first_where}
use Rattle.list_shelf.specs.declared.holder.Holder.TheVariants.{Of}
use Rattle.scope_options.specs.declared.setting.Setting.{Setting}
use Rattle.scope_options.specs.Scopes.{is_of_client}
use Rattle.scope_options.specs.Settings.{without_client}
use Rattle.highlight_paint.specs.Painters.{Highlighter}
use Rattle.highlight_paint.specs.Highlighters.{without_scopes as highlighters_without}
use Rattle.scope_tables.specs.Rows.{TableRows, without_scopes as rows_without}
use Rattle.list_shelf.specs.Shelves.{Held, is_held_by}
use Rattle.kak_world.specs.declared.clients.Client.{Client}
use Rattle.kak_world.specs.declared.world.Rest.{Rest}
use Rattle.kak_world.specs.Flat.{Buffer, Scoped, Flat, is_of, is_here, newcomer, is_there, buffer_or_scratch, buffer_at, changed_at, has_list, list_on, client_of, shown_of, buffer_of, list_of, is_joined, own_of, number_of, text_of, story_of, sels_of, with_list_of, with_list}
use Rattle.kak_world.specs.Changing.{changed_in, commits}
use Rattle.kak_world.specs.Stored.{Stored}
use Rattle.kak_world.specs.Seen.{Kept, HasBuffer}
use Rattle.kak_world.proofs.SlotLemmas.{there-inside, set-changed, there-kept, length-kept, there-mapped, buffer-changed}
use Rattle.kak_world.specs.Flat.{with_rest, takes_turn, lowest, least_free, numbers_of, fresh_list, listed_for, committed_for, left_behind, joined_by, left_by_client}
use Rattle.kak_world.proofs.WorldLaws.{joined_here, joined_there, joined_list}

-- the world of some parts
abbrev pub parts : List (Option Buffer) → List Client → Rest → Scoped → List (Option Stored) → Kept
parts bs cs r sc st = record { flat = record { buffers = bs; clients = cs; rest = r; scoped = sc }; stored = st }

pub here-of : {st : List (Option Stored)} {sc : Scoped} (who : ℕ) (bs : List (Option Buffer)) (cs : List Client) (r : Rest) (w : Kept) → parts bs cs r sc st ≡ w → is_joined who w.flat ≡ true → is_here who cs ≡ true
here-of {st = st} {sc = sc} who bs cs r w e j = joined_here who (parts bs cs r sc st).flat (ap (λ (k : Kept). is_joined who k.flat) e ∙ j)

-- the client that the code finds
pub client-of : {st : List (Option Stored)} {sc : Scoped} (who : ℕ) (bs : List (Option Buffer)) (cs : List Client) (r : Rest) (w : Kept) (c : Client) → parts bs cs r sc st ≡ w → c ≡ first_where (is_of who) (newcomer who 0 0) cs → c ≡ client_of who w.flat
unfolding client_of
client-of {st = st} {sc = sc} who bs cs r w c e f = f ∙ ap (λ (k : Kept). client_of who k.flat) e

pub own-of : (who : ℕ) (flat : Flat) (c : Client) → c ≡ client_of who flat → c.own ≡ own_of who flat
unfolding own_of
own-of who flat c e = ap (λ (x : Client). x.own) e

pub number-of : (who : ℕ) (flat : Flat) (c : Client) → c ≡ client_of who flat → c.number ≡ number_of who flat
unfolding number_of
number-of who flat c e = ap (λ (x : Client). x.number) e

pub shown-of : (who : ℕ) (flat : Flat) (c : Client) → c ≡ client_of who flat → c.shown ≡ shown_of who flat
unfolding shown_of
shown-of who flat c e = ap (λ (x : Client). x.shown) e

-- the number of the buffer that it sees
pub shown-inside : {st : List (Option Stored)} {sc : Scoped} (who : ℕ) (bs : List (Option Buffer)) (cs : List Client) (r : Rest) (w : Kept) (c : Client) → parts bs cs r sc st ≡ w → c ≡ first_where (is_of who) (newcomer who 0 0) cs → is_joined who w.flat ≡ true → c.shown < length bs
shown-inside {st = st} {sc = sc} who bs cs r w c e f j = there-inside c.shown bs (shown-there who bs cs r w c e f j)
  where
    shown-there : {st : List (Option Stored)} {sc : Scoped} (who : ℕ) (bs : List (Option Buffer)) (cs : List Client) (r : Rest) (w : Kept) (c : Client) → parts bs cs r sc st ≡ w → c ≡ first_where (is_of who) (newcomer who 0 0) cs → is_joined who w.flat ≡ true → is_there c.shown bs ≡ true
    shown-there {st = st} {sc = sc} who bs cs r w c e f j =
        ap (λ n. is_there n bs) (shown-of who (parts bs cs r sc st).flat c (client-of who bs cs r (parts bs cs r sc st) c refl f)) ∙ joined_there who (parts bs cs r sc st).flat (ap (λ (k : Kept). is_joined who k.flat) e ∙ j)

pub shown-there : {st : List (Option Stored)} {sc : Scoped} (who : ℕ) (bs : List (Option Buffer)) (cs : List Client) (r : Rest) (w : Kept) (c : Client) → parts bs cs r sc st ≡ w → c ≡ first_where (is_of who) (newcomer who 0 0) cs → is_joined who w.flat ≡ true → is_there c.shown bs ≡ true
shown-there {st = st} {sc = sc} who bs cs r w c e f j =
    ap (λ n. is_there n bs) (shown-of who (parts bs cs r sc st).flat c (client-of who bs cs r (parts bs cs r sc st) c refl f)) ∙ joined_there who (parts bs cs r sc st).flat (ap (λ (k : Kept). is_joined who k.flat) e ∙ j)

-- no number that a client sees is without a buffer
pub shown-not_none : {st : List (Option Stored)} {sc : Scoped} (who : ℕ) (bs : List (Option Buffer)) (cs : List Client) (r : Rest) (w : Kept) (c : Client) (slot : Option Buffer) → parts bs cs r sc st ≡ w → c ≡ first_where (is_of who) (newcomer who 0 0) cs → is_joined who w.flat ≡ true → slot ≡ get_or bs c.shown slot → slot ≡ None → ⊥
shown-not_none {st = st} {sc = sc} who bs cs r w c slot e f j g n =
    let there : is_there c.shown bs ≡ true = shown-there who bs cs r w c e f j in
    let same : get_or bs c.shown None ≡ None = ap (λ d. get_or bs c.shown d) (sym n) ∙ sym g ∙ n in
    let no : is_some {T = Buffer} None ≡ true = ap is_some (sym same) ∙ there in cc

pub get_or_same : {A : Type 0} (xs : List (Option A)) (n : ℕ) (d : Option A) → n < length xs → get_or xs n None ≡ get_or xs n d
get_or_same [] n d h = absurd (omega arith)
get_or_same (x ∷ xs) zero d h = refl
get_or_same (x ∷ xs) (suc n) d h = get_or_same xs n d (omega arith)

pub slot-at : {st : List (Option Stored)} {sc : Scoped} (who : ℕ) (bs : List (Option Buffer)) (cs : List Client) (r : Rest) (w : Kept) (c : Client) (slot : Option Buffer) (b : Buffer) → parts bs cs r sc st ≡ w → c ≡ first_where (is_of who) (newcomer who 0 0) cs → is_joined who w.flat ≡ true → slot ≡ get_or bs c.shown slot → slot ≡ Some b → get_or bs c.shown None ≡ Some b
slot-at {st = st} {sc = sc} who bs cs r w c slot b e f j g s = get_or_same bs c.shown slot (shown-inside who bs cs r w c e f j) ∙ sym g ∙ s

-- the buffer that a client sees
pub buffer-of : {st : List (Option Stored)} {sc : Scoped} (who : ℕ) (bs : List (Option Buffer)) (cs : List Client) (r : Rest) (w : Kept) (c : Client) (slot : Option Buffer) (b : Buffer) → parts bs cs r sc st ≡ w → c ≡ first_where (is_of who) (newcomer who 0 0) cs → is_joined who w.flat ≡ true → slot ≡ get_or bs c.shown slot → slot ≡ Some b → b ≡ buffer_of who w.flat
unfolding buffer_of
buffer-of {st = st} {sc = sc} who bs cs r w c slot b e f j g s =
    ap buffer_or_scratch (sym (slot-at who bs cs r w c slot b e f j g s))
    ∙ ap (λ n. buffer_at n bs) (shown-of who (parts bs cs r sc st).flat c (client-of who bs cs r (parts bs cs r sc st) c refl f))
    ∙ ap (λ (k : Kept). buffer_of who k.flat) e

-- it has a list of the client
pub list-of : {st : List (Option Stored)} {sc : Scoped} (who : ℕ) (bs : List (Option Buffer)) (cs : List Client) (r : Rest) (w : Kept) (c : Client) (slot : Option Buffer) (b : Buffer) → parts bs cs r sc st ≡ w → c ≡ first_where (is_of who) (newcomer who 0 0) cs → is_joined who w.flat ≡ true → slot ≡ get_or bs c.shown slot → slot ≡ Some b → has_list (Of who) b ≡ true
list-of {st = st} {sc = sc} who bs cs r w c slot b e f j g s = ap (has_list (Of who)) (buffer-of who bs cs r w c slot b e f j g s) ∙ joined_list who w.flat j

-- its list there was changed
pub list-set-of : {st : List (Option Stored)} {sc : Scoped} (who : ℕ) (bs : List (Option Buffer)) (cs : List Client) (r : Rest) (w : Kept) (c : Client) (slot : Option Buffer) (b to : Buffer) (f : Held → Held) → parts bs cs r sc st ≡ w → c ≡ first_where (is_of who) (newcomer who 0 0) cs → is_joined who w.flat ≡ true → slot ≡ get_or bs c.shown slot → slot ≡ Some b
    → to ≡ with_list (Of who) f b → (parts (set bs c.shown (Some to)) cs r sc st).flat ≡ with_list_of who f w.flat
unfolding with_list_of
list-set-of {st = st} {sc = sc} who bs cs r w c slot b to f e g j l s t =
    ap (λ x. (parts (set bs c.shown (Some x)) cs r sc st).flat) t
    ∙ ap (λ x. (parts x cs r sc st).flat) (set-changed c.shown (with_list (Of who) f) b bs (slot-at who bs cs r w c slot b e g j l s))
    ∙ ap (λ n. (parts (changed_at n (with_list (Of who) f) bs) cs r sc st).flat) (shown-of who (parts bs cs r sc st).flat c (client-of who bs cs r (parts bs cs r sc st) c refl g))
    ∙ ap (λ (k : Kept). with_list_of who f k.flat) e

lowest-kept : (n : ℕ) (f : Buffer → Buffer) (bs : List (Option Buffer)) → lowest (changed_at n f bs) ≡ lowest bs
lowest-kept n f [] = refl
lowest-kept zero f (Some b ∷ bs) = refl
lowest-kept zero f (None ∷ bs) = refl
lowest-kept (suc n) f (Some b ∷ bs) = refl
lowest-kept (suc n) f (None ∷ bs) = ap suc (lowest-kept n f bs)

pub has-changed : (n : ℕ) (f : Buffer → Buffer) (bs : List (Option Buffer)) → HasBuffer bs → HasBuffer (changed_at n f bs)
has-changed n f bs h = record {
  some = there-kept (lowest (changed_at n f bs)) n f bs ∙ ap (λ k. is_there k bs) (lowest-kept n f bs) ∙ h.some;
  few = omega (arith, length-kept n f bs, h.few);
}

pub has-set : (n : ℕ) (b to : Buffer) (bs : List (Option Buffer)) → get_or bs n None ≡ Some b → HasBuffer bs → HasBuffer (set bs n (Some to))
has-set n b to bs g h = subst HasBuffer (sym (set-changed n (λ _. to) b bs g)) (has-changed n (λ _. to) bs h)

-- its text, and the client's selections
pub text-of : {st : List (Option Stored)} {sc : Scoped} (who : ℕ) (bs : List (Option Buffer)) (cs : List Client) (r : Rest) (w : Kept) (c : Client) (slot : Option Buffer) (b : Buffer) → parts bs cs r sc st ≡ w → c ≡ first_where (is_of who) (newcomer who 0 0) cs → is_joined who w.flat ≡ true → slot ≡ get_or bs c.shown slot → slot ≡ Some b → b.story.text ≡ text_of who w.flat
unfolding text_of
text-of {st = st} {sc = sc} who bs cs r w c slot b e f j g s = ap (λ (x : Buffer). x.story.text) (buffer-of who bs cs r w c slot b e f j g s)

pub sels-of : {st : List (Option Stored)} {sc : Scoped} (who : ℕ) (bs : List (Option Buffer)) (cs : List Client) (r : Rest) (w : Kept) (c : Client) (slot : Option Buffer) (b : Buffer) → parts bs cs r sc st ≡ w → c ≡ first_where (is_of who) (newcomer who 0 0) cs → is_joined who w.flat ≡ true → slot ≡ get_or bs c.shown slot → slot ≡ Some b → (list_on (Of who) b).sels ≡ sels_of who w.flat
unfolding sels_of list_of
sels-of {st = st} {sc = sc} who bs cs r w c slot b e f j g s = ap (λ (x : Buffer). (list_on (Of who) x).sels) (buffer-of who bs cs r w c slot b e f j g s)

-- whether a client has joined
pub joined-not : {st : List (Option Stored)} {sc : Scoped} (who : ℕ) (bs : List (Option Buffer)) (cs : List Client) (r : Rest) (w : Kept) → parts bs cs r sc st ≡ w → is_here who cs ≡ false → false ≡ is_joined who w.flat
unfolding is_joined
joined-not {st = st} {sc = sc} who bs cs r w e h = sym (ap (λ t. t && (is_there (shown_of who (parts bs cs r sc st).flat) bs && has_list (Of who) (buffer_of who (parts bs cs r sc st).flat))) h) ∙ ap (λ (k : Kept). is_joined who k.flat) e

pub joined-test : {st : List (Option Stored)} {sc : Scoped} (who : ℕ) (bs : List (Option Buffer)) (cs : List Client) (r : Rest) (w : Kept) (c : Client) → parts bs cs r sc st ≡ w → is_here who cs ≡ true → c ≡ first_where (is_of who) (newcomer who 0 0) cs → (is_there c.shown bs && has_list (Of who) (buffer_at c.shown bs)) ≡ is_joined who w.flat
unfolding is_joined buffer_of
joined-test {st = st} {sc = sc} who bs cs r w c e h f =
    ap (λ n. is_there n bs && has_list (Of who) (buffer_at n bs)) (shown-of who (parts bs cs r sc st).flat c (client-of who bs cs r (parts bs cs r sc st) c refl f))
    ∙ sym (ap (λ t. t && (is_there (shown_of who (parts bs cs r sc st).flat) bs && has_list (Of who) (buffer_at (shown_of who (parts bs cs r sc st).flat) bs))) h)
    ∙ ap (λ (k : Kept). is_joined who k.flat) e

-- a client that comes has joined
pub joined-comes : (who : ℕ) (bs : List (Option Buffer)) (cs : List Client) (r : Rest) (sc : Scoped) → is_here who cs ≡ false → is_there (lowest bs) bs ≡ true → is_joined who (joined_by who (parts bs cs r sc []).flat) ≡ true
unfolding is_joined buffer_of shown_of client_of joined_by
joined-comes who bs cs r sc away some =
    let new : Client = newcomer who (least_free (numbers_of cs)) (lowest bs) in
    let self : is_of who new ≡ true = eq-eqb who who refl in
    let found : first_where (is_of who) (newcomer who 0 0) (cs ++ new ∷ []) ≡ new = first-new (is_of who) (newcomer who 0 0) new cs away self in
    let here : is_here who (cs ++ new ∷ []) ≡ true = any-added (is_of who) new cs ∙ ap (λ b. b || (is_of who new || false)) away ∙ ap (λ b. b || false) self in
    let there : is_there (lowest bs) (changed_at (lowest bs) (listed_for (Of who)) bs) ≡ true = there-kept (lowest bs) (lowest bs) (listed_for (Of who)) bs ∙ some in
    let listed : has_list (Of who) (buffer_at (lowest bs) (changed_at (lowest bs) (listed_for (Of who)) bs)) ≡ true =
    ap (has_list (Of who)) (buffer-changed (lowest bs) (listed_for (Of who)) bs some) ∙ any-with_row (is_held_by (Of who)) (fresh_list (Of who)) (buffer_at (lowest bs) bs).lists self in
    ap (λ (c : Client). is_here who (cs ++ new ∷ []) && (is_there c.shown (changed_at (lowest bs) (listed_for (Of who)) bs) && has_list (Of who) (buffer_at c.shown (changed_at (lowest bs) (listed_for (Of who)) bs)))) found
    ∙ ap (λ t. t && (is_there (lowest bs) (changed_at (lowest bs) (listed_for (Of who)) bs) && has_list (Of who) (buffer_at (lowest bs) (changed_at (lowest bs) (listed_for (Of who)) bs)))) here
    ∙ ap (λ t. t && has_list (Of who) (buffer_at (lowest bs) (changed_at (lowest bs) (listed_for (Of who)) bs))) there
    ∙ listed

-- the lowest number is a buffer's
pub lowest-inside : (bs : List (Option Buffer)) (n : ℕ) → HasBuffer bs → n ≡ lowest bs → n < length bs
lowest-inside bs n h e = let inside : lowest bs < length bs = there-inside (lowest bs) bs h.some in omega arith

pub lowest-not_none : (bs : List (Option Buffer)) (n : ℕ) (slot : Option Buffer) → HasBuffer bs → n ≡ lowest bs → slot ≡ get_or bs n slot → slot ≡ None → ⊥
lowest-not_none bs n slot h e g z =
    let there : is_there n bs ≡ true = ap (λ k. is_there k bs) e ∙ h.some in
    let same : get_or bs n None ≡ None = ap (λ d. get_or bs n d) (sym z) ∙ sym g ∙ z in
    let no : is_some {T = Buffer} None ≡ true = ap is_some (sym same) ∙ there in cc

pub slot-is : (bs : List (Option Buffer)) (n : ℕ) (slot : Option Buffer) (b : Buffer) → n < length bs → slot ≡ get_or bs n slot → slot ≡ Some b → get_or bs n None ≡ Some b
slot-is bs n slot b h g s = get_or_same bs n slot h ∙ sym g ∙ s

set-same : (n : ℕ) (b : Buffer) (bs : List (Option Buffer)) → get_or bs n None ≡ Some b → set bs n (Some b) ≡ bs
set-same n b [] h = refl
set-same zero b (o ∷ bs) h = ap (λ x. x ∷ bs) (sym h)
set-same (suc n) b (o ∷ bs) h = ap (λ xs. o ∷ xs) (set-same n b bs h)

-- the world after a client came, and where it didn't
pub came : {st : List (Option Stored)} {sc : Scoped} (who : ℕ) (bs now : List (Option Buffer)) (cs added : List Client) (r : Rest) (w : Kept) (n : ℕ) → parts bs cs r sc st ≡ w → n ≡ lowest bs → now ≡ changed_at n (listed_for (Of who)) bs
    → added ≡ cs ++ newcomer who (least_free (numbers_of cs)) n ∷ [] → (parts now added r sc st).flat ≡ joined_by who w.flat
unfolding joined_by
came {st = st} {sc = sc} who bs now cs added r w n e l g a =
    ap (λ x. (parts x added r sc st).flat) g
    ∙ ap (λ x. (parts (changed_at n (listed_for (Of who)) bs) x r sc st).flat) a
    ∙ ap (λ k. (parts (changed_at k (listed_for (Of who)) bs) (cs ++ newcomer who (least_free (numbers_of cs)) k ∷ []) r sc st).flat) l
    ∙ ap (λ (k : Kept). joined_by who k.flat) e

pub without-new : (who : ℕ) (new : Client) (cs : List Client) → is_here who cs ≡ false → is_of who new ≡ true → filter (λ c. not (is_of who c)) (cs ++ new ∷ []) ≡ cs
without-new who new [] h n = ap (λ t. cond (not t) (new ∷ []) []) n
without-new who new (c ∷ cs) h n =
    by_test (λ t. (t || is_here who cs) ≡ false → cond (not t) (c ∷ filter (λ x. not (is_of who x)) (cs ++ new ∷ [])) (filter (λ x. not (is_of who x)) (cs ++ new ∷ [])) ≡ c ∷ cs) (is_of who c)
    (λ _ h. absurd (let no : true ≡ false = h in cc))
    (λ _ h. ap (λ xs. c ∷ xs) (without-new who new cs h n))
    h

pub came-not : {st : List (Option Stored)} {sc : Scoped} (who : ℕ) (bs now : List (Option Buffer)) (cs added left : List Client) (r : Rest) (w : Kept) (n : ℕ) → parts bs cs r sc st ≡ w → is_here who w.flat.clients ≡ false → now ≡ bs
    → added ≡ cs ++ newcomer who (least_free (numbers_of cs)) n ∷ [] → left ≡ filter (λ c. not (is_of who c)) added → (parts now left r sc st).flat ≡ w.flat
came-not {st = st} {sc = sc} who bs now cs added left r w n e away g a l =
    ap (λ x. (parts x left r sc st).flat) g
    ∙ ap (λ x. (parts bs x r sc st).flat) (l ∙ ap (filter (λ c. not (is_of who c))) a ∙ without-new who (newcomer who (least_free (numbers_of cs)) n) cs (ap (λ (k : Kept). is_here who k.flat.clients) e ∙ away) (eq-eqb who who refl))
    ∙ ap (λ (k : Kept). k.flat) e

-- the world after a client went
pub went : {st : List (Option Stored)} {sc : Scoped} (who : ℕ) (bs gone : List (Option Buffer)) (cs left : List Client) (r : Rest) (options : List Setting) (highlighters : List Highlighter) (tables : TableRows) (w : Kept) → parts bs cs r sc st ≡ w
    → gone ≡ map (option_map (left_behind who)) bs → left ≡ filter (λ c. not (is_of who c)) cs → options ≡ without_client who r.options
    → highlighters ≡ highlighters_without (is_of_client who) sc.highlighters → tables ≡ rows_without (is_of_client who) sc.tables
    → (parts gone left (record r { options = options }) (record { highlighters = highlighters; tables = tables }) st).flat ≡ left_by_client who w.flat
unfolding left_by_client
went {st = st} {sc = sc} who bs gone cs left r options highlighters tables w e g l o h t =
    let kept : Rest = record r { options = without_client who r.options } in
    ap (λ x. (parts x left (record r { options = options }) (record { highlighters = highlighters; tables = tables }) st).flat) g
    ∙ ap (λ x. (parts (map (option_map (left_behind who)) bs) x (record r { options = options }) (record { highlighters = highlighters; tables = tables }) st).flat) l
    ∙ ap (λ x. (parts (map (option_map (left_behind who)) bs) (filter (λ c. not (is_of who c)) cs) (record r { options = x }) (record { highlighters = highlighters; tables = tables }) st).flat) o
    ∙ ap (λ x. (parts (map (option_map (left_behind who)) bs) (filter (λ c. not (is_of who c)) cs) kept (record { highlighters = x; tables = tables }) st).flat) h
    ∙ ap (λ x. (parts (map (option_map (left_behind who)) bs) (filter (λ c. not (is_of who c)) cs) kept (record { highlighters = highlighters_without (is_of_client who) sc.highlighters; tables = x }) st).flat) t
    ∙ ap (λ (k : Kept). left_by_client who k.flat) e

lowest-mapped : (f : Buffer → Buffer) (bs : List (Option Buffer)) → lowest (map (option_map f) bs) ≡ lowest bs
lowest-mapped f [] = refl
lowest-mapped f (Some b ∷ bs) = refl
lowest-mapped f (None ∷ bs) = ap suc (lowest-mapped f bs)

pub has-mapped : (f : Buffer → Buffer) (bs gone : List (Option Buffer)) → HasBuffer bs → gone ≡ map (option_map f) bs → HasBuffer gone
has-mapped f bs gone h e = subst HasBuffer (sym e) (record {
  some = there-mapped (lowest (map (option_map f) bs)) f bs ∙ ap (λ k. is_there k bs) (lowest-mapped f bs) ∙ h.some;
  few = omega (arith, length-map bs (option_map f), h.few);
})

-- the story of the buffer that the client sees
pub story-of : {st : List (Option Stored)} {sc : Scoped} (who : ℕ) (bs : List (Option Buffer)) (cs : List Client) (r : Rest) (w : Kept) (c : Client) (slot : Option Buffer) (b : Buffer) → parts bs cs r sc st ≡ w → c ≡ first_where (is_of who) (newcomer who 0 0) cs → is_joined who w.flat ≡ true → slot ≡ get_or bs c.shown slot → slot ≡ Some b → b.story ≡ story_of who w.flat
unfolding story_of
story-of {st = st} {sc = sc} who bs cs r w c slot b e f j g s = ap (λ (x : Buffer). x.story) (buffer-of who bs cs r w c slot b e f j g s)

-- the buffer that the client sees was changed
pub changed-of : {st : List (Option Stored)} {sc : Scoped} (who : ℕ) (bs : List (Option Buffer)) (cs : List Client) (r : Rest) (w : Kept) (c : Client) (slot : Option Buffer) (b to : Buffer) (f : Buffer → Buffer) → parts bs cs r sc st ≡ w → c ≡ first_where (is_of who) (newcomer who 0 0) cs → is_joined who w.flat ≡ true → slot ≡ get_or bs c.shown slot → slot ≡ Some b
    → to ≡ f b → (parts (set bs c.shown (Some to)) cs r sc st).flat ≡ changed_in (shown_of who w.flat) f w.flat
unfolding changed_in
changed-of {st = st} {sc = sc} who bs cs r w c slot b to f e g j l s t =
    ap (λ x. (parts (set bs c.shown (Some x)) cs r sc st).flat) t
    ∙ ap (λ x. (parts x cs r sc st).flat) (set-changed c.shown f b bs (slot-at who bs cs r w c slot b e g j l s))
    ∙ ap (λ n. (parts (changed_at n f bs) cs r sc st).flat) (shown-of who (parts bs cs r sc st).flat c (client-of who bs cs r (parts bs cs r sc st) c refl g))
    ∙ ap (λ (k : Kept). changed_in (shown_of who k.flat) f k.flat) e

-- all pending groups of a client were committed
pub committed-all : {st : List (Option Stored)} {sc : Scoped} (who : ℕ) (bs now : List (Option Buffer)) (cs : List Client) (r : Rest) (w : Kept) → parts bs cs r sc st ≡ w → now ≡ map (option_map (committed_for who)) bs → (parts now cs r sc st).flat ≡ commits who w.flat
unfolding commits
committed-all {st = st} {sc = sc} who bs now cs r w e n = ap (λ x. (parts x cs r sc st).flat) n ∙ ap (λ (k : Kept). commits who k.flat) e

-- it was left as it was
pub same-of : {st : List (Option Stored)} {sc : Scoped} (who : ℕ) (bs : List (Option Buffer)) (cs : List Client) (r : Rest) (w : Kept) (c : Client) (slot : Option Buffer) (b to : Buffer) → parts bs cs r sc st ≡ w → c ≡ first_where (is_of who) (newcomer who 0 0) cs → is_joined who w.flat ≡ true → slot ≡ get_or bs c.shown slot → slot ≡ Some b
    → to ≡ b → (parts (set bs c.shown (Some to)) cs r sc st).flat ≡ w.flat
same-of {st = st} {sc = sc} who bs cs r w c slot b to e g j l s t =
    ap (λ x. (parts (set bs c.shown (Some x)) cs r sc st).flat) t ∙ ap (λ x. (parts x cs r sc st).flat) (set-same c.shown b bs (slot-at who bs cs r w c slot b e g j l s)) ∙ ap (λ (k : Kept). k.flat) e

-- a step of a client begins
pub entered-flat : {st : List (Option Stored)} {sc : Scoped} (who : ℕ) (bs now : List (Option Buffer)) (cs : List Client) (r : Rest) (w : Kept) → parts bs cs r sc st ≡ w → now ≡ bs → (parts now cs (record r { step = record r.step { turn = Some who } }) sc st).flat ≡ takes_turn who w.flat
unfolding with_rest
entered-flat {st = st} {sc = sc} who bs now cs r w e b = ap (λ x. (parts x cs (record r { step = record r.step { turn = Some who } }) sc st).flat) b ∙ ap (λ (k : Kept). takes_turn who k.flat) e
