-- The lists on a shelf as those of a buffer.
use Rattle.std.proofs.Common.{◌≡◌, ℕ, ◌<◌, ◌||◌, Bool, true, false, not, cond, List, [], ◌∷◌, ◌++◌, length, map, take, refl, sym, ap, ap₂, subst, ◌∙◌, arith, append-nil, append_assoc, Ok, Err}
use Rattle.std.specs.Prelude.{OnOk, OnErr}
use Rattle.std.specs.declared.result.Result.{Result}
use Rattle.std.specs.List.{list_any, filter}
use Rattle.std.proofs.lemmas.List.{length-map}
use Rattle.tables.specs.Tables.{first_where, changed_where, with_row}
use Rattle.tables.proofs.TableLemmas.{by_test}
use Rattle.tables.proofs.RowLemmas.{any-map, changed-same}
use Rattle.text_model.specs.Texts.{IsStored}
use Rattle.list_model.specs.Ranges.{Selected}
use Rattle.undo_model.specs.Stories.{Story}
use Rattle.window_view.specs.declared.corner.Corner.{Corner}
use Rattle.selection_set.specs.Listing.{Listed}
use Rattle.selection_set.specs.Inside.{range_of}
use Rattle.selection_set.specs.Held.{selected, IsHeld}
use Rattle.change_list.specs.Logs.{Logged, stamp_of}
use Rattle.list_shelf.specs.declared.holder.Holder.{Holder}
use Rattle.list_shelf.specs.declared.rows.ShelfRow.{ShelfRow}
use Rattle.list_shelf.specs.Lagging.{seen_by}
use Rattle.list_shelf.specs.Shelves.{Shelved, is_of, has_row, no_row, row_of, with_sels, with_main, with_corner, listed, unlisted, trimmed_shelf, entered, AllLag, Stands, CanStand, IsUp, KeepsUp, IsTrimmed, StandsWith, Held, seen_in, lists_in, is_held_by}
use Rattle.list_shelf.proofs.LagLemmas.{lags-stored}
use Rattle.list_shelf.proofs.FollowLemmas.{as_seen}
use Rattle.list_shelf.proofs.StandLemmas.{read-row, replaced-rows, other_seen, main-rows, main_seen, corner-rows, other_corner_seen, added-rows, left-rows, trimmed-stands, entered-stands}
use Rattle.list_shelf.proofs.UpLemmas.{up-replaced, up-added, up-left, up-trimmed, up-entered, is-trimmed, entered-trimmed, main-trimmed, corner-trimmed, added-trimmed}
use Rattle.kak_world.specs.declared.since.Since.{Since}
use Rattle.kak_world.specs.Flat.{Buffer, has_list, list_on, with_list, listed_for, fresh_list}
use Rattle.kak_world.specs.Seen.{KeptBuffer, buffer_seen, buffer_kept, with_seen, IsShelfOf, IsListedBy}

-- a holder has a list on a buffer where it has one on its shelf
pub list-there : {si : Since} (holder : Holder) (name : List ℕ) (file : Bool) (story : Story) (shelf : Shelved) (b : KeptBuffer) → buffer_kept name file story shelf si ≡ b → has_row holder shelf ≡ has_list holder b.seen
list-there {si = si} holder name file story shelf b e = sym (any-map (is_held_by holder) (seen_in story.text shelf.log) shelf.rows) ∙ ap (λ (x : KeptBuffer). has_list holder x.seen) e

pub list-has : {si : Since} (holder : Holder) (name : List ℕ) (file : Bool) (story : Story) (shelf : Shelved) (b : KeptBuffer) → buffer_kept name file story shelf si ≡ b → has_list holder b.seen ≡ true → has_row holder shelf ≡ true
list-has {si = si} holder name file story shelf b e h = list-there holder name file story shelf b e ∙ h

-- what is known of a buffer's shelf
pub up-inside : {si : Since} (holder : Holder) (name : List ℕ) (file : Bool) (story : Story) (shelf : Shelved) (b : KeptBuffer) → buffer_kept name file story shelf si ≡ b → IsUp holder b.shelf → IsUp holder shelf
up-inside {si = si} holder name file story shelf b e up = subst (λ (x : KeptBuffer). IsUp holder x.shelf) (sym e) up

pub up-outside : {si : Since} (name : List ℕ) (file : Bool) (story : Story) (shelf now : Shelved) (b : KeptBuffer) → buffer_kept name file story shelf si ≡ b → KeepsUp shelf now → KeepsUp b.shelf now
up-outside {si = si} name file story shelf now b e up = subst (λ (x : KeptBuffer). KeepsUp x.shelf now) e up

pub can-stand : (text : List ℕ) (shelf : Shelved) → IsShelfOf text shelf → CanStand shelf
can-stand text shelf st = record { text = text; all = st.stands }

-- a holder's list among those that are seen
list-found : (holder : Holder) (text : List ℕ) (log : Logged) (d : ShelfRow) (none : Held) (rows : List ShelfRow) → list_any (is_of holder) rows ≡ true → first_where (is_held_by holder) none (map (seen_in text log) rows) ≡ seen_in text log (first_where (is_of holder) d rows)
list-found holder text log d none [] some = absurd (let no : false ≡ true = some in cc)
list-found holder text log d none (row ∷ rows) some =
    by_test (λ b. (b || list_any (is_of holder) rows) ≡ true → cond b (seen_in text log row) (first_where (is_held_by holder) none (map (seen_in text log) rows)) ≡ seen_in text log (cond b row (first_where (is_of holder) d rows))) (is_of holder row)
    (λ _ _. refl)
    (λ _ s. list-found holder text log d none rows s)
    some

pub list-seen : {si : Since} (holder : Holder) (name : List ℕ) (file : Bool) (story : Story) (shelf : Shelved) (b : KeptBuffer) → buffer_kept name file story shelf si ≡ b → has_list holder b.seen ≡ true → list_on holder b.seen ≡ seen_in story.text shelf.log (row_of holder shelf)
list-seen {si = si} holder name file story shelf b e h =
    sym (ap (λ (x : KeptBuffer). list_on holder x.seen) e)
    ∙ list-found holder story.text shelf.log (no_row holder) (fresh_list holder) shelf.rows (list-has holder name file story shelf b e h)

-- how many selections are in it
pub list-count : {si : Since} (holder : Holder) (name : List ℕ) (file : Bool) (story : Story) (shelf : Shelved) (b : KeptBuffer) (s : Listed) (n : ℕ) → buffer_kept name file story shelf si ≡ b → has_list holder b.seen ≡ true → s ≡ seen_by shelf.log (row_of holder shelf).lag → n ≡ length s.list → n ≡ length (list_on holder b.seen).sels.list
list-count {si = si} holder name file story shelf b s n e h is c =
    c
    ∙ ap (λ (x : Listed). length x.list) is
    ∙ sym (length-map (seen_by shelf.log (row_of holder shelf).lag).list (range_of story.text))
    ∙ ap (λ (l : Held). length l.sels.list) (sym (list-seen holder name file story shelf b e h))

-- where its window stands
pub list-corner : {si : Since} (holder : Holder) (name : List ℕ) (file : Bool) (story : Story) (shelf : Shelved) (b : KeptBuffer) (corner : Corner) → buffer_kept name file story shelf si ≡ b → has_list holder b.seen ≡ true → corner ≡ (row_of holder shelf).corner → corner ≡ (list_on holder b.seen).corner
list-corner {si = si} holder name file story shelf b corner e h is = is ∙ ap (λ (l : Held). l.corner) (sym (list-seen holder name file story shelf b e h))

-- it is read, where it is up to date
pub list-read : {si : Since} (holder : Holder) (name : List ℕ) (file : Bool) (story : Story) (shelf : Shelved) (b : KeptBuffer) (s : Listed) → buffer_kept name file story shelf si ≡ b → has_list holder b.seen ≡ true → IsUp holder b.shelf → Stands story.text shelf → s ≡ (row_of holder shelf).lag.sels
    → ((list_on holder b.seen).sels ≡ selected b.seen.story.text s) × IsHeld b.seen.story.text s
list-read {si = si} holder name file story shelf b s e h up st is =
    let P : KeptBuffer → Type 0 = λ x. ((list_on holder x.seen).sels ≡ selected x.seen.story.text s) × IsHeld x.seen.story.text s in
    let some : has_row holder shelf ≡ true = list-has holder name file story shelf b e h in
    let r = read-row story.text shelf.log holder (no_row holder) (fresh_list holder) shelf.rows some (up-inside holder name file story shelf b e up some) st in
    subst P e (sym (ap (selected story.text) is ∙ r.1), subst (IsHeld story.text) (sym is) r.0)

-- a shelf whose lists are seen as these
pub record Got (text : List ℕ) (lists : List Held) (shelf : Shelved) : Type 0 where
  pub is : IsShelfOf text shelf
  pub lists_are : lists_in text shelf ≡ lists

pub got-of : (text : List ℕ) (lists : List Held) (now last : Shelved) → StandsWith text now lists → IsTrimmed now → last ≡ now → Got text lists last
got-of text lists now last st t e = subst (Got text lists) (sym e) (record { is = record { stands = st.stands; trimmed = t }; lists_are = st.lists_are })

-- a shelf that is trimmed
pub trimmed-got : (text : List ℕ) (lists : List Held) (now : Shelved) → StandsWith text now lists → Got text lists (trimmed_shelf now)
trimmed-got text lists now st =
    let t = trimmed-stands text now st.stands in
    record { is = record { stands = t.stands; trimmed = is-trimmed text now st.stands }; lists_are = t.lists_are ∙ st.lists_are }

-- a buffer with other lists
pub now-lists : {si : Since} (name : List ℕ) (file : Bool) (story : Story) (shelf now : Shelved) (b : KeptBuffer) (f : List Held → List Held) → buffer_kept name file story shelf si ≡ b → lists_in story.text now ≡ f (lists_in story.text shelf)
    → buffer_seen name file story now ≡ record b.seen { lists = f b.seen.lists }
now-lists {si = si} name file story shelf now b f e l =
    ap (λ ls. let x : Buffer = record { name = name; is_file = file; story = story; lists = ls } in x) l
    ∙ ap (λ (x : KeptBuffer). record x.seen { lists = f x.seen.lists }) e

-- or with the same
pub now-same : {si : Since} (name : List ℕ) (file : Bool) (story : Story) (shelf now : Shelved) (b : KeptBuffer) → buffer_kept name file story shelf si ≡ b → lists_in story.text now ≡ lists_in story.text shelf → buffer_seen name file story now ≡ b.seen
now-same {si = si} name file story shelf now b e l =
    ap (λ ls. let x : Buffer = record { name = name; is_file = file; story = story; lists = ls } in x) l ∙ ap (λ (x : KeptBuffer). x.seen) e

-- a buffer with another story of the same text, and its lists as they are stored
pub kept-as : {si : Since} (name : List ℕ) (file now_file : Bool) (old new : Story) (shelf : Shelved) (b : KeptBuffer) (g : Buffer → Buffer) → buffer_kept name file old shelf si ≡ b → new.text ≡ old.text
    → (let x : Buffer = record { name = name; is_file = now_file; story = new; lists = lists_in old.text shelf } in x) ≡ g (buffer_seen name file old shelf) → buffer_kept name now_file new shelf si ≡ with_seen g b
kept-as {si = si} name file now_file old new shelf b g e t h =
    ap (λ s. let y : KeptBuffer = record { seen = record { name = name; is_file = now_file; story = new; lists = lists_in s shelf }; shelf = shelf; since = si } in y) t
    ∙ ap (λ x. let y : KeptBuffer = record { seen = x; shelf = shelf; since = si } in y) h
    ∙ ap (with_seen g) e

pub shelf-of : (old new : List ℕ) (shelf : Shelved) → new ≡ old → IsShelfOf old shelf → IsShelfOf new shelf
shelf-of old new shelf e st = subst (λ t. IsShelfOf t shelf) (sym e) st

-- one list is another, where it is the same for what stands there
one-same : (holder : Holder) (f g : Held → Held) (lists : List Held) → f (first_where (is_held_by holder) (fresh_list holder) lists) ≡ g (first_where (is_held_by holder) (fresh_list holder) lists) → changed_where (is_held_by holder) f lists ≡ changed_where (is_held_by holder) g lists
one-same holder f g lists e = changed-same (is_held_by holder) f g (fresh_list holder) lists e

pub now-one : {si : Since} (holder : Holder) (name : List ℕ) (file : Bool) (story : Story) (shelf now : Shelved) (b : KeptBuffer) (f g : Held → Held) → buffer_kept name file story shelf si ≡ b → lists_in story.text now ≡ changed_where (is_held_by holder) f (lists_in story.text shelf) → f (list_on holder b.seen) ≡ g (list_on holder b.seen)
    → buffer_seen name file story now ≡ with_list holder g b.seen
now-one {si = si} holder name file story shelf now b f g e l same =
    now-lists name file story shelf now b (changed_where (is_held_by holder) f) e l
    ∙ ap (λ ls. record b.seen { lists = ls }) (one-same holder f g b.seen.lists same)

-- a text on whose shelf there is a list is stored
some-stored : (holder : Holder) (text : List ℕ) (log : Logged) (rows : List ShelfRow) → list_any (is_of holder) rows ≡ true → AllLag text log rows → IsStored text
some-stored holder text log [] some a = absurd (let no : false ≡ true = some in cc)
some-stored holder text log (row ∷ rows) some a = lags-stored text log row.lag a.0

-- a holder's list is replaced, and the log trimmed
replaced-stands : (holder : Holder) (text : List ℕ) (s : Listed) (shelf : Shelved) → has_row holder shelf ≡ true → IsHeld text s → Stands text shelf → StandsWith text (with_sels holder s shelf) (changed_where (is_held_by holder) (other_seen text s) (lists_in text shelf))
replaced-stands holder text s shelf some held st = replaced-rows text shelf.log holder s shelf.rows (some-stored holder text shelf.log shelf.rows some st) held st

pub replaced-can : (holder : Holder) (text : List ℕ) (s : Listed) (shelf now : Shelved) → has_row holder shelf ≡ true → IsHeld text s → IsShelfOf text shelf → now ≡ with_sels holder s shelf → CanStand now
replaced-can holder text s shelf now some held st e = subst CanStand (sym e) (record { text = text; all = (replaced-stands holder text s shelf some held st.stands).stands })

pub replaced-got : (holder : Holder) (text : List ℕ) (s : Listed) (shelf now last : Shelved) → has_row holder shelf ≡ true → IsHeld text s → IsShelfOf text shelf → now ≡ with_sels holder s shelf → last ≡ trimmed_shelf now
    → Got text (changed_where (is_held_by holder) (other_seen text s) (lists_in text shelf)) last
replaced-got holder text s shelf now last some held st e t =
    subst (Got text (changed_where (is_held_by holder) (other_seen text s) (lists_in text shelf))) (sym (t ∙ ap trimmed_shelf e))
    (trimmed-got text (changed_where (is_held_by holder) (other_seen text s) (lists_in text shelf)) (with_sels holder s shelf) (replaced-stands holder text s shelf some held st.stands))

pub replaced-up : (holder : Holder) (text : List ℕ) (s : Listed) (shelf now last : Shelved) → has_row holder shelf ≡ true → IsHeld text s → IsShelfOf text shelf → now ≡ with_sels holder s shelf → last ≡ trimmed_shelf now → KeepsUp shelf last
replaced-up holder text s shelf now last some held st e t =
    subst (KeepsUp shelf) (sym (t ∙ ap trimmed_shelf e))
    (λ other up. up-trimmed text (with_sels holder s shelf) (replaced-stands holder text s shelf some held st.stands).stands other (up-replaced holder s shelf other up))

-- another main selection
pub main-there : {si : Since} (holder : Holder) (name : List ℕ) (file : Bool) (story : Story) (shelf : Shelved) (b : KeptBuffer) (n : ℕ) → buffer_kept name file story shelf si ≡ b → has_list holder b.seen ≡ true → IsUp holder b.shelf → Stands story.text shelf → n < length (list_on holder b.seen).sels.list → n < length (row_of holder shelf).lag.sels.list
main-there {si = si} holder name file story shelf b n e h up st there =
    let some : has_row holder shelf ≡ true = list-has holder name file story shelf b e h in
    let r = read-row story.text shelf.log holder (no_row holder) (fresh_list holder) shelf.rows some (up-inside holder name file story shelf b e up some) st in
    let count : length (list_on holder b.seen).sels.list ≡ length (row_of holder shelf).lag.sels.list =
    sym (ap (λ (x : KeptBuffer). length (list_on holder x.seen).sels.list) e) ∙ ap (λ (s : Selected). length s.list) (sym r.1) ∙ length-map (row_of holder shelf).lag.sels.list (range_of story.text) in
    omega (arith, there, count)

pub main-got : (holder : Holder) (text : List ℕ) (n : ℕ) (shelf now : Shelved) → has_row holder shelf ≡ true → IsUp holder shelf → n < length (row_of holder shelf).lag.sels.list → IsShelfOf text shelf → now ≡ with_main holder n shelf
    → Got text (changed_where (is_held_by holder) (main_seen n) (lists_in text shelf)) now
main-got holder text n shelf now some up there st e =
    got-of text (changed_where (is_held_by holder) (main_seen n) (lists_in text shelf)) (with_main holder n shelf) now
    (main-rows text shelf.log holder n (no_row holder) shelf.rows some (up some) there st.stands) (main-trimmed holder n shelf st.trimmed) e

-- its window stands elsewhere
pub corner-got : (holder : Holder) (text : List ℕ) (corner : Corner) (shelf now : Shelved) → IsShelfOf text shelf → now ≡ with_corner holder corner shelf → Got text (changed_where (is_held_by holder) (other_corner_seen corner) (lists_in text shelf)) now
corner-got holder text corner shelf now st e =
    got-of text (changed_where (is_held_by holder) (other_corner_seen corner) (lists_in text shelf)) (with_corner holder corner shelf) now (corner-rows text shelf.log holder corner shelf.rows st.stands) (corner-trimmed holder corner shelf st.trimmed) e

-- a holder's list is brought up to date
pub entered-got : (holder : Holder) (text : List ℕ) (shelf now : Shelved) → IsShelfOf text shelf → now ≡ entered holder shelf → Got text (lists_in text shelf) now
entered-got holder text shelf now st e = got-of text (lists_in text shelf) (entered holder shelf) now (entered-stands text holder shelf st.stands) (entered-trimmed text holder shelf st.stands) e

pub entered-up : (holder : Holder) (text : List ℕ) (shelf now : Shelved) → IsShelfOf text shelf → now ≡ entered holder shelf → IsUp holder now
entered-up holder text shelf now st e = subst (IsUp holder) (sym e) (up-entered text holder shelf st.stands).1

-- a holder's lists are taken off, and the log trimmed
pub left-can : (holder : Holder) (text : List ℕ) (shelf now : Shelved) → IsShelfOf text shelf → now ≡ unlisted holder shelf → CanStand now
left-can holder text shelf now st e = subst CanStand (sym e) (record { text = text; all = (left-rows text shelf.log holder shelf.rows st.stands).stands })

pub left-got : (holder : Holder) (text : List ℕ) (shelf now last : Shelved) → IsShelfOf text shelf → now ≡ unlisted holder shelf → last ≡ trimmed_shelf now → Got text (filter (λ list. not (is_held_by holder list)) (lists_in text shelf)) last
left-got holder text shelf now last st e t =
    subst (Got text (filter (λ list. not (is_held_by holder list)) (lists_in text shelf))) (sym (t ∙ ap trimmed_shelf e))
    (trimmed-got text (filter (λ list. not (is_held_by holder list)) (lists_in text shelf)) (unlisted holder shelf) (left-rows text shelf.log holder shelf.rows st.stands))

pub left-up : (holder : Holder) (text : List ℕ) (shelf now last : Shelved) → IsShelfOf text shelf → now ≡ unlisted holder shelf → last ≡ trimmed_shelf now → KeepsUp shelf last
left-up holder text shelf now last st e t =
    subst (KeepsUp shelf) (sym (t ∙ ap trimmed_shelf e))
    (λ other up. up-trimmed text (unlisted holder shelf) (left-rows text shelf.log holder shelf.rows st.stands).stands other (up-left holder shelf other up))

-- the list to begin with is added
added-behind : (holder : Holder) (s : Listed) (corner : Corner) (shelf : Shelved) → (added : List ShelfRow) × (listed holder s corner shelf ≡ record shelf { rows = shelf.rows ++ added })
added-behind holder s corner shelf =
    let row : ShelfRow = record { holder = holder; lag = record { stamp = stamp_of shelf.log; sels = s }; corner = corner } in
    let with_rows : List ShelfRow → Shelved = λ rows. record { limit = shelf.limit; log = shelf.log; rows = rows } in
    by_test (λ b. (added : List ShelfRow) × (with_rows (cond b shelf.rows (shelf.rows ++ row ∷ [])) ≡ with_rows (shelf.rows ++ added))) (list_any (is_of holder) shelf.rows)
    (λ _. ([], ap with_rows (sym (append-nil shelf.rows))))
    (λ _. (row ∷ [], refl))

pub added-first : (holder : Holder) (text : List ℕ) (s : Listed) (corner : Corner) (shelf now : Shelved) → IsStored text → IsHeld text s → selected text s ≡ (fresh_list holder).sels → corner ≡ (fresh_list holder).corner → IsShelfOf text shelf → now ≡ listed holder s corner shelf
    → IsListedBy (listed_for holder) text shelf now
added-first holder text s corner shelf now stored held first stands st e =
    let all = added-rows text shelf.log holder s corner shelf.rows stored held st.stands in
    let fresh : as_seen holder corner (selected text s) ≡ fresh_list holder = ap₂ (as_seen holder) stands first in
    let b = added-behind holder s corner shelf in
    subst (IsListedBy (listed_for holder) text shelf) (sym e) (record {
      added = b.0;
      behind = b.1;
      seen = λ name file story same.
          ap (λ t. with_lists name file story (lists_in t (listed holder s corner shelf))) same
          ∙ ap (with_lists name file story) (all.lists_are ∙ ap (λ h. with_row (is_held_by holder) h (lists_in text shelf)) fresh)
          ∙ ap (λ t. with_lists name file story (with_row (is_held_by holder) (fresh_list holder) (lists_in t shelf))) (sym same);
      shelf = record { stands = all.stands; trimmed = added-trimmed holder s corner shelf st.trimmed };
      up = up-added holder s corner shelf;
    })
  where
    with_lists : List ℕ → Bool → Story → List Held → Buffer
    with_lists name file story ls = record { name = name; is_file = file; story = story; lists = ls }

-- nothing is added, or one thing more
pub listed-none : (f : Buffer → Buffer) (text : List ℕ) (shelf : Shelved) → ((b : Buffer) → b ≡ f b) → IsShelfOf text shelf → IsListedBy f text shelf shelf
listed-none f text shelf same st = record {
  added = [];
  behind = ap (λ rows. let x : Shelved = record { limit = shelf.limit; log = shelf.log; rows = rows } in x) (sym (append-nil shelf.rows));
  seen = λ name file story e. same (buffer_seen name file story shelf);
  shelf = st;
  up = λ holder up. up;
}

pub listed-more : (f g h : Buffer → Buffer) (text : List ℕ) (a b c : Shelved) → ((x : Buffer) → h x ≡ g (f x)) → IsListedBy f text a b → IsListedBy g text b c → IsListedBy h text a c
listed-more f g h text a b c both l m = record {
  added = l.added ++ m.added;
  behind =
      m.behind
      ∙ ap (λ (x : Shelved). let y : Shelved = record { limit = x.limit; log = x.log; rows = x.rows ++ m.added } in y) l.behind
      ∙ ap (λ rows. let x : Shelved = record { limit = a.limit; log = a.log; rows = rows } in x) (append_assoc a.rows l.added m.added);
  seen = λ name file story e. m.seen name file story e ∙ ap g (l.seen name file story e) ∙ sym (both (buffer_seen name file story a));
  shelf = m.shelf;
  up = λ holder up. m.up holder (l.up holder up);
}

-- the same is done by another name
pub listed-as : (f g : Buffer → Buffer) (text : List ℕ) (a b : Shelved) → ((x : Buffer) → f x ≡ g x) → IsListedBy f text a b → IsListedBy g text a b
listed-as f g text a b same l = record { added = l.added; behind = l.behind; seen = λ name file story e. l.seen name file story e ∙ same (buffer_seen name file story a); shelf = l.shelf; up = l.up }

-- what was added is taken off
take-first : (xs ys : List ShelfRow) → take (length xs) (xs ++ ys) ≡ xs
take-first [] ys = refl
take-first (x ∷ xs) ys = ap (λ zs. x ∷ zs) (take-first xs ys)

pub listed-back : (f : Buffer → Buffer) (text : List ℕ) (old mid now : Shelved) (n : ℕ) → IsListedBy f text old mid → n ≡ length old.rows → now ≡ record mid { rows = take n mid.rows } → now ≡ old
listed-back f text old mid now n l e t =
    t
    ∙ ap (λ (x : Shelved). let y : Shelved = record { limit = x.limit; log = x.log; rows = take n x.rows } in y) l.behind
    ∙ ap (λ k. let y : Shelved = record { limit = old.limit; log = old.log; rows = take k (old.rows ++ l.added) } in y) e
    ∙ ap (λ rows. let y : Shelved = record { limit = old.limit; log = old.log; rows = rows } in y) (take-first old.rows l.added)

-- a buffer on whose shelf lists were added
pub listed-seen : {si : Since} (name : List ℕ) (file : Bool) (story : Story) (f : Buffer → Buffer) (text : List ℕ) (shelf now : Shelved) (b : KeptBuffer) → buffer_kept name file story shelf si ≡ b → text ≡ story.text → IsListedBy f text shelf now → buffer_seen name file story now ≡ f b.seen
listed-seen {si = si} name file story f text shelf now b e t l = l.seen name file story (sym t) ∙ ap (λ (x : KeptBuffer). f x.seen) e

pub listed-is : {T E : Type 0} (f : Buffer → Buffer) (text : List ℕ) (stored : List ℕ) (shelf now : Shelved) (r : Result T E) → text ≡ stored → OnOk r (IsListedBy f text shelf now) → OnErr r (now ≡ shelf) → IsShelfOf stored shelf → IsShelfOf stored now
listed-is f text stored shelf now (Ok x) t l e st = subst (λ s. IsShelfOf s now) t l.shelf
listed-is f text stored shelf now (Err x) t l e st = subst (IsShelfOf stored) (sym e) st
