-- What is kept on a text that is changed follows it.
use Rattle.std.proofs.Common.{◌≡◌, ℕ, ◌+◌, ◌<◌, ◌≤◌, nat_lt, List, [], ◌∷◌, length, map, cond, refl, sym, ap, ap₂, ◌∙◌, arith}
use Rattle.std.proofs.lemmas.Bool.{lt-ltb}
use Rattle.std.proofs.lemmas.List.{length-append}
use Rattle.std.specs.declared.option.Option.{Option}
use Rattle.std.specs.Prelude.{Some, None, option_map}
use Rattle.tables.proofs.TableLemmas.{by_test}
use Rattle.text_model.specs.declared.coords.Shift.{Shift}
use Rattle.text_model.specs.Texts.{IsStored}
use Rattle.text_model.specs.Changes.{Change, changed, all_changed, move_of, IsShift}
use Rattle.list_model.specs.Ranges.{Selected}
use Rattle.selection_set.specs.Listing.{Listed}
use Rattle.selection_map.specs.Catching.{AreShiftsOf, eager_by}
use Rattle.change_list.specs.Logs.{Logged, stamp_of, fresh, pushed}
use Rattle.list_shelf.specs.declared.lag.Lag.{Lag}
use Rattle.list_shelf.specs.declared.rows.ShelfRow.{ShelfRow}
use Rattle.list_shelf.specs.Lagging.{caught, seen_by, Lags}
use Rattle.list_shelf.specs.Shelves.{Shelved, begun_again, room_made, with_shift, noted, all_noted, all_moved, lists_in, list_moved, Held, Stands, StandsWith}
use Rattle.list_shelf.proofs.CaughtLemmas.{caught-none}
use Rattle.list_shelf.proofs.LagLemmas.{seen-held, lags-stored, gone-lags, gone-seen, noted-lags, noted-seen, noted-gone, renewed-seen}
use Rattle.list_shelf.proofs.FollowLemmas.{room-stands, renewed-rows, noted-follows, all-moved-follows}
use Rattle.list_archive.specs.declared.saved.Saved.{Saved}
use Rattle.list_archive.specs.declared.saved.Saved.TheVariants.{Nothing, Same, Own}
use Rattle.list_archive.specs.Trails.{Trail, Mark, trail_with, mark_with}
use Rattle.list_archive.specs.Kept.{SavedList, KeptLists, saved_moved, kept_moved}
use Rattle.list_archive.specs.Archives.{Archived, carried, saved_carried, archive_carried, archive_room, archive_noted, list_in, saved_in, kept_in, SavedStands, ArchiveStands, KeptIs}
use Rattle.list_archive.proofs.EachLemmas.{each-trail, each-mark, each-trail_made, each-mark_made, same-trails, same-marks, twice-trails, twice-marks}
use Rattle.list_archive.proofs.OwnLemmas.{own-moves}

-- a list by its stamp and itself
abbrev lag_of : ℕ → Listed → Lag
lag_of stamp s = record { stamp = stamp; sels = s }

-- what is kept, by its parts
abbrev kept_by : Option SavedList → List (Trail Selected) → List (Mark Selected) → KeptLists
kept_by saved trails marks = record { saved = saved; trails = trails; marks = marks }

abbrev archived_by : Saved → List (Trail Lag) → List (Mark Lag) → Archived
archived_by saved trails marks = record { saved = saved; trails = trails; marks = marks }

abbrev saved_list : ℕ → Selected → Option SavedList
saved_list who sels = Some (record { who = who; sels = sels })

-- through no changes

moved-trails_none : (text : List ℕ) (ts : List (Trail Selected)) → map (trail_with (eager_by text [])) ts ≡ ts
moved-trails_none text [] = refl
moved-trails_none text (t ∷ ts) = ap₂ (λ y ys. y ∷ ys) (ap₂ (λ past ahead. let x : Trail Selected = record { who = t.who; past = past; ahead = ahead } in x) (none t.past) (none t.ahead)) (moved-trails_none text ts)
  where
    none : (ss : List Selected) → map (eager_by text []) ss ≡ ss
    none [] = refl
    none (s ∷ ss) = ap (λ ys. s ∷ ys) (none ss)

moved-marks_none : (text : List ℕ) (ms : List (Mark Selected)) → map (mark_with (eager_by text [])) ms ≡ ms
moved-marks_none text [] = refl
moved-marks_none text (m ∷ ms) = ap (λ ys. m ∷ ys) (moved-marks_none text ms)

moved-saved_none : (text : List ℕ) (s : Option SavedList) → option_map (saved_moved text []) s ≡ s
moved-saved_none text None = refl
moved-saved_none text (Some s) = refl

pub moved-none : (text : List ℕ) (k : KeptLists) → kept_moved text [] k ≡ k
moved-none text k =
    ap (λ saved. kept_by saved (map (trail_with (eager_by text [])) k.trails) (map (mark_with (eager_by text [])) k.marks)) (moved-saved_none text k.saved)
    ∙ ap₂ (kept_by k.saved) (moved-trails_none text k.trails) (moved-marks_none text k.marks)

-- one change more

moved-saved_twice : (text : List ℕ) (c : Change) (cs : List Change) (s : Option SavedList) → option_map (saved_moved (changed text c) cs) (option_map (saved_moved text (c ∷ [])) s) ≡ option_map (saved_moved text (c ∷ cs)) s
moved-saved_twice text c cs None = refl
moved-saved_twice text c cs (Some s) = refl

pub moved-twice : (text : List ℕ) (c : Change) (cs : List Change) (k : KeptLists) → kept_moved (changed text c) cs (kept_moved text (c ∷ []) k) ≡ kept_moved text (c ∷ cs) k
moved-twice text c cs k =
    ap (λ saved. kept_by saved (map (trail_with (eager_by (changed text c) cs)) (map (trail_with (eager_by text (c ∷ []))) k.trails)) (map (mark_with (eager_by (changed text c) cs)) (map (mark_with (eager_by text (c ∷ []))) k.marks))) (moved-saved_twice text c cs k.saved)
    ∙ ap₂ (kept_by (option_map (saved_moved text (c ∷ cs)) k.saved)) (twice-trails (eager_by text (c ∷ [])) (eager_by (changed text c) cs) k.trails) (twice-marks (eager_by text (c ∷ [])) (eager_by (changed text c) cs) k.marks)

-- all lists go through a log and further shifts, and stand at stamp 0 of a log that begins again

abbrev shelf_again : ℕ → List ShelfRow → Shelved
shelf_again limit rows = record { limit = limit; log = fresh; rows = rows }

pub carried-follows : (text : List ℕ) (cs : List Change) (ss : List Shift) (shelf : Shelved) (limit : ℕ) (rows : List ShelfRow) (a : Archived) → AreShiftsOf text cs ss
    → lists_in (all_changed text cs) (shelf_again limit rows) ≡ map (list_moved text cs) (lists_in text shelf) → ArchiveStands text shelf a
    → KeptIs (all_changed text cs) (shelf_again limit rows) (archive_carried shelf.log ss a) (kept_moved text cs (kept_in text shelf a))
carried-follows text cs ss shelf limit rows a k e st = record {
  stands = record {
    saved = saved-stands a.saved st.saved;
    trails = each-trail_made (Lags text shelf.log) (Lags (all_changed text cs) fresh) (carried shelf.log ss) a.trails (λ lag l. gone-lags text cs ss shelf.log lag k l) st.trails;
    marks = each-mark_made (Lags text shelf.log) (Lags (all_changed text cs) fresh) (carried shelf.log ss) a.marks (λ lag l. gone-lags text cs ss shelf.log lag k l) st.marks;
  };
  is =
      ap (λ saved. kept_by saved (map (trail_with (list_in (all_changed text cs) fresh)) (map (trail_with (carried shelf.log ss)) a.trails)) (map (mark_with (list_in (all_changed text cs) fresh)) (map (mark_with (carried shelf.log ss)) a.marks))) (saved-seen a.saved st.saved)
      ∙ ap₂ (kept_by (option_map (saved_moved text cs) (saved_in text shelf a.saved)))
      (twice-trails (carried shelf.log ss) (list_in (all_changed text cs) fresh) a.trails
      ∙ same-trails (Lags text shelf.log) (λ lag. list_in (all_changed text cs) fresh (carried shelf.log ss lag)) (λ lag. eager_by text cs (list_in text shelf.log lag)) a.trails (λ lag l. gone-seen text cs ss shelf.log lag k l) st.trails
      ∙ sym (twice-trails (list_in text shelf.log) (eager_by text cs) a.trails))
      (twice-marks (carried shelf.log ss) (list_in (all_changed text cs) fresh) a.marks
      ∙ same-marks (Lags text shelf.log) (λ lag. list_in (all_changed text cs) fresh (carried shelf.log ss lag)) (λ lag. eager_by text cs (list_in text shelf.log lag)) a.marks (λ lag l. gone-seen text cs ss shelf.log lag k l) st.marks
      ∙ sym (twice-marks (list_in text shelf.log) (eager_by text cs) a.marks));
}
  where
    saved-stands : (s : Saved) → SavedStands text shelf s → SavedStands (all_changed text cs) (shelf_again limit rows) (saved_carried shelf.log ss s)
    saved-stands Nothing h = tt
    saved-stands (Same who) h = (own-moves text (all_changed text cs) cs who shelf (shelf_again limit rows) e h).0
    saved-stands (Own who lag) h = gone-lags text cs ss shelf.log lag k h

    saved-seen : (s : Saved) → SavedStands text shelf s → saved_in (all_changed text cs) (shelf_again limit rows) (saved_carried shelf.log ss s) ≡ option_map (saved_moved text cs) (saved_in text shelf s)
    saved-seen Nothing h = refl
    saved-seen (Same who) h = ap (saved_list who) (own-moves text (all_changed text cs) cs who shelf (shelf_again limit rows) e h).1
    saved-seen (Own who lag) h = ap (saved_list who) (gone-seen text cs ss shelf.log lag k h)

pub moved-follows : (text : List ℕ) (cs : List Change) (ss : List Shift) (shelf : Shelved) (a : Archived) → AreShiftsOf text cs ss → Stands text shelf → ArchiveStands text shelf a
    → KeptIs (all_changed text cs) (all_moved ss shelf) (archive_carried shelf.log ss a) (kept_moved text cs (kept_in text shelf a))
moved-follows text cs ss shelf a k st kept = carried-follows text cs ss shelf shelf.limit (all_moved ss shelf).rows a k (all-moved-follows text cs ss shelf k st).lists_are kept

-- room is made for one shift more

again-follows : (text : List ℕ) (shelf : Shelved) (a : Archived) → Stands text shelf → ArchiveStands text shelf a → KeptIs text (begun_again shelf) (archive_carried shelf.log [] a) (kept_in text shelf a)
again-follows text shelf a st kept =
    let none : map (list_moved text []) (lists_in text shelf) ≡ lists_in text shelf = held-none text (lists_in text shelf) in
    let follows : KeptIs text (begun_again shelf) (archive_carried shelf.log [] a) (kept_moved text [] (kept_in text shelf a)) = carried-follows text [] [] shelf shelf.limit (begun_again shelf).rows a tt ((renewed-rows text shelf.log shelf.rows st).lists_are ∙ sym none) kept in
    record { stands = follows.stands; is = follows.is ∙ moved-none text (kept_in text shelf a) }
  where
    held-none : (text : List ℕ) (ls : List Held) → map (list_moved text []) ls ≡ ls
    held-none text [] = refl
    held-none text (l ∷ ls) = ap (λ xs. l ∷ xs) (held-none text ls)

pub room-follows : (text : List ℕ) (shelf : Shelved) (a : Archived) → Stands text shelf → ArchiveStands text shelf a → KeptIs text (room_made shelf) (archive_room shelf a) (kept_in text shelf a)
room-follows text shelf a st kept =
    by_test (λ b. KeptIs text (cond b shelf (begun_again shelf)) (cond b a (archive_carried shelf.log [] a)) (kept_in text shelf a)) (nat_lt (stamp_of shelf.log) shelf.limit)
    (λ _. record { stands = kept; is = refl })
    (λ _. again-follows text shelf a st kept)

-- one shift is noted

shift-follows : (text : List ℕ) (c : Change) (s : Shift) (shelf : Shelved) (a : Archived) → IsStored (changed text c) → IsShift text (changed text c) s (move_of text c)
    → lists_in (changed text c) (with_shift s shelf) ≡ map (list_moved text (c ∷ [])) (lists_in text shelf) → ArchiveStands text shelf a
    → KeptIs (changed text c) (with_shift s shelf) a (kept_moved text (c ∷ []) (kept_in text shelf a))
shift-follows text c s shelf a h i e st = record {
  stands = record {
    saved = saved-stands a.saved st.saved;
    trails = each-trail (Lags text shelf.log) (Lags (changed text c) (pushed shelf.log s)) a.trails (λ lag l. noted-lags text shelf.log lag c s h i l) st.trails;
    marks = each-mark (Lags text shelf.log) (Lags (changed text c) (pushed shelf.log s)) a.marks (λ lag l. noted-lags text shelf.log lag c s h i l) st.marks;
  };
  is =
      ap (λ saved. kept_by saved (map (trail_with (list_in (changed text c) (pushed shelf.log s))) a.trails) (map (mark_with (list_in (changed text c) (pushed shelf.log s))) a.marks)) (saved-seen a.saved st.saved)
      ∙ ap₂ (kept_by (option_map (saved_moved text (c ∷ [])) (saved_in text shelf a.saved)))
      (same-trails (Lags text shelf.log) (list_in (changed text c) (pushed shelf.log s)) (λ lag. eager_by text (c ∷ []) (list_in text shelf.log lag)) a.trails (λ lag l. noted-seen text shelf.log lag c s h i l) st.trails
      ∙ sym (twice-trails (list_in text shelf.log) (eager_by text (c ∷ [])) a.trails))
      (same-marks (Lags text shelf.log) (list_in (changed text c) (pushed shelf.log s)) (λ lag. eager_by text (c ∷ []) (list_in text shelf.log lag)) a.marks (λ lag l. noted-seen text shelf.log lag c s h i l) st.marks
      ∙ sym (twice-marks (list_in text shelf.log) (eager_by text (c ∷ [])) a.marks));
}
  where
    saved-stands : (x : Saved) → SavedStands text shelf x → SavedStands (changed text c) (with_shift s shelf) x
    saved-stands Nothing h = tt
    saved-stands (Same who) m = m
    saved-stands (Own who lag) l = noted-lags text shelf.log lag c s h i l

    saved-seen : (x : Saved) → SavedStands text shelf x → saved_in (changed text c) (with_shift s shelf) x ≡ option_map (saved_moved text (c ∷ [])) (saved_in text shelf x)
    saved-seen Nothing m = refl
    saved-seen (Same who) m = ap (saved_list who) (own-moves text (changed text c) (c ∷ []) who shelf (with_shift s shelf) e m).1
    saved-seen (Own who lag) l = ap (saved_list who) (noted-seen text shelf.log lag c s h i l)

pub noted-keeps : (text : List ℕ) (c : Change) (s : Shift) (shelf : Shelved) (a : Archived) → IsStored (changed text c) → IsShift text (changed text c) s (move_of text c) → Stands text shelf → ArchiveStands text shelf a
    → KeptIs (changed text c) (noted s shelf) (archive_room shelf a) (kept_moved text (c ∷ []) (kept_in text shelf a))
noted-keeps text c s shelf a h i st kept =
    let room : KeptIs text (room_made shelf) (archive_room shelf a) (kept_in text shelf a) = room-follows text shelf a st kept in
    let same : StandsWith text (room_made shelf) (lists_in text shelf) = room-stands text shelf st in
    let lists : StandsWith (changed text c) (noted s shelf) (map (list_moved text (c ∷ [])) (lists_in text shelf)) = noted-follows text c s shelf h i st in
    let follows : KeptIs (changed text c) (noted s shelf) (archive_room shelf a) (kept_moved text (c ∷ []) (kept_in text (room_made shelf) (archive_room shelf a))) =
    shift-follows text c s (room_made shelf) (archive_room shelf a) h i (lists.lists_are ∙ sym (ap (map (list_moved text (c ∷ []))) same.lists_are)) room.stands in
    record { stands = follows.stands; is = follows.is ∙ ap (kept_moved text (c ∷ [])) room.is }

-- all shifts are noted

pub all-noted-keeps : (text : List ℕ) (cs : List Change) (ss : List Shift) (shelf : Shelved) (a : Archived) → AreShiftsOf text cs ss → Stands text shelf → ArchiveStands text shelf a
    → KeptIs (all_changed text cs) (all_noted ss shelf) (archive_noted ss shelf a) (kept_moved text cs (kept_in text shelf a))
all-noted-keeps text [] [] shelf a k st kept = record { stands = kept; is = sym (moved-none text (kept_in text shelf a)) }
all-noted-keeps text [] (s ∷ ss) shelf a k st kept = absurd k
all-noted-keeps text (c ∷ cs) [] shelf a k st kept = absurd k
all-noted-keeps text (c ∷ cs) (s ∷ ss) shelf a k st kept =
    let lists : StandsWith (changed text c) (noted s shelf) (map (list_moved text (c ∷ [])) (lists_in text shelf)) = noted-follows text c s shelf k.0 k.1 st in
    let first : KeptIs (changed text c) (noted s shelf) (archive_room shelf a) (kept_moved text (c ∷ []) (kept_in text shelf a)) = noted-keeps text c s shelf a k.0 k.1 st kept in
    let rest : KeptIs (all_changed (changed text c) cs) (all_noted ss (noted s shelf)) (archive_noted ss (noted s shelf) (archive_room shelf a)) (kept_moved (changed text c) cs (kept_in (changed text c) (noted s shelf) (archive_room shelf a))) =
    all-noted-keeps (changed text c) cs ss (noted s shelf) (archive_room shelf a) k.2 lists.stands first.stands in
    record {
      stands = rest.stands;
      is = rest.is ∙ ap (kept_moved (changed text c) cs) first.is ∙ moved-twice text c cs (kept_in text shelf a);
    }

-- whether the first shifts are noted or not, all of them lead to the same

carried-none : (text : List ℕ) (log : Logged) (lag : Lag) → Lags text log lag → seen_by fresh (carried log [] lag) ≡ seen_by log lag
carried-none text log lag l = ap (λ s. seen_by fresh (lag_of 0 s)) (caught-none text (seen_by log lag) (lags-stored text log lag l) (seen-held text log lag l)) ∙ renewed-seen text log lag l

carried-again : (text : List ℕ) (ss : List Shift) (shelf : Shelved) (a : Archived) → ArchiveStands text shelf a → archive_carried fresh ss (archive_carried shelf.log [] a) ≡ archive_carried shelf.log ss a
carried-again text ss shelf a st =
    ap (λ saved. archived_by saved (map (trail_with (carried fresh ss)) (map (trail_with (carried shelf.log [])) a.trails)) (map (mark_with (carried fresh ss)) (map (mark_with (carried shelf.log [])) a.marks))) (saved-again a.saved st.saved)
    ∙ ap₂ (archived_by (saved_carried shelf.log ss a.saved))
    (twice-trails (carried shelf.log []) (carried fresh ss) a.trails ∙ same-trails (Lags text shelf.log) (λ lag. carried fresh ss (carried shelf.log [] lag)) (carried shelf.log ss) a.trails one st.trails)
    (twice-marks (carried shelf.log []) (carried fresh ss) a.marks ∙ same-marks (Lags text shelf.log) (λ lag. carried fresh ss (carried shelf.log [] lag)) (carried shelf.log ss) a.marks one st.marks)
  where
    one : (lag : Lag) → Lags text shelf.log lag → carried fresh ss (carried shelf.log [] lag) ≡ carried shelf.log ss lag
    one lag l = ap (λ s. lag_of 0 (caught ss s)) (carried-none text shelf.log lag l)

    saved-again : (x : Saved) → SavedStands text shelf x → saved_carried fresh ss (saved_carried shelf.log [] x) ≡ saved_carried shelf.log ss x
    saved-again Nothing h = refl
    saved-again (Same who) h = refl
    saved-again (Own who lag) h = ap (Own who) (one lag h)

pub carried-room : (text : List ℕ) (ss : List Shift) (shelf : Shelved) (a : Archived) → ArchiveStands text shelf a → archive_carried (room_made shelf).log ss (archive_room shelf a) ≡ archive_carried shelf.log ss a
carried-room text ss shelf a st =
    by_test (λ b. archive_carried (cond b shelf (begun_again shelf)).log ss (cond b a (archive_carried shelf.log [] a)) ≡ archive_carried shelf.log ss a) (nat_lt (stamp_of shelf.log) shelf.limit)
    (λ _. refl)
    (λ _. carried-again text ss shelf a st)

carried-shift : (text : List ℕ) (c : Change) (cs : List Change) (s : Shift) (ss : List Shift) (shelf : Shelved) (a : Archived) → AreShiftsOf text (c ∷ cs) (s ∷ ss) → ArchiveStands text shelf a
    → archive_carried (pushed shelf.log s) ss a ≡ archive_carried shelf.log (s ∷ ss) a
carried-shift text c cs s ss shelf a k st =
    ap (λ saved. archived_by saved (map (trail_with (carried (pushed shelf.log s) ss)) a.trails) (map (mark_with (carried (pushed shelf.log s) ss)) a.marks)) (saved-shift a.saved st.saved)
    ∙ ap₂ (archived_by (saved_carried shelf.log (s ∷ ss) a.saved))
    (same-trails (Lags text shelf.log) (carried (pushed shelf.log s) ss) (carried shelf.log (s ∷ ss)) a.trails one st.trails)
    (same-marks (Lags text shelf.log) (carried (pushed shelf.log s) ss) (carried shelf.log (s ∷ ss)) a.marks one st.marks)
  where
    one : (lag : Lag) → Lags text shelf.log lag → carried (pushed shelf.log s) ss lag ≡ carried shelf.log (s ∷ ss) lag
    one lag l = ap (lag_of 0) (noted-gone text c cs s ss shelf.log lag k l)

    saved-shift : (x : Saved) → SavedStands text shelf x → saved_carried (pushed shelf.log s) ss x ≡ saved_carried shelf.log (s ∷ ss) x
    saved-shift Nothing h = refl
    saved-shift (Same who) h = refl
    saved-shift (Own who lag) h = ap (Own who) (one lag h)

pub carried-noted : (text : List ℕ) (cs : List Change) (s : Shift) (ss : List Shift) (shelf : Shelved) (a : Archived) → AreShiftsOf text cs (s ∷ ss) → Stands text shelf → ArchiveStands text shelf a
    → archive_carried (noted s shelf).log ss (archive_room shelf a) ≡ archive_carried shelf.log (s ∷ ss) a
carried-noted text [] s ss shelf a k st kept = absurd k
carried-noted text (c ∷ cs) s ss shelf a k st kept =
    carried-shift text c cs s ss (room_made shelf) (archive_room shelf a) k (room-follows text shelf a st kept).stands
    ∙ carried-room text (s ∷ ss) shelf a kept

-- while the log has room

pub fills : (ss : List Shift) (shelf : Shelved) (a : Archived) → stamp_of shelf.log + length ss ≤ shelf.limit → archive_noted ss shelf a ≡ a
fills [] shelf a h = refl
fills (s ∷ ss) shelf a h =
    let below : stamp_of shelf.log < shelf.limit = omega (arith, h) in
    let more : stamp_of (with_shift s shelf).log + length ss ≤ shelf.limit = omega (arith, h, length-append shelf.log.shifts (s ∷ [])) in
    ap (λ b. archive_noted ss (with_shift s (cond b shelf (begun_again shelf))) (cond b a (archive_carried shelf.log [] a))) (lt-ltb (stamp_of shelf.log) shelf.limit below)
    ∙ fills ss (with_shift s shelf) a more
