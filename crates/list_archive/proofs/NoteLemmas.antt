-- Shifts that are noted one after another, on a shelf and beside it.
use Rattle.std.proofs.Common.{◌≡◌, ◌+◌, ◌<◌, ◌≤◌, true, false, List, [], ◌∷◌, cond, sym, ap, ap₂, subst, ◌∙◌, arith}
use Rattle.std.proofs.lemmas.Bool.{leb-true, leb-false, lt-ltb, le-ltb}
use Rattle.text_model.specs.declared.coords.Shift.{Shift}
use Rattle.text_model.specs.Changes.{Change, changed}
use Rattle.selection_map.specs.Catching.{AreShiftsOf}
use Rattle.change_list.specs.Logs.{Logged, stamp_of}
use Rattle.list_shelf.specs.declared.lag.Lag.{Lag}
use Rattle.list_shelf.specs.Lagging.{Lags}
use Rattle.list_shelf.specs.declared.holder.Holder.{Holder}
use Rattle.list_shelf.specs.Shelves.{Shelved, has_room, brought_up, room_made, noted, all_moved, CanStand, CanFollow}
use Rattle.list_shelf.proofs.FollowLemmas.{room-stands, noted-follows, moved-room}
use Rattle.list_shelf.proofs.StandLemmas.{brought-rows}
use Rattle.list_archive.specs.declared.saved.Saved.{Saved}
use Rattle.list_archive.specs.declared.saved.Saved.TheVariants.{Nothing, Same, Own}
use Rattle.list_archive.specs.Archives.{Archived, archive_carried, archive_room, archive_noted, SavedStands, IsCarriable, IsSavedCarriable, IsArchiveCarriable, CanStandWith, CanFollowWith}
use Rattle.list_archive.proofs.EachLemmas.{each-trail, each-mark}
use Rattle.list_archive.proofs.FollowLemmas.{room-follows, noted-keeps, carried-noted, carried-room}
use Rattle.list_archive.proofs.TrimLemmas.{brought-keeps}

-- what can follow can stand, and its parts can

pub with-stands : (shelf : Shelved) (a : Archived) (ss : List Shift) → CanFollowWith shelf a ss → CanStandWith shelf a
with-stands shelf a ss can = record { text = can.text; shelf_stands = can.shelf_stands; stands = can.stands }

pub shelf-stands : (shelf : Shelved) (a : Archived) → CanStandWith shelf a → CanStand shelf
shelf-stands shelf a can = record { text = can.text; all = can.shelf_stands }

pub shelf-follows : (shelf : Shelved) (a : Archived) (ss : List Shift) → CanFollowWith shelf a ss → CanFollow shelf ss
shelf-follows shelf a ss can = record { text = can.text; changes = can.changes; shifts_are = can.shifts_are; stands = can.shelf_stands }

pub room-with : (shelf : Shelved) (a : Archived) (ss : List Shift) → CanFollowWith shelf a ss → CanFollowWith (room_made shelf) (archive_room shelf a) ss
room-with shelf a ss can = record {
  text = can.text;
  changes = can.changes;
  shifts_are = can.shifts_are;
  shelf_stands = (room-stands can.text shelf can.shelf_stands).stands;
  stands = (room-follows can.text shelf a can.shelf_stands can.stands).stands;
}

-- all of it can go through the log and the shifts
pub archive-carriable : (shelf : Shelved) (a : Archived) (ss : List Shift) → CanFollowWith shelf a ss → IsArchiveCarriable shelf.log ss a
archive-carriable shelf a ss can = record {
  saved = saved a.saved can.stands.saved;
  trails = each-trail (Lags can.text shelf.log) (IsCarriable shelf.log ss) a.trails one can.stands.trails;
  marks = each-mark (Lags can.text shelf.log) (IsCarriable shelf.log ss) a.marks one can.stands.marks;
}
  where
    one : (lag : Lag) → Lags can.text shelf.log lag → IsCarriable shelf.log ss lag
    one lag l = record { text = can.text; changes = can.changes; shifts_are = can.shifts_are; lags = l }

    saved : (s : Saved) → SavedStands can.text shelf s → IsSavedCarriable shelf.log ss s
    saved Nothing h = tt
    saved (Same who) h = tt
    saved (Own who lag) h = one lag h

-- for a log that begins again
pub again-carriable : (shelf : Shelved) (a : Archived) → CanStandWith shelf a → IsArchiveCarriable shelf.log [] a
again-carriable shelf a can = archive-carriable shelf a [] (record { text = can.text; changes = []; shifts_are = tt; shelf_stands = can.shelf_stands; stands = can.stands })

-- the first of some shifts was noted, and the others are to come

first-noted : (shelf : Shelved) (a : Archived) (s : Shift) (others : List Shift) → CanFollowWith shelf a (s ∷ others) → CanFollowWith (noted s shelf) (archive_room shelf a) others
first-noted shelf a s others can = by can.changes can.shifts_are
  where
    by : (cs : List Change) → AreShiftsOf can.text cs (s ∷ others) → CanFollowWith (noted s shelf) (archive_room shelf a) others
    by [] k = absurd k
    by (c ∷ cs) k = record {
      text = changed can.text c;
      changes = cs;
      shifts_are = k.2;
      shelf_stands = (noted-follows can.text c s shelf k.0 k.1 can.shelf_stands).stands;
      stands = (noted-keeps can.text c s shelf a k.0 k.1 can.shelf_stands can.stands).stands;
    }

pub next-with : (shelf next : Shelved) (a b : Archived) (rest others : List Shift) (s : Shift) → rest ≡ s ∷ others → next ≡ noted s shelf → b ≡ archive_room shelf a → CanFollowWith shelf a rest → CanFollowWith next b others
next-with shelf next a b rest others s r e f can =
    subst (λ (x : Shelved). CanFollowWith x b others) (sym e)
    (subst (λ (y : Archived). CanFollowWith (noted s shelf) y others) (sym f) (first-noted shelf a s others (subst (CanFollowWith shelf a) r can)))

pub next-kept_noted : (shelf next : Shelved) (a b whole : Archived) (rest others : List Shift) (s : Shift) → rest ≡ s ∷ others → next ≡ noted s shelf → b ≡ archive_room shelf a → archive_noted rest shelf a ≡ whole → archive_noted others next b ≡ whole
next-kept_noted shelf next a b whole rest others s r e f so_far =
    ap₂ (archive_noted others) e f ∙ sym (ap (λ l. archive_noted l shelf a) r) ∙ so_far

pub next-kept_moved : (shelf next : Shelved) (a b whole : Archived) (rest others : List Shift) (s : Shift) → rest ≡ s ∷ others → next ≡ noted s shelf → b ≡ archive_room shelf a → CanFollowWith shelf a rest → archive_carried shelf.log rest a ≡ whole → archive_carried next.log others b ≡ whole
next-kept_moved shelf next a b whole rest others s r e f can so_far =
    ap₂ (λ (x : Shelved) (y : Archived). archive_carried x.log others y) e f
    ∙ carried-noted can.text can.changes s others shelf a (subst (AreShiftsOf can.text can.changes) r can.shifts_are) can.shelf_stands can.stands
    ∙ sym (ap (λ l. archive_carried shelf.log l a) r)
    ∙ so_far

-- whether there is room for one shift more

pub one-fits : (shelf : Shelved) → has_room 1 shelf ≡ true → stamp_of shelf.log < shelf.limit
one-fits shelf h = let n : stamp_of shelf.log + 1 ≤ shelf.limit = leb-true (stamp_of shelf.log + 1) shelf.limit h in omega (arith, n)

pub none-fits : (shelf : Shelved) → has_room 1 shelf ≡ false → shelf.limit ≤ stamp_of shelf.log
none-fits shelf h = let n : shelf.limit < stamp_of shelf.log + 1 = leb-false (stamp_of shelf.log + 1) shelf.limit h in omega (arith, n)

pub kept-there : (shelf : Shelved) (a : Archived) → stamp_of shelf.log < shelf.limit → a ≡ archive_room shelf a
kept-there shelf a h = ap (λ b. cond b a (archive_carried shelf.log [] a)) (sym (lt-ltb (stamp_of shelf.log) shelf.limit h))

pub kept-again : (shelf : Shelved) (a : Archived) → shelf.limit ≤ stamp_of shelf.log → archive_carried shelf.log [] a ≡ archive_room shelf a
kept-again shelf a h = ap (λ b. cond b a (archive_carried shelf.log [] a)) (sym (le-ltb (stamp_of shelf.log) shelf.limit h))

-- a shift that can't be noted

pub wanting-can : (shelf next : Shelved) (a b : Archived) (ss : List Shift) → next ≡ room_made shelf → b ≡ archive_room shelf a → CanFollowWith shelf a ss → CanFollowWith next b ss
wanting-can shelf next a b ss e f can =
    subst (λ (x : Shelved). CanFollowWith x b ss) (sym e) (subst (λ (y : Archived). CanFollowWith (room_made shelf) y ss) (sym f) (room-with shelf a ss can))

pub wanting-shelf : (shelf next after : Shelved) (a : Archived) (ss : List Shift) → after ≡ all_moved ss next → next ≡ room_made shelf → CanFollowWith shelf a ss → after ≡ all_moved ss shelf
wanting-shelf shelf next after a ss e f can = e ∙ ap (all_moved ss) f ∙ moved-room can.text ss shelf can.shelf_stands

pub wanting-kept : (shelf next : Shelved) (a b after : Archived) (log : Logged) (ss : List Shift) → after ≡ archive_carried log ss b → log ≡ next.log → next ≡ room_made shelf → b ≡ archive_room shelf a → CanFollowWith shelf a ss
    → after ≡ archive_carried shelf.log ss a
wanting-kept shelf next a b after log ss e f g h can =
    e
    ∙ ap (λ l. archive_carried l ss b) (f ∙ ap (λ (s : Shelved). s.log) g)
    ∙ ap (archive_carried (room_made shelf).log ss) h
    ∙ carried-room can.text ss shelf a can.stands

-- a shelf on which a list was brought up to date

pub brought-with : (holder : Holder) (shelf next : Shelved) (a : Archived) → next ≡ brought_up holder shelf → CanStandWith shelf a → CanStandWith next a
brought-with holder shelf next a e can =
    subst (λ (x : Shelved). CanStandWith x a) (sym e)
    (record {
      text = can.text;
      shelf_stands = (brought-rows can.text shelf.log holder shelf.rows can.shelf_stands).stands;
      stands = (brought-keeps can.text holder shelf a can.shelf_stands can.stands).stands;
    })
