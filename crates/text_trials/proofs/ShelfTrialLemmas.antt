-- What the trial of a shelf stands on: lists that are moved at a single change of their text are held in the text after it.
use Rattle.std.proofs.Common.{◌≡◌, ℕ, zero, suc, ◌<◌, ◌≤◌, ◌+◌, List, [], ◌∷◌, ◌++◌, length, take, drop, get_or, set, map, sym, subst, ◌∙◌, arith, take_all, length-set}
use Rattle.std.specs.List.{AllByRecursion}
use Rattle.text_model.specs.declared.coords.Shift.{Shift}
use Rattle.text_model.specs.Texts.{IsStored}
use Rattle.text_model.specs.Changes.{Change, changed, all_changed, Move, move_of, IsShift}
use Rattle.text_model.specs.Mapping.{shifted}
use Rattle.list_model.specs.Settling.{carried}
use Rattle.selection_set.specs.Listing.{Listed, ranges_of, AreInside, LowsDontFall, IsSettledIn}
use Rattle.selection_set.specs.Held.{IsHeld}
use Rattle.selection_set.proofs.HeldLemmas.{settled-held, held-order}
use Rattle.selection_map.specs.Carrying.{IsShiftStep, AllSmall}
use Rattle.selection_map.specs.Catching.{Step, AreShiftsOf}
use Rattle.list_shelf.specs.declared.holder.Holder.{Holder}
use Rattle.list_shelf.specs.declared.lag.Lag.{Lag}
use Rattle.list_shelf.specs.Shelves.{Shelved, Stands, CanFollow, entered, all_noted, with_sels, listed}
use Rattle.list_shelf.proofs.FollowLemmas.{all-noted-follows}
use Rattle.list_shelf.proofs.StandLemmas.{entered-stands, replaced-rows, added-rows}
use Rattle.window_view.specs.declared.corner.Corner.{Corner}
use Rattle.text_trials.specs.ShelfTrials.{IsOneChange, CanAllMove, StandTogether}
use Rattle.text_trials.proofs.TrialLemmas.{all-small}

one-step : (old new : List ℕ) (s : Shift) (one : IsOneChange old new s) → IsShiftStep old new s (move_of old one.change)
one-step old new s one = record {
  old_text = one.old_stored.is_text;
  new_text = one.new_stored.is_text;
  shift_is = one.shift_is;
}

one-small : (old new : List ℕ) (s : Shift) (list : Listed) → IsOneChange old new s → IsHeld old list → AllSmall list.list s
one-small old new s list one held =
    let step : Step = record { shift = s; move = move_of old one.change; text = new } in
    all-small old step list.list one.old_stored one.new_stored (one-step old new s one).shift_is held.inside

one-moved : (old new : List ℕ) (s : Shift) (before now : Listed) → IsOneChange old new s → IsHeld old before
    → ((old new : List ℕ) (m : Move) → IsShiftStep old new s m → AreInside old before.list → LowsDontFall (ranges_of old before.list) → IsSettledIn new (map (carried (shifted m)) (ranges_of old before.list)) before.main now)
    → IsHeld new now
one-moved old new s before now one held settles = settled-held new _ before.main now (settles old new (move_of old one.change) (one-step old new s one) held.inside (held-order old before held))

-- lists before the next one, and the others

all-at : {X : Type 0} (P : X → Type 0) (n : ℕ) (xs : List X) (x d : X) → n < length xs → x ≡ get_or xs n d → AllByRecursion P (drop n xs) → P x
all-at P n [] x d below e h = absurd (omega arith)
all-at P zero (y ∷ ys) x d below e h = subst P (sym e) h.0
all-at P (suc n) (y ∷ ys) x d below e h = all-at P n ys x d (omega arith) e h

front-set : {X : Type 0} (P : X → Type 0) (n : ℕ) (xs : List X) (y : X) → n < length xs → AllByRecursion P (take n xs) → P y → AllByRecursion P (take (n + 1) (set xs n y))
front-set P n [] y below h k = absurd (omega arith)
front-set P zero (x ∷ xs) y below h k = (k, tt)
front-set P (suc n) (x ∷ xs) y below h k =
    let at : suc n + 1 ≡ suc (n + 1) = omega arith in
    subst (λ m. AllByRecursion P (take m (x ∷ set xs n y))) (sym at) (h.0, front-set P n xs y (omega arith) h.1 k)

rest-set : {X : Type 0} (P : X → Type 0) (n : ℕ) (xs : List X) (y : X) → n < length xs → AllByRecursion P (drop n xs) → AllByRecursion P (drop (n + 1) (set xs n y))
rest-set P n [] y below h = absurd (omega arith)
rest-set P zero (x ∷ xs) y below h = h.1
rest-set P (suc n) (x ∷ xs) y below h =
    let at : suc n + 1 ≡ suc (n + 1) = omega arith in
    subst (λ m. AllByRecursion P (drop m (x ∷ set xs n y))) (sym at) (rest-set P n xs y (omega arith) h)

pub all-set : {X : Type 0} (P : X → Type 0) (n : ℕ) (xs : List X) (y : X) → AllByRecursion P xs → P y → AllByRecursion P (set xs n y)
all-set P n [] y h k = tt
all-set P zero (x ∷ xs) y h k = (k, h.1)
all-set P (suc n) (x ∷ xs) y h k = (h.0, all-set P n xs y h.1 k)

pub all-push : {X : Type 0} (P : X → Type 0) (xs : List X) (y : X) → AllByRecursion P xs → P y → AllByRecursion P (xs ++ y ∷ [])
all-push P [] y h k = (k, tt)
all-push P (x ∷ xs) y h k = (h.0, all-push P xs y h.1 k)

-- the lists before the n-th have moved
pub record MovedBefore (s : Shift) (before now : List Listed) (n : ℕ) : Type 0 where
  pub many : length now ≡ length before
  pub moved : (old new : List ℕ) → IsOneChange old new s → AllByRecursion (IsHeld old) before → AllByRecursion (IsHeld new) (take n now) × AllByRecursion (IsHeld old) (drop n now)

pub move-small : (s : Shift) (before now : List Listed) (n : ℕ) (list d : Listed) → CanAllMove s before → MovedBefore s before now n → n < length before → list ≡ get_or now n d → AllSmall list.list s
move-small s before now n list d c m below e = one-small c.old c.new s list c.one (all-at (IsHeld c.old) n now list d (omega (arith, m.many)) e (m.moved c.old c.new c.one c.held).1)

pub move-next : (s : Shift) (before now : List Listed) (n : ℕ) (list d to : Listed) → MovedBefore s before now n → n < length before → list ≡ get_or now n d
    → ((old new : List ℕ) (m : Move) → IsShiftStep old new s m → AreInside old list.list → LowsDontFall (ranges_of old list.list) → IsSettledIn new (map (carried (shifted m)) (ranges_of old list.list)) list.main to)
    → MovedBefore s before (set now n to) (n + 1)
move-next s before now n list d to m below e settles = record {
  many = length-set now n to ∙ m.many;
  moved = λ old new one held.
      let parts : AllByRecursion (IsHeld new) (take n now) × AllByRecursion (IsHeld old) (drop n now) = m.moved old new one held in
      let here : n < length now = omega (arith, m.many) in
      (front-set (IsHeld new) n now to here parts.0 (one-moved old new s list to one (all-at (IsHeld old) n now list d here e parts.1) settles), rest-set (IsHeld old) n now to here parts.1);
}

pub move-all : (s : Shift) (before now : List Listed) (n : ℕ) → MovedBefore s before now n → length before ≤ n → (old new : List ℕ) → IsOneChange old new s → AllByRecursion (IsHeld old) before → AllByRecursion (IsHeld new) now
move-all s before now n m past old new one held = subst (AllByRecursion (IsHeld new)) (take_all n now (omega (arith, m.many))) (m.moved old new one held).0

-- the shelf

one-of : (old new : List ℕ) (s : Shift) (one : IsOneChange old new s) → AreShiftsOf old (one.change ∷ []) (s ∷ [])
one-of old new s one = (subst IsStored one.new_is one.new_stored, subst (λ t. IsShift old t s (move_of old one.change)) one.new_is one.shift_is, tt)

pub one-follows : (old new : List ℕ) (s : Shift) (shelf : Shelved) → IsOneChange old new s → Stands old shelf → CanFollow shelf (s ∷ [])
one-follows old new s shelf one st = record { text = old; changes = one.change ∷ []; shifts_are = one-of old new s one; stands = st }

pub one-stands : (old new : List ℕ) (s : Shift) (holder : Holder) (shelf : Shelved) → IsOneChange old new s → Stands old shelf → Stands new (entered holder (all_noted (s ∷ []) shelf))
one-stands old new s holder shelf one st =
    subst (λ t. Stands t (entered holder (all_noted (s ∷ []) shelf))) (sym one.new_is)
    (entered-stands (changed old one.change) holder (all_noted (s ∷ []) shelf) (all-noted-follows old (one.change ∷ []) (s ∷ []) shelf (one-of old new s one) st).stands).stands

-- one more client with a list
pub listed-stands : (text : List ℕ) (holder : Holder) (s : Listed) (corner : Corner) (shelf : Shelved) → IsStored text → IsHeld text s → Stands text shelf → Stands text (listed holder s corner shelf)
listed-stands text holder s corner shelf h held st = (added-rows text shelf.log holder s corner shelf.rows h held st).stands

-- another list of a client
pub replaced-stands : (text : List ℕ) (holder : Holder) (s : Listed) (shelf : Shelved) → IsStored text → IsHeld text s → Stands text shelf → Stands text (with_sels holder s shelf)
replaced-stands text holder s shelf h held st = (replaced-rows text shelf.log holder s shelf.rows h held st).stands

-- a client's list is up to date
pub entered-together : (text : List ℕ) (holder : Holder) (shelf : Shelved) → Stands text shelf → Stands text (entered holder shelf)
entered-together text holder shelf st = (entered-stands text holder shelf st).stands
