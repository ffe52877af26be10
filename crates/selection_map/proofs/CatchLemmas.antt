-- A list that goes through shifts in parts, and what it is when it has caught up.
use Rattle.std.proofs.Common.{◌≡◌, ℕ, zero, suc, ◌<◌, ◌≤◌, ◌+◌, List, [], ◌∷◌, take, drop, map, refl, sym, ap, ap₂, subst, subst₂, ◌∙◌, arith}
use Rattle.std.specs.List.{AllByRecursion}
use Rattle.std.proofs.lemmas.List.{length-map}
use Rattle.text_model.specs.declared.coords.Coord.{Coord}
use Rattle.text_model.specs.declared.coords.Shift.{Shift}
use Rattle.text_model.specs.Texts.{IsStored}
use Rattle.text_model.specs.Changes.{Move}
use Rattle.text_model.specs.Mapping.{shifted}
use Rattle.text_model.proofs.MappingLemmas.{shifted-mono}
use Rattle.list_model.specs.Ranges.{Range, Selected, IsRange}
use Rattle.list_model.specs.Settling.{each_settled, carried}
use Rattle.list_model.specs.Settled.{AreApart, IsSettled, IsSettledList}
use Rattle.list_model.specs.Moving.{all_shifted, moved_at_once, IsMove}
use Rattle.list_model.proofs.ListLemmas.{all_weaker}
use Rattle.list_model.proofs.MoveLemmas.{moved_at_once-each, each_settled-settles, each_settled-twice, shifted-keeps, all_shifted-keeps, is_settled_list, map_twice, ranges-map}
use Rattle.selection_set.specs.declared.sel.Sel.{Sel}
use Rattle.selection_set.specs.Listing.{Listed, ranges_of, AreInside, LowsDontFall, IsSettledIn}
use Rattle.selection_set.specs.Held.{selected}
use Rattle.selection_set.proofs.HeldLemmas.{settled-held, selected-is}
use Rattle.selection_map.specs.declared.walking.ShiftWay.{ShiftWay}
use Rattle.selection_map.specs.Carrying.{IsShiftStep}
use Rattle.selection_map.specs.Rebasing.{mapped, mapped_sel}
use Rattle.selection_map.specs.Reaching.{all_mapped, through}
use Rattle.selection_map.specs.Walking.{IsRun}
use Rattle.selection_map.specs.Catching.{Step, Lead, text_after, shifts_of, moves_of, CanCatchUp, IsCatchable, eager, IsCaughtUp}
use Rattle.selection_map.specs.Premises.{EndsRise, CanGo, CanGoOn, CanWalk}
use Rattle.selection_map.proofs.BothLemmas.{ordered-by}
use Rattle.selection_map.proofs.ListLemmas.{mapped-inside, mapped-ranges}
use Rattle.selection_map.proofs.RisingLemmas.{step-of}

-- selections through shifts, in two parts

take-none : (k : ℕ) → take {A = Shift} k [] ≡ []
take-none zero = refl
take-none (suc k) = refl

mapped-more : (n k : ℕ) (shifts : List Shift) (at : Coord) → all_mapped (take k (drop n shifts)) (all_mapped (take n shifts) at) ≡ all_mapped (take (n + k) shifts) at
mapped-more zero k shifts at = let e : k ≡ 0 + k = omega arith in ap (λ j. all_mapped (take j shifts) at) e
mapped-more (suc n) k [] at = ap (λ l. all_mapped l at) (take-none k ∙ sym (take-none (suc n + k)))
mapped-more (suc n) k (s ∷ ss) at = let e : suc (n + k) ≡ suc n + k = omega arith in mapped-more n k ss (mapped s at) ∙ ap (λ j. all_mapped (take j (s ∷ ss)) at) e

pub list-more : (n k : ℕ) (shifts : List Shift) (list : List Sel) → map (through (take k (drop n shifts))) (map (through (take n shifts)) list) ≡ map (through (take (n + k) shifts)) list
list-more n k shifts [] = refl
list-more n k shifts (x ∷ xs) =
    let P : Coord → Coord → Sel = λ a b. record { low = a; high = b; turned = x.turned; target = x.target } in
    ap₂ (λ y ys. y ∷ ys) (ap₂ P (mapped-more n k shifts x.low) (mapped-more n k shifts x.high)) (list-more n k shifts xs)

pub list-none : (list : List Sel) → map (through []) list ≡ list
list-none [] = refl
list-none (x ∷ xs) = ap (λ t. x ∷ t) (list-none xs)

list-first : (s : Shift) (ss : List Shift) (list : List Sel) → map (through ss) (map (mapped_sel s) list) ≡ map (through (s ∷ ss)) list
list-first s ss [] = refl
list-first s ss (x ∷ xs) = ap (λ t. through (s ∷ ss) x ∷ t) (list-first s ss xs)

-- ends in order

ends-mapped : (f : ℕ → ℕ) → ((a b : ℕ) → a ≤ b → f a ≤ f b) → (from : ℕ) (rs : List Range) → EndsRise from rs → EndsRise (f from) (map (carried f) rs)
ends-mapped f k from [] h = tt
ends-mapped f k from (r ∷ rs) h = (k from r.low h.0, k r.low r.high h.1, ends-mapped f k r.high rs h.2)

pub ends-weaker : (a b : ℕ) (rs : List Range) → b ≤ a → EndsRise a rs → EndsRise b rs
ends-weaker a b [] le h = tt
ends-weaker a b (r ∷ rs) le h = (omega (arith, h.0), h.1, h.2)

ends-behind : (from : ℕ) (rs : List Range) → EndsRise from rs → AllByRecursion (λ (s : Range). from ≤ s.low) rs
ends-behind from [] h = tt
ends-behind from (r ∷ rs) h = (h.0, all_weaker (λ (s : Range). r.high ≤ s.low) (λ (s : Range). from ≤ s.low) (λ s l. omega (arith, h.0, h.1)) rs (ends-behind r.high rs h.2))

ends-lows : (from : ℕ) (rs : List Range) → EndsRise from rs → LowsDontFall rs
ends-lows from [] h = tt
ends-lows from (r ∷ rs) h = (all_weaker (λ (s : Range). r.high ≤ s.low) (λ (s : Range). r.low ≤ s.low) (λ s l. omega (arith, h.1)) rs (ends-behind r.high rs h.2), ends-lows r.high rs h.2)

apart-ends : (from : ℕ) (rs : List Range) → AllByRecursion (λ (s : Range). from ≤ s.low) rs → AllByRecursion IsRange rs → AreApart rs → EndsRise from rs
apart-ends from [] b r a = tt
apart-ends from (x ∷ xs) b r a = (b.0, r.0, apart-ends x.high xs (all_weaker (λ (s : Range). x.high < s.low) (λ (s : Range). x.high ≤ s.low) (λ s l. omega arith) xs a.0) r.1 a.1)

-- a list that is held can go on
held-go : (old : List ℕ) (steps : List Step) (shifts : List Shift) (s : Listed) → CanCatchUp old steps shifts s → CanGo old steps shifts s.list
held-go old steps shifts s c = record {
  stored = c.stored;
  leads = c.leads;
  shifts_are = c.shifts_are;
  inside = c.held.inside;
  ends = apart-ends 0 (ranges_of old s.list) (all_weaker IsRange (λ (r : Range). 0 ≤ r.low) (λ r l. omega arith) (ranges_of old s.list) c.held.settled.ranges) c.held.settled.ranges c.held.settled.apart;
}

-- through one step
go-step : (old : List ℕ) (st : Step) (sts : List Step) (list : List Sel) → CanGo old (st ∷ sts) (shifts_of (st ∷ sts)) list → CanGo st.text sts (shifts_of sts) (map (mapped_sel st.shift) list)
go-step old st sts list c =
    let step : IsShiftStep old st.text st.shift st.move = step-of old st c.stored c.leads.0 in
    let mono : (a b : ℕ) → a ≤ b → shifted st.move a ≤ shifted st.move b = λ a b le. shifted-mono st.move a b (ordered-by st.move.insert old st.text st.move.begin st.move.end c.leads.0.shift_is.change) le in
    let ends : EndsRise 0 (map (carried (shifted st.move)) (ranges_of old list)) = ends-weaker (shifted st.move 0) 0 (map (carried (shifted st.move)) (ranges_of old list)) (omega arith) (ends-mapped (shifted st.move) mono 0 (ranges_of old list) c.ends) in
    record {
      stored = c.leads.0.stored;
      leads = c.leads.1;
      shifts_are = refl;
      inside = mapped-inside old st.text st.shift st.move list step c.inside;
      ends = subst (EndsRise 0) (sym (mapped-ranges old st.text st.shift st.move list step c.inside)) ends;
    }

-- through the first steps
go-steps : (n : ℕ) (old : List ℕ) (steps : List Step) (list : List Sel) → CanGo old steps (shifts_of steps) list → CanGo (text_after old (take n steps)) (drop n steps) (drop n (shifts_of steps)) (map (through (take n (shifts_of steps))) list)
go-steps zero old steps list c = subst (CanGo old steps (shifts_of steps)) (sym (list-none list)) c
go-steps (suc n) old [] list c = subst (CanGo old [] []) (sym (list-none list)) c
go-steps (suc n) old (st ∷ sts) list c =
    subst (CanGo (text_after st.text (take n sts)) (drop n sts) (drop n (shifts_of sts))) (list-first st.shift (take n (shifts_of sts)) list) (go-steps n st.text sts (map (mapped_sel st.shift) list) (go-step old st sts list c))

-- through all of them
go-all : (old : List ℕ) (steps : List Step) (list : List Sel) → CanGo old steps (shifts_of steps) list → CanGo (text_after old steps) [] [] (map (through (shifts_of steps)) list)
go-all old [] list c = subst (CanGo old [] []) (sym (list-none list)) c
go-all old (st ∷ sts) list c = subst (CanGo (text_after st.text sts) [] []) (list-first st.shift (shifts_of sts) list) (go-all st.text sts (map (mapped_sel st.shift) list) (go-step old st sts list c))

go-by : (old : List ℕ) (steps : List Step) (shifts : List Shift) (list : List Sel) → CanGo old steps shifts list → CanGo old steps (shifts_of steps) list
go-by old steps shifts list c = record { stored = c.stored; leads = c.leads; shifts_are = refl; inside = c.inside; ends = c.ends }

-- what a run of the walk needs
pub can-go-on : (shifts : List Shift) (s : Listed) (n : ℕ) (list : List Sel) → IsCatchable shifts s → list ≡ map (through (take n shifts)) s.list → CanGoOn (drop n shifts) list
can-go-on shifts s n list c e =
    let P : List Shift → Type 0 = λ l. CanGo (text_after c.old (take n c.steps)) (drop n c.steps) (drop n l) (map (through (take n l)) s.list) in
    let split : CanGo (text_after c.old (take n c.steps)) (drop n c.steps) (drop n shifts) (map (through (take n shifts)) s.list) =
    subst P (sym c.can.shifts_are) (go-steps n c.old c.steps s.list (go-by c.old c.steps shifts s.list (held-go c.old c.steps shifts s c.can))) in
    record {
      old = text_after c.old (take n c.steps);
      steps = drop n c.steps;
      can = subst (CanGo (text_after c.old (take n c.steps)) (drop n c.steps) (drop n shifts)) (sym e) split;
    }

lead-take : (n : ℕ) (old : List ℕ) (steps : List Step) → Lead old steps → Lead old (take n steps)
lead-take zero old steps l = tt
lead-take (suc n) old [] l = tt
lead-take (suc n) old (st ∷ sts) l = (l.0, lead-take n st.text sts l.1)

shifts-take : (n : ℕ) (steps : List Step) → take n (shifts_of steps) ≡ shifts_of (take n steps)
shifts-take zero steps = refl
shifts-take (suc n) [] = refl
shifts-take (suc n) (st ∷ sts) = ap (λ t. st.shift ∷ t) (shifts-take n sts)

pub can-walk : (way : ShiftWay) (shifts : List Shift) (n : ℕ) (list : List Sel) → CanGoOn shifts list → IsRun way (take n shifts) → CanWalk way (take n shifts) list
can-walk way shifts n list c r = record {
  old = c.old;
  steps = take n c.steps;
  can = record { stored = c.can.stored; leads = lead-take n c.old c.steps c.can.leads; shifts_are = ap (take n) c.can.shifts_are ∙ shifts-take n c.steps; inside = c.can.inside; ends = c.can.ends };
  run = r;
}

-- the ranges are carried

carried-none : (rs : List Range) → map (carried (all_shifted [])) rs ≡ rs
carried-none [] = refl
carried-none (r ∷ rs) = ap (λ t. r ∷ t) (carried-none rs)

ranges-through : (old : List ℕ) (steps : List Step) (list : List Sel) → IsStored old → Lead old steps → AreInside old list → ranges_of (text_after old steps) (map (through (shifts_of steps)) list) ≡ map (carried (all_shifted (moves_of steps))) (ranges_of old list)
ranges-through old [] list h l i = ap (ranges_of old) (list-none list) ∙ sym (carried-none (ranges_of old list))
ranges-through old (st ∷ sts) list h l i =
    let step : IsShiftStep old st.text st.shift st.move = step-of old st h l.0 in
    ap (ranges_of (text_after st.text sts)) (sym (list-first st.shift (shifts_of sts) list))
    ∙ ranges-through st.text sts (map (mapped_sel st.shift) list) l.0.stored l.1 (mapped-inside old st.text st.shift st.move list step i)
    ∙ ap (map (carried (all_shifted (moves_of sts)))) (mapped-ranges old st.text st.shift st.move list step i)
    ∙ map_twice (shifted st.move) (all_shifted (moves_of sts)) (ranges_of old list)

moves-are : (old : List ℕ) (steps : List Step) → Lead old steps → AllByRecursion IsMove (moves_of steps)
moves-are old [] l = tt
moves-are old (st ∷ sts) l = (ordered-by st.move.insert old st.text st.move.begin st.move.end l.0.shift_is.change, moves-are st.text sts l.1)

-- settling at each change is settling once at the end
pub eager-once : (ms : List Move) (s : Selected) → AllByRecursion IsMove ms → IsSettledList s → eager ms s ≡ moved_at_once ms s
eager-once [] s a h = moved_at_once-each [] s a h
eager-once (m ∷ ms) s a h =
    let u : Selected = each_settled (carried (shifted m)) s in
    let settles : IsSettled (map (carried (shifted m)) s.list) s.main u.list u.main = each_settled-settles (shifted m) (shifted-keeps m a.0) s h in
    eager-once ms u a.1 (is_settled_list (map (carried (shifted m)) s.list) u.list s.main u.main settles)
    ∙ each_settled-twice (shifted m) (all_shifted ms) (shifted-keeps m a.0) (all_shifted-keeps ms a.1) s h

-- the list that went through all shifts, settled, has caught up
pub caught-up : (old : List ℕ) (steps : List Step) (shifts : List Shift) (before at now : Listed) → at.list ≡ map (through shifts) before.list → at.main ≡ before.main
    → ((text : List ℕ) → AreInside text at.list → LowsDontFall (ranges_of text at.list) → IsSettledIn text (ranges_of text at.list) at.main now)
    → CanCatchUp old steps shifts before → IsCaughtUp old steps before now
caught-up old steps shifts before at now e g settles c = record {
  held = settled-held text given.list before.main now settled_in;
  moved =
      selected-is text given now (ranges-map (all_shifted moves) (all_shifted-keeps moves ordered) (ranges_of old before.list) c.held.settled.ranges) (omega (arith, c.held.settled.main_is, length-map (ranges_of old before.list) (carried (all_shifted moves)))) settled_in
      ∙ sym (eager-once moves (selected old before) ordered c.held.settled);
}
  where
    text : List ℕ
    text = text_after old steps

    moves : List Move
    moves = moves_of steps

    ordered : AllByRecursion IsMove (moves_of steps)
    ordered = moves-are old steps c.leads

    given : Selected
    given = record { list = map (carried (all_shifted (moves_of steps))) (ranges_of old before.list); main = before.main }

    all : CanGo (text_after old steps) [] [] (map (through (shifts_of steps)) before.list)
    all = go-all old steps before.list (go-by old steps shifts before.list (held-go old steps shifts before c))

    list : at.list ≡ map (through (shifts_of steps)) before.list
    list = e ∙ ap (λ l. map (through l) before.list) c.shifts_are

    settled_in : IsSettledIn (text_after old steps) (map (carried (all_shifted (moves_of steps))) (ranges_of old before.list)) before.main now
    settled_in =
        let P : List Sel → ℕ → Type 0 = λ l n. AreInside (text_after old steps) l → LowsDontFall (ranges_of (text_after old steps) l) → IsSettledIn (text_after old steps) (ranges_of (text_after old steps) l) n now in
        let whole : IsSettledIn (text_after old steps) (ranges_of (text_after old steps) (map (through (shifts_of steps)) before.list)) before.main now =
        subst₂ P list g (settles (text_after old steps)) all.inside (ends-lows 0 (ranges_of (text_after old steps) (map (through (shifts_of steps)) before.list)) all.ends) in
        subst (λ rs. IsSettledIn (text_after old steps) rs before.main now) (ranges-through old steps before.list c.stored c.leads c.held.inside) whole
