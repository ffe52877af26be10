use Rattle.std.proofs.Common.{◌≡◌, ℕ, ◌+◌, ◌-◌, ◌<◌, ◌≤◌, ◌∙◌, List, ◌∷◌, length, take, drop, get_or, set, map, refl, ap, ap₂, subst, sym, arith, length-drop, take_all}
use Rattle.std.proofs.lemmas.List.{drop_more, drop_all}
use Rattle.text_model.specs.declared.coords.Shift.{Shift}
use Rattle.selection_set.specs.declared.sel.Sel.{Sel}
use Rattle.selection_map.specs.declared.walking.ShiftWay.{ShiftWay}
use Rattle.selection_map.specs.declared.walking.Walk.{Walk}
use Rattle.selection_set.specs.Listing.{Listed}
use Rattle.selection_set.proofs.HeldLemmas.{zero_sel}
use Rattle.selection_map.specs.Reaching.{through}
use Rattle.selection_map.specs.Premises.{CanWalkOver}
use Rattle.selection_map.specs.Staying.{OthersStay, StayBetween, count_moved}
use Rattle.selection_map.proofs.FrontLemmas.{mapped_front, front-length, front-at, front-step, front-stays, front-whole, front-rest, front-gap}
use Rattle.selection_map.proofs.WalkLemmas.{over-one}
use Rattle.selection_map.proofs.RunLemmas.{ready-first}
use Rattle.selection_map.proofs.StayLemmas.{inside-from, ends-from, over-later, first-moved, all-moved, next-moved}
use Rattle.selection_map.proofs.walking.walk_sels.Goals as goal

-- the selection that was read is the one that stood there at first
same_at : (f : Sel → Sel) (list now : List Sel) (n : ℕ) (at : Sel) → now ≡ mapped_front n f list → ((d : Sel) → at ≡ get_or now n d) → at ≡ get_or list n zero_sel
same_at f list now n at e g = g zero_sel ∙ ap (λ l. get_or l n zero_sel) e ∙ front-at n f list zero_sel

next_sel : (f : Sel → Sel) (list now : List Sel) (n : ℕ) (at : Sel) → n < length list → now ≡ mapped_front n f list → ((d : Sel) → at ≡ get_or now n d) → drop n list ≡ at ∷ drop (n + 1) list
next_sel f list now n at below e g = drop_more list n zero_sel below ∙ ap (λ x. x ∷ drop (n + 1) list) (sym (same_at f list now n at e g))

-- the walk can go on over the selection that was read and the others
over-at : (way : ShiftWay) (shifts : List Shift) (walk : Walk) (list now : List Sel) (n : ℕ) (at : Sel) → n < length list → now ≡ mapped_front n (through shifts) list → ((d : Sel) → at ≡ get_or now n d) → CanWalkOver way shifts walk (drop n list) → CanWalkOver way shifts walk (at ∷ drop (n + 1) list)
over-at way shifts walk list now n at below e g h = subst (CanWalkOver way shifts walk) (next_sel (through shifts) list now n at below e g) h

listed : List Sel → ℕ → Listed
listed l n = record { list = l; main = n }

pub loop-n-init : goal.loop-n-init
loop-n-init g c = record {
  front = sym (front-stays c.args.from (through c.args.shifts.now) c.args.sels.now.list c.requires.first);
  many = refl;
  main = refl;
  over = record {
    first = c.requires.can.old;
    lower = 0;
    stored = c.requires.can.can.stored;
    walking = record { ready = rw c.at_rest.ensures (ready-first c.args.way c.requires.can.old c.requires.can.steps c.args.shifts.now c.requires.can.can.stored c.requires.can.can.leads c.requires.can.can.shifts_are c.requires.can.run); few = omega arith };
    inside = inside-from c.requires.can.old c.args.from c.args.sels.now.list c.requires.can.can.inside;
    ends = ends-from c.requires.can.old 0 c.args.from c.args.sels.now.list c.requires.can.can.ends;
  };
  within = c.requires.within;
  few = omega arith;
  ends = omega (arith, first-moved c.args.shifts.now c.args.from c.args.sels.now.list c.requires.first);
  turns = omega arith;
}

-- the selections from one on are those that stood there at first
rest-is : (f : Sel → Sel) (list now : List Sel) (n : ℕ) → now ≡ mapped_front n f list → drop n now ≡ drop n list
rest-is f list now n e = ap (drop n) e ∙ front-rest n f list

between-is : (shifts : List Shift) (list now : List Sel) (n m : ℕ) → now ≡ mapped_front n (through shifts) list → StayBetween n m shifts now → StayBetween n m shifts list
between-is shifts list now n m e h = subst (λ (l : List Sel). map (through shifts) (take (m - n) l) ≡ take (m - n) l) (rest-is (through shifts) list now n e) h

pub next_to_move-next-requires-clause-over : goal.next_to_move-next-requires-clause-over
next_to_move-next-requires-clause-over g c = subst (CanWalkOver c.args.way c.args.shifts.now c.loop-n.walk) (sym (rest-is (through c.args.shifts.now) c.args.sels.now.list c.loop-n.sels.list c.loop-n.n c.loop-n.invariant.front)) c.loop-n.invariant.over

-- the next selection that may move
record IsNext (way : ShiftWay) (shifts : List Shift) (walk : Walk) (list now : List Sel) (n m : ℕ) (at : Sel) : Type 0 where
  pub below : m < length list
  pub front : now ≡ mapped_front m (through shifts) list
  pub over : CanWalkOver way shifts walk (at ∷ drop (m + 1) list)
  pub few : count_moved shifts (take (m + 1) list) ≤ count_moved shifts (take n list) + 1

is-next : (way : ShiftWay) (shifts : List Shift) (walk : Walk) (list now : List Sel) (n m : ℕ) (at : Sel) → n ≤ m → m < length list → now ≡ mapped_front n (through shifts) list → ((d : Sel) → at ≡ get_or now m d) → CanWalkOver way shifts walk (drop n list) → StayBetween n m shifts now → IsNext way shifts walk list now n m at
is-next way shifts walk list now n m at le below e g over h =
    let between : StayBetween n m shifts list = between-is shifts list now n m e h in
    let front : now ≡ mapped_front m (through shifts) list = e ∙ sym (front-gap n m (through shifts) list le between) in
    record {
      below = below;
      front = front;
      over = over-at way shifts walk list now m at below front g (over-later way shifts walk list n m le over);
      few = next-moved shifts n m list zero_sel le below between;
    }

pub walk_one-requires : goal.walk_one-requires
walk_one-requires g c =
    over-one _ _ _ _ _ (is-next c.args.way c.args.shifts.now c.loop-n.walk c.args.sels.now.list c.loop-n.sels.list c.loop-n.n c.next_to_move-next.result c.at.result c.next_to_move-next.ensures.behind (omega (arith, c.if-next-count.false, c.len-count.ensures.value)) c.loop-n.invariant.front c.at.ensures c.loop-n.invariant.over c.next_to_move-next.ensures.stay).over

pub loop-n-preserved : goal.loop-n-preserved
loop-n-preserved g c =
    let f : Sel → Sel = through c.args.shifts.now in
    let before : List Sel = c.args.sels.now.list in
    let m : ℕ = c.next_to_move-next.result in
    let next : IsNext c.args.way c.args.shifts.now c.loop-n.walk before c.loop-n.sels.list c.loop-n.n m c.at.result =
    is-next c.args.way c.args.shifts.now c.loop-n.walk before c.loop-n.sels.list c.loop-n.n m c.at.result c.next_to_move-next.ensures.behind (omega (arith, c.if-next-count.false, c.len-count.ensures.value)) c.loop-n.invariant.front c.at.ensures c.loop-n.invariant.over c.next_to_move-next.ensures.stay in
    let moved : c.walk_one.result.0 ≡ f (get_or before m zero_sel) = c.walk_one.ensures.through ∙ ap f (same_at f before c.loop-n.sels.list m c.at.result next.front c.at.ensures) in
    let front : c.put.new.self.list ≡ mapped_front (m + 1) f before =
    ap (λ (s : Listed). s.list) c.put.ensures ∙ ap (λ l. set l m c.walk_one.result.0) next.front ∙ front-step m f before c.walk_one.result.0 zero_sel next.below moved in
    record {
      front = front;
      many = ap length front ∙ front-length (m + 1) f before;
      main = ap (λ (s : Listed). s.main) c.put.ensures ∙ c.loop-n.invariant.main;
      over = c.walk_one.ensures.goes_on _ next.over;
      within = omega (arith, next.below);
      few = c.walk_one.ensures.few;
      ends = omega (arith, c.walk_one.ensures.turns, c.loop-n.invariant.ends, next.few);
      turns = omega (arith, c.walk_one.ensures.turns, c.loop-n.invariant.turns, c.next_to_move-next.ensures.behind);
    }

pub returns-then-next-count : goal.returns-then-next-count
unfolding listed
returns-then-next-count g c =
    let f : Sel → Sel = through c.args.shifts.now in
    let before : List Sel = c.args.sels.now.list in
    let m : ℕ = c.next_to_move-next.result in
    let all : length (drop c.loop-n.n before) ≤ m - c.loop-n.n = omega (arith, length-drop c.loop-n.n before, c.if-next-count.true, c.len-count.ensures.value) in
    let rest : OthersStay c.loop-n.n c.args.shifts.now before =
    subst (λ (l : List Sel). map f l ≡ l) (take_all (m - c.loop-n.n) (drop c.loop-n.n before) all) (between-is c.args.shifts.now before c.loop-n.sels.list c.loop-n.n m c.loop-n.invariant.front c.next_to_move-next.ensures.stay) in
    record {
      each = ap₂ listed (c.loop-n.invariant.front ∙ front-whole c.loop-n.n f before rest) c.loop-n.invariant.main;
      others = rest;
      ends = omega (arith, c.loop-n.invariant.ends, all-moved c.args.shifts.now c.loop-n.n before rest);
      turns = omega (arith, c.loop-n.invariant.turns, c.loop-n.invariant.few, c.loop-n.invariant.within);
    }

pub returns : goal.returns
unfolding listed
returns g c =
    let f : Sel → Sel = through c.args.shifts.now in
    let before : List Sel = c.args.sels.now.list in
    let past : length before ≤ c.loop-n.n = omega (arith, c.loop-n-test.false, c.len-count.ensures.value) in
    let rest : OthersStay c.loop-n.n c.args.shifts.now before = subst (λ (l : List Sel). map f l ≡ l) (sym (drop_all c.loop-n.n before past)) refl in
    record {
      each = ap₂ listed (c.loop-n.invariant.front ∙ front-whole c.loop-n.n f before rest) c.loop-n.invariant.main;
      others = rest;
      ends = omega (arith, c.loop-n.invariant.ends, all-moved c.args.shifts.now c.loop-n.n before rest);
      turns = omega (arith, c.loop-n.invariant.turns, c.loop-n.invariant.few, c.loop-n.invariant.within);
    }
