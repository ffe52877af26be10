-- Selections that stand each behind a step of its own, through falling steps behind that, from the last to the first.
use Rattle.std.proofs.Common.{◌≡◌, ℕ, zero, suc, ◌<◌, ◌≤◌, min, true, List, [], ◌∷◌, length, take, drop, get_or, set, refl, sym, ap, ap₂, subst, subst₂, ◌∙◌, arith, leb-true}
use Rattle.text_model.specs.declared.coords.Coord.{Coord}
use Rattle.text_model.specs.declared.coords.Shift.{Shift}
use Rattle.text_model.specs.Coords.{is_at_most}
use Rattle.text_model.specs.Texts.{IsStored, IsPlace, offset, coord_at}
use Rattle.text_model.proofs.PlaceLemmas.{offset-below, coord_at-offset, leb_true}
use Rattle.selection_set.specs.declared.sel.Sel.{Sel}
use Rattle.selection_map.specs.declared.reach.ShiftReach.{ShiftReach}
use Rattle.selection_map.specs.declared.walking.ShiftWay.{ShiftWay}
use Rattle.selection_map.specs.declared.walking.ShiftWay.TheVariants.{Falling}
use Rattle.selection_map.specs.Carrying.{IsSmall}
use Rattle.selection_map.specs.Rebasing.{earlier}
use Rattle.selection_map.specs.Reaching.{goes, at_rest, reach_of, then_on, all_mapped, through}
use Rattle.selection_map.specs.Bounds.{IsSmallReach}
use Rattle.selection_map.specs.Walking.{IsRun}
use Rattle.selection_map.specs.Catching.{Step, LeadsOn, Lead, text_after, shifts_of}
use Rattle.selection_map.specs.Premises.{ReachStands, text_behind, IsFalling}
use Rattle.selection_map.specs.Behind.{AreFalling, each_through_rest, both_go, LiesBehind, LieBehind, StandBehind}
use Rattle.selection_map.proofs.CarryLemmas.{order-coords, earlier-min}
use Rattle.selection_map.proofs.SmallLemmas.{place-small}
use Rattle.selection_map.proofs.ShiftLemmas.{IsWayOf, shift-way}
use Rattle.selection_map.proofs.RisingLemmas.{step-of}
use Rattle.selection_map.proofs.FallingLemmas.{falling-none, falling-step, falling-first}
use Rattle.selection_map.proofs.WalkLemmas.{ready-small, step-small}

-- one more step in front of those that were passed

none-behind : (first : List ℕ) (steps : List Step) → [] ≡ shifts_of steps → text_behind first steps ≡ first
none-behind first [] e = refl
none-behind first (st ∷ sts) e = absurd (nothing e)
  where
    nothing : [] ≡ st.shift ∷ shifts_of sts → ⊥
    nothing k = cc

-- where a step begins, or ends the text, in the text behind it
bound-at : (old : List ℕ) (st : Step) → IsStored old → LeadsOn old st → earlier st.shift.begin st.shift.last ≡ coord_at st.text (min st.move.begin st.move.last)
bound-at old st h l =
    let way : IsWayOf old st.text st.shift st.move = shift-way old st.text st.shift st.move (step-of old st h l) in
    ap₂ earlier way.begin_new l.shift_is.last_is ∙ earlier-min st.text st.move.begin st.move.last l.stored.is_text way.in_new (omega (arith, l.shift_is.last_offset))

in-front : (old : List ℕ) (st : Step) (done : List Shift) (lower : ℕ) (w : ShiftReach) → IsStored old → LeadsOn old st → lower ≤ min st.move.begin st.move.last → IsFalling st.text done lower w [] → IsFalling old (st.shift ∷ done) st.move.begin (then_on (reach_of st.shift) w) []
in-front old st done lower w h l le r = falling-step old (st.shift ∷ done) st.move.begin w st.shift [] st.move.begin h ready begins
  where
    way : IsWayOf old st.text st.shift st.move
    way = shift-way old st.text st.shift st.move (step-of old st h l)

    begins : is_at_most st.shift.begin (coord_at old st.move.begin) ≡ true
    begins = ap (λ x. is_at_most x (coord_at old st.move.begin)) way.begin_old ∙ order-coords old st.move.begin st.move.begin h.is_text way.in_old way.in_old ∙ leb_true st.move.begin st.move.begin (omega arith)

    fits : is_at_most (coord_at st.text lower) (earlier st.shift.begin st.shift.last) ≡ true
    fits =
        ap (is_at_most (coord_at st.text lower)) (bound-at old st h l)
        ∙ order-coords st.text lower (min st.move.begin st.move.last) l.stored.is_text (omega (arith, le, way.in_new)) (omega (arith, way.in_new))
        ∙ leb_true lower (min st.move.begin st.move.last) le

    low : is_at_most (coord_at st.text lower) (coord_at old st.move.begin) ≡ true
    low =
        ap (is_at_most (coord_at st.text lower)) (sym way.begin_old ∙ way.begin_new)
        ∙ order-coords st.text lower st.move.begin l.stored.is_text (omega (arith, le, way.in_new)) way.in_new
        ∙ leb_true lower st.move.begin (omega (arith, le))

    ready : IsFalling old (st.shift ∷ done) st.move.begin w (st.shift ∷ [])
    ready = record {
      newest = r.newest;
      steps = st ∷ [];
      done = done;
      f = r.f;
      t = r.t;
      floor = lower;
      behind = coord_at st.text lower;
      stored = r.stored;
      stands = subst (λ x. ReachStands x r.newest w r.f r.t) (none-behind st.text r.steps r.rest_is) r.stands;
      leads = (l, tt);
      rest_is = refl;
      fall = (fits, tt);
      behind_is = refl;
      floor_in = omega (arith, le, way.in_new);
      low = low;
      right = λ o up below. falling-none st.text done lower w o l.stored r up below;
      whole = λ at. refl;
    }

-- the way of the steps behind the first n, for what isn't before the begin of the first of them

abbrev pub begin_of : List Step → ℕ
begin_of [] = 0
begin_of (st ∷ sts) = st.move.begin

abbrev pub IsBack : List ℕ → List Step → ℕ → ShiftReach → Type 0
IsBack old steps n w = IsFalling (text_after old (take n steps)) (drop n (shifts_of steps)) (begin_of (drop n steps)) w []

-- what is left to do for a selection behind a step, and that step
pub record IsCarried (old : List ℕ) (steps : List Step) (n : ℕ) (w : ShiftReach) (s : Shift) (x : Sel) : Type 0 where
  pub way_small : IsSmallReach w
  pub shift_small : IsSmallReach (reach_of s)
  pub low_small : IsSmall x.low
  pub high_small : IsSmall x.high
  pub gone : both_go w x ≡ through (drop (suc n) (shifts_of steps)) x
  pub back : IsBack old steps n (then_on (reach_of s) w)

-- the next step doesn't begin behind the place where a step began
next-begins : (old : List ℕ) (st : Step) (sts : List Step) → IsStored old → LeadsOn old st → Lead st.text sts → IsRun Falling (shifts_of (st ∷ sts)) → begin_of sts ≤ min st.move.begin st.move.last
next-begins old st [] h l k r = omega arith
next-begins old st (t ∷ ts) h l k r =
    let way : IsWayOf old st.text st.shift st.move = shift-way old st.text st.shift st.move (step-of old st h l) in
    let next : IsWayOf st.text t.text t.shift t.move = shift-way st.text t.text t.shift t.move (step-of st.text t l.stored k.0) in
    leb-true t.move.begin (min st.move.begin st.move.last)
    (sym (order-coords st.text t.move.begin (min st.move.begin st.move.last) l.stored.is_text next.in_old (omega (arith, way.in_new))) ∙ ap₂ is_at_most (sym next.begin_old) (sym (bound-at old st h l)) ∙ r.0)

-- a place behind a step goes the way of the steps behind that
goes-on : (text : List ℕ) (done : List Shift) (lower : ℕ) (w : ShiftReach) (at : Coord) → IsStored text → IsFalling text done lower w [] → IsPlace text at → lower ≤ offset text at → goes w at ≡ all_mapped done at
goes-on text done lower w at h r p le = subst (λ x. goes w x ≡ all_mapped done x) (coord_at-offset text at p) (falling-none text done lower w (offset text at) h r le (offset-below text at p))

carried-first : (old : List ℕ) (st : Step) (sts : List Step) (w : ShiftReach) (x : Sel) → IsStored old → LeadsOn old st → Lead st.text sts → LiesBehind st x → IsRun Falling (shifts_of (st ∷ sts)) → IsFalling st.text (shifts_of sts) (begin_of sts) w [] → IsCarried old (st ∷ sts) 0 w st.shift x
carried-first old st sts w x h l k b r f =
    let le : begin_of sts ≤ min st.move.begin st.move.last = next-begins old st sts h l k r in
    let put : Coord → Coord → Sel = λ p q. record { low = p; high = q; turned = x.turned; target = x.target } in
    record {
      way_small = ready-small Falling st.text (shifts_of sts) (begin_of sts) w [] l.stored f;
      shift_small = step-small old st h l;
      low_small = place-small st.text x.low l.stored b.inside.low;
      high_small = place-small st.text x.high l.stored b.inside.high;
      gone = ap₂ put (goes-on st.text (shifts_of sts) (begin_of sts) w x.low l.stored f b.inside.low (omega (arith, le, b.behind)))
          (goes-on st.text (shifts_of sts) (begin_of sts) w x.high l.stored f b.inside.high (omega (arith, le, b.behind, b.inside.ordered)));
      back = in-front old st (shifts_of sts) (begin_of sts) w h l le f;
    }

pub run-rest : (way : ShiftWay) (s : Shift) (ss : List Shift) → IsRun way (s ∷ ss) → IsRun way ss
run-rest way s [] r = tt
run-rest way s (t ∷ ts) r = r.1

carried-at : (n : ℕ) (old : List ℕ) (steps : List Step) (sels : List Sel) (w : ShiftReach) (s : Shift) (x : Sel) (d : Shift) (e : Sel) → IsStored old → Lead old steps → LieBehind steps sels → IsRun Falling (shifts_of steps) → n < length sels
    → s ≡ get_or (shifts_of steps) n d → x ≡ get_or sels n e → IsBack old steps (suc n) w → IsCarried old steps n w s x
carried-at n old [] [] w s x d e h l b r below f g k = absurd (omega arith)
carried-at n old [] (y ∷ ys) w s x d e h l b r below f g k = absurd b
carried-at n old (st ∷ sts) [] w s x d e h l b r below f g k = absurd b
carried-at zero old (st ∷ sts) (y ∷ ys) w s x d e h l b r below f g k = subst₂ (IsCarried old (st ∷ sts) 0 w) (sym f) (sym g) (carried-first old st sts w y h l.0 l.1 b.0 r k)
carried-at (suc n) old (st ∷ sts) (y ∷ ys) w s x d e h l b r below f g k =
    let c : IsCarried st.text sts n w s x = carried-at n st.text sts ys w s x d e l.0.stored l.1 b.1 (run-rest Falling st.shift (shifts_of sts) r) (omega arith) f g k in
    record { way_small = c.way_small; shift_small = c.shift_small; low_small = c.low_small; high_small = c.high_small; gone = c.gone; back = c.back }

-- as many steps as selections
lie-many : (steps : List Step) (sels : List Sel) → LieBehind steps sels → length (shifts_of steps) ≡ length sels
lie-many [] [] b = refl
lie-many [] (x ∷ xs) b = absurd b
lie-many (st ∷ sts) [] b = absurd b
lie-many (st ∷ sts) (x ∷ xs) b = ap (λ n. suc n) (lie-many sts xs b.1)

pub shifts-many : (shifts : List Shift) (sels : List Sel) → StandBehind shifts sels → length shifts ≡ length sels
shifts-many shifts sels c = ap length c.shifts_are ∙ lie-many c.steps sels c.behind

-- the selections before the n-th as they were, the others gone
abbrev pub gone_from : ℕ → List Shift → List Sel → List Sel
gone_from zero ss xs = each_through_rest ss xs
gone_from (suc n) [] xs = xs
gone_from (suc n) (s ∷ ss) [] = []
gone_from (suc n) (s ∷ ss) (x ∷ xs) = x ∷ gone_from n ss xs

gone-none : (ss : List Shift) (xs : List Sel) → length ss ≡ length xs → gone_from (length xs) ss xs ≡ xs
gone-none [] [] e = refl
gone-none [] (x ∷ xs) e = absurd (omega (arith, e))
gone-none (s ∷ ss) [] e = absurd (omega (arith, e))
gone-none (s ∷ ss) (x ∷ xs) e = ap (λ t. x ∷ t) (gone-none ss xs (omega (arith, e)))

gone-length : (n : ℕ) (ss : List Shift) (xs : List Sel) → length ss ≡ length xs → length (gone_from n ss xs) ≡ length xs
gone-length zero [] [] e = refl
gone-length zero [] (x ∷ xs) e = absurd (omega (arith, e))
gone-length zero (s ∷ ss) [] e = absurd (omega (arith, e))
gone-length zero (s ∷ ss) (x ∷ xs) e = ap (λ k. suc k) (gone-length zero ss xs (omega (arith, e)))
gone-length (suc n) [] xs e = refl
gone-length (suc n) (s ∷ ss) [] e = refl
gone-length (suc n) (s ∷ ss) (x ∷ xs) e = ap (λ k. suc k) (gone-length n ss xs (omega (arith, e)))

gone-at : (n : ℕ) (ss : List Shift) (xs : List Sel) (d : Sel) → get_or (gone_from (suc n) ss xs) n d ≡ get_or xs n d
gone-at n [] xs d = refl
gone-at n (s ∷ ss) [] d = refl
gone-at zero (s ∷ ss) (x ∷ xs) d = refl
gone-at (suc n) (s ∷ ss) (x ∷ xs) d = gone-at n ss xs d

gone-step : (n : ℕ) (ss : List Shift) (xs : List Sel) (y d : Sel) → n < length xs → length ss ≡ length xs → y ≡ through (drop (suc n) ss) (get_or xs n d) → set (gone_from (suc n) ss xs) n y ≡ gone_from n ss xs
gone-step n [] [] y d l e f = absurd (omega (arith, l))
gone-step n [] (x ∷ xs) y d l e f = absurd (omega (arith, e))
gone-step n (s ∷ ss) [] y d l e f = absurd (omega (arith, e))
gone-step zero (s ∷ ss) (x ∷ xs) y d l e f = ap (λ t. t ∷ each_through_rest ss xs) f
gone-step (suc n) (s ∷ ss) (x ∷ xs) y d l e f = ap (λ t. x ∷ t) (gone-step n ss xs y d (omega (arith, l)) (omega (arith, e)) f)

-- what the code's loop stands on
pub record IsGoing (shifts : List Shift) (before now : List Sel) (n : ℕ) (w : ShiftReach) : Type 0 where
  pub few : n ≤ length before
  pub many : length shifts ≡ length before
  pub gone : now ≡ gone_from n shifts before
  pub back : (c : StandBehind shifts before) → IsBack c.old c.steps n w

pub going-first : (shifts : List Shift) (sels : List Sel) → StandBehind shifts sels → IsGoing shifts sels sels (length sels) at_rest
going-first shifts sels c = record {
  few = omega arith;
  many = shifts-many shifts sels c;
  gone = sym (gone-none shifts sels (shifts-many shifts sels c));
  back = λ k. all-first k.steps k.old sels k.stored k.leads k.behind;
}
  where
    all-first : (steps : List Step) (old : List ℕ) (xs : List Sel) → IsStored old → Lead old steps → LieBehind steps xs → IsBack old steps (length xs) at_rest
    all-first [] old [] h l b = falling-first old [] [] [] h tt refl tt (λ at. refl)
    all-first [] old (x ∷ xs) h l b = absurd b
    all-first (st ∷ sts) old [] h l b = absurd b
    all-first (st ∷ sts) old (x ∷ xs) h l b =
        let f : IsBack st.text sts (length xs) at_rest = all-first sts st.text xs l.0.stored l.1 b.1 in
        f

going-at : (shifts : List Shift) (before now : List Sel) (k n : ℕ) (w : ShiftReach) (e : Sel) → k ≡ suc n → IsGoing shifts before now k w → get_or now n e ≡ get_or before n e
going-at shifts before now k n w e g i = ap (λ l. get_or l n e) (i.gone ∙ ap (λ j. gone_from j shifts before) g) ∙ gone-at n shifts before e

pub going-now : (shifts : List Shift) (before now : List Sel) (k n : ℕ) (w : ShiftReach) (d : Shift) (e : Sel) → k ≡ suc n → AreFalling shifts → (c : StandBehind shifts before) → IsGoing shifts before now k w → IsCarried c.old c.steps n w (get_or shifts n d) (get_or now n e)
going-now shifts before now k n w d e g falls c i =
    carried-at n c.old c.steps before w (get_or shifts n d) (get_or now n e) d e c.stored c.leads c.behind (subst (IsRun Falling) c.shifts_are falls) (omega (arith, g, i.few))
    (ap (λ l. get_or l n d) c.shifts_are) (going-at shifts before now k n w e g i) (subst (λ j. IsBack c.old c.steps j w) g (i.back c))

pub going-on : (shifts : List Shift) (before now : List Sel) (k n : ℕ) (w v : ShiftReach) (y : Sel) (d : Shift) (e : Sel) → k ≡ suc n → y ≡ both_go w (get_or now n e) → v ≡ then_on (reach_of (get_or shifts n d)) w → AreFalling shifts → StandBehind shifts before → IsGoing shifts before now k w
    → IsGoing shifts before (set now n y) n v
going-on shifts before now k n w v y d e g is way falls c i =
    let here : IsCarried c.old c.steps n w (get_or shifts n d) (get_or now n e) = going-now shifts before now k n w d e g falls c i in
    let gone : y ≡ through (drop (suc n) shifts) (get_or before n e) =
    is ∙ here.gone ∙ ap (λ l. through (drop (suc n) l) (get_or now n e)) (sym c.shifts_are) ∙ ap (through (drop (suc n) shifts)) (going-at shifts before now k n w e g i) in
    record {
      few = omega (arith, g, i.few);
      many = i.many;
      gone = ap (λ l. set l n y) (i.gone ∙ ap (λ j. gone_from j shifts before) g) ∙ gone-step n shifts before y e (omega (arith, g, i.few)) i.many gone;
      back = λ (b : StandBehind shifts before). subst (IsBack b.old b.steps n) (sym way) (going-now shifts before now k n w d e g falls b i).back;
    }

pub going-length : (shifts : List Shift) (before now : List Sel) (n : ℕ) (w : ShiftReach) → IsGoing shifts before now n w → length now ≡ length before
going-length shifts before now n w i = ap length i.gone ∙ gone-length n shifts before i.many
