-- Selections that stand each behind a step of its own, through rising steps behind that, of which each meets few.
use Rattle.std.proofs.Common.{◌≡◌, ℕ, zero, suc, ◌<◌, ◌≤◌, true, false, cond, not, ◌&&◌, List, [], ◌∷◌, length, drop, get_or, set, refl, sym, ap, ap₂, subst, subst₂, ◌∙◌, arith}
use Rattle.std.proofs.lemmas.List.{drop_all}
use Rattle.text_model.specs.declared.coords.Coord.{Coord}
use Rattle.text_model.specs.declared.coords.Shift.{Shift}
use Rattle.text_model.specs.Coords.{is_at_most}
use Rattle.text_model.specs.Texts.{IsStored, IsPlace, offset}
use Rattle.text_model.proofs.PlaceLemmas.{offset-below, coord_at-offset, leb_true}
use Rattle.selection_set.specs.declared.sel.Sel.{Sel}
use Rattle.selection_set.specs.Inside.{IsInside}
use Rattle.selection_map.specs.declared.walking.ShiftWay.TheVariants.{Rising}
use Rattle.selection_map.specs.Carrying.{IsShiftStep, AreSmall}
use Rattle.selection_map.specs.Rebasing.{mapped_sel}
use Rattle.selection_map.specs.Reaching.{all_mapped, through}
use Rattle.selection_map.specs.Walking.{IsRun}
use Rattle.selection_map.specs.Catching.{Step, Lead, shifts_of}
use Rattle.selection_map.specs.Premises.{IsQueue}
use Rattle.selection_map.specs.Behind.{AreRising, meets_few, all_meet_few, each_through_rest, LieBehind, StandBehind, CanGoPast}
use Rattle.selection_map.proofs.CarryLemmas.{order-coords}
use Rattle.selection_map.proofs.SmallLemmas.{both-small}
use Rattle.selection_map.proofs.OrderLemmas.{at_most-self, not_at_most-before}
use Rattle.selection_map.proofs.ListLemmas.{mapped-both}
use Rattle.selection_map.proofs.RisingLemmas.{step-of, stays-ahead}
use Rattle.selection_map.proofs.RunLemmas.{queue-from}
use Rattle.selection_map.proofs.BackLemmas.{run-rest}

-- where a shift begins behind a selection, it and those behind it leave the selection as it is

place-order : (text : List ℕ) (a b : Coord) → IsStored text → IsPlace text a → IsPlace text b → offset text a ≤ offset text b → is_at_most a b ≡ true
place-order text a b h p q le =
    let below : offset text a < length text = offset-below text a p in
    let under : offset text b < length text = offset-below text b q in
    ap₂ is_at_most (sym (coord_at-offset text a p)) (sym (coord_at-offset text b q)) ∙ order-coords text (offset text a) (offset text b) h.is_text (omega (arith, below)) (omega (arith, under)) ∙ leb_true (offset text a) (offset text b) le

place-stays : (text : List ℕ) (st : Step) (sts : List Step) (at : Coord) → IsStored text → Lead text (st ∷ sts) → IsRun Rising (shifts_of (st ∷ sts)) → IsPlace text at → is_at_most st.shift.begin at ≡ false → all_mapped (shifts_of (st ∷ sts)) at ≡ at
place-stays text st sts at h l r p e =
    let queue : IsQueue Rising st.shift.begin (shifts_of (st ∷ sts)) = (at_most-self st.shift.begin, queue-from st.shift (shifts_of sts) r) in
    subst (λ x. all_mapped (shifts_of (st ∷ sts)) x ≡ x) (coord_at-offset text at p)
    (stays-ahead text (st ∷ sts) st.shift.begin (offset text at) h l queue (offset-below text at p) (ap (is_at_most st.shift.begin) (coord_at-offset text at p) ∙ e))

sel-stays : (text : List ℕ) (st : Step) (sts : List Step) (x : Sel) → IsStored text → Lead text (st ∷ sts) → IsRun Rising (shifts_of (st ∷ sts)) → IsInside text x → is_at_most st.shift.begin x.high ≡ false → x ≡ through (shifts_of (st ∷ sts)) x
sel-stays text st sts x h l r i e =
    let low : is_at_most st.shift.begin x.low ≡ false = not_at_most-before st.shift.begin x.low x.high e (place-order text x.low x.high h i.low i.high i.ordered) in
    let put : Coord → Coord → Sel = λ p q. record { low = p; high = q; turned = x.turned; target = x.target } in
    ap₂ put (sym (place-stays text st sts x.low h l r i.low low)) (sym (place-stays text st sts x.high h l r i.high e))

-- by the next of the shifts

pub past-behind : (s : Shift) (ss : List Shift) (x : Sel) → CanGoPast (s ∷ ss) x → is_at_most s.begin x.high ≡ false → x ≡ through (s ∷ ss) x
past-behind s ss x c e = by_steps c.steps c.leads c.shifts_are
  where
    by_steps : (steps : List Step) → Lead c.text steps → s ∷ ss ≡ shifts_of steps → x ≡ through (s ∷ ss) x
    by_steps [] l k = absurd (nothing k)
      where
        nothing : s ∷ ss ≡ [] → ⊥
        nothing k = cc
    by_steps (st ∷ sts) l k =
        let head : s ≡ st.shift = cc in
        subst (λ (t : List Shift). x ≡ through t x) (sym k) (sel-stays c.text st sts x c.stored l (subst (IsRun Rising) k c.rise) c.inside (ap (λ (t : Shift). is_at_most t.begin x.high) (sym head) ∙ e))

-- a selection goes through the next shift, and can go on
pub record GoesPast (s : Shift) (ss : List Shift) (x : Sel) : Type 0 where
  pub small : AreSmall x s
  pub next : CanGoPast ss (mapped_sel s x)

pub past-on : (s : Shift) (ss : List Shift) (x : Sel) → CanGoPast (s ∷ ss) x → GoesPast s ss x
past-on s ss x c = by_steps c.steps c.leads c.shifts_are
  where
    by_steps : (steps : List Step) → Lead c.text steps → s ∷ ss ≡ shifts_of steps → GoesPast s ss x
    by_steps [] l k = absurd (nothing k)
      where
        nothing : s ∷ ss ≡ [] → ⊥
        nothing k = cc
    by_steps (st ∷ sts) l k =
        let head : st.shift ≡ s = cc in
        let tail : ss ≡ shifts_of sts = cc in
        let step : IsShiftStep c.text st.text s st.move = subst (λ (t : Shift). IsShiftStep c.text st.text t st.move) head (step-of c.text st c.stored l.0) in
        record {
          small = both-small c.text st.text x s st.move c.stored l.0.stored step.shift_is c.inside;
          next = record {
            text = st.text;
            steps = sts;
            stored = l.0.stored;
            leads = l.1;
            shifts_are = tail;
            inside = (mapped-both c.text st.text s st.move x step c.inside).inside;
            rise = run-rest Rising s ss c.rise;
          };
        }

pub few-behind : (n : ℕ) (s : Shift) (ss : List Shift) (x : Sel) → is_at_most s.begin x.high ≡ false → true ≡ meets_few n (s ∷ ss) x
few-behind zero s ss x e = sym (ap not e)
few-behind (suc n) s ss x e = sym (ap (λ b. cond b (meets_few n ss (mapped_sel s x)) true) e)

pub few-none : (n : ℕ) (s : Shift) (ss : List Shift) (x : Sel) → n ≡ 0 → is_at_most s.begin x.high ≡ true → false ≡ meets_few n (s ∷ ss) x
few-none zero s ss x g e = sym (ap not e)
few-none (suc n) s ss x g e = absurd (omega (arith, g))

pub few-on : (k n : ℕ) (s : Shift) (ss : List Shift) (x : Sel) → k ≡ suc n → is_at_most s.begin x.high ≡ true → meets_few n ss (mapped_sel s x) ≡ meets_few k (s ∷ ss) x
few-on k n s ss x g e = sym (ap (λ j. meets_few j (s ∷ ss) x) g ∙ ap (λ b. cond b (meets_few n ss (mapped_sel s x)) true) e)

-- the first n selections gone, the others as they were

abbrev pub gone_to : ℕ → List Shift → List Sel → List Sel
gone_to zero ss xs = xs
gone_to (suc n) [] xs = xs
gone_to (suc n) (s ∷ ss) [] = []
gone_to (suc n) (s ∷ ss) (x ∷ xs) = through ss x ∷ gone_to n ss xs

to-all : (n : ℕ) (ss : List Shift) (xs : List Sel) → length ss ≡ length xs → length xs ≤ n → gone_to n ss xs ≡ each_through_rest ss xs
to-all zero [] [] e l = refl
to-all zero [] (x ∷ xs) e l = absurd (omega (arith, e))
to-all zero (s ∷ ss) [] e l = absurd (omega (arith, e))
to-all zero (s ∷ ss) (x ∷ xs) e l = absurd (omega (arith, l))
to-all (suc n) [] [] e l = refl
to-all (suc n) [] (x ∷ xs) e l = absurd (omega (arith, e))
to-all (suc n) (s ∷ ss) [] e l = absurd (omega (arith, e))
to-all (suc n) (s ∷ ss) (x ∷ xs) e l = ap (λ t. through ss x ∷ t) (to-all n ss xs (omega (arith, e)) (omega (arith, l)))

to-length : (n : ℕ) (ss : List Shift) (xs : List Sel) → length (gone_to n ss xs) ≡ length xs
to-length zero ss xs = refl
to-length (suc n) [] xs = refl
to-length (suc n) (s ∷ ss) [] = refl
to-length (suc n) (s ∷ ss) (x ∷ xs) = ap (λ k. suc k) (to-length n ss xs)

to-at : (n : ℕ) (ss : List Shift) (xs : List Sel) (d : Sel) → get_or (gone_to n ss xs) n d ≡ get_or xs n d
to-at zero ss xs d = refl
to-at (suc n) [] xs d = refl
to-at (suc n) (s ∷ ss) [] d = refl
to-at (suc n) (s ∷ ss) (x ∷ xs) d = to-at n ss xs d

to-step : (n : ℕ) (ss : List Shift) (xs : List Sel) (y d : Sel) → n < length xs → length ss ≡ length xs → y ≡ through (drop (suc n) ss) (get_or xs n d) → set (gone_to n ss xs) n y ≡ gone_to (suc n) ss xs
to-step n [] [] y d l e f = absurd (omega (arith, l))
to-step n [] (x ∷ xs) y d l e f = absurd (omega (arith, e))
to-step n (s ∷ ss) [] y d l e f = absurd (omega (arith, e))
to-step zero (s ∷ ss) (x ∷ xs) y d l e f = ap (λ t. t ∷ xs) f
to-step (suc n) (s ∷ ss) (x ∷ xs) y d l e f = ap (λ t. through ss x ∷ t) (to-step n ss xs y d (omega (arith, l)) (omega (arith, e)) f)

meet-next : (n : ℕ) (ss : List Shift) (xs : List Sel) (d : Sel) → n < length xs → length ss ≡ length xs → all_meet_few (drop n ss) (drop n xs) ≡ meets_few 2 (drop (suc n) ss) (get_or xs n d) && all_meet_few (drop (suc n) ss) (drop (suc n) xs)
meet-next n [] [] d l e = absurd (omega (arith, l))
meet-next n [] (x ∷ xs) d l e = absurd (omega (arith, e))
meet-next n (s ∷ ss) [] d l e = absurd (omega (arith, e))
meet-next zero (s ∷ ss) (x ∷ xs) d l e = refl
meet-next (suc n) (s ∷ ss) (x ∷ xs) d l e = meet-next n ss xs d (omega (arith, l)) (omega (arith, e))

can-past : (n : ℕ) (old : List ℕ) (steps : List Step) (sels : List Sel) (d : Sel) → IsStored old → Lead old steps → LieBehind steps sels → IsRun Rising (shifts_of steps) → n < length sels → CanGoPast (drop (suc n) (shifts_of steps)) (get_or sels n d)
can-past n old [] [] d h l b r below = absurd (omega (arith, below))
can-past n old [] (y ∷ ys) d h l b r below = absurd b
can-past n old (st ∷ sts) [] d h l b r below = absurd b
can-past zero old (st ∷ sts) (y ∷ ys) d h l b r below = record { text = st.text; steps = sts; stored = l.0.stored; leads = l.1; shifts_are = refl; inside = b.0.inside; rise = run-rest Rising st.shift (shifts_of sts) r }
can-past (suc n) old (st ∷ sts) (y ∷ ys) d h l b r below = can-past n st.text sts ys d l.0.stored l.1 b.1 (run-rest Rising st.shift (shifts_of sts) r) (omega (arith, below))

-- what the code's loop stands on
pub record IsGoingOn (shifts : List Shift) (before now : List Sel) (n : ℕ) : Type 0 where
  pub many : length shifts ≡ length before
  pub gone : now ≡ gone_to n shifts before
  pub few : all_meet_few (drop n shifts) (drop n before) ≡ all_meet_few shifts before

pub going-past : (shifts : List Shift) (before now : List Sel) (n : ℕ) (d : Sel) → StandBehind shifts before → AreRising shifts → n < length before → IsGoingOn shifts before now n → CanGoPast (drop (suc n) shifts) (get_or now n d)
going-past shifts before now n d c r below i =
    let at : get_or now n d ≡ get_or before n d = ap (λ l. get_or l n d) i.gone ∙ to-at n shifts before d in
    subst₂ (λ ss x. CanGoPast (drop (suc n) ss) x) (sym c.shifts_are) (sym at) (can-past n c.old c.steps before d c.stored c.leads c.behind (subst (IsRun Rising) c.shifts_are r) below)

pub going-more : (shifts : List Shift) (before now : List Sel) (n : ℕ) (y d : Sel) → n < length before → y ≡ through (drop (suc n) shifts) (get_or now n d) → true ≡ meets_few 2 (drop (suc n) shifts) (get_or now n d) → IsGoingOn shifts before now n → IsGoingOn shifts before (set now n y) (suc n)
going-more shifts before now n y d below is few i =
    let at : get_or now n d ≡ get_or before n d = ap (λ l. get_or l n d) i.gone ∙ to-at n shifts before d in
    record {
      many = i.many;
      gone = ap (λ l. set l n y) i.gone ∙ to-step n shifts before y d below i.many (is ∙ ap (through (drop (suc n) shifts)) at);
      few = ap (λ b. b && all_meet_few (drop (suc n) shifts) (drop (suc n) before)) (few ∙ ap (meets_few 2 (drop (suc n) shifts)) at) ∙ sym (meet-next n shifts before d below i.many) ∙ i.few;
    }

pub going-not : (shifts : List Shift) (before now : List Sel) (n : ℕ) (d : Sel) → n < length before → false ≡ meets_few 2 (drop (suc n) shifts) (get_or now n d) → IsGoingOn shifts before now n → false ≡ all_meet_few shifts before
going-not shifts before now n d below few i =
    let at : get_or now n d ≡ get_or before n d = ap (λ l. get_or l n d) i.gone ∙ to-at n shifts before d in
    ap (λ b. b && all_meet_few (drop (suc n) shifts) (drop (suc n) before)) (few ∙ ap (meets_few 2 (drop (suc n) shifts)) at) ∙ sym (meet-next n shifts before d below i.many) ∙ i.few

pub going-all : (shifts : List Shift) (before now : List Sel) (n : ℕ) → length before ≤ n → IsGoingOn shifts before now n → now ≡ each_through_rest shifts before
going-all shifts before now n all i = i.gone ∙ to-all n shifts before i.many all

pub going-few : (shifts : List Shift) (before now : List Sel) (n : ℕ) → length before ≤ n → IsGoingOn shifts before now n → true ≡ all_meet_few shifts before
going-few shifts before now n all i = sym (ap (λ l. all_meet_few l (drop n before)) (drop_all n shifts (omega (arith, all, i.many)))) ∙ i.few

pub past-length : (shifts : List Shift) (before now : List Sel) (n : ℕ) → IsGoingOn shifts before now n → length now ≡ length before
past-length shifts before now n i = ap length i.gone ∙ to-length n shifts before
