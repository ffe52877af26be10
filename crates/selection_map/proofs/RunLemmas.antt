-- Runs of shifts whose begins go one way, in order and in reverse order.
use Rattle.std.proofs.Common.{◌≡◌, ℕ, zero, suc, ◌<◌, ◌≤◌, ◌+◌, ◌-◌, true, false, inl, inr, List, [], ◌∷◌, length, take, get_or, reverse, refl, sym, ap, subst, ◌∙◌, arith}
use Rattle.text_model.specs.declared.coords.Coord.{Coord}
use Rattle.text_model.specs.declared.coords.Shift.{Shift}
use Rattle.text_model.specs.Coords.{origin}
use Rattle.text_model.specs.Texts.{IsStored}
use Rattle.selection_map.specs.declared.walking.ShiftWay.{ShiftWay}
use Rattle.selection_map.specs.declared.walking.ShiftWay.TheVariants.{Rising, Falling}
use Rattle.selection_map.specs.Rebasing.{earlier}
use Rattle.selection_map.specs.Reaching.{at_rest, all_mapped}
use Rattle.selection_map.specs.Walking.{queue, follows, IsRun}
use Rattle.selection_map.specs.Catching.{Step, Lead, shifts_of}
use Rattle.selection_map.specs.Premises.{IsQueue, text_behind, LeadBack, mapped_back, IsWalkReady}
use Rattle.selection_map.proofs.OrderLemmas.{origin-first, not-both}
use Rattle.selection_map.proofs.TieLemmas.{ways}
use Rattle.selection_map.proofs.RisingLemmas.{rising-first}
use Rattle.selection_map.proofs.FallingLemmas.{falling-first}
use mathlib.Core.List.{reverse_aux}

-- one more shift that may follow the last one
pub run-more : (way : ShiftWay) (n : ℕ) (shifts : List Shift) (d : Shift) → 1 ≤ n → n < length shifts → IsRun way (take n shifts) → follows way (get_or shifts (n - 1) d) (get_or shifts n d) ≡ true → IsRun way (take (n + 1) shifts)
run-more way zero shifts d some below r e = absurd (omega arith)
run-more way (suc n) [] d some below r e = absurd (omega arith)
run-more way (suc zero) (s ∷ []) d some below r e = absurd (omega arith)
run-more way (suc zero) (s ∷ t ∷ ts) d some below r e = (e, tt)
run-more way (suc (suc n)) (s ∷ []) d some below r e = absurd (omega arith)
run-more way (suc (suc n)) (s ∷ t ∷ ts) d some below r e =
    let at : suc (suc n) + 1 ≡ suc (suc (n + 1)) = omega arith in
    let next : IsRun way (take (suc n + 1) (t ∷ ts)) = run-more way (suc n) (t ∷ ts) d (omega arith) (omega arith) r.1 (before e) in
    let P : ℕ → Type 0 = λ k. IsRun way (take k (s ∷ t ∷ ts)) in
    let at' : suc n + 1 ≡ suc (n + 1) = omega arith in
    let Q : ℕ → Type 0 = λ k. IsRun way (take k (t ∷ ts)) in
    subst P (sym at) (r.0, subst Q at' next)
  where
    before : follows way (get_or (s ∷ t ∷ ts) (suc (suc n) - 1) d) (get_or (s ∷ t ∷ ts) (suc (suc n)) d) ≡ true → follows way (get_or (t ∷ ts) (suc n - 1) d) (get_or (t ∷ ts) (suc n) d) ≡ true
    before e =
        let one : suc (suc n) - 1 ≡ suc n = omega arith in
        let two : suc n - 1 ≡ n = omega arith in
        ap (λ k. follows way (get_or (t ∷ ts) k d) (get_or (t ∷ ts) (suc n) d)) two
        ∙ sym (ap (λ k. follows way (get_or (s ∷ t ∷ ts) k d) (get_or (s ∷ t ∷ ts) (suc (suc n)) d)) one)
        ∙ e

-- each shift of a run may follow the one before it
run-at : (way : ShiftWay) (shifts : List Shift) (n : ℕ) (d : Shift) → IsRun way shifts → 1 ≤ n → n < length shifts → follows way (get_or shifts (n - 1) d) (get_or shifts n d) ≡ true
run-at way [] n d r some below = absurd (omega arith)
run-at way (s ∷ []) n d r some below = absurd (omega arith)
run-at way (s ∷ t ∷ ts) zero d r some below = absurd (omega arith)
run-at way (s ∷ t ∷ ts) (suc zero) d r some below = r.0
run-at way (s ∷ t ∷ ts) (suc (suc n)) d r some below =
    let one : suc (suc n) - 1 ≡ suc n = omega arith in
    let two : suc n - 1 ≡ n = omega arith in
    ap (λ k. follows way (get_or (s ∷ t ∷ ts) k d) (get_or (s ∷ t ∷ ts) (suc (suc n)) d)) one
    ∙ sym (ap (λ k. follows way (get_or (t ∷ ts) k d) (get_or (t ∷ ts) (suc n) d)) two)
    ∙ run-at way (t ∷ ts) (suc n) d r.1 (omega arith) (omega arith)

-- where all shifts are a run, the longest run of the first ones is all of them
pub whole-run : (way : ShiftWay) (shifts : List Shift) (n : ℕ) (d : Shift) → IsRun way shifts → 0 < n → n ≤ length shifts → (n < length shifts → (e : Shift) → follows way (get_or shifts (n - 1) e) (get_or shifts n e) ≡ false) → n ≡ length shifts
whole-run way shifts n d r some few longest =
    elim (ways n (length shifts)) [
      | inl lt ↦ absurd (not-both (follows way (get_or shifts (n - 1) d) (get_or shifts n d)) (run-at way shifts n d r (omega arith) lt) (longest lt d))
      | inr le ↦ omega arith
    ]

-- the longest run of the first shifts, either way
pub record IsLongest (way : ShiftWay) (shifts : List Shift) (n : ℕ) : Type 0 where
  pub some : 0 < n
  pub few : n ≤ length shifts
  pub longest : n < length shifts → (e : Shift) → follows way (get_or shifts (n - 1) e) (get_or shifts n e) ≡ false

pub zero_shift : Shift
zero_shift = record { insert = false; begin = origin; «end» = origin; last = origin }

-- the longer of two such runs is all shifts, where these are a run
pub longer-whole : (way : ShiftWay) (shifts : List Shift) (rising falling n : ℕ) → IsLongest Rising shifts rising → IsLongest Falling shifts falling → rising ≤ n → falling ≤ n → n ≤ length shifts → IsRun way shifts → n ≡ length shifts
longer-whole Rising shifts rising falling n a b h k few r = omega (arith, whole-run Rising shifts rising zero_shift r a.some a.few a.longest)
longer-whole Falling shifts rising falling n a b h k few r = omega (arith, whole-run Falling shifts falling zero_shift r b.some b.few b.longest)

-- one shift is a run
pub run-one : (way : ShiftWay) (shifts : List Shift) → IsRun way (take 1 shifts)
run-one way [] = tt
run-one way (s ∷ ss) = tt

pub queue-from : (s : Shift) (ss : List Shift) → IsRun Rising (s ∷ ss) → IsQueue Rising s.begin ss
queue-from s [] r = tt
queue-from s (t ∷ ts) r = (r.0, queue-from t ts r.1)

rising-queue : (shifts : List Shift) → IsRun Rising shifts → IsQueue Rising origin shifts
rising-queue [] r = tt
rising-queue (s ∷ ss) r = (origin-first s.begin, queue-from s ss r)

falling-onto : (s : Shift) (ss acc : List Shift) → IsRun Falling (s ∷ ss) → IsQueue Falling s.begin acc → IsQueue Falling origin (reverse_aux ss (s ∷ acc))
falling-onto s [] acc r q = (origin-first (earlier s.begin s.last), q)
falling-onto s (t ∷ ts) acc r q = falling-onto t ts (s ∷ acc) r.1 (r.0, q)

falling-queue : (shifts : List Shift) → IsRun Falling shifts → IsQueue Falling origin (reverse shifts)
falling-queue [] r = tt
falling-queue (s ∷ ss) r = falling-onto s ss [] r tt

lead-onto : (first : List ℕ) (steps acc : List Step) → Lead (text_behind first acc) steps → LeadBack first acc → LeadBack first (reverse_aux steps acc)
lead-onto first [] acc l b = b
lead-onto first (st ∷ sts) acc l b = lead-onto first sts (st ∷ acc) l.1 (l.0, b)

shifts-onto : (steps acc : List Step) → shifts_of (reverse_aux steps acc) ≡ reverse_aux (shifts_of steps) (shifts_of acc)
shifts-onto [] acc = refl
shifts-onto (st ∷ sts) acc = shifts-onto sts (st ∷ acc)

mapped-onto : (shifts acc : List Shift) (at : Coord) → mapped_back (reverse_aux shifts acc) at ≡ all_mapped shifts (mapped_back acc at)
mapped-onto [] acc at = refl
mapped-onto (s ∷ ss) acc at = mapped-onto ss (s ∷ acc) at

-- a walk that has passed no shift yet
pub ready-first : (way : ShiftWay) (old : List ℕ) (steps : List Step) (shifts : List Shift) → IsStored old → Lead old steps → shifts ≡ shifts_of steps → IsRun way shifts → IsWalkReady way old shifts 0 at_rest (queue way shifts)
ready-first Rising old steps shifts h l e r = rising-first old steps shifts h l e (rising-queue shifts r)
ready-first Falling old steps shifts h l e r =
    falling-first old (reverse steps) shifts (reverse shifts) h (lead-onto old steps [] l tt) (ap reverse e ∙ sym (shifts-onto steps [])) (falling-queue shifts r) (λ at. sym (mapped-onto shifts [] at))
