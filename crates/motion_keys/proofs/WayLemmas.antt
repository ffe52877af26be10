-- The nearest offset on a way, step by step.
use Rattle.std.proofs.Common.{◌≡◌, ℕ, ◌+◌, ◌-◌, ◌<◌, ◌≤◌, Bool, true, false, cond, eqb, List, length, slice_index, None, Some, sym, ap, ◌∙◌, arith, inl, inr, lt-ltb, le-ltb}
use Rattle.std.proofs.lemmas.Bool.{cases_lt}
use Rattle.directions.specs.declared.direction.Direction.{Direction}
use Rattle.directions.specs.declared.direction.Direction.TheVariants.{Forward, Backward}
use Rattle.motion_keys.specs.Motions.{offset_beside}
use Rattle.motion_keys.specs.Extremes.{least_between, greatest_below}
use Rattle.motion_keys.specs.Nearest.{least_from, greatest_to}
use Rattle.motion_keys.specs.Jumps.{holds, next_with, last_with}
use Rattle.motion_keys.specs.Searching.{nearest}
use Rattle.motion_keys.proofs.ExtremeLemmas.{least-none}
use Rattle.motion_keys.proofs.NearestLemmas.{least_here, least_later, least_none, greatest_here, greatest_lower, greatest_none}

not_some : {n : ℕ} → None ≡ Some n → ⊥
not_some e = cc

not_none : {n : ℕ} → Some n ≡ None → ⊥
not_none e = cc

some-same : {m n : ℕ} → Some m ≡ Some n → m ≡ n
some-same e = cc

-- where the next offset is one, and where there is none
ahead-some : (text : List ℕ) (o n : ℕ) → offset_beside text o Forward ≡ Some n → (n ≡ o + 1) × (o + 1 < length text)
ahead-some text o n e =
    elim (cases_lt (o + 1) (length text)) [
      | inl l ↦ (sym (some-same (sym (ap (λ b. cond b (Some (o + 1)) None) (lt-ltb (o + 1) (length text) l)) ∙ e)), l)
      | inr g ↦ absurd (not_some (sym (ap (λ b. cond b (Some (o + 1)) None) (le-ltb (o + 1) (length text) g)) ∙ e))
    ]

ahead-none : (text : List ℕ) (o : ℕ) → offset_beside text o Forward ≡ None → length text ≤ o + 1
ahead-none text o e =
    elim (cases_lt (o + 1) (length text)) [
      | inl l ↦ absurd (not_none (sym (ap (λ b. cond b (Some (o + 1)) None) (lt-ltb (o + 1) (length text) l)) ∙ e))
      | inr g ↦ g
    ]

-- and the offset before
back-some : (text : List ℕ) (o n : ℕ) → offset_beside text o Backward ≡ Some n → n + 1 ≡ o
back-some text o n e =
    elim (cases_lt 0 o) [
      | inl l ↦ (let same : o - 1 ≡ n = some-same (sym (ap (λ b. cond b (Some (o - 1)) None) (lt-ltb 0 o l)) ∙ e) in omega (arith, l, same))
      | inr g ↦ absurd (not_some (sym (ap (λ b. cond b (Some (o - 1)) None) (le-ltb 0 o g)) ∙ e))
    ]

back-none : (text : List ℕ) (o : ℕ) → offset_beside text o Backward ≡ None → o ≡ 0
back-none text o e =
    elim (cases_lt 0 o) [
      | inl l ↦ absurd (not_none (sym (ap (λ b. cond b (Some (o - 1)) None) (lt-ltb 0 o l)) ∙ e))
      | inr g ↦ omega arith
    ]

-- how many offsets are left on a way
abbrev pub remaining : Direction → List ℕ → ℕ → ℕ
remaining Forward text o = length text - o
remaining Backward text o = o

pub near-smaller : (direction : Direction) (text : List ℕ) (o n : ℕ) → o < length text → offset_beside text o direction ≡ Some n → remaining direction text n < remaining direction text o
near-smaller Forward text o n l e = omega (arith, l, (ahead-some text o n e).0)
near-smaller Backward text o n l e = omega (arith, back-some text o n e)

-- a search that passes where it is ends there
pub near-here : (direction : Direction) (test : ℕ → Bool) (text : List ℕ) (o : ℕ) → o < length text → test (slice_index text o) ≡ true → nearest direction test text o ≡ Some o
near-here Forward test text o l e = least_here test text o l e
near-here Backward test text o l e = greatest_here test text o e

-- one that fails goes on beside
pub near-on : (direction : Direction) (test : ℕ → Bool) (text : List ℕ) (o n : ℕ) → o < length text → offset_beside text o direction ≡ Some n → test (slice_index text o) ≡ false → nearest direction test text n ≡ nearest direction test text o
near-on Forward test text o n l e f = least_later test text o n l (ahead-some text o n e).0 f
near-on Backward test text o n l e f = greatest_lower test text o n (back-some text o n e) f

-- where there is nothing beside, it finds nothing
pub near-none : (direction : Direction) (test : ℕ → Bool) (text : List ℕ) (o : ℕ) → o < length text → offset_beside text o direction ≡ None → test (slice_index text o) ≡ false → nearest direction test text o ≡ None
near-none Forward test text o l e f = (let last : o + 1 ≡ length text = omega (arith, l, ahead-none text o e) in least_none test text o last f)
near-none Backward test text o l e f = greatest_none test text o (back-none text o e) f

-- the next offset that holds a character is the nearest from the next offset on
pub next-nearest : (text : List ℕ) (c o n : ℕ) → offset_beside text o Forward ≡ Some n → least_from (λ d. eqb d c) text n ≡ next_with text c o
next-nearest text c o n e = ap (λ k. least_between (holds text c) k (length text)) (ahead-some text o n e).0

pub next-nowhere : (text : List ℕ) (c o : ℕ) → offset_beside text o Forward ≡ None → next_with text c o ≡ None
next-nowhere text c o e = least-none (holds text c) (o + 1) (length text) (ahead-none text o e)

-- and the last one before is the nearest from the offset before back
pub last-nearest : (text : List ℕ) (c o n : ℕ) → offset_beside text o Backward ≡ Some n → greatest_to (λ d. eqb d c) text n ≡ last_with text c o
last-nearest text c o n e = ap (greatest_below (holds text c)) (back-some text o n e)

pub last-nowhere : (text : List ℕ) (c o : ℕ) → offset_beside text o Backward ≡ None → last_with text c o ≡ None
last-nowhere text c o e = ap (greatest_below (holds text c)) (back-none text o e)
