-- Runs of a key, one after another.
use Rattle.std.proofs.Common.{◌≡◌, ℕ, zero, suc, ◌+◌, ◌-◌, ◌<◌, ◌≤◌, refl, sym, ap, subst, ◌∙◌, arith}
use Rattle.std.specs.Prelude.{IfSome}
use Rattle.kak_world.specs.declared.ask.EditError.{EditError}
use Rattle.kak_world.specs.declared.ask.EditError.TheVariants.{TextFull, UndoFull, NothingToUndo, NothingToRedo, NoSuchNode, NoSuchRegister, ReadOnlyRegister, RegisterFull, SharedLine, Command, BadPattern, NothingSelected, TooManySelections, BudgetSpent, NoMemory}
use Rattle.kak_world.specs.Flat.{Flat, units_of, with_units}
use Rattle.kak_world.specs.Rows.{RowEnd, GivesUp, does, row_of}
use Rattle.key_rows.specs.Sequence.{then_row, after_unit}
use Rattle.normal_keys.specs.Running.{further_runs, runs}
use Rattle.normal_keys.specs.Wanting.{unit_taken, before_run, ArePartOfRuns}

-- as many runs less one
one_less : (k n : ℕ) → k < n → n - k ≡ suc (n - (k + 1))
one_less k n h = omega arith

-- a further run that has taken its unit
one-run : (run : Flat → RowEnd) (w u : Flat) (k n : ℕ) → k < n → units_of w ≡ suc (units_of u) → u ≡ with_units (units_of u) w → further_runs (n - k) run w ≡ then_row (run u) (further_runs (n - (k + 1)) run)
one-run run w u k n l e f =
    let m : ℕ = n - (k + 1) in
    ap (λ i. further_runs i run w) (one_less k n l)
    ∙ ap (λ i. after_unit i (λ v. then_row (run v) (further_runs m run)) w) e
    ∙ ap (λ v. then_row (run v) (further_runs m run)) (sym f)

-- the first run
pub run-first : (run : Flat → RowEnd) (w next : Flat) (n : ℕ) → run w ≡ does next → further_runs (n - 1) run next ≡ runs n run w
run-first run w next n g = sym (ap (λ e. then_row e (further_runs (n - 1) run)) g)

-- one more run
pub run-more : (run : Flat → RowEnd) (w u next : Flat) (k n : ℕ) (whole : RowEnd) → k < n → units_of w ≡ suc (units_of u) → u ≡ with_units (units_of u) w → run u ≡ does next
    → further_runs (n - k) run w ≡ whole → further_runs (n - (k + 1)) run next ≡ whole
run-more run w u next k n whole l e f g h =
    sym (ap (λ x. then_row x (further_runs (n - (k + 1)) run)) g) ∙ sym (one-run run w u k n l e f) ∙ h

-- a row that fails ends all
fails-all : (error : EditError) (next : Flat) (end whole : RowEnd) (rest : Flat → RowEnd) → whole ≡ then_row end rest → IfSome (row_of error) (λ row. end ≡ record { world = next; row = row }) → IfSome (row_of error) (λ row. whole ≡ record { world = next; row = row })
fails-all TextFull next end whole rest w e = w ∙ ap (λ x. then_row x rest) e
fails-all UndoFull next end whole rest w e = w ∙ ap (λ x. then_row x rest) e
fails-all NothingToUndo next end whole rest w e = w ∙ ap (λ x. then_row x rest) e
fails-all NothingToRedo next end whole rest w e = w ∙ ap (λ x. then_row x rest) e
fails-all NoSuchNode next end whole rest w e = w ∙ ap (λ x. then_row x rest) e
fails-all (NoSuchRegister name) next end whole rest w e = w ∙ ap (λ x. then_row x rest) e
fails-all (ReadOnlyRegister name) next end whole rest w e = w ∙ ap (λ x. then_row x rest) e
fails-all RegisterFull next end whole rest w e = w ∙ ap (λ x. then_row x rest) e
fails-all SharedLine next end whole rest w e = w ∙ ap (λ x. then_row x rest) e
fails-all (Command error) next end whole rest w e = w ∙ ap (λ x. then_row x rest) e
fails-all BadPattern next end whole rest w e = w ∙ ap (λ x. then_row x rest) e
fails-all NothingSelected next end whole rest w e = w ∙ ap (λ x. then_row x rest) e
fails-all TooManySelections next end whole rest w e = w ∙ ap (λ x. then_row x rest) e
fails-all BudgetSpent next end whole rest w e = w ∙ ap (λ x. then_row x rest) e
fails-all NoMemory next end whole rest w e = tt

pub first-fails : (run : Flat → RowEnd) (error : EditError) (w next : Flat) (n : ℕ) → IfSome (row_of error) (λ row. run w ≡ record { world = next; row = row }) → IfSome (row_of error) (λ row. runs n run w ≡ record { world = next; row = row })
first-fails run error w next n e = fails-all error next (run w) (runs n run w) (further_runs (n - 1) run) refl e

pub more-fails : (run : Flat → RowEnd) (error : EditError) (w u next : Flat) (k n : ℕ) (whole : RowEnd) → k < n → units_of w ≡ suc (units_of u) → u ≡ with_units (units_of u) w → further_runs (n - k) run w ≡ whole
    → IfSome (row_of error) (λ row. run u ≡ record { world = next; row = row }) → IfSome (row_of error) (λ row. whole ≡ record { world = next; row = row })
more-fails run error w u next k n whole l e f h g = fails-all error next (run u) whole (further_runs (n - (k + 1)) run) (sym h ∙ one-run run w u k n l e f) g

-- no unit is left for a further one
pub run-spent : (run : Flat → RowEnd) (w u : Flat) (k n : ℕ) (whole : RowEnd) → k < n → units_of w ≡ 0 → u ≡ w
    → further_runs (n - k) run w ≡ whole → whole ≡ record { world = u; row = GivesUp }
run-spent run w u k n whole l e f h =
    let m : ℕ = n - (k + 1) in
    sym h
    ∙ ap (λ i. further_runs i run w) (one_less k n l)
    ∙ ap (λ i. after_unit i (λ v. then_row (run v) (further_runs m run)) w) e
    ∙ ap (λ (v : Flat). let r : RowEnd = record { world = v; row = GivesUp } in r) (sym f)

-- a unit was taken behind so many runs
pub next-begins : (run : Flat → RowEnd) (old w u : Flat) (k : ℕ) → 1 ≤ k → units_of w ≡ suc (units_of u) → u ≡ with_units (units_of u) w → w ≡ (run (before_run (k - 1) run old)).world → u ≡ before_run k run old
next-begins run old w u zero l e f h = absurd (omega (arith, l))
next-begins run old w u (suc k) l e f h =
    let left : units_of w - 1 ≡ units_of u = omega (arith, e) in
    let one : suc k - 1 ≡ k = omega arith in
    f ∙ ap (λ n. with_units n w) (sym left) ∙ ap unit_taken (h ∙ ap (λ n. (run (before_run n run old)).world) one)

-- one more run behind it
pub reached-next : (run : Flat → RowEnd) (old u next : Flat) (k : ℕ) → u ≡ before_run k run old → run u ≡ does next → next ≡ (run (before_run (k + 1 - 1) run old)).world
reached-next run old u next k b g =
    let same : k ≡ k + 1 - 1 = omega arith in
    sym (ap (λ (e : RowEnd). e.world) g) ∙ ap (λ w. (run w).world) (b ∙ ap (λ n. before_run n run old) same)

-- a further run came part of the way
pub further-part : (count k : ℕ) (run : Flat → RowEnd) (part : Flat → Flat → Type 0) (old u new : Flat) → k < count → u ≡ before_run k run old → part u new → ArePartOfRuns count run part old new
further-part count k run part old u new l e h = record { made = k; few = omega (arith, l); is = subst (λ w. part w new) e h }
