-- How deep a row may nest, as the code of the row answered it.
use Rattle.std.proofs.Common.{◌≡◌, ℕ, suc, ◌+◌, ◌*◌, ◌≤◌, ◌<◌, Bool, true, false, refl, subst, arith}
use Rattle.std.specs.Prelude.{Ok, Err, IfSome}
use Rattle.std.specs.declared.result.Result.{Result}
use Rattle.kak_world.specs.declared.ask.Ask.{Ask}
use Rattle.kak_world.specs.declared.ask.Ask.TheVariants.{Nothing, Commands, Play, Eval, Try, Call, Make, Read, Write, Then, Leave}
use Rattle.kak_world.specs.declared.ask.EditError.{EditError}
use Rattle.kak_world.specs.declared.ask.EditError.TheVariants.{BudgetSpent, NoMemory}
use Rattle.kak_world.specs.declared.ask.Later.{Later}
use Rattle.kak_world.specs.declared.ask.Later.TheVariants as later
use Rattle.kak_world.specs.Flat.{Flat, units_of}
use Rattle.kak_world.specs.Rows.{Row, Asks, Fails, GivesUp, RowEnd, GivesRow, row_of, stages_of, stages_of_write}
use Rattle.kak_engine.specs.Doing.{depth_of}

-- a row has three more stages at most
few-writes : (quits : Bool) → stages_of_write quits ≤ 2
few-writes true = omega arith
few-writes false = omega arith

few-later : (what : Later) → stages_of (Asks (Then what)) ≤ 3
few-later (later.Write saving) = omega (arith, few-writes saving.quits)
few-later later.Quit = omega arith
few-later (later.Drop dropping) = omega arith

few-asked : (ask : Ask) → stages_of (Asks ask) ≤ 3
few-asked Nothing = omega arith
few-asked (Commands text) = omega arith
few-asked (Play play) = omega arith
few-asked (Eval text) = omega arith
few-asked (Try texts) = omega arith
few-asked (Call call) = omega arith
few-asked (Make wanted) = omega arith
few-asked (Read name) = omega arith
few-asked (Write saving) = omega (arith, few-writes saving.quits)
few-asked (Then what) = few-later what
few-asked Leave = omega arith

pub few-stages : (row : Row) → stages_of row ≤ 3
few-stages (Asks ask) = few-asked ask
few-stages (Fails text) = omega arith
few-stages GivesUp = omega arith

-- the measure of what comes behind a row that was refused: the hooks of what it did, and nothing where memory was wanting
abbrev pub error_measure : EditError → ℕ → ℕ
error_measure NoMemory units = 0
error_measure error units = 128 * units

-- the measure of what comes behind a row, by what its code answered and the units that are left
abbrev pub measure_of : Result Ask EditError → ℕ → ℕ
measure_of (Ok ask) units = 128 * units + 32 * stages_of (Asks ask)
measure_of (Err error) units = error_measure error units

-- a row behind which less may come than so many units and stages allow, where it was refused, and however it was answered
low-error : (error : EditError) (units stages : ℕ) (now : Flat) (end : RowEnd) → GivesRow (Err error) now end → depth_of end.row end.world < 4 * units + stages → error_measure error (units_of now) + 32 ≤ 128 * units + 32 * stages
low-error NoMemory units stages now end g low = omega (arith, low)
low-error error units stages now end g low =
    let less : 4 * units_of now + 0 < 4 * units + stages = subst (λ (e : RowEnd). depth_of e.row e.world < 4 * units + stages) g low in
    omega (arith, less)

pub low-answered : (r : Result Ask EditError) (units stages : ℕ) (now : Flat) (end : RowEnd) → GivesRow r now end → depth_of end.row end.world < 4 * units + stages → measure_of r (units_of now) + 32 ≤ 128 * units + 32 * stages
low-answered (Ok ask) units stages now end g low =
    let less : 4 * units_of now + stages_of (Asks ask) < 4 * units + stages = subst (λ (e : RowEnd). depth_of e.row e.world < 4 * units + stages) g low in
    omega (arith, less)
low-answered (Err error) units stages now end g low = low-error error units stages now end g low

-- a row behind a unit that was taken
low-refused : (error : EditError) (units left : ℕ) (now : Flat) (end : RowEnd) → units ≡ suc left → GivesRow (Err error) now end → units_of end.world ≤ left → error_measure error (units_of now) + 32 ≤ 128 * units
low-refused NoMemory units left now end u g falls = omega (arith, u)
low-refused error units left now end u g falls =
    let less : units_of now ≤ left = subst (λ (e : RowEnd). units_of e.world ≤ left) g falls in
    omega (arith, u, less)

pub low-taken : (r : Result Ask EditError) (units left : ℕ) (now : Flat) (end : RowEnd) → units ≡ suc left → GivesRow r now end → units_of end.world ≤ left → measure_of r (units_of now) + 32 ≤ 128 * units
low-taken (Ok ask) units left now end u g falls =
    let less : units_of now ≤ left = subst (λ (e : RowEnd). units_of e.world ≤ left) g falls in
    omega (arith, u, less, few-asked ask)
low-taken (Err error) units left now end u g falls = low-refused error units left now end u g falls

-- the measure of a refusal, which isn't want of memory, and of any
pub error-measure : (error : EditError) (units : ℕ) → (error ≡ NoMemory → ⊥) → error_measure error units ≡ 128 * units
error-measure NoMemory units n = absurd (n refl)
error-measure error units n = refl

pub error-low : (error : EditError) (units : ℕ) → error_measure error units ≤ 128 * units
error-low NoMemory units = omega arith
error-low error units = omega arith

-- where a refusal isn't want of memory, what holds then holds
pub told-holds : {P : Type 0} (error : EditError) → (error ≡ NoMemory → ⊥) → IfSome (row_of error) (λ row. P) → P
told-holds NoMemory n h = absurd (n refl)
told-holds BudgetSpent n h = h
told-holds error n h = h

-- what holds, holds where a refusal is told
pub refused-acts : {P : Type 0} (error : EditError) → P → IfSome (row_of error) (λ row. P)
refused-acts NoMemory h = tt
refused-acts BudgetSpent h = h
refused-acts error h = h
