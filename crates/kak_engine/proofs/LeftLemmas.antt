-- How a world is left by what happened in a step, one thing after another.
use Rattle.std.proofs.Common.{◌≡◌, ℕ, List, [], ◌∷◌, ◌++◌, refl, sym, ap, ◌∙◌, subst, inl, inr}
use Rattle.std.specs.Prelude.{◌⊎◌, Ok, Err, IfSome, OnErr, IsErrOf}
use Rattle.std.specs.declared.result.Result.{Result}
use Rattle.kak_world.specs.declared.ask.Ask.{Ask}
use Rattle.kak_world.specs.declared.ask.EditError.{EditError}
use Rattle.kak_world.specs.declared.ask.EditError.TheVariants.{BudgetSpent, NoMemory}
use Rattle.kak_world.specs.Flat.{Flat}
use Rattle.kak_world.proofs.AnswerLemmas.{ok-err}
use Rattle.kak_world.specs.Rows.{RowEnd, GivesRow, row_of}
use Rattle.session_turns.specs.Growth.{Begins}
use Rattle.kak_engine.specs.Asking.{Asked}
use Rattle.kak_engine.specs.Course.{Task, Happened, WasAsked, Began, asks_in}
use Rattle.kak_engine.specs.Doing.{task_row}
use Rattle.kak_engine.specs.Wanting.{IsPartOfTask, IsWithinTask, IsLeftBy}

pub left-more : (P Q : Flat → Type 0) → ((x : Flat) → P x → Q x) → (course : List Happened) (new : Flat) → IsLeftBy P course new → IsLeftBy Q course new
left-more P Q f [] new l = f new l
left-more P Q f (WasAsked what ∷ later) new l = left-more P Q f later new l
left-more P Q f (Began who task flat ∷ later) new l = l

pub left-append : (P : Flat → Type 0) (a b : List Happened) (new : Flat) → IsLeftBy (λ x. IsLeftBy P a x) b new → IsLeftBy P (a ++ b) new
left-append P [] b new l = l
left-append P (WasAsked what ∷ a) b new l = left-append P a b new l
left-append P (Began who task flat ∷ a) b new l = left-append (IsWithinTask task who flat) a b new l

-- behind a world that was left so, another one was
pub left-behind : (old mid : Flat) (a b : List Happened) (new : Flat) → IsLeftBy (λ x. x ≡ old) a mid → IsLeftBy (λ x. x ≡ mid) b new → IsLeftBy (λ x. x ≡ old) (a ++ b) new
left-behind old mid a b new l m =
    left-append (λ x. x ≡ old) a b new
    (left-more (λ x. x ≡ mid) (λ x. IsLeftBy (λ y. y ≡ old) a x) (λ x e. subst (λ z. IsLeftBy (λ y. y ≡ old) a z) (sym e) l) b new m)

-- behind a task that began
pub left-begun : (who : ℕ) (task : Task) (before now : Flat) (course : List Happened) (new : Flat) → IsWithinTask task who before now → IsLeftBy (λ x. x ≡ now) course new → IsLeftBy (IsWithinTask task who before) course new
left-begun who task before now course new w l =
    left-more (λ x. x ≡ now) (λ x. IsWithinTask task who before x) (λ x e. subst (λ y. IsWithinTask task who before y) (sym e) w) course new l

pub asks_in-append : (a b : List Happened) → asks_in (a ++ b) ≡ asks_in a ++ asks_in b
asks_in-append [] b = refl
asks_in-append (WasAsked what ∷ a) b = ap (λ (q : List Asked). what ∷ q) (asks_in-append a b)
asks_in-append (Began who task flat ∷ a) b = asks_in-append a b

pub asks-begin : (all some : List Happened) → Begins all some → Begins (asks_in all) (asks_in some)
asks-begin all some b = (asks_in b.0, ap asks_in b.1 ∙ asks_in-append some b.0)

-- a task whose row was answered: it came part of the way where memory was wanting, and else its row was done
given-within : (P : Type 0) (error : EditError) (now : Flat) (end : RowEnd) → IfSome (row_of error) (λ row. end ≡ record { world = now; row = row }) → (error ≡ NoMemory → P) → P ⊎ (now ≡ end.world)
given-within P NoMemory now end g w = inl (w refl)
given-within P BudgetSpent now end g w = inr (ap (λ (x : RowEnd). x.world) (sym g))
given-within P error now end g w = inr (ap (λ (x : RowEnd). x.world) (sym g))

pub row-within : (who : ℕ) (task : Task) (row : Result Ask EditError) (before now : Flat) → GivesRow row now (task_row task who before) → (IsErrOf row NoMemory → IsPartOfTask task who before now) → IsWithinTask task who before now
row-within who task (Ok ask) before now g w = inr (ap (λ (x : RowEnd). x.world) (sym g))
row-within who task (Err error) before now g w = given-within (IsPartOfTask task who before now) error now (task_row task who before) g (λ n. w (ap Err n))

-- what holds at an error holds at this one
pub of-err : {T E P : Type 0} (r : Result T E) (e : E) → OnErr r P → IsErrOf r e → P
of-err (Ok x) e p h = absurd (ok-err x e h)
of-err (Err f) e p h = p
