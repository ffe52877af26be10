-- A sum, what it answers, and what is due to those who play on it.
use Rattle.std.specs.Prelude.{◌≡◌, ℕ, ◌<◌, ◌==◌, nat_lt, nat_le, is_some, List, [], ◌∷◌, ◌++◌, length, map, take, get_or, sum_by, Option, Some, Result, Ok, Err, if◌then◌else◌}
use Rattle.session_turns.specs.Growth.{Begins}
use Rattle.session_desk.specs.Histories.{entries_by, Met, first_mark}
use Rattle.desk_trials.specs.declared.tally.Addition.{Addition}
use Rattle.desk_trials.specs.declared.tally.Refusal.{Refusal}
use Rattle.desk_trials.specs.declared.tally.Refusal.TheVariants.{Zero, Stuck, NoMemory}

-- what was added so far, and the mark
pub record TallyView : Type 0 where
  pub additions : List Addition
  pub mark : Option ℕ

abbrev pub addition : ℕ → ℕ → Addition
addition who amount = record { who = who; amount = amount }

abbrev pub who_of : Addition → ℕ
who_of a = a.who

abbrev pub sum_of : List Addition → ℕ
sum_of additions = sum_by (λ a. a.amount) additions

-- the answer that is due to a move, the first cause first: a mark, a move of 0, a million additions, a move above a thousand
abbrev pub tally_answer : List Addition → Option ℕ → ℕ → Result ℕ Refusal
tally_answer additions mark amount =
    if is_some mark then Err Stuck
    else (if amount == 0 then Err Zero
    else (if nat_le 1000000 (length additions) then Err Zero
    else (if nat_lt 1000 amount then Err Stuck
    else Ok (sum_of additions))))

-- what a move by who answers and leaves. Want of memory is told only of a move that would be taken, and leaves all as it was.
abbrev pub IsTallyAnswer : List Addition → Option ℕ → ℕ → ℕ → Result ℕ Refusal → List Addition → Option ℕ → Type 0
IsTallyAnswer before mark who amount (Ok sum) after mark' =
    (tally_answer before mark amount ≡ Ok sum) × (after ≡ before ++ addition who amount ∷ []) × (mark' ≡ mark)
IsTallyAnswer before mark who amount (Err Zero) after mark' =
    (tally_answer before mark amount ≡ Err Zero) × (after ≡ before) × (mark' ≡ mark)
IsTallyAnswer before mark who amount (Err Stuck) after mark' =
    (tally_answer before mark amount ≡ Err Stuck) × (after ≡ before) × (mark' ≡ first_mark mark (Some (length before)))
IsTallyAnswer before mark who amount (Err NoMemory) after mark' =
    (tally_answer before mark amount ≡ Ok (sum_of before)) × (after ≡ before) × (mark' ≡ mark)

-- under this number stand just the first so many of the amounts, in order
abbrev pub TallyHasPlayed : List Addition → ℕ → List ℕ → ℕ → Type 0
TallyHasPlayed additions who amounts played = entries_by who_of who additions ≡ map (addition who) (take played amounts)

-- a tally that stood for these additions refused the move at this place for this reason, and then had this mark
pub record IsTallyRefused (additions : List Addition) (mark : Option ℕ) (who : ℕ) (amounts : List ℕ) (place : ℕ) (refusal : Refusal) : Type 0 where
  pub inside : place < length amounts
  pub before : Option ℕ
  pub answer : IsTallyAnswer additions before who (get_or amounts place 0) (Err refusal) additions mark

-- once in this history, when all that has this number stood there already, the move at this place was refused for this reason
pub record WasRefused (history : List Addition) (mark : Option ℕ) (who : ℕ) (amounts : List ℕ) (place : ℕ) (refusal : Refusal) : Type 0 where
  pub additions : List Addition
  pub met : Option ℕ
  pub begins : Begins history additions
  pub own_entries : entries_by who_of who history ≡ entries_by who_of who additions
  pub mark_is : Met met mark
  pub refused : IsTallyRefused additions met who amounts place refusal
