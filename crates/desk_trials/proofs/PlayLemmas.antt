-- What the history of a closed desk says of the two passes that were given back.
use Rattle.std.proofs.Common.{◌≡◌, ℕ, List, [], ◌∷◌, ◌++◌, All, subst, ◌∙◌, Option, Some, None}
use Rattle.std.specs.Prelude.{IfSome}
use Rattle.std.proofs.lemmas.List.Elements.{All-head, All-tail}
use Rattle.session_desk.specs.Histories.{entries_by, GivenBack, HasGiven, HasMet}
use Rattle.desk_trials.specs.declared.tally.Addition.{Addition}
use Rattle.desk_trials.specs.declared.tally.Refusal.{Refusal}
use Rattle.desk_trials.specs.Tally.{who_of, TallyHasPlayed, IsTallyRefused, WasRefused}

-- what a pass played stands in a history that has its list
pub played_in : (history seen : List Addition) (mark : Option ℕ) (number n : ℕ) (moves : List ℕ) (played : ℕ) → number ≡ n → HasGiven who_of history (number, seen, mark) → TallyHasPlayed seen n moves played → TallyHasPlayed history n moves played
played_in history seen mark number n moves played is has so_far = subst (λ (m : ℕ). entries_by who_of m history ≡ entries_by who_of m seen) is has.own_entries ∙ so_far

-- what refused a pass refused it in a history that has its list
pub refused_in : (history seen : List Addition) (mark marked : Option ℕ) (number n : ℕ) (moves : List ℕ) (played : ℕ) (stop : Option Refusal) → number ≡ n
    → HasGiven who_of history (number, seen, mark) → HasMet marked (number, seen, mark)
    → IfSome stop (λ refusal. IsTallyRefused seen mark n moves played refusal) → IfSome stop (λ refusal. WasRefused history marked n moves played refusal)
refused_in history seen mark marked number n moves played None is has met refused = tt
refused_in history seen mark marked number n moves played (Some refusal) is has met refused = record {
  additions = seen;
  met = mark;
  begins = has.begins;
  own_entries = subst (λ (m : ℕ). entries_by who_of m history ≡ entries_by who_of m seen) is has.own_entries;
  mark_is = met;
  refused = refused;
}

-- what holds for all that were given back holds for the first and the second of two
pub first_of_two : (P : GivenBack Addition → Type 0) (given before : List (GivenBack Addition)) (a b : GivenBack Addition) → before ≡ [] → given ≡ (before ++ a ∷ []) ++ b ∷ [] → All P given → P a
first_of_two P given before a b bare is all = All-head P a (b ∷ []) (subst (λ (gs : List (GivenBack Addition)). All P gs) (is ∙ (λ i. (bare i ++ a ∷ []) ++ b ∷ [])) all)

pub second_of_two : (P : GivenBack Addition → Type 0) (given before : List (GivenBack Addition)) (a b : GivenBack Addition) → before ≡ [] → given ≡ (before ++ a ∷ []) ++ b ∷ [] → All P given → P b
second_of_two P given before a b bare is all = All-head P b [] (All-tail P a (b ∷ []) (subst (λ (gs : List (GivenBack Addition)). All P gs) (is ∙ (λ i. (bare i ++ a ∷ []) ++ b ∷ [])) all))
