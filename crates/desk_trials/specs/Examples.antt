-- Worked examples: passes 0 and 1 add 3 and 4; a move of 0 is refused, and one above a thousand sets the mark.
use Rattle.std.specs.Prelude.{◌≡◌, List, [], ◌∷◌, Some, None, Ok, Err}
use Rattle.desk_trials.specs.declared.tally.Refusal.TheVariants.{Zero, Stuck}
use Rattle.desk_trials.specs.declared.tally.Addition.{Addition}
use Rattle.desk_trials.specs.Tally.{addition, tally_answer, sum_of, TallyHasPlayed, IsTallyRefused}

abbrev pub two_moves : List Addition
two_moves = addition 0 3 ∷ addition 1 4 ∷ []

pub record Examples : Type 0 where
  pub first : tally_answer [] None 3 ≡ Ok 0
  pub second : tally_answer (addition 0 3 ∷ []) None 4 ≡ Ok 3
  pub zero : tally_answer two_moves None 0 ≡ Err Zero
  pub total : sum_of two_moves ≡ 7
  pub too_high : tally_answer (addition 0 3 ∷ []) None 1001 ≡ Err Stuck
  pub marked : tally_answer (addition 0 3 ∷ []) (Some 1) 1 ≡ Err Stuck
  pub played : TallyHasPlayed two_moves 1 (4 ∷ 5 ∷ []) 1
  -- a move of 0 is refused at its place, and sets no mark
  pub refused : IsTallyRefused two_moves None 1 (4 ∷ 0 ∷ []) 1 Zero
  -- one above a thousand sets the mark
  pub stuck : IsTallyRefused two_moves (Some 2) 1 (4 ∷ 1001 ∷ []) 1 Stuck
  pub never_without_mark : IsTallyRefused two_moves None 1 (4 ∷ 1001 ∷ []) 1 Stuck → ⊥
  -- a move that the tally takes isn't refused as one of 0, nor is one behind the last
  pub never_for_nothing : IsTallyRefused two_moves None 1 (4 ∷ 5 ∷ []) 1 Zero → ⊥
  pub never_behind : IsTallyRefused two_moves None 1 (4 ∷ 0 ∷ []) 2 Zero → ⊥
