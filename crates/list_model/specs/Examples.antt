-- Worked examples of settling, which hold by computation.
use Rattle.std.specs.Prelude.{◌≡◌, ℕ, true, false, None, [], ◌∷◌}
use Rattle.list_model.specs.Ranges.{Range, cursor, anchor, only}
use Rattle.text_model.specs.Changes.{Move}
use Rattle.list_model.specs.Settling.{settled}
use Rattle.list_model.specs.Moving.{moved_at_once}

-- a straight selection, and a turned one
abbrev pub straight : ℕ → ℕ → Range
straight a b = record { low = a; high = b; turned = false; target = None }

abbrev pub turned : ℕ → ℕ → Range
turned a b = record { low = a; high = b; turned = true; target = None }

-- the third to the fifth character taken out of nine, and then the second of what is left
abbrev pub three_taken : Move
three_taken = record { insert = false; begin = 2; end = 5; last = 5 }

abbrev pub one_taken : Move
one_taken = record { insert = false; begin = 1; end = 2; last = 4 }

pub record Examples : Type 0 where
  pub cursor_of_straight : cursor (straight 1 4) ≡ 4
  pub cursor_of_turned : cursor (turned 1 4) ≡ 1
  pub anchor_of_turned : anchor (turned 1 4) ≡ 4
  pub one_stays : settled (record { list = only 3 ∷ []; main = 0 }) ≡ record { list = only 3 ∷ []; main = 0 }
  -- those that only touch stay apart
  pub touching_stay : settled (record { list = straight 0 1 ∷ straight 2 3 ∷ []; main = 1 }) ≡ record { list = straight 0 1 ∷ straight 2 3 ∷ []; main = 1 }
  -- those that share a character become one, with the flag of the first
  pub sharing_join : settled (record { list = turned 0 2 ∷ straight 2 3 ∷ []; main = 1 }) ≡ record { list = turned 0 3 ∷ []; main = 0 }
  pub chains_join : settled (record { list = straight 5 6 ∷ straight 0 2 ∷ straight 2 5 ∷ straight 8 8 ∷ []; main = 0 }) ≡ record { list = straight 0 6 ∷ straight 8 8 ∷ []; main = 0 }
  pub inner_is_held : settled (record { list = straight 0 9 ∷ turned 1 3 ∷ straight 10 10 ∷ []; main = 2 }) ≡ record { list = straight 0 9 ∷ straight 10 10 ∷ []; main = 1 }
  -- where they begin together, the first in the list is the first
  pub first_of_equals : settled (record { list = straight 2 2 ∷ turned 0 1 ∷ straight 0 0 ∷ []; main = 2 }) ≡ record { list = turned 0 1 ∷ straight 2 2 ∷ []; main = 0 }
  pub three_become_one : settled (record { list = straight 3 5 ∷ straight 1 3 ∷ straight 4 4 ∷ []; main = 0 }) ≡ record { list = straight 1 5 ∷ []; main = 0 }
  -- through a change, selections may come to share a character
  pub moved_and_joined : moved_at_once (three_taken ∷ []) (record { list = turned 1 2 ∷ straight 5 6 ∷ []; main = 1 }) ≡ record { list = turned 1 3 ∷ []; main = 0 }
  pub moved_twice : moved_at_once (three_taken ∷ one_taken ∷ []) (record { list = turned 1 2 ∷ straight 5 6 ∷ []; main = 1 }) ≡ record { list = turned 1 2 ∷ []; main = 0 }
  pub cut_to_the_last : moved_at_once (three_taken ∷ []) (record { list = straight 2 8 ∷ []; main = 0 }) ≡ record { list = straight 2 5 ∷ []; main = 0 }
