-- Worked examples of what was taken of an input where playing stopped: it is two lines, and one take gives one of them.
use Rattle.std.specs.Prelude.{ℕ, List, [], ◌∷◌, Some}
use Rattle.kak_ports.specs.Ports.{Inlet}
use Rattle.session_turns.specs.Turns.{Line, Phase, Opening, During}
use Rattle.session_lines.specs.Reading.{IsTakenFor}

abbrev pub both : List ℕ
both = 97 ∷ 10 ∷ 98 ∷ 10 ∷ []

abbrev pub input : Inlet
input = record { left = Some both; most = 2; faults = 0 }

abbrev pub opened : List Phase
opened = Opening ∷ []

pub record Examples : Type 0 where
  -- for the first line one take is needed, and for the second one both are, once the first one was played
  pub for_first : IsTakenFor opened opened input (97 ∷ 10 ∷ [])
  pub for_second : IsTakenFor (Opening ∷ During (Line (97 ∷ [])) ∷ []) opened input both
  -- nothing is taken ahead
  pub ahead : IsTakenFor opened opened input both → ⊥
