use Rattle.std.proofs.Common.{◌≡◌, ℕ, ◌≤◌, List, [], ◌∷◌, ◌++◌, length, refl, sym, ap, ◌∙◌, arith}
use Rattle.session_turns.specs.Lines.{whole_lines}
use Rattle.session_turns.specs.Turns.{Turn, Line, Phase, Opening, During, later, lines_among}
use Rattle.session_lines.specs.Reading.{IsTakenFor}
use Rattle.session_lines.specs.Examples.{both, input, opened}
use Rattle.session_lines.proofs.examples.worked_examples.Goals as goal

nothing-played : (front : List Turn) (rest : List Phase) → Opening ∷ [] ≡ Opening ∷ (later front ++ rest) → front ≡ []
nothing-played [] rest e = refl
nothing-played (turn ∷ front) rest e = let no : ◌≡◌ {A = List Phase} [] (During turn ∷ (later front ++ rest)) = cc in cc

behind : (early piece : List ℕ) → 97 ∷ 10 ∷ 98 ∷ 10 ∷ [] ≡ early ++ piece → length piece ≤ 2 → length (whole_lines [] early) ≡ 0 → ⊥
behind [] piece e le none = absurd (omega (arith, ap length e, le))
behind (x ∷ []) piece e le none = absurd (omega (arith, ap length e, le))
behind (x ∷ y ∷ early) piece e le none =
    let first : x ≡ 97 = cc in
    let next : y ≡ 10 = cc in
    let no : length ((97 ∷ []) ∷ whole_lines [] early) ≡ 0 = rw (first, next) at none in
    absurd (omega (arith, no))

taken-ahead : IsTakenFor opened opened input both → ⊥
taken-ahead t = behind t.early t.piece t.cut t.most (ap length (sym t.lines ∙ ap lines_among (nothing-played t.front t.inside.0 t.inside.1)))

pub returns : goal.returns
returns c = record {
  for_first = record { early = []; piece = 97 ∷ 10 ∷ []; cut = refl; one = omega arith; most = omega arith; front = []; lines = refl; inside = ([], refl) };
  for_second = record { early = 97 ∷ 10 ∷ []; piece = 98 ∷ 10 ∷ []; cut = refl; one = omega arith; most = omega arith; front = Line (97 ∷ []) ∷ []; lines = refl; inside = ([], refl) };
  ahead = taken-ahead;
}
