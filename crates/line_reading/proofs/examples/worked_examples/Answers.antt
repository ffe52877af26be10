use Rattle.std.proofs.Common.{◌≡◌, ℕ, ◌≤◌, inl, inr, true, false, List, [], ◌∷◌, ◌++◌, length, refl, ap, arith}
use Rattle.session_turns.specs.Lines.{HasNoNewline}
use Rattle.line_reading.specs.Reading.{IsNeeded}
use Rattle.line_reading.specs.Examples.{input}
use Rattle.line_reading.proofs.examples.worked_examples.Goals as goal

behind : (before piece : List ℕ) → 1 ∷ 10 ∷ 2 ∷ 3 ∷ [] ≡ before ++ piece → HasNoNewline before → length piece ≤ 2 → ⊥
behind [] piece e h le = absurd (omega (arith, ap length e, le))
behind (x ∷ []) piece e h le = absurd (omega (arith, ap length e, le))
behind (x ∷ y ∷ before) piece e h le =
    let first : x ≡ 1 = cc in
    let next : y ≡ 10 = cc in
    let no : true ≡ false = rw (first, next) at h in
    cc

ahead : IsNeeded [] (input (1 ∷ 10 ∷ 2 ∷ 3 ∷ [])) (1 ∷ 10 ∷ 2 ∷ 3 ∷ []) → ⊥
ahead (inl e) = cc
ahead (inr p) = behind p.before p.piece p.cut p.none p.most

unasked : IsNeeded (10 ∷ []) (input (1 ∷ [])) (1 ∷ []) → ⊥
unasked (inl e) = cc
unasked (inr p) = let no : true ≡ false = p.none in cc

pub returns : goal.returns
returns c = record {
  line = record {
    bytes = 3 ∷ 10 ∷ [];
    takes = refl;
    counted = refl;
    few = omega arith;
    needed = inr (record { before = []; piece = 3 ∷ 10 ∷ []; cut = refl; none = refl; one = omega arith; most = omega arith });
    gives = record { split = refl; first = refl };
  };
  pending = record { bytes = []; takes = refl; counted = refl; few = omega arith; needed = inl refl; gives = record { split = refl; first = refl } };
  last = record {
    bytes = 2 ∷ 3 ∷ 4 ∷ [];
    takes = refl;
    counted = refl;
    few = omega arith;
    needed = inr (record { before = 2 ∷ 3 ∷ []; piece = 4 ∷ []; cut = refl; none = refl; one = omega arith; most = omega arith });
    gives = record { ended = refl; all = refl; none = refl; some = omega arith; nothing = refl };
  };
  ended = record { bytes = []; takes = refl; counted = refl; few = omega arith; needed = inl refl; gives = record { ended = refl; all = refl; nothing = refl } };
  failed = record {
    bytes = 2 ∷ 3 ∷ [];
    takes = refl;
    counted = refl;
    few = omega arith;
    needed = inr (record { before = []; piece = 2 ∷ 3 ∷ []; cut = refl; none = refl; one = omega arith; most = omega arith });
    gives = record { none = refl; kept = refl };
  };
  ahead = ahead;
  unasked = unasked;
  no_last = λ r. absurd (omega (arith, r.gives.some));
  no_newline = λ r. let no : true ≡ false = r.gives.first in cc;
}
