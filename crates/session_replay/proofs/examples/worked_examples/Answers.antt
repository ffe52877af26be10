use Rattle.std.proofs.Common.{◌≡◌, ℕ, ◌<◌, ◌≤◌, inl, inr, List, [], ◌∷◌, ◌++◌, length, refl, ap, arith}
use Rattle.session_turns.specs.Lines.{whole_lines}
use Rattle.session_replay.specs.Replays.{AreFirst}
use Rattle.session_replay.specs.Examples.{input}
use Rattle.session_replay.proofs.WholeReplay.{whole-replay}
use Rattle.session_replay.proofs.examples.worked_examples.Goals as goal

cut-off : AreFirst (input (48 ∷ 10 ∷ 49 ∷ 50 ∷ [])) (48 ∷ 10 ∷ 49 ∷ []) ((48 ∷ []) ∷ (49 ∷ []) ∷ []) → ⊥
cut-off (inl first) = absurd (omega (arith, ap length first.1))
cut-off (inr all) = absurd (omega (arith, ap length all.0))

ahead : (before piece : List ℕ) → 48 ∷ 10 ∷ 49 ∷ 10 ∷ [] ≡ before ++ piece → length piece ≤ 2 → length (whole_lines [] before) < 1 → ⊥
ahead [] piece e le few = absurd (omega (arith, ap length e, le))
ahead (x ∷ []) piece e le few = absurd (omega (arith, ap length e, le))
ahead (x ∷ y ∷ before) piece e le few =
    let first : x ≡ 48 = cc in
    let next : y ≡ 10 = cc in
    let no : length ((48 ∷ []) ∷ whole_lines [] before) < 1 = rw (first, next) at few in
    absurd (omega (arith, no))

pub returns : goal.returns
returns c = record {
  nobody_came = refl;
  nobody_left = refl;
  one_left = refl;
  both_left = refl;
  alone_left = refl;
  came_behind = refl;
  rising = refl;
  falling = refl;
  none_leaves = refl;
  part_of_a_line = refl;
  behind_a_leaving = refl;
  before_the_end = refl;
  came_early = λ stands. absurd (omega (arith, stands.1));
  no_such_client = refl;
  all_good = refl;
  some_lines = inl ([] ∷ [], refl);
  last_part = inr (refl, ([], refl));
  cut_off = cut-off;
  taken_ahead = λ n. ahead n.before n.piece n.cut n.most n.fewer;
  taken_for_two = record { before = 48 ∷ 10 ∷ []; piece = 49 ∷ 10 ∷ []; cut = refl; one = omega arith; most = omega arith; fewer = omega arith };
  taken_for_last = record { before = 48 ∷ 10 ∷ 49 ∷ []; piece = []; cut = refl; one = omega arith; most = omega arith; fewer = omega arith };
  only_unwritten = refl;
  bad_before = refl;
  full_before = refl;
  whole = whole-replay;
}
