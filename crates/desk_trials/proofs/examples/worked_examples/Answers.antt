use Rattle.std.proofs.Common.{◌≡◌, ℕ, Option, Some, None, Err, refl, arith}
use Rattle.session_desk.specs.Histories.{first_mark}
use Rattle.desk_trials.specs.declared.tally.Refusal.TheVariants.{Zero}
use Rattle.desk_trials.specs.Tally.{tally_answer}
use Rattle.desk_trials.specs.Examples.{two_moves}
use Rattle.desk_trials.proofs.examples.worked_examples.Goals as goal

-- a mark is found or set
never_none : (before : Option ℕ) (k : ℕ) → None ≡ first_mark before (Some k) → ⊥
never_none None k e = cc
never_none (Some m) k e = cc

-- a move of 5 is never refused as one of 0
not_zero : (before : Option ℕ) → tally_answer two_moves before 5 ≡ Err Zero → ⊥
not_zero None e = cc
not_zero (Some k) e = cc

pub returns : goal.returns
returns c = record {
  first = refl;
  second = refl;
  zero = refl;
  total = refl;
  too_high = refl;
  marked = refl;
  played = refl;
  refused = record { inside = omega arith; before = None; answer = (refl, refl, refl) };
  stuck = record { inside = omega arith; before = None; answer = (refl, refl, refl) };
  never_without_mark = λ r. never_none r.before 2 r.answer.2;
  never_for_nothing = λ r. not_zero r.before r.answer.0;
  never_behind = λ r. absurd (let l = r.inside in omega arith);
}
