use Rattle.std.proofs.Common.{◌≡◌, ℕ, Bool, true, false, List, [], ◌∷◌, refl, arith}
use Rattle.jobs.proofs.examples.worked_examples.Goals as goal

pub returns : goal.returns
returns c = record {
  met = (refl, (refl, (refl, tt)));
  none = tt;
  swapped = λ m. absurd (omega (arith, m.0));
  lost = λ m. m.1;
  more = λ m. m.1;
  started = refl;
  not_started = λ s. cc;
  not_behind = λ s. let e : ◌≡◌ {A = ℕ} 5 2 = cc in absurd (omega (arith, e));
  back = (refl, refl);
  another_back = λ s. absurd (omega (arith, s.0));
  back_and_started = λ s. let e : ◌≡◌ {A = List ℕ} (2 ∷ 5 ∷ []) (2 ∷ []) = s.1 in cc;
  no_memory = (refl, refl);
  counted = omega arith;
  not_counted = λ s. absurd (omega (arith, s));
  last_counted = omega arith;
  no_fault = λ s. absurd (omega (arith, s));
  no_fault_of_memory = λ s. absurd (omega (arith, s));
  first_planned = refl;
  second_planned = refl;
  third_planned = refl;
  as_planned = refl;
  not_as_planned = λ s. let e : ◌≡◌ {A = Bool} true false = s in cc;
  unplanned = λ s. let e : ◌≡◌ {A = Bool} false true = s in cc;
  ran = refl;
  ran_wrong = λ s. absurd (omega (arith, s));
  recalled = (refl, λ e. absurd (omega (arith, e)));
  recalled_another = λ s. absurd (omega (arith, s.0));
  recalled_unready = λ s. s.1 refl;
  there = refl;
  there_another = λ s. absurd (omega (arith, s));
  not_there = refl;
  not_there_another = λ s. absurd (omega (arith, s));
}
