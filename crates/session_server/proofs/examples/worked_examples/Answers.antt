use Rattle.std.proofs.Common.{◌≡◌, ◌⊎◌, inl, inr, ℕ, Bool, true, false, List, [], ◌∷◌, ◌++◌, Option, Some, None, refl, sym, arith, subst, ◌==◌}
use Rattle.std.specs.Prelude.{if◌then◌else◌}
use Rattle.std.proofs.lemmas.Bool.{eqb-true}
use Rattle.session_turns.specs.Histories.{own}
use Rattle.session_events.specs.declared.event.Event.{Event}
use Rattle.session_events.specs.declared.event.Event.TheVariants.{Join, Refresh, Leave}
use Rattle.session_events.specs.declared.event.Entry.{Entry}
use Rattle.session_events.specs.Entries.{entry_of}
use Rattle.session_events.specs.Meaning.{rules}
use Rattle.kak_engine.specs.Steps.{given_by}
use Rattle.session_events.specs.Counting.{joined_among}
use Rattle.session_server.specs.Sessions.{AllWent}
use Rattle.session_server.specs.Examples.{came, went}
use Rattle.session_server.proofs.examples.worked_examples.Goals as goal

-- a client that is here hasn't left all alone
never : (front rest : List Entry) → came ≡ front ++ rest → AllWent front → ⊥
never [] rest e w = absurd (omega (arith, w.came))
never (a ∷ []) rest e w =
    let first : ◌≡◌ {A = Entry} (entry_of 0 Join) a = cc in
    let none : joined_among (entry_of 0 Join ∷ []) ≡ 0 = subst (λ (x : Entry). joined_among (x ∷ []) ≡ 0) (sym first) w.none in
    absurd (omega (arith, none))
never (a ∷ b ∷ []) rest e w =
    let first : ◌≡◌ {A = Entry} (entry_of 0 Join) a = cc in
    let second : ◌≡◌ {A = Entry} (entry_of 0 (Refresh true)) b = cc in
    let none : joined_among (entry_of 0 Join ∷ b ∷ []) ≡ 0 = subst (λ (x : Entry). joined_among (x ∷ b ∷ []) ≡ 0) (sym first) w.none in
    let none_either : joined_among came ≡ 0 = subst (λ (x : Entry). joined_among (entry_of 0 Join ∷ x ∷ []) ≡ 0) (sym second) none in
    absurd (omega (arith, none_either))
never (a ∷ b ∷ c ∷ front) rest e w =
    let behind : ◌≡◌ {A = List Entry} [] (c ∷ (front ++ rest)) = cc in
    cc

-- what is a client's own of those who had come when it was over, by whether it is client 0
abbrev last_of : Bool → List Event
last_of t = if t then Leave ∷ [] else []

abbrev drawn_of : Bool → List Event
drawn_of t = if t then Refresh true ∷ last_of t else last_of t

abbrev own_of : Bool → List Event
own_of t = if t then Join ∷ drawn_of t else drawn_of t

-- who had come then is another one than who comes behind that
another : (who : ℕ) → (own (rules given_by) who went ≡ []) ⊎ (own (rules given_by) who (entry_of 1 Join ∷ []) ≡ [])
another who = by (0 == who) refl
  where
    by : (t : Bool) → (0 == who) ≡ t → (own_of t ≡ []) ⊎ (own (rules given_by) who (entry_of 1 Join ∷ []) ≡ [])
    by true e = inr (subst (λ k. own (rules given_by) k (entry_of 1 Join ∷ []) ≡ []) (eqb-true 0 who e) refl)
    by false e = inl refl

none_is : (at : ℕ) → ◌≡◌ {A = Option ℕ} (Some at) None → ⊥
none_is at e = cc

pub returns : goal.returns
returns c = record {
  over = record { came = omega arith; none = refl };
  not_begun = λ w. absurd (omega (arith, w.came));
  still_here = λ w. absurd (omega (arith, w.none));
  here_again = λ w. absurd (omega (arith, w.none));
  was_over = record { front = went; begins = (entry_of 1 Join ∷ [], refl); went = record { came = omega arith; none = refl }; alone = another };
  never_over = λ d. never d.front d.begins.0 d.begins.1 d.went;
  looked_over = record { came = omega arith; none = refl };
  looked_broken = refl;
  looked_early = (refl, λ l. absurd (omega (arith, l)));
  looked_in_vain = λ l. absurd (omega (arith, l.1 (omega arith)));
  looked_past = λ l. none_is 2 l.0;
  dropped = refl;
  one_too_many = refl;
  none_dropped = refl;
  accepting = omega arith;
  not_accepting = λ r. absurd (omega (arith, r));
  accepted = λ e. absurd (omega (arith, e));
  spawning = omega arith;
  spawned = λ e. absurd (omega (arith, e));
  ended = refl;
  broke = refl;
  full = refl;
  usage = refl;
  unbound = refl;
}
