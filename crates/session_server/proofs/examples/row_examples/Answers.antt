use Rattle.std.proofs.Common.{◌≡◌, ◌<◌, ℕ, ⊎_elim, ◌⊎◌, inl, inr, true, false, List, [], ◌∷◌, ◌++◌, Option, Some, None, length, refl, sym, ap, ◌∙◌, arith}
use Rattle.std.specs.Prelude.{if◌then◌else◌, nat_le}
use Rattle.std.specs.Str.{chars}
use Rattle.session_events.specs.declared.event.Event.{Event}
use Rattle.session_events.specs.declared.event.Event.TheVariants.{Join, Leave}
use Rattle.session_events.specs.declared.event.Answered.{Answered}
use Rattle.session_events.specs.declared.event.Entry.{Entry}
use Rattle.session_events.specs.Entries.{entry_with, is_leave}
use Rattle.link_lines.specs.Endings.{EndsInLeaving, NeverCame}
use Rattle.session_lines.specs.Stops.{IsFull}
use Rattle.kak_world.specs.declared.world.TheConstants.{MAX_CLIENTS}
use Rattle.session_events.specs.Counting.{here_among}
use Rattle.kak_engine.specs.Steps.{given_by, crowded_by}
use Rattle.kak_engine.proofs.HereLemmas.{here-count}
use Rattle.session_server.specs.Rows.{seat_by}
use Rattle.session_server.specs.RowExamples.{both_came, one_went, behind, all_came, place_free}
use Rattle.session_server.proofs.examples.row_examples.Goals as goal

-- who left by the last of some entries, if that is a leaving
abbrev who_left_last : List Entry → Option ℕ
who_left_last [] = None
who_left_last (entry ∷ []) = if is_leave entry.event then Some entry.who else None
who_left_last (entry ∷ next ∷ entries) = who_left_last (next ∷ entries)

leaving-last : (before : List Entry) (who : ℕ) (answers : List Answered) → who_left_last (before ++ entry_with who Leave answers ∷ []) ≡ Some who
leaving-last [] who answers = refl
leaving-last (entry ∷ []) who answers = refl
leaving-last (entry ∷ next ∷ entries) who answers = leaving-last (next ∷ entries) who answers

last-is : (who : ℕ) (history : List Entry) → EndsInLeaving who history → who_left_last history ≡ Some who
last-is who history e = ap who_left_last e.stands ∙ leaving-last e.before who e.answers

none_is : (who : ℕ) → ◌≡◌ {A = Option ℕ} None (Some who) → ⊥
none_is who e = cc

zero_is : ◌≡◌ {A = Option ℕ} (Some 0) (Some 1) → ⊥
zero_is e = cc

not_none : (events : List Event) → Join ∷ events ≡ [] → ⊥
not_none events e = cc

not_filled : (4 < 4) ⊎ (NeverCame given_by 0 one_went × IsFull (seat_by 4 0 one_went None)) → ⊥
not_filled room = ⊎_elim (λ (l : 4 < 4). absurd (omega (arith, l))) (λ (n : NeverCame given_by 0 one_went × IsFull (seat_by 4 0 one_went None)). not_none _ n.0) room

-- there is no room for a client where as many are here as may be
crowded-is : (history : List Entry) → crowded_by history ≡ nat_le MAX_CLIENTS (length (here_among history))
crowded-is history = ap (nat_le MAX_CLIENTS) (sym (here-count history))

pub returns : goal.returns
unfolding chars
returns c = record {
  file = refl;
  no_file = refl;
  left = record { before = both_came; answers = []; stands = refl };
  others = refl;
  here = λ l. none_is 0 (last-is 0 both_came l);
  other_here = λ l. zero_is (last-is 1 one_went l);
  others_in_front = λ l. none_is 0 (last-is 0 (one_went ++ behind) l);
  no_room = refl;
  came_though_full = λ n. not_none [] n;
  full = inl (record { before = both_came; answers = []; stands = refl });
  full_never_came = inr refl;
  full_here = λ l. ⊎_elim (λ (e : EndsInLeaving 1 one_went). zero_is (last-is 1 one_went e)) (λ (n : NeverCame given_by 1 one_went). not_none [] n) l;
  last_place = crowded-is (all_came 63);
  no_place = crowded-is (all_came 64);
  place_again = crowded-is place_free;
  refused = λ link. (crowded-is (all_came 64), refl);
  refused_later = λ link f. let no : false ≡ true = sym (crowded-is place_free) ∙ f.0 in cc;
  broken = λ link. (refl, inl (refl, refl));
  broken_later = λ link f. none_is 3 f.0;
  filled = λ link. (inl (omega arith), (refl, refl));
  filled_later = λ link f. not_filled f.0;
}
