-- The whole replay of the examples is one.
use Rattle.std.proofs.Common.{◌≡◌, ℕ, zero, suc, ◌<◌, ◌≤◌, inl, inr, true, false, List, [], ◌∷◌, refl, arith}
use Rattle.std.specs.Prelude.{Ok, Some, get_or, take, codes}
use Rattle.std.proofs.lemmas.Bool.{ne_eqb}
use Rattle.ui_board.specs.declared.ui.Kind.TheVariants.{Json, Silent}
use Rattle.ui_board.specs.Told.{Shown, untold}
use Rattle.ui_board.specs.Boards.{seat_at}
use Rattle.session_turns.specs.Histories.{own, answers}
use Rattle.session_turns.specs.Growth.{Whole, Over}
use Rattle.session_events.specs.declared.event.Event.TheVariants.{Join, Refresh, Leave}
use Rattle.session_events.specs.declared.event.Entry.{Entry}
use Rattle.session_events.specs.Entries.{entry_of}
use Rattle.session_events.specs.Meaning.{rules}
use Rattle.session_replay.specs.declared.ends.ReplayEnd.TheVariants.{Ended}
use Rattle.session_replay.specs.declared.places.ClientPlace.{ClientPlace}
use Rattle.session_replay.specs.declared.places.ClientPlace.TheVariants as place
use Rattle.session_replay.specs.Clients.{GotTo, LeftAt, ClientStands}
use Rattle.session_replay.specs.Replays.{Replay, replay_lines_of, ClientHasEnded, ReachesLines}
use Rattle.session_replay.specs.WholeExample.{lets_go, typed_lines, one_came, one_went_first, both_went, IsWholeReplay}

abbrev all-lines : List (List ℕ)
all-lines = codes "0 " ∷ codes "01 " ∷ [] ∷ codes "1 " ∷ []

abbrev boxes : List Shown
boxes = untold Json ∷ untold Silent ∷ []

abbrev replay : Replay
replay = record { with = lets_go; limit = 100; lines = all-lines; history = both_went; shown = boxes }

-- the first client is here behind its line, whatever the second one does
here-first : GotTo lets_go Whole 0 one_came ([] ∷ []) []
here-first = record {
  got = answers (rules lets_go.gives) 0 one_came;
  adds = record { more = one_came; grows = refl; answered = refl; events = refl };
  fits = record { events = refl; stays = refl; bytes = refl };
}

here-still : GotTo lets_go Whole 0 one_went_first ([] ∷ []) []
here-still = record {
  got = answers (rules lets_go.gives) 0 one_went_first;
  adds = record { more = one_went_first; grows = refl; answered = refl; events = refl };
  fits = record { events = refl; stays = refl; bytes = refl };
}

-- the second one has gone by its first line, and its second one is passed over
gone-second : (lines : List (List ℕ)) → LeftAt lets_go Over 1 one_went_first lines []
gone-second lines = record {
  got = answers (rules lets_go.gives) 1 one_went_first;
  answered = refl;
  events = refl;
  fits = record { leaves = refl; events = λ more. refl; bytes = λ more. refl };
}

-- a client stands somewhere behind some of the lines
abbrev Somewhere : List Entry → List (List ℕ) → ℕ → Type 0
Somewhere front lines who = (at : ClientPlace) × (told : List ℕ) × ClientStands lets_go at who front (replay_lines_of replay who lines) told

two : (P : ℕ → Type 0) → P 0 → P 1 → (who : ℕ) → who < 2 → P who
two P first second zero inside = first
two P first second (suc zero) inside = second
two P first second (suc (suc who)) inside = absurd (omega (arith, inside))

at-start : ReachesLines replay [] false
at-start = record {
  good = refl;
  front = [];
  rest = both_went;
  split = refl;
  clients = two (Somewhere [] []) (place.Away, [], (refl, refl, refl)) (place.Away, [], (refl, refl, refl));
  over_is = refl;
}

behind-first : ReachesLines replay (codes "0 " ∷ []) false
behind-first = record {
  good = refl;
  front = one_came;
  rest = entry_of 1 Join ∷ entry_of 1 (Refresh true) ∷ entry_of 1 Leave ∷ entry_of 0 Leave ∷ [];
  split = refl;
  clients = two (Somewhere one_came (codes "0 " ∷ [])) (place.Here, [], (refl, omega arith, here-first)) (place.Away, [], (refl, refl, refl));
  over_is = refl;
}

behind-second : ReachesLines replay (codes "0 " ∷ codes "01 " ∷ []) false
behind-second = record {
  good = refl;
  front = one_went_first;
  rest = entry_of 0 Leave ∷ [];
  split = refl;
  clients = two (Somewhere one_went_first (codes "0 " ∷ codes "01 " ∷ [])) (place.Here, [], (refl, omega arith, here-still)) (place.Gone, [], (omega arith, gone-second ([] ∷ [])));
  over_is = refl;
}

behind-blank : ReachesLines replay (codes "0 " ∷ codes "01 " ∷ [] ∷ []) false
behind-blank = record {
  good = refl;
  front = one_went_first;
  rest = entry_of 0 Leave ∷ [];
  split = refl;
  clients = two (Somewhere one_went_first (codes "0 " ∷ codes "01 " ∷ [] ∷ [])) (place.Here, [], (refl, omega arith, here-still)) (place.Gone, [], (omega arith, gone-second ([] ∷ [])));
  over_is = refl;
}

abbrev behind-all : ReachesLines replay all-lines false
behind-all = record {
  good = refl;
  front = one_went_first;
  rest = entry_of 0 Leave ∷ [];
  split = refl;
  clients = two (Somewhere one_went_first all-lines) (place.Here, [], (refl, omega arith, here-still)) (place.Gone, [], (omega arith, gone-second ([] ∷ [] ∷ [])));
  over_is = refl;
}

in-order : (i : ℕ) → i < 4 → ReachesLines replay (take i all-lines) false
in-order zero inside = at-start
in-order (suc zero) inside = behind-first
in-order (suc (suc zero)) inside = behind-second
in-order (suc (suc (suc zero))) inside = behind-blank
in-order (suc (suc (suc (suc i)))) inside = absurd (omega (arith, inside))

strange : (who : ℕ) → 2 ≤ who → own (rules lets_go.gives) who both_went ≡ []
strange who past = rw (ne_eqb 0 who (λ e. absurd (omega (arith, past, e))), ne_eqb 1 who (λ e. absurd (omega (arith, past, e)))) refl

pub whole-replay : IsWholeReplay
whole-replay = record {
  bytes = typed_lines;
  takes = refl;
  few = omega arith;
  lines = all-lines;
  shown = boxes;
  kinds_are = refl;
  ended = Ok Ended;
  boxes_are = two (λ who. seat_at who (Some (untold Json) ∷ Some (untold Silent) ∷ []) ≡ Some (get_or boxes who (untold Silent))) refl refl;
  replayed = record {
    first = inr (refl, ([], refl));
    order = in-order;
    strangers = strange;
    ends = ((record { reaches = behind-all; in_order = refl }, refl, refl), two (ClientHasEnded replay) (inr (refl, refl, refl)) (inl (refl, refl, refl)));
  };
  reports = inl (refl, refl, refl);
}
