-- What stands for the clients of a replay where something was lost, and what of a line was played where it stopped.
use Rattle.std.proofs.Common.{◌≡◌, ℕ, ◌<◌, ◌⊎◌, inl, inr, Bool, true, false, ◌||◌, List, [], ◌∷◌, ◌++◌, length, map, refl, sym, ap, ◌∙◌, subst}
use Rattle.std.specs.Prelude.{Ok, Err}
use Rattle.std.specs.declared.result.Result.{Result}
use Rattle.std.specs.List.{flat_map, list_any}
use Rattle.std.proofs.lemmas.List.Folds.{list_any-append}
use Rattle.key_names.specs.declared.key.Key.{Key}
use Rattle.drawings.specs.declared.refusal.Refusal.{Refusal}
use Rattle.requests.specs.declared.request.Request.{Request}
use Rattle.requests.specs.declared.request.Request.TheVariants.{Nothing, Keys, Resize, Scroll, Mouse, MenuSelect}
use Rattle.session_turns.specs.Histories.{Answer, own, events_of}
use Rattle.session_turns.specs.Turns.{Line, Idle, Phase, Opening, During, later, phases, turns_of, plays, played, due}
use Rattle.session_turns.specs.Growth.{GoesOn, How, Whole, Over, Short, Unsent, Lost, Fits}
use Rattle.session_turns.specs.Headline.{Lost as WasLost}
use Rattle.session_turns.proofs.HistoryLemmas.{adds-own_events}
use Rattle.session_turns.proofs.TurnLemmas.{over-more, short-more, lost-more}
use Rattle.session_events.specs.declared.event.Event.{Event}
use Rattle.session_events.specs.declared.event.Event.TheVariants.{Key as Struck, Refresh}
use Rattle.session_events.specs.declared.event.Entry.{Entry}
use Rattle.session_events.specs.Entries.{is_leave}
use Rattle.session_events.specs.Meaning.{rules}
use Rattle.session_lines.specs.Session.{protocol, played_by}
use Rattle.session_replay.specs.Settings.{Setting}
use Rattle.session_replay.specs.declared.places.ClientPlace.{ClientPlace}
use Rattle.session_replay.specs.declared.places.ClientPlace.TheVariants as place
use Rattle.session_replay.specs.Clients.{GotTo, LeftAt, ClientStands}
use Rattle.session_replay.specs.Replays.{StandsAt}
use Rattle.session_replay.specs.Partings.{StandsLast}
use Rattle.session_replay.proofs.ClientLemmas.{phases-append}
use Rattle.session_replay.proofs.EndingLemmas.{got-lost, whole-is-lost, over-is-lost, short-is-lost, left-is-lost, closed-is-lost, refused-is-lost}
use Rattle.session_replay.proofs.PartingLemmas.{stands-at, never-came}
use Rattle.session_replay.specs.Phases.{IsEnding}

-- a way of getting on behind which lines are free
abbrev pub IsStopped : How → Type 0
IsStopped Whole = ⊥
IsStopped Unsent = ⊥
IsStopped _ = Unit {0}

-- a way of getting on that a box allows, which no write fails
abbrev pub IsKnown : How → Type 0
IsKnown Unsent = ⊥
IsKnown _ = Unit {0}

-- lines behind one in which playing stopped are free
more-fits : (g : Setting) (how : How) (lines more : List (List ℕ)) (got : List (Answer Event)) (told : List ℕ) → IsStopped how → Fits (protocol g.reads []) how (phases (turns_of lines)) got told → Fits (protocol g.reads []) how (phases (turns_of lines) ++ later (turns_of more)) got told
more-fits g Over lines more got told stopped f = over-more (protocol g.reads []) (phases (turns_of lines)) (later (turns_of more)) got told f
more-fits g Short lines more got told stopped f = short-more (protocol g.reads []) (phases (turns_of lines)) (later (turns_of more)) got told f
more-fits g Lost lines more got told stopped f = lost-more (protocol g.reads []) (phases (turns_of lines)) (later (turns_of more)) got told f
more-fits g Whole lines more got told stopped f = absurd stopped
more-fits g Unsent lines more got told stopped f = absurd stopped

pub got-lines : (g : Setting) (how : How) (k : ℕ) (h : List Entry) (lines more : List (List ℕ)) (told : List ℕ) → IsStopped how → GotTo g how k h lines told → GotTo g how k h (lines ++ more) told
got-lines g how k h lines more told stopped s = record {
  got = s.got;
  adds = s.adds;
  fits = subst (λ all. Fits (protocol g.reads []) how all s.got told) (sym (phases-append lines more)) (more-fits g how lines more s.got told stopped s.fits);
}

-- however far a client with a line got, a beginning of what is due stands
pub got-at-lost : (g : Setting) (how : How) (k : ℕ) (h : List Entry) (lines : List (List ℕ)) (told : List ℕ) → IsKnown how → 0 < length lines → GotTo g how k h lines told → StandsAt WasLost g k h lines told
got-at-lost g Whole k h lines told known some s = stands-at WasLost g k h lines told some (whole-is-lost g k h lines told s)
got-at-lost g Over k h lines told known some s = stands-at WasLost g k h lines told some (over-is-lost g k h lines told s)
got-at-lost g Short k h lines told known some s = stands-at WasLost g k h lines told some (short-is-lost g k h lines told s)
got-at-lost g Lost k h lines told known some s = stands-at WasLost g k h lines told some (got-lost g k h lines told s)
got-at-lost g Unsent k h lines told known some s = absurd known

pub left-at-lost : (g : Setting) (how : How) (k : ℕ) (h : List Entry) (lines : List (List ℕ)) (told : List ℕ) → IsEnding how → 0 < length lines → LeftAt g how k h lines told → StandsAt WasLost g k h lines told
left-at-lost g Whole k h lines told ending some l = stands-at WasLost g k h lines told some (closed-is-lost g k h lines told l)
left-at-lost g Over k h lines told ending some l = stands-at WasLost g k h lines told some (left-is-lost g k h lines told l)
left-at-lost g Short k h lines told ending some l = stands-at WasLost g k h lines told some (refused-is-lost g k h lines told l)
left-at-lost g Unsent k h lines told ending some l = absurd ending
left-at-lost g Lost k h lines told ending some l = absurd ending

-- so it is for a client of a moment
pub stands-lost : (g : Setting) (p : ClientPlace) (k : ℕ) (h : List Entry) (lines : List (List ℕ)) (told : List ℕ) → ClientStands g p k h lines told → StandsAt WasLost g k h lines told
stands-lost g place.Away k h lines told s = never-came WasLost g k h lines told s.0 s.2 s.1
stands-lost g place.Here k h lines told s = got-at-lost g Whole k h lines told tt s.1 s.2
stands-lost g place.Gone k h lines told s = left-at-lost g Over k h lines told tt s.0 s.1

-- and for one that leaves at the end, or has left
pub ending-known : (how : How) → IsEnding how → IsKnown how
ending-known Whole e = tt
ending-known Over e = tt
ending-known Short e = tt
ending-known Unsent e = absurd e
ending-known Lost e = absurd e

pub last-lost : (g : Setting) (how : How) (p : ClientPlace) (k : ℕ) (h : List Entry) (lines : List (List ℕ)) (told : List ℕ) → IsEnding how → StandsLast g how p k h lines told → StandsAt WasLost g k h lines told
last-lost g how place.Away k h lines told ending s = by lines s.2
  where
    by : (ls : List (List ℕ)) → (ls ≡ []) ⊎ ((how ≡ Short) × GotTo g Short k h ls told) → StandsAt WasLost g k h ls told
    by ls (inl e) = never-came WasLost g k h ls told s.0 s.1 e
    by [] (inr got) = (s.0, s.1)
    by (line ∷ ls) (inr got) = short-is-lost g k h (line ∷ ls) told got.1
last-lost g how place.Here k h lines told ending s = got-at-lost g how k h lines told (ending-known how ending) s.1 s.2
last-lost g how place.Gone k h lines told ending s = left-at-lost g how k h lines told ending s.0 s.1

-- nothing that is due to a client is its leaving, which comes behind all that
keys-no_leave : (keys : List Key) → list_any is_leave (map (λ key. Struck key) keys ++ Refresh true ∷ []) ≡ false
keys-no_leave [] = refl
keys-no_leave (key ∷ keys) = keys-no_leave keys

asked-no_leave : (r : Result Request Refusal) → list_any is_leave (played_by r) ≡ false
asked-no_leave (Ok Nothing) = refl
asked-no_leave (Ok (Keys keys)) = keys-no_leave keys
asked-no_leave (Ok (Resize size)) = refl
asked-no_leave (Ok (Scroll lines place)) = refl
asked-no_leave (Ok (Mouse mouse)) = refl
asked-no_leave (Ok MenuSelect) = refl
asked-no_leave (Err refusal) = refl

phase-no_leave : (g : Setting) (phase : Phase) → list_any is_leave (plays (protocol g.reads []) phase) ≡ false
phase-no_leave g Opening = refl
phase-no_leave g (During (Line bytes)) = asked-no_leave (g.reads bytes)
phase-no_leave g (During Idle) = refl

both-none : (x y : Bool) → x ≡ false → y ≡ false → (x || y) ≡ false
both-none x y d e = rw (d, e) refl

front-none : (x y : Bool) → (x || y) ≡ false → x ≡ false
front-none true y e = e
front-none false y e = refl

phases-no_leave : (g : Setting) (all : List Phase) → list_any is_leave (flat_map (plays (protocol g.reads [])) all) ≡ false
phases-no_leave g [] = refl
phases-no_leave g (phase ∷ all) =
    list_any-append is_leave (plays (protocol g.reads []) phase) (flat_map (plays (protocol g.reads [])) all)
    ∙ both-none (list_any is_leave (plays (protocol g.reads []) phase)) (list_any is_leave (flat_map (plays (protocol g.reads [])) all)) (phase-no_leave g phase) (phases-no_leave g all)

-- a client of which an event was refused hasn't left
pub short-no_leave : (g : Setting) (k : ℕ) (h : List Entry) (lines : List (List ℕ)) (told : List ℕ) → GotTo g Short k h lines told → list_any is_leave (own (rules g.gives) k h) ≡ false
short-no_leave g k h lines told s =
    ap (list_any is_leave) (adds-own_events (rules g.gives) k h s.got s.adds) ∙ by (s.fits.events [])
  where
    by : GoesOn (due (protocol g.reads []) (phases (turns_of lines) ++ []) s.got) (events_of s.got) → list_any is_leave (events_of s.got) ≡ false
    by goes =
        front-none (list_any is_leave (events_of s.got)) (list_any is_leave (goes.0 ∷ goes.1))
        (sym (list_any-append is_leave (events_of s.got) (goes.0 ∷ goes.1)) ∙ ap (list_any is_leave) (sym goes.2) ∙ phases-no_leave g (played (protocol g.reads []) (phases (turns_of lines) ++ []) s.got))
